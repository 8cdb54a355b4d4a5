-- A folder of images of a log without an end as C found it, and the host that is opened over it.
use Rattle.std.specs.Prelude.{◌≡◌, ◌≢◌, ◌==◌, ◌<◌, ℕ, Bool, List, [], min, slice_get, slice_index, Some, None, Result, Ok, Err, if◌then◌else◌}
use Rattle.disk.specs.declared.fault.ImageFault.{ImageFault}
use Rattle.disk.specs.declared.fault.ImageFault.TheVariants.{Unreadable}
use Rattle.paxos_block.specs.Headers.{short_at}
use Rattle.paxos_block.specs.Shape.{Shape}
use Rattle.lock_command.specs.declared.number.TheConstants.{HOSTS}
use Rattle.endless_image.specs.Kinds.{IsRightBy}
use Rattle.endless_image.specs.Sizes.{size_of}
use Rattle.endless_image.specs.declared.any_header.AnyHeader.{AnyHeader}
use Rattle.endless_image.specs.declared.header.TheConstants.{ENDLESS_VERSION}
use Rattle.endless_image.specs.declared.kind.Kind.{Kind}
use Rattle.endless_image.specs.declared.kind.Kind.TheVariants.{Ending, Endless}
use Rattle.folders.specs.Headers.{told_length}
use Rattle.folders.specs.declared.set.SetFault.{SetFault}
use Rattle.log_folders.specs.AnyHeaders.{IsAnyHeader, IsUnusedBy, disk_in}
use Rattle.log_folders.specs.AnySets.{AnyFound, AreAnyImages, AreFirsts, HasAnyNumbers, HasAnySetFault}
use Rattle.epoch_host.specs.Leading.{LeadsTo}
use Rattle.c_host.specs.declared.fault.Fault.{Fault}
use Rattle.c_host.specs.declared.fault.Fault.TheVariants as cause
use Rattle.c_host.specs.declared.images.Image.{Image}
use Rattle.c_host.specs.declared.images.Images.{Images}
use Rattle.c_host.specs.declared.images.Opened.{Opened}
use Rattle.c_epochs.specs.declared.images.TheConstants.{VERSION_AT}
use Rattle.c_epochs.specs.declared.open_epochs.OpenEpochs.{OpenEpochs}

-- ONE IMAGE

-- where the number of slots is in the header of an image of a log without an end
abbrev pub slots_at : ℕ
slots_at = 4

-- how long an image is by its first bytes: of a log without an end, or in the layout whose number stands in them
abbrev pub length_told : List ℕ → ℕ
length_told bytes = if slice_index bytes VERSION_AT == ENDLESS_VERSION then size_of (short_at slots_at bytes) else told_length bytes

-- how long it is as an image: of a device, what its first bytes say, as far as there is room
abbrev pub long_of : Image → ℕ
long_of image = if image.is_device == 1 then min (length_told image.bytes) image.size else image.size

-- it was read, and as those of the image of this number its first bytes are used: they say this header, of either kind of log
abbrev pub IsRead : ℕ → Image → AnyHeader → Type 0
IsRead disk image header = (image.is_read ≡ 1) × IsRightBy disk (long_of image) image.bytes header

-- what is wrong with an image: it was not read; or it was, and its first bytes have this fault
abbrev pub HasFault : ℕ → Image → ImageFault → Type 0
HasFault disk image Unreadable = image.is_read ≢ 1
HasFault disk image fault = (image.is_read ≡ 1) × IsUnusedBy disk (long_of image) image.bytes fault

-- what is found of an image: what it says; or, where it says no header that is used, what is wrong with it
abbrev pub Finds : ℕ → Image → Result AnyHeader ImageFault → Type 0
Finds disk image (Ok header) = IsRead disk image header
Finds disk image (Err fault) = HasFault disk image fault × ((header : AnyHeader) → IsRead disk image header → ⊥)

-- a header that is found may be used, and is that of the image's own number
abbrev pub IsOwn : ℕ → Result AnyHeader ImageFault → Type 0
IsOwn disk (Ok header) = IsAnyHeader header × (disk_in header ≡ disk)
IsOwn disk (Err fault) = Unit {0}

-- ALL OF THEM

-- The same of all images.
abbrev pub AreFound : List Image → AnyFound → Type 0
AreFound images found =
    (k : ℕ) (image : Image) (said : Result AnyHeader ImageFault) → slice_get images k ≡ Some image → slice_get found k ≡ Some said → Finds k image said

-- The images are a set of this kind of log, with these numbers.
pub record AreSet (images : Images) (found : AnyFound) (kind : Kind) (config : Shape) (cluster : ℕ) : Type 0 where
  pub all : AreAnyImages found
  pub are : AreFound images.all found
  pub numbers : HasAnyNumbers found kind config cluster

-- what C is told of an image of which this was found
abbrev pub used_of : Result AnyHeader ImageFault → ℕ
used_of (Ok header) = 1
used_of (Err fault) = 0

-- C is told how many disks there are, and which images are used.
pub record TellsImages (found : AnyFound) (config : Shape) (told : Opened) : Type 0 where
  pub disks : told.disks ≡ config.disks
  pub used : (k : ℕ) (said : Result AnyHeader ImageFault) (flag : ℕ) → slice_get found k ≡ Some said → slice_get told.used k ≡ Some flag → flag ≡ used_of said

-- WHAT IS OPENED

-- The host has this number, did nothing yet, has no task, and only looks if it is opened for that. The folder has the numbers of the set that was found, and its disks the first epochs; C is told of its images.
pub record IsOpened (images : Images) (number : ℕ) (only_looks : Bool) (host : OpenEpochs) (told : Opened) : Type 0 where
  pub found : AnyFound
  pub set : AreSet images found Endless host.config host.cluster
  pub firsts : AreFirsts found host.firsts
  pub tells : TellsImages found host.config told
  pub fresh : LeadsTo host.config number [] host.host
  pub idle : host.host.task ≡ None
  pub looks : host.host.only_looks ≡ only_looks

-- The images are a set of a log that ends.
pub record IsOfEndingLog (images : Images) : Type 0 where
  pub found : AnyFound
  pub config : Shape
  pub cluster : ℕ
  pub set : AreSet images found Ending config cluster

-- The images are no set, and this is told of one of them.
pub record IsNoSet (images : Images) (why : SetFault) : Type 0 where
  pub found : AnyFound
  pub all : AreAnyImages found
  pub are : AreFound images.all found
  pub fault : HasAnySetFault found why

-- why no host is opened over these images under this number: the first cause that there is
abbrev pub MayRefuse : Images → ℕ → Fault → Type 0
MayRefuse images number cause.BadArgument = number < HOSTS → ⊥
MayRefuse images number (cause.Images why) = (number < HOSTS) × IsNoSet images why
MayRefuse images number other = ⊥
