-- A folder as C found it, and the host that is opened over it.
use Rattle.std.specs.Prelude.{◌≡◌, ◌≢◌, ◌≤◌, ◌<◌, ◌==◌, ◌⊎◌, ◌↔◌, ℕ, List, min, length, slice_get, Option, Some, None, Result, Ok, Err, if◌then◌else◌}
use Rattle.torn_block.specs.Layout.{cluster_version}
use Rattle.torn_block.specs.declared.layout.TheConstants.{DISKS, HEADER_LENGTH}
use Rattle.disk.specs.declared.fault.ImageFault.{ImageFault}
use Rattle.disk.specs.declared.fault.ImageFault.TheVariants.{NotFormatted, WrongHeader, Unreadable, OldLayout}
use Rattle.paxos_block.specs.declared.header.Header.{Header}
use Rattle.paxos_block.specs.Headers.{IsFormatted, IsRight}
use Rattle.paxos_block.specs.Shape.{Shape}
use Rattle.host.specs.Host.{fresh}
use Rattle.host.specs.Kept.{LeadsTo}
use Rattle.lock_command.specs.declared.number.TheConstants.{HOSTS}
use Rattle.folders.specs.declared.set.SetFault.{SetFault}
use Rattle.folders.specs.Headers.{IsOld, HasWrongHeader, told_length}
use Rattle.folders.specs.Sets.{Found, HasNumbers}
use Rattle.folders.specs.SetFaults.{HasSetFault}
use Rattle.c_host.specs.declared.fault.Fault.{Fault}
use Rattle.c_host.specs.declared.fault.Fault.TheVariants as cause
use Rattle.c_host.specs.declared.images.Image.{Image}
use Rattle.c_host.specs.declared.images.Images.{Images}
use Rattle.c_host.specs.declared.images.Opened.{Opened}
use Rattle.c_host.specs.declared.open_host.OpenHost.{OpenHost}

-- how long it is as an image: of a device, what its first bytes say, as far as there is room
abbrev pub long_of : Image → ℕ
long_of image = if image.is_device == 1 then min (told_length image.bytes) image.size else image.size

-- it was read, and as those of the image of this number its first bytes are right: they say this header
abbrev pub IsRead : ℕ → Image → Header → Type 0
IsRead disk image header = (image.is_read ≡ 1) × IsRight cluster_version disk (long_of image) image.bytes header

-- it was read, and is right by the layout that images had before
abbrev pub IsReadAsOld : ℕ → Image → Type 0
IsReadAsOld disk image = (image.is_read ≡ 1) × IsOld cluster_version disk (long_of image) image.bytes

-- what is wrong with an image: its gate is not open; it is too short for a header, or its header is right by neither layout; it was not read;
-- or it has the layout that images had before
abbrev pub HasFault : ℕ → Image → ImageFault → Type 0
HasFault disk image NotFormatted = (image.is_read ≡ 1) × (HEADER_LENGTH ≤ long_of image) × ¬ IsFormatted image.bytes
HasFault disk image WrongHeader = (image.is_read ≡ 1) × ((long_of image < HEADER_LENGTH) ⊎ HasWrongHeader cluster_version disk (long_of image) image.bytes)
HasFault disk image Unreadable = image.is_read ≢ 1
HasFault disk image OldLayout = IsReadAsOld disk image

-- what is found of an image: what it says; or, where it says no right header, the one thing that is wrong with it
abbrev pub Finds : ℕ → Image → Result Header ImageFault → Type 0
Finds disk image (Ok header) = IsRead disk image header
Finds disk image (Err fault) = ((header : Header) → IsRead disk image header → ⊥) × ((other : ImageFault) → HasFault disk image other ↔ (other ≡ fault))

-- The same of all images.
abbrev pub AreFound : List Image → Found → Type 0
AreFound images found = (k : ℕ) (image : Image) (said : Result Header ImageFault) → slice_get images k ≡ Some image → slice_get found k ≡ Some said → Finds k image said

-- what C is told of an image of which this was found
abbrev pub used_of : Result Header ImageFault → ℕ
used_of (Ok header) = 1
used_of (Err fault) = 0

-- C is told how many disks there are, and which images are used.
pub record TellsImages (found : Found) (config : Shape) (told : Opened) : Type 0 where
  pub disks : told.disks ≡ config.disks
  pub used : (k : ℕ) (said : Result Header ImageFault) (flag : ℕ) → slice_get found k ≡ Some said → slice_get told.used k ≡ Some flag → flag ≡ used_of said

-- This was found of the images, and they are a set with these numbers.
pub record AreSet (images : Images) (found : Found) (config : Shape) (cluster : ℕ) : Type 0 where
  pub all : length found ≡ DISKS
  pub are : AreFound images.all found
  pub numbers : HasNumbers found config cluster

-- The host has this number and has learned nothing, and the folder the numbers of the set that was found; C is told of its images.
pub record IsOpened (images : Images) (number : ℕ) (host : OpenHost) (told : Opened) : Type 0 where
  pub found : Found
  pub set : AreSet images found host.config host.cluster
  pub tells : TellsImages found host.config told
  pub leads : LeadsTo host.config number fresh host.core

-- The images are a set.
pub record IsSet (images : Images) : Type 0 where
  pub found : Found
  pub config : Shape
  pub cluster : ℕ
  pub set : AreSet images found config cluster

-- The images are no set, and this is told of one of them.
pub record IsNoSet (images : Images) (why : SetFault) : Type 0 where
  pub found : Found
  pub all : length found ≡ DISKS
  pub are : AreFound images.all found
  pub fault : HasSetFault found why

-- why no host is opened over these images under this number, in a handle that keeps this: the first cause that there is
abbrev pub MayRefuse : Images → ℕ → Option OpenHost → Fault → Type 0
MayRefuse images number old cause.Open = old ≡ None → ⊥
MayRefuse images number old cause.BadArgument = (old ≡ None) × (number < HOSTS → ⊥)
MayRefuse images number old (cause.Images why) = (old ≡ None) × (number < HOSTS) × IsNoSet images why
MayRefuse images number old cause.NoMemory = (old ≡ None) × (number < HOSTS) × IsSet images
MayRefuse images number old cause.Closed = ⊥
MayRefuse images number old cause.NoSuchLock = ⊥
