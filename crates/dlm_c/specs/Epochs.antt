-- What C is told where a host over all epochs is opened in a handle, and where it asks to be shown something of its table.
use Rattle.std.specs.Prelude.{◌≡◌, ◌⊎◌, ℕ, ℤ, negsuc, Bool, Option, Some, None}
use Rattle.c_host.specs.declared.fault.Fault.{Fault}
use Rattle.c_host.specs.declared.fault.Fault.TheVariants.{NoMemory, Open}
use Rattle.c_host.specs.declared.images.Images.{Images}
use Rattle.c_host.specs.declared.images.Opened.{Opened}
use Rattle.c_host.specs.Numbers.{done, no_disk, fault_number, disk_number}
use Rattle.c_epochs.specs.declared.open_epochs.OpenEpochs.{OpenEpochs}
use Rattle.c_epochs.specs.declared.fault.ShowFault.{ShowFault}
use Rattle.c_epochs.specs.Images.{IsOfEndingLog, IsOpened, MayRefuse}
use Rattle.c_epochs.specs.Numbers.{show_number}

-- the log of the images ends
abbrev pub ends : ℤ
ends = negsuc 10

-- A host is kept where none was.
abbrev pub IsOpenedIn : Images → ℕ → (only_looks : Bool) → Option OpenEpochs → Opened → Type 0
IsOpenedIn images number only_looks None told = ⊥
IsOpenedIn images number only_looks (Some new) told = IsOpened images number only_looks new told

-- why no host is opened over these images under this number, in a handle that keeps this
abbrev pub MayRefuseIn : Images → ℕ → Option OpenEpochs → Fault → Type 0
MayRefuseIn images number old Open = old ≡ None → ⊥
MayRefuseIn images number old NoMemory = Unit {0}
MayRefuseIn images number old fault = MayRefuse images number fault

-- Nothing is changed, and C is told why, and of which image.
pub record IsNotOpened (images : Images) (number : ℕ) (old new : Option OpenEpochs) (before after : Opened) (status disk : ℤ) : Type 0 where
  pub fault : Fault
  pub may : MayRefuseIn images number old fault
  pub same : new ≡ old
  pub untold : after ≡ before
  pub told : status ≡ fault_number fault
  pub image : disk ≡ disk_number fault

-- Nothing is changed, since the log ends.
pub record IsOfAnEndingLog (images : Images) (old new : Option OpenEpochs) (before after : Opened) (status disk : ℤ) : Type 0 where
  pub ending : IsOfEndingLog images
  pub same : new ≡ old
  pub untold : after ≡ before
  pub told : status ≡ ends
  pub image : disk ≡ no_disk

abbrev pub OpensIn : Images → ℕ → (only_looks : Bool) → (old new : Option OpenEpochs) → (before after : Opened) → (status disk : ℤ) → Type 0
OpensIn images number only_looks old new before after status disk =
    ((status ≡ done) × (disk ≡ no_disk) × (old ≡ None) × IsOpenedIn images number only_looks new after)
    ⊎ IsOfAnEndingLog images old new before after status disk
    ⊎ IsNotOpened images number old new before after status disk

-- Nothing is shown, and why is told.
pub record TellsWhyNot (May : ShowFault → Type 0) (status : ℤ) : Type 0 where
  pub fault : ShowFault
  pub may : May fault
  pub told : status ≡ show_number fault

-- This is shown; or nothing is, and what C gave is as it was.
abbrev pub ShowsOr : (IsShown : Type 0) → (ShowFault → Type 0) → (IsNothing : Type 0) → ℤ → Type 0
ShowsOr IsShown May IsNothing status = ((status ≡ done) × IsShown) ⊎ (TellsWhyNot May status × IsNothing)
