-- What C is told where a host is opened in a handle.
use Rattle.std.specs.Prelude.{◌≡◌, ◌⊎◌, ℕ, ℤ, Option, Some, None}
use Rattle.c_host.specs.declared.fault.Fault.{Fault}
use Rattle.c_host.specs.declared.images.Images.{Images}
use Rattle.c_host.specs.declared.images.Opened.{Opened}
use Rattle.c_host.specs.declared.open_host.OpenHost.{OpenHost}
use Rattle.c_host.specs.Images.{IsOpened, MayRefuse}
use Rattle.c_host.specs.Numbers.{done, no_disk, fault_number, disk_number}

-- A host is kept where none was.
abbrev pub IsOpenedIn : Images → ℕ → Option OpenHost → Opened → Type 0
IsOpenedIn images number None told = ⊥
IsOpenedIn images number (Some new) told = IsOpened images number new told

-- Nothing is changed, and C is told why, and of which image.
pub record IsNotOpened (images : Images) (number : ℕ) (old new : Option OpenHost) (before after : Opened) (status disk : ℤ) : Type 0 where
  pub fault : Fault
  pub may : MayRefuse images number old fault
  pub same : new ≡ old
  pub untold : after ≡ before
  pub told : status ≡ fault_number fault
  pub image : disk ≡ disk_number fault

abbrev pub OpensIn : Images → ℕ → (old new : Option OpenHost) → (before after : Opened) → (status disk : ℤ) → Type 0
OpensIn images number old new before after status disk =
    ((status ≡ done) × (disk ≡ no_disk) × (old ≡ None) × IsOpenedIn images number new after)
    ⊎ IsNotOpened images number old new before after status disk
