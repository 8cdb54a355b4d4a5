-- What a step of a check leaves: the disk, what was printed, and whether damage is told.
use Rattle.std.specs.Prelude.{◌≡◌, ◌⊎◌, ℕ, Bool, IsTrue, List, Option}
use Rattle.disk.specs.Disk.{Device, DiskState}
use Rattle.log_folders.specs.Areas.{Writes}

-- However it ended: the device is the one that it was. If that tells its bytes, they stay, and damage is told only where it was told before, or is there.
pub record Keeps (old new : Device) (before after : DiskState) (first any : Bool) (IsDamaged : List ℕ → Type 0) : Type 0 where
  pub device : new ≡ old
  pub unchanged : IsTrue old.tells → after ≡ before
  pub cause : IsTrue old.tells → IsTrue any → IsTrue first ⊎ IsDamaged before.bytes

-- If it came to its end: such a text of the bytes was written, and damage is told where it was told before, or is there.
pub record Prints (old : Device) (before : DiskState) (out new : Option (List ℕ)) (first any : Bool) (IsText : List ℕ → List ℕ → Type 0) (IsDamaged : List ℕ → Type 0) : Type 0 where
  pub text : IsTrue old.tells → Writes (IsText before.bytes) out new
  pub found : IsTrue old.tells → IsTrue first ⊎ IsDamaged before.bytes → IsTrue any
