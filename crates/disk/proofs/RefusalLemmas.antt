-- When nothing stands in the way of a call.
use Rattle.std.proofs.Common.{◌≡◌, ℕ, false, None, arith}
use Rattle.std.proofs.lemmas.Grind.{common_steps}
use Rattle.disk.specs.Disk.{DiskState}
use Rattle.disk.specs.Simulated.{refusal_under}

-- the disk is there, and the boot number is its own
pub admitted : (disk : DiskState) (boot : ℕ) → None ≡ refusal_under disk boot → (disk.gone ≡ false) × (boot ≡ disk.boot)
admitted disk boot none = grind (arith, common_steps)
