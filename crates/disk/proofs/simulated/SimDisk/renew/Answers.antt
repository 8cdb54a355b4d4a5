use Rattle.std.proofs.Common.{refl}
use Rattle.disk.specs.Simulated.{fresh_disk}
use Rattle.disk.proofs.simulated.SimDisk.renew.Goals as goal

pub returns : goal.returns
unfolding fresh_disk
returns c = record { fresh = rw (c.clear.ensures, ← c.self.view_is) refl }
