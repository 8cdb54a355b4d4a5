use Rattle.std.proofs.Common.{refl}
use Rattle.disk.specs.Simulated.{fresh_disk}
use Rattle.disk.proofs.simulated.SimDisk.new.Goals as goal

pub returns-clause-fresh : goal.returns-clause-fresh
unfolding fresh_disk
returns-clause-fresh c = rw c.in_ok-new.ensures refl
