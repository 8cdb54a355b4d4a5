use Rattle.c_epochs.proofs.Ended.{ends_told}
use Rattle.c_epochs.proofs.law.ends_are_told.Goals as goal

pub returns : goal.returns
returns g c = ends_told g.D.Disk.gives
