use Rattle.c_epochs.proofs.Deeds.{calls_work}
use Rattle.c_epochs.proofs.law.calls_make_tasks.Goals as goal

pub returns : goal.returns
returns g c = calls_work g.D.Disk.gives
