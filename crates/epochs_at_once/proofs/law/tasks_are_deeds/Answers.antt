use Rattle.epochs_at_once.proofs.Tasks.{starts, works, stops_midway, stops_last}
use Rattle.epochs_at_once.proofs.law.tasks_are_deeds.Goals as goal

pub returns : goal.returns
returns g c = record { starts = starts; works = works g.D.Disk.gives; stops = stops_midway; stops_last = stops_last }
