use Rattle.at_once.proofs.Deeds.{looks, marks, operates, starts}
use Rattle.at_once.proofs.law.operations_are_deeds.Goals as goal

pub returns : goal.returns
returns g c = record {
  starts = starts;
  operates = operates g.D.Disk.gives;
  marks = marks g.D.Disk.gives;
  looks = looks g.D.Disk.gives;
}
