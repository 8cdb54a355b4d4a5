use Rattle.std.proofs.Common.{◌≡◌, map}
use Rattle.folders.specs.Damage.{AllTell, WritesTexts}
use Rattle.folders.specs.Reading.{OneCannotBeRead}
use Rattle.folders.proofs.Checking.{Checked}
use Rattle.folders.proofs.check.check_disks.Given as goal

abbrev pub invariant-loop-disk : goal.invariant-loop-disk
invariant-loop-disk g l =
    record {
      checked : Checked g.D.Disk.device g.D.Disk.state g.D.Disk.gives l.slots l.found l.initial.disks l.disks l.disk l.first;
      kept : AllTell g.D.Disk.device l.initial.disks → map g.D.Disk.state l.disks ≡ map g.D.Disk.state l.initial.disks;
      written : AllTell g.D.Disk.device l.initial.disks → WritesTexts g.D.Disk.state l.slots l.found l.initial.disks (OneCannotBeRead g.D.Disk.gives l.slots l.initial.disks l.disks) l.disk (g.O.Write.contents l.initial.out) (g.O.Write.contents l.out);
    }
