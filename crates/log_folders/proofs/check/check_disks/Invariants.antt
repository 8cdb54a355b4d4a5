use Rattle.std.proofs.Common.{◌≡◌, map}
use Rattle.folders.specs.Damage.{AllTell}
use Rattle.log_folders.proofs.CheckedImages.{Checked}
use Rattle.log_folders.proofs.check.check_disks.Given as goal

abbrev pub invariant-loop-disk : goal.invariant-loop-disk
invariant-loop-disk g l =
    record {
      checked : Checked g.D.Disk.device g.D.Disk.state g.D.Disk.gives l.slots l.found l.initial.disks l.disks l.disk l.first;
      kept : AllTell g.D.Disk.device l.initial.disks → map g.D.Disk.state l.disks ≡ map g.D.Disk.state l.initial.disks;
    }
