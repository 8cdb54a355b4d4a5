use Rattle.folders.proofs.Damage.{Looked}
use Rattle.folders.proofs.Reading.{LeadsOn}
use Rattle.folders.proofs.check.print_rows.Given as goal

abbrev pub invariant-loop-slot : goal.invariant-loop-slot
invariant-loop-slot g l =
    record {
      looked : Looked (g.D.Disk.device l.initial.device) (g.D.Disk.device l.device) (g.O.Write.contents l.initial.out) (g.O.Write.contents l.out) l.disk l.slot l.initial.any l.any (g.D.Disk.state l.initial.device) (g.D.Disk.state l.device);
      reads : LeadsOn g.D.Disk.gives l.boot.number l.slot l.slots l.initial.device l.device;
    }
