use Rattle.std.proofs.Common.{◌≡◌}
use Rattle.log_folders.specs.Areas.{IsHitBelow, slots_text}
use Rattle.log_folders.specs.Steps.{Keeps, Prints}
use Rattle.log_folders.proofs.ReadCalls.{LeadsOn}
use Rattle.log_folders.proofs.print_area.print_slots.Given as goal

abbrev pub invariant-loop-slot : goal.invariant-loop-slot
invariant-loop-slot g l =
    record {
      keeps : Keeps (g.D.Disk.device l.initial.device) (g.D.Disk.device l.device) (g.D.Disk.state l.initial.device) (g.D.Disk.state l.device) l.initial.any l.any (IsHitBelow l.area.slots l.area.area l.shown l.slot);
      prints : Prints (g.D.Disk.device l.initial.device) (g.D.Disk.state l.initial.device) (g.O.Write.contents l.initial.out) (g.O.Write.contents l.out) l.initial.any l.any (λ bytes text. text ≡ slots_text l.area l.shown l.slot bytes) (IsHitBelow l.area.slots l.area.area l.shown l.slot);
      reads : LeadsOn g.D.Disk.gives l.boot.number l.area.slots l.area.area l.slot l.initial.device l.device;
    }
