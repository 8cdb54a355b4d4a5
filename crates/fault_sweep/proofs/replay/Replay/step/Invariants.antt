use Rattle.std.specs.Prelude.{replicate, is_some}
use Rattle.std.specs.Option.{option_map}
use Rattle.std.proofs.Common.{◌≡◌, ◌≤◌, ◌+◌, ◌-◌}
use Rattle.world.specs.Happens.{Step}
use Rattle.simulator.specs.Past.{Past}
use Rattle.fault_sweep.specs.Replayed.{later, IsOf, GoesOn, Heard, HasKept}
use Rattle.fault_sweep.proofs.replay.Replay.step.Given as goal

abbrev pub invariant-loop-done : goal.invariant-loop-done
invariant-loop-done l = record {
  within : l.done ≤ l.fn.steps;
  counted : l.self.place ≡ l.initial.self.place + l.done;
  happened : GoesOn l.initial.self l.self (replicate l.done (Step l.fn.host));
  heard : (start p : Past) → IsOf p l.initial.self → Heard start p (is_some l.initial.learned)
      → Heard start (later p (replicate l.done (Step l.fn.host))) (is_some l.learned);
  kept : (start p : Past) → IsOf p l.initial.self → HasKept start p (option_map (λ commands. commands.items) l.initial.learned)
      → HasKept start (later p (replicate l.done (Step l.fn.host))) (option_map (λ commands. commands.items) l.learned);
}

abbrev pub decreases-loop-done : goal.decreases-loop-done
decreases-loop-done l = l.fn.steps - l.done
