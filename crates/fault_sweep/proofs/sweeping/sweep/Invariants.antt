use Rattle.std.specs.Prelude.{IfSome}
use Rattle.std.proofs.Common.{◌≡◌}
use Rattle.fault_sweep.proofs.Counting.{HasSwept}
use Rattle.fault_sweep.proofs.sweeping.sweep.Given as goal

abbrev pub invariant-loop-place : goal.invariant-loop-place
invariant-loop-place l =
    record {
      swept : HasSwept (record { shape = l.script.config; moved = l.script.log.items }) l.events.items l.place l.cluster l.sweep;
      kept : IfSome l.kept (λ replay. replay.cluster.shape ≡ l.script.config);
    }
