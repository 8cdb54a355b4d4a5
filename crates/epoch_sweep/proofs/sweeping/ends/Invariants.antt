use Rattle.std.specs.Prelude.{All}
use Rattle.std.proofs.Common.{◌≡◌, ◌≤◌, ◌*◌, length}
use Rattle.epoch_sweep.specs.declared.tally.End.{End}
use Rattle.epoch_sweep.proofs.Running.{SoFar}
use Rattle.epoch_sweep.proofs.sweeping.ends.Given as goal

-- the variants of the events before this one ended, and are listed
abbrev pub invariant-loop-place : goal.invariant-loop-place
invariant-loop-place l = record {
  few : length l.ends.items ≤ 7 * l.place;
  each : All (λ (end : End). end.recovered ≤ 2) l.ends.items;
  so_far : SoFar l.config l.events l.place l.initial.cluster l.cluster l.ends.items;
}
