use Rattle.std.specs.Prelude.{All}
use Rattle.std.proofs.Common.{◌≡◌, ◌≤◌, ◌+◌, length, take}
use Rattle.epoch_sweep.specs.declared.tally.End.{End}
use Rattle.epoch_sweep.specs.Sweeping.{AllEnd}
use Rattle.epoch_sweep.proofs.sweeping.end_each.Given as goal

-- the variants before this one ended, and are listed
abbrev pub invariant-loop-change : goal.invariant-loop-change
invariant-loop-change l = record {
  few : length l.ends.items ≡ length l.initial.ends.items + l.change-index;
  each : All (λ (end : End). end.recovered ≤ 2) l.initial.ends.items → All (λ (end : End). end.recovered ≤ 2) l.ends.items;
  ended : AllEnd l.config l.events l.place (take l.change-index l.changes) l.initial.ends.items l.ends.items;
}
