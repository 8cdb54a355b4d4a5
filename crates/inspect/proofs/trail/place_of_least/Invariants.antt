use Rattle.std.proofs.Common.{◌<◌, ◌≤◌, ℕ, length, slice_index_or}
use Rattle.inspect.proofs.trail.place_of_least.Given as goal

abbrev pub invariant-loop-at : goal.invariant-loop-at
invariant-loop-at l = record {
  within : l.least < length l.circle;
  least : (k : ℕ) → k < l.at → slice_index_or l.circle l.least 0 ≤ slice_index_or l.circle k 0;
}
