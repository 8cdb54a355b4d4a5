use Rattle.std.proofs.Common.{◌≡◌, ◌≤◌, ◌+◌, ◌*◌}
use Rattle.lock_index.specs.Keys.{spelled}
use Rattle.lock_index.proofs.Spelled.{weight}
use Rattle.lock_index.proofs.keys.spelled.Given as goal

-- the bytes so far
abbrev pub invariant-loop-at : goal.invariant-loop-at
invariant-loop-at l = record {
  key : l.key ≡ spelled l.at l.bytes;
  small : l.key + 3 ≤ weight l.at * 3;
}
