use Rattle.std.proofs.Common.{◌≡◌, ◌≤◌, take, vec_len, vec_capacity}
use Rattle.lock_table.specs.Picture.{values_beside}
use Rattle.lock_table.specs.Stored.{value_in}
use Rattle.lock_table.proofs.picture.list_values.Given as goal

-- the values so far
abbrev pub invariant-loop-at : goal.invariant-loop-at
invariant-loop-at l = record {
  values : l.into.items ≡ values_beside (value_in l.entries) (take l.at l.locks);
  few : vec_len l.into ≤ l.at;
  room : vec_capacity l.fn.into ≤ vec_capacity l.into;
}
