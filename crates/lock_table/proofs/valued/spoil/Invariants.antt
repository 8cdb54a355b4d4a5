use Rattle.std.proofs.Common.{◌≡◌, take}
use Rattle.lock_table.specs.Values.{spoiled}
use Rattle.lock_table.specs.Stored.{value_in, IsValued}
use Rattle.lock_table.proofs.valued.spoil.Given as goal

-- the locks so far are purged
abbrev pub invariant-loop-at : goal.invariant-loop-at
invariant-loop-at l = record {
  values : value_in l.values ≡ spoiled (value_in l.initial.values) (take l.at l.locks) l.host;
  valued : IsValued l.locks l.values;
}
