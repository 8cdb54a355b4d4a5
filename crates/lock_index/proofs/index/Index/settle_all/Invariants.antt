use Rattle.std.proofs.Common.{◌≡◌, drop}
use Rattle.lock_command.specs.Locks.{settled_all, IsDistinct}
use Rattle.lock_index.specs.Printed.{printed_cmp}
use Rattle.lock_index.specs.Placed.{in_order}
use Rattle.lock_index.proofs.index.Index.settle_all.Given as goal

-- the names that are left are settled from here
abbrev pub invariant-loop-name : goal.invariant-loop-name
invariant-loop-name l = record {
  same : in_order printed_cmp (settled_all l.self (drop l.name-index l.names)) ≡ in_order printed_cmp (settled_all l.initial.self l.names);
  printed : in_order printed_cmp l.self ≡ l.self;
  distinct : IsDistinct l.self;
}
