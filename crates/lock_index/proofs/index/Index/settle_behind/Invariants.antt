use Rattle.std.proofs.Common.{◌≡◌, length}
use Rattle.lock_index.specs.Indexed.{IsGrantedGroup}
use Rattle.lock_command.specs.Locks.{settled, queue}
use Rattle.lock_index.specs.Printed.{printed_cmp}
use Rattle.lock_index.specs.Placed.{in_order}
use Rattle.lock_index.proofs.index.Index.settle_behind.Given as goal

-- what is settled from here shows what is settled from the start
abbrev pub invariant-loop-first : goal.invariant-loop-first
invariant-loop-first l = record {
  same : in_order printed_cmp (settled l.self l.name) ≡ in_order printed_cmp (settled l.initial.self l.name);
  group : IsGrantedGroup l.name l.self l.group.begin l.group.end;
}

abbrev pub decreases-loop-first : goal.decreases-loop-first
decreases-loop-first l = length (queue l.self l.name)
