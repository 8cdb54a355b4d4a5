use Rattle.std.proofs.Common.{◌≡◌, ◌==◌, take}
use Rattle.std.specs.List.{list_any}
use Rattle.lock_command.specs.declared.record.LockRecord.{LockRecord}
use Rattle.lock_index.proofs.by_printed_order.ByPrintedOrder.has_locks.Given as goal

-- some lock so far
abbrev pub invariant-loop-at : goal.invariant-loop-at
invariant-loop-at l = l.any ≡ list_any (λ (r : LockRecord). r.client == l.client) (take l.at l.self)
