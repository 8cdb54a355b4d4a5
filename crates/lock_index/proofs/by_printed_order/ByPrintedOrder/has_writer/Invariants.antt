use Rattle.std.proofs.Common.{◌≡◌, take}
use Rattle.std.specs.List.{list_any}
use Rattle.lock_command.specs.State.{is_writer}
use Rattle.lock_index.proofs.by_printed_order.ByPrintedOrder.has_writer.Given as goal

-- some lock so far
abbrev pub invariant-loop-at : goal.invariant-loop-at
invariant-loop-at l = l.any ≡ list_any (λ r. is_writer r.state) (take l.at l.self)
