use Rattle.std.proofs.Common.{◌≡◌, false, IsTrue}
use Rattle.std.specs.List.{AllWithin}
use Rattle.lock_command.specs.State.{holds_against}
use Rattle.lock_index.proofs.by_printed_order.ByPrintedOrder.none_against.Given as goal

-- none of those so far, and none at all but where none is against it
abbrev pub invariant-loop-at : goal.invariant-loop-at
invariant-loop-at l = record {
  clear : IsTrue l.none → AllWithin (λ r. holds_against l.wanted r.state ≡ false) l.self l.fn.from l.at;
  met : AllWithin (λ r. holds_against l.wanted r.state ≡ false) l.self l.fn.from l.fn.to → IsTrue l.none;
}
