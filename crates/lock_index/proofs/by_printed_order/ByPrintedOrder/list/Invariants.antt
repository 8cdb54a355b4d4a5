use Rattle.std.proofs.Common.{◌≡◌, ◌≤◌, take, vec_len, vec_capacity}
use Rattle.lock_index.proofs.by_printed_order.ByPrintedOrder.list.Given as goal

-- the locks so far
abbrev pub invariant-loop-at : goal.invariant-loop-at
invariant-loop-at l = record {
  listed : l.into.items ≡ take l.at l.self;
  len : vec_len l.into ≡ l.at;
  room : vec_capacity l.fn.into ≤ vec_capacity l.into;
}
