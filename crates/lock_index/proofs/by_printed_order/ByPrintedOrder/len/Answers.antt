use Rattle.lock_index.proofs.Places.{inside_order}
use Rattle.lock_index.proofs.PlacedKeys.{fits_in_order}
use Rattle.lock_index.proofs.by_printed_order.ByPrintedOrder.len.Goals as goal

pub returns-clause-fit : goal.returns-clause-fit
returns-clause-fit c = λ k d low high.
    fits_in_order c.self.inside.records.items c.self.inside.order.items c.self.inside.free.items c.self.inside.keys.items c.self.invariant.0 c.self.invariant.8 c.args.self.now k 0 c.self.view_is
    (inside_order c.self.inside.records.items c.self.inside.order.items c.self.inside.free.items c.self.invariant.0 c.args.self.now k c.self.view_is high) d
