use Rattle.std.proofs.Common.{◌∙◌, arith}
use Rattle.lock_index.proofs.Places.{inside_order, place_inside, read_in_order}
use Rattle.lock_index.proofs.by_lock_number.ByLockNumber.get.Goals as goal

pub index-requires-2 : goal.index-requires-2
index-requires-2 c =
    let inside = inside_order c.self.inside.records.items c.self.inside.order.items c.self.inside.free.items c.self.invariant.0 c.args.self.now c.args.at c.self.view_is c.requires in
    let there = place_inside c.self.inside.records.items c.self.inside.order.items c.self.inside.free.items c.self.invariant.0 c.args.at c.index.result.now inside in
    omega (arith, there, c.from.ensures ∙ c.index.ensures)

pub returns-clause-lock : goal.returns-clause-lock
returns-clause-lock c =
    let inside = inside_order c.self.inside.records.items c.self.inside.order.items c.self.inside.free.items c.self.invariant.0 c.args.self.now c.args.at c.self.view_is c.requires in
    read_in_order c.self.inside.records.items c.self.inside.order.items c.self.inside.free.items c.self.invariant.0 c.args.self.now c.args.at c.from.result c.index.result.now c.index-2.result.now c.self.view_is inside (c.from.ensures ∙ c.index.ensures) c.index-2.ensures

pub returns-clause-few : goal.returns-clause-few
returns-clause-few c =
    let inside = inside_order c.self.inside.records.items c.self.inside.order.items c.self.inside.free.items c.self.invariant.0 c.args.self.now c.args.at c.self.view_is c.requires in
    omega (arith, inside, c.self.invariant.0.all)
