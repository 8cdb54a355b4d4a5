use Rattle.std.proofs.Common.{◌∙◌, arith}
use Rattle.std.proofs.lemmas.Grind.{get_or_default_zero}
use Rattle.lock_index.proofs.NumberedPlaces.{number_in_order}
use Rattle.lock_index.proofs.Places.{inside_order}
use Rattle.lock_index.proofs.by_lock_number.ByLockNumber.number.Goals as goal

pub returns : goal.returns
returns c = λ d.
    let records = c.self.inside.records.items in
    let order = c.self.inside.order.items in
    let free = c.self.inside.free.items in
    let numbers = c.self.inside.lock_numbers.items in
    let inside = inside_order records order free c.self.invariant.0 c.args.self.now c.args.at c.self.view_is c.requires in
    c.index-2.ensures
    ∙ get_or_default_zero numbers c.from.result c.index-2.result.now (omega (arith, c.from.ensures, c.self.invariant.5))
    ∙ number_in_order records order free numbers c.self.invariant.0 c.self.invariant.6 c.args.self.now c.args.at c.from.result c.index.result.now c.self.view_is inside (c.from.ensures ∙ c.index.ensures) d
