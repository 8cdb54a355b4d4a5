use Rattle.std.proofs.Common.{◌≡◌, get_or, set, sym, ap, ◌∙◌}
use Rattle.lock_index.proofs.NumberedPlaces.{number_in_order, stands_there}
use Rattle.lock_index.proofs.Places.{shown_set}
use Rattle.lock_index.proofs.by_lock_number.ByLockNumber.set_hinted.Goals as goal

pub returns-clause-done : goal.returns-clause-done
returns-clause-done c = λ _.
    let records = c.self.inside.records.items in
    let order = c.self.inside.order.items in
    let free = c.self.inside.free.items in
    let numbers = c.self.inside.lock_numbers.items in
    let told : get_or numbers c.in-Some.place 0 ≡ c.args.new.now.lock = ap (λ l. get_or l c.in-Some.place 0) (sym c.deref.ensures.value) ∙ (c.in-Some.ensures.there).1 in
    let here = stands_there records order free numbers c.self.invariant.0 c.self.invariant.6 c.args.self.now c.in-Some.place c.args.new.now.lock c.self.view_is told c.hinted_place.ensures.some in (
      here.0,
      here.1,
      sym (number_in_order records order free numbers c.self.invariant.0 c.self.invariant.6 c.args.self.now here.0 c.in-Some.place 0 c.self.view_is here.2 here.3 c.args.new.now) ∙ told,
      shown_set records order free c.self.invariant.0 here.0 c.in-Some.place 0 c.args.new.now here.2 here.3 ∙ ap (λ l. set l here.0 c.args.new.now) c.self.view_is,
    )
