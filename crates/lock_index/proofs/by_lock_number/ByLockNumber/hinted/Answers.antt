use Rattle.std.proofs.Common.{◌≡◌, get_or, sym, ap, ◌∙◌}
use Rattle.lock_command.specs.declared.record.LockRecord.{LockRecord}
use Rattle.lock_index.proofs.NumberedPlaces.{number_in_order, stands_there}
use Rattle.lock_index.proofs.Places.{read_in_order}
use Rattle.lock_index.proofs.by_lock_number.ByLockNumber.hinted.Goals as goal

pub returns : goal.returns
returns c =
    let records = c.self.inside.records.items in
    let order = c.self.inside.order.items in
    let free = c.self.inside.free.items in
    let numbers = c.self.inside.lock_numbers.items in
    let told : get_or numbers c.in_ok-place.place 0 ≡ c.args.lock = ap (λ l. get_or l c.in_ok-place.place 0) (sym c.deref.ensures.value) ∙ (c.in_ok-place.ensures.there).1 in
    let here = stands_there records order free numbers c.self.invariant.0 c.self.invariant.6 c.args.self.now c.in_ok-place.place c.args.lock c.self.view_is told c.hinted_place.ensures.some in
    let read = read_in_order records order free c.self.invariant.0 c.args.self.now here.0 c.in_ok-place.place 0 c.index.result.now c.self.view_is here.2 here.3 c.index.ensures in (
      here.0,
      here.1,
      sym read,
      ap (λ (r : LockRecord). r.lock) read ∙ sym (number_in_order records order free numbers c.self.invariant.0 c.self.invariant.6 c.args.self.now here.0 c.in_ok-place.place 0 c.self.view_is here.2 here.3 c.index.result.now) ∙ told,
    )
