use Rattle.std.proofs.Common.{◌≡◌, ◌<◌, length, set, sym, ap, ◌∙◌, arith}
use Rattle.std.proofs.lemmas.List.{map-set}
use Rattle.lock_command.specs.declared.record.LockRecord.{LockRecord}
use Rattle.lock_index.specs.Bits.{held_bit, held_bits}
use Rattle.lock_index.specs.Keys.{lock_key}
use Rattle.lock_index.specs.Shelved.{no_lock, at_place, at_places}
use Rattle.std.proofs.lemmas.List.{get_or-set_same, get_or-set_other}
use Rattle.lock_index.proofs.HostedPlaces.{hosted_set}
use Rattle.lock_index.proofs.PlacedKeys.{keyed_set, shown_there}
use Rattle.lock_index.proofs.Places.{inside_order, place_inside, shelved_set, shown_set}
use Rattle.lock_index.proofs.by_printed_order.ByPrintedOrder.set.Goals as goal

pub index_mut-requires : goal.index_mut-requires
index_mut-requires c =
    let inside = inside_order c.self.inside.records.items c.self.inside.order.items c.self.inside.free.items c.self.invariant.0 c.args.self.now c.args.at c.self.view_is c.requires.inside in
    let there = place_inside c.self.inside.records.items c.self.inside.order.items c.self.inside.free.items c.self.invariant.0 c.args.at c.index.result.now inside in
    omega (arith, there, c.from-place.ensures ∙ c.index.ensures)

pub invariant_of-self : goal.invariant_of-self
invariant_of-self c =
    let records = c.self.inside.records.items in
    let order = c.self.inside.order.items in
    let free = c.self.inside.free.items in
    let place = c.from-place.ensures ∙ c.index.ensures in
    let inside = inside_order records order free c.self.invariant.0 c.args.self.now c.args.at c.self.view_is c.requires.inside in
    let there : c.from-place.result < length records = omega (arith, place_inside records order free c.self.invariant.0 c.args.at c.index.result.now inside, place) in
    let alike : lock_key c.args.new ≡ lock_key (at_place records c.from-place.result) =
    c.requires.key no_lock
    ∙ ap lock_key (sym (shown_there records order free c.self.inside.keys.items c.self.invariant.0 c.self.invariant.8 c.args.self.now c.args.at c.index.result.now no_lock c.self.view_is inside))
    ∙ ap (λ n. lock_key (at_place records n)) (sym place) in (
      shelved_set records order free c.self.invariant.0 c.from-place.result c.args.new,
      omega (arith, c.self.invariant.1),
      omega (arith, c.self.invariant.2),
      omega (arith, c.self.invariant.3),
      omega (arith, c.self.invariant.4),
      omega (arith, c.self.invariant.5),
      (λ i. set (c.self.invariant.6 i) c.args.at (c.held_bit.ensures i))
          ∙ sym (map-set (λ (r : LockRecord). held_bit r.state) (at_places records order) c.args.at c.args.new)
          ∙ ap held_bits (sym (shown_set records order free c.self.invariant.0 c.args.at c.from-place.result c.index.result.now c.args.new inside place)),
      omega (arith, c.self.invariant.7),
      keyed_set records order free c.self.inside.keys.items c.self.invariant.0 c.self.invariant.8 c.from-place.result c.args.new there alike c.requires.fits,
      hosted_set records order free c.self.inside.hosts c.self.invariant.0 c.self.invariant.9 (set records c.from-place.result c.args.new) c.set.new.self c.from-place.result c.args.new
          (get_or-set_same records c.from-place.result c.args.new no_lock there) c.set.ensures.own c.set.ensures.others (λ p other. get_or-set_other records c.from-place.result p c.args.new no_lock other),
    )

pub returns : goal.returns
returns c =
    let records = c.self.inside.records.items in
    let inside = inside_order records c.self.inside.order.items c.self.inside.free.items c.self.invariant.0 c.args.self.now c.args.at c.self.view_is c.requires.inside in
    shown_set records c.self.inside.order.items c.self.inside.free.items c.self.invariant.0 c.args.at c.from-place.result c.index.result.now c.args.new inside (c.from-place.ensures ∙ c.index.ensures)
    ∙ ap (λ l. set l c.args.at c.args.new) c.self.view_is
