use Rattle.std.proofs.Common.{◌≡◌, length, ℕ, List, insert, set, slice_index, subst, sym, ap, ◌∙◌, arith, rules}
use Rattle.std.proofs.lemmas.List.{length-map}
use Rattle.lock_command.specs.declared.record.LockRecord.{LockRecord}
use Rattle.lock_index.specs.Bits.{held_bit, held_bits}
use Rattle.lock_index.specs.Keys.{IsKeyed}
use Rattle.lock_index.proofs.PlacedKeys.{keyed_insert}
use Rattle.lock_index.proofs.HostedPlaces.{hosted_insert}
use Rattle.lock_index.specs.Shelved.{at_places, IsShelved, IsHosted}
use Rattle.lock_index.proofs.Places.{as_many, map-insert, shelved_insert, shown_insert}
use Rattle.lock_index.proofs.by_printed_order.ByPrintedOrder.insert.Goals as goal

pub invariant_of-self : goal.invariant_of-self
invariant_of-self c =
    let took = c.take_place-place.ensures in
    let many = as_many c.self.inside.records.items c.self.inside.order.items c.self.inside.free.items c.self.invariant.0 c.args.self.now c.self.view_is in
    let put : c.insert.new.self.items ≡ insert c.self.inside.order.items c.args.at c.take_place-place.result = search rules in
    let sound = shelved_insert c.self.inside.records.items c.take_place-place.new.records.items c.self.inside.order.items c.self.inside.free.items c.take_place-place.new.free.items c.args.at c.take_place-place.result
    c.self.invariant.0 took.idle (omega (arith, took.len)) (omega (arith, c.requires.inside, many)) in
    let long : length c.self.inside.held.items ≡ length c.args.self.now = ap length c.self.invariant.6 ∙ length-map (at_places c.self.inside.records.items c.self.inside.order.items) (λ (r : LockRecord). held_bit r.state) ∙ ap length c.self.view_is in
    let keyed = keyed_insert c.self.inside.records.items c.self.inside.order.items c.self.inside.free.items c.self.inside.keys.items c.self.invariant.0 c.self.invariant.8 c.take_place-place.new.records.items c.args.at c.take_place-place.result c.lock_key-key.result c.args.new took.others took.own
    c.lock_key-key.ensures.key c.lock_key-key.ensures.fits (omega (arith, c.self.invariant.7, c.take_place-place.type_inv)) in
    let hosted = hosted_insert c.self.inside.records.items c.self.inside.order.items c.self.inside.free.items c.self.inside.hosts c.self.invariant.0 c.self.invariant.9
    c.take_place-place.new.records.items c.set.new.self c.take_place-place.result c.args.new took.own (ap (slice_index c.set.new.self) (sym c.from-2.ensures) ∙ c.set.ensures.own)
    (λ p other. c.set.ensures.others p (λ same. other (same ∙ c.from-2.ensures))) c.args.at took.others in
    let held : c.insert-2.new.self.items ≡ insert c.self.inside.held.items c.args.at c.held_bit.result = search rules in
    let shown : at_places c.take_place-place.new.records.items c.insert.new.self.items ≡ insert (at_places c.self.inside.records.items c.self.inside.order.items) c.args.at c.args.new =
    ap (at_places c.take_place-place.new.records.items) put
    ∙ shown_insert c.self.inside.records.items c.take_place-place.new.records.items c.self.inside.order.items c.self.inside.free.items c.args.at c.take_place-place.result c.self.invariant.0 took.others
    ∙ ap (λ r. insert (at_places c.self.inside.records.items c.self.inside.order.items) c.args.at r) took.own in (
      subst (λ (l : List ℕ). IsShelved c.take_place-place.new.records.items l c.take_place-place.new.free.items) (sym put) sound,
      omega (arith, took.few),
      omega (arith, took.reserved),
      omega (arith, c.insert.ensures.capacity),
      omega (arith, took.free_reserved),
      omega (arith, c.insert-2.ensures.capacity),
      held ∙ (λ i. insert (c.self.invariant.6 i) c.args.at (c.held_bit.ensures i))
          ∙ sym (map-insert (λ (r : LockRecord). held_bit r.state) (at_places c.self.inside.records.items c.self.inside.order.items) c.args.at c.args.new)
          ∙ ap held_bits (sym shown),
      omega (arith, c.self.invariant.7),
      subst (λ (n : ℕ). IsKeyed c.take_place-place.new.records.items c.insert.new.self.items (set c.self.inside.keys.items n c.lock_key-key.result)) (sym c.from.ensures)
          (subst (λ (l : List ℕ). IsKeyed c.take_place-place.new.records.items l (set c.self.inside.keys.items c.take_place-place.result c.lock_key-key.result)) (sym put) keyed),
      subst (λ (l : List ℕ). IsHosted c.take_place-place.new.records.items l c.set.new.self) (sym put) hosted,
    )

pub returns : goal.returns
returns c =
    let took = c.take_place-place.ensures in
    let put : c.insert.new.self.items ≡ insert c.self.inside.order.items c.args.at c.take_place-place.result = search rules in
    ap (at_places c.take_place-place.new.records.items) put
    ∙ shown_insert c.self.inside.records.items c.take_place-place.new.records.items c.self.inside.order.items c.self.inside.free.items c.args.at c.take_place-place.result c.self.invariant.0 took.others
    ∙ (λ i. insert (c.self.view_is i) c.args.at (took.own i))
