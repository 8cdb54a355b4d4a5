use Rattle.std.proofs.Common.{◌≡◌, [], ◌∷◌, ◌++◌, remove, subst, List, ℕ, sym, ap, ◌∙◌, arith, rules}
use Rattle.std.proofs.lemmas.List.{length-map}
use Rattle.lock_command.specs.declared.record.LockRecord.{LockRecord}
use Rattle.lock_index.specs.Bits.{held_bit, held_bits}
use Rattle.lock_index.specs.Keys.{IsKeyed}
use Rattle.lock_index.proofs.PlacedKeys.{keyed_remove}
use Rattle.lock_index.proofs.HostedPlaces.{hosted_remove}
use Rattle.lock_index.specs.Shelved.{at_place, at_places, IsShelved, IsHosted}
use Rattle.lock_index.proofs.Places.{inside_order, shelved_remove, map-remove}
use Rattle.lock_index.proofs.by_printed_order.ByPrintedOrder.remove.Goals as goal

pub invariant_of-self : goal.invariant_of-self
invariant_of-self c =
    let order = c.self.inside.order.items in
    let inside = inside_order c.self.inside.records.items c.self.inside.order.items c.self.inside.free.items c.self.invariant.0 c.args.self.now c.args.at c.self.view_is c.requires in
    let given : c.push.new.self.items ≡ c.self.inside.free.items ++ c.remove-place.result ∷ [] = search rules in
    let sound = shelved_remove c.self.inside.records.items order c.self.inside.free.items c.push.new.self.items c.args.at c.remove-place.result c.self.invariant.0 inside
    (given ∙ ap (λ p. c.self.inside.free.items ++ p ∷ []) c.remove-place.ensures.value) in (
      subst (λ (l : List ℕ). IsShelved c.self.inside.records.items l c.push.new.self.items) (λ i. sym c.remove-place.ensures.items i) sound,
      omega arith,
      omega arith,
      omega (arith, c.remove-place.ensures.capacity),
      omega (arith, c.push.ensures.capacity),
      omega (arith, c.remove.ensures.capacity),
      c.remove.ensures.items
          ∙ ap (λ l. remove l c.args.at) c.self.invariant.6
          ∙ sym (map-remove (λ (r : LockRecord). held_bit r.state) (at_places c.self.inside.records.items c.self.inside.order.items) c.args.at)
          ∙ ap held_bits (sym (map-remove (at_place c.self.inside.records.items) order c.args.at) ∙ ap (at_places c.self.inside.records.items) (sym c.remove-place.ensures.items)),
      omega arith,
      subst (λ (l : List ℕ). IsKeyed c.self.inside.records.items l c.self.inside.keys.items) (sym c.remove-place.ensures.items) (keyed_remove c.self.inside.records.items c.self.inside.order.items c.self.inside.free.items c.self.inside.keys.items c.self.invariant.0 c.self.invariant.8 c.args.at c.remove-place.result inside),
      subst (λ (l : List ℕ). IsHosted c.self.inside.records.items l c.self.inside.hosts) (sym c.remove-place.ensures.items) (hosted_remove c.self.inside.records.items c.self.inside.order.items c.self.inside.free.items c.self.inside.hosts c.self.invariant.0 c.self.invariant.9 c.args.at c.remove-place.result inside),
    )

pub returns-clause-locks : goal.returns-clause-locks
returns-clause-locks c =
    ap (at_places c.self.inside.records.items) c.remove-place.ensures.items
    ∙ map-remove (at_place c.self.inside.records.items) c.self.inside.order.items c.args.at
    ∙ ap (λ l. remove l c.args.at) c.self.view_is

pub returns-clause-room : goal.returns-clause-room
returns-clause-room c =
    let inside = inside_order c.self.inside.records.items c.self.inside.order.items c.self.inside.free.items c.self.invariant.0 c.args.self.now c.args.at c.self.view_is c.requires in
    omega (arith, inside, c.self.invariant.0.all, c.remove-place.ensures.len, length-map c.remove-place.new.self.items (at_place c.self.inside.records.items))
