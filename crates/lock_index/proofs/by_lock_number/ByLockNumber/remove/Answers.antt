use Rattle.std.proofs.Common.{◌≡◌, [], ◌∷◌, ◌++◌, remove, set, subst, List, ℕ, sym, ap, ◌∙◌, arith, rules}
use Rattle.lock_index.proofs.HostedPlaces.{hosted_remove}
use Rattle.lock_index.specs.Shelved.{at_place, at_places, IsShelved, IsNumbered, IsHosted}
use Rattle.lock_index.proofs.NumberedPlaces.{numbered_remove}
use Rattle.lock_index.proofs.Places.{inside_order, shelved_remove, map-remove}
use Rattle.lock_index.proofs.by_lock_number.ByLockNumber.remove.Goals as goal

pub invariant_of-self : goal.invariant_of-self
invariant_of-self c =
    let order = c.self.inside.order.items in
    let inside = inside_order c.self.inside.records.items c.self.inside.order.items c.self.inside.free.items c.self.invariant.0 c.args.self.now c.args.at c.self.view_is c.requires in
    let given : c.push.new.self.items ≡ c.self.inside.free.items ++ c.remove-place.result ∷ [] = search rules in
    let sound = shelved_remove c.self.inside.records.items order c.self.inside.free.items c.push.new.self.items c.args.at c.remove-place.result c.self.invariant.0 inside
    (given ∙ ap (λ p. c.self.inside.free.items ++ p ∷ []) c.remove-place.ensures.value) in (
      subst (λ (l : List ℕ). IsShelved c.self.inside.records.items l c.push.new.self.items) (λ i. sym c.remove-place.ensures.items i) sound,
      omega arith,
      omega arith,
      omega (arith, c.remove-place.ensures.capacity),
      omega (arith, c.push.ensures.capacity),
      omega (arith, c.self.invariant.5),
      subst (λ (l : List ℕ). IsNumbered c.self.inside.records.items l (set c.self.inside.lock_numbers.items c.from.result 0)) (sym c.remove-place.ensures.items)
          (numbered_remove c.self.inside.records.items order c.self.inside.free.items c.self.inside.lock_numbers.items c.self.invariant.0 c.self.invariant.6 c.args.at c.remove-place.result c.from.result inside
          (c.from.ensures ∙ c.remove-place.ensures.value) (omega (arith, c.from.ensures, c.self.invariant.5, c.remove-place.type_inv))),
      subst (λ (l : List ℕ). IsHosted c.self.inside.records.items l c.self.inside.hosts) (sym c.remove-place.ensures.items) (hosted_remove c.self.inside.records.items order c.self.inside.free.items c.self.inside.hosts c.self.invariant.0 c.self.invariant.7 c.args.at c.remove-place.result inside),
    )

pub returns : goal.returns
returns c =
    ap (at_places c.self.inside.records.items) c.remove-place.ensures.items
    ∙ map-remove (at_place c.self.inside.records.items) c.self.inside.order.items c.args.at
    ∙ ap (λ l. remove l c.args.at) c.self.view_is
