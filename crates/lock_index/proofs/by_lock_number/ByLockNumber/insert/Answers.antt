use Rattle.std.proofs.Common.{◌≡◌, ℕ, List, insert, set, slice_index, subst, sym, ap, ◌∙◌, arith, rules}
use Rattle.lock_index.proofs.HostedPlaces.{hosted_insert}
use Rattle.lock_index.specs.Shelved.{at_places, IsShelved, IsNumbered, IsHosted}
use Rattle.lock_index.proofs.NumberedPlaces.{numbered_insert}
use Rattle.lock_index.proofs.Places.{as_many, shelved_insert, shown_insert}
use Rattle.lock_index.proofs.by_lock_number.ByLockNumber.insert.Goals as goal

pub invariant_of-self : goal.invariant_of-self
invariant_of-self c =
    let took = c.take_place-place.ensures in
    let many = as_many c.self.inside.records.items c.self.inside.order.items c.self.inside.free.items c.self.invariant.0 c.args.self.now c.self.view_is in
    let put : c.insert.new.self.items ≡ insert c.self.inside.order.items c.args.at c.take_place-place.result = search rules in
    let sound = shelved_insert c.self.inside.records.items c.take_place-place.new.records.items c.self.inside.order.items c.self.inside.free.items c.take_place-place.new.free.items c.args.at c.take_place-place.result
    c.self.invariant.0 took.idle (omega (arith, took.len)) (omega (arith, c.requires.inside, many)) in
    let numbered = numbered_insert c.self.inside.records.items c.self.inside.order.items c.self.inside.free.items c.self.inside.lock_numbers.items c.self.invariant.0 c.self.invariant.6
    c.take_place-place.new.records.items c.args.at c.take_place-place.result c.get.result c.args.new took.others took.own c.get.ensures.value (omega (arith, c.self.invariant.5, c.take_place-place.type_inv)) in
    let hosted = hosted_insert c.self.inside.records.items c.self.inside.order.items c.self.inside.free.items c.self.inside.hosts c.self.invariant.0 c.self.invariant.7
    c.take_place-place.new.records.items c.set.new.self c.take_place-place.result c.args.new took.own (ap (slice_index c.set.new.self) (sym c.from.ensures) ∙ c.set.ensures.own)
    (λ p other. c.set.ensures.others p (λ same. other (same ∙ c.from.ensures))) c.args.at took.others in (
      subst (λ (l : List ℕ). IsShelved c.take_place-place.new.records.items l c.take_place-place.new.free.items) (sym put) sound,
      omega (arith, took.few),
      omega (arith, took.reserved),
      omega (arith, c.insert.ensures.capacity),
      omega (arith, took.free_reserved),
      omega (arith, c.self.invariant.5),
      subst (λ (n : ℕ). IsNumbered c.take_place-place.new.records.items c.insert.new.self.items (set c.self.inside.lock_numbers.items n c.get.result)) (sym c.from-2.ensures)
          (subst (λ (l : List ℕ). IsNumbered c.take_place-place.new.records.items l (set c.self.inside.lock_numbers.items c.take_place-place.result c.get.result)) (sym put) numbered),
      subst (λ (l : List ℕ). IsHosted c.take_place-place.new.records.items l c.set.new.self) (sym put) hosted,
    )

pub returns : goal.returns
returns c =
    let took = c.take_place-place.ensures in
    let put : c.insert.new.self.items ≡ insert c.self.inside.order.items c.args.at c.take_place-place.result = search rules in
    ap (at_places c.take_place-place.new.records.items) put
    ∙ shown_insert c.self.inside.records.items c.take_place-place.new.records.items c.self.inside.order.items c.self.inside.free.items c.args.at c.take_place-place.result c.self.invariant.0 took.others
    ∙ (λ i. insert (c.self.view_is i) c.args.at (took.own i))
