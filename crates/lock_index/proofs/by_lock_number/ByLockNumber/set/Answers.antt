use Rattle.std.proofs.Common.{◌≤◌, ◌<◌, ℕ, length, set, ap, ◌∙◌, arith}
use Rattle.lock_index.specs.Shelved.{no_lock, times}
use Rattle.std.proofs.lemmas.List.{get_or-set_same, get_or-set_other}
use Rattle.lock_index.proofs.HostedPlaces.{hosted_set}
use Rattle.lock_index.proofs.NumberedPlaces.{numbered_set}
use Rattle.lock_index.proofs.Places.{inside_order, listed_place, place_inside, shelved_set, shown_set}
use Rattle.lock_index.proofs.by_lock_number.ByLockNumber.set.Goals as goal

pub index_mut-requires : goal.index_mut-requires
index_mut-requires c =
    let inside = inside_order c.self.inside.records.items c.self.inside.order.items c.self.inside.free.items c.self.invariant.0 c.args.self.now c.args.at c.self.view_is c.requires in
    let there = place_inside c.self.inside.records.items c.self.inside.order.items c.self.inside.free.items c.self.invariant.0 c.args.at c.index.result.now inside in
    omega (arith, there, c.from-place.ensures ∙ c.index.ensures)

pub invariant_of-self : goal.invariant_of-self
invariant_of-self c =
    let records = c.self.inside.records.items in
    let order = c.self.inside.order.items in
    let free = c.self.inside.free.items in
    let place = c.from-place.ensures ∙ c.index.ensures in
    let inside = inside_order records order free c.self.invariant.0 c.args.self.now c.args.at c.self.view_is c.requires in
    let there : c.from-place.result < length records = omega (arith, place_inside records order free c.self.invariant.0 c.args.at c.index.result.now inside, place) in
    let own : 1 ≤ times c.from-place.result order = omega (arith, ap {B = ℕ} (λ n. times n order) place, listed_place records order free c.self.invariant.0 c.args.at c.index.result.now inside) in (
      shelved_set c.self.inside.records.items c.self.inside.order.items c.self.inside.free.items c.self.invariant.0 c.from-place.result c.args.new,
      omega (arith, c.self.invariant.1),
      omega (arith, c.self.invariant.2),
      omega (arith, c.self.invariant.3),
      omega (arith, c.self.invariant.4),
      omega (arith, c.self.invariant.5),
      numbered_set records order free c.self.inside.lock_numbers.items c.self.invariant.0 c.self.invariant.6 c.from-place.result c.get.result c.args.new there
          (omega (arith, there, c.self.invariant.1, c.self.invariant.5)) own c.get.ensures.value,
      hosted_set records order free c.self.inside.hosts c.self.invariant.0 c.self.invariant.7 (set records c.from-place.result c.args.new) c.set.new.self c.from-place.result c.args.new
          (get_or-set_same records c.from-place.result c.args.new no_lock there) c.set.ensures.own c.set.ensures.others (λ p other. get_or-set_other records c.from-place.result p c.args.new no_lock other),
    )

pub returns : goal.returns
returns c =
    let inside = inside_order c.self.inside.records.items c.self.inside.order.items c.self.inside.free.items c.self.invariant.0 c.args.self.now c.args.at c.self.view_is c.requires in
    shown_set c.self.inside.records.items c.self.inside.order.items c.self.inside.free.items c.self.invariant.0 c.args.at c.from-place.result c.index.result.now c.args.new inside (c.from-place.ensures ∙ c.index.ensures)
    ∙ ap (λ l. set l c.args.at c.args.new) c.self.view_is
