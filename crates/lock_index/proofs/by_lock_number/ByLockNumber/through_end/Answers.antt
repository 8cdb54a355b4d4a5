use Rattle.std.proofs.Common.{◌≡◌, ◌<◌, ◌-◌, ℕ, false, List, length, get_or, sym, ap, subst, ◌∙◌, arith}
use Rattle.std.specs.List.{AllWithin}
use Rattle.lock_index.specs.Shelved.{is_through_host}
use Rattle.lock_index.proofs.HostedPlaces.{through_in_order, others_in_order}
use Rattle.lock_index.proofs.Places.{as_many}
use Rattle.lock_index.proofs.by_lock_number.ByLockNumber.through_end.Goals as goal

pub returns-clause-others : goal.returns-clause-others
returns-clause-others c =
    others_in_order c.self.inside.records.items c.self.inside.order.items c.self.inside.free.items c.self.inside.hosts c.self.invariant.0 c.self.invariant.7 c.args.self.now c.self.view_is c.args.host
    c.through_end.result c.args.to c.requires
    (subst (λ (l : List ℕ). AllWithin (λ place. is_through_host c.self.inside.hosts c.args.host place ≡ false) l c.through_end.result c.args.to) c.deref.ensures.value c.through_end.ensures.others)

pub returns-clause-last : goal.returns-clause-last
returns-clause-last c = λ some d.
    let inside : c.through_end.result - 1 < length c.self.inside.order.items =
    omega (arith, some, c.requires, c.through_end.ensures.bound, as_many c.self.inside.records.items c.self.inside.order.items c.self.inside.free.items c.self.invariant.0 c.args.self.now c.self.view_is) in
    sym (through_in_order c.self.inside.records.items c.self.inside.order.items c.self.inside.free.items c.self.inside.hosts c.self.invariant.0 c.self.invariant.7 c.args.self.now c.self.view_is c.args.host
    (c.through_end.result - 1) 0 inside d)
    ∙ ap (λ l. is_through_host c.self.inside.hosts c.args.host (get_or l (c.through_end.result - 1) 0)) (sym c.deref.ensures.value)
    ∙ c.through_end.ensures.last some 0
