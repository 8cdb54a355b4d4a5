use Rattle.std.proofs.Common.{◌≡◌, ℕ, List, Some, refl, sym, ap, subst, ◌∙◌}
use Rattle.std.specs.List.{filter}
use Rattle.lock_command.specs.declared.record.LockRecord.{LockRecord}
use Rattle.lock_index.specs.Indexed.{IsIndexed}
use Rattle.lock_command.specs.Locks.{is_lock, lock_in, without, put, in_state}
use Rattle.lock_index.specs.Printed.{printed_cmp}
use Rattle.lock_index.specs.Placed.{placed, in_order}
use Rattle.lock_index.proofs.Shown.{indexed_put, numbers_find, numbers_distinct, shown_put}
use Rattle.lock_index.proofs.index.Index.restate.Goals as goal

pub replace-requires-clause-distinct : goal.replace-requires-clause-distinct
replace-requires-clause-distinct c = numbers_distinct c.self.inside.printed c.self.inside.numbers c.self.invariant

pub replace-requires-clause-there : goal.replace-requires-clause-there
replace-requires-clause-there c =
    let own = c.args.own in
    let there : lock_in c.self.inside.numbers own.lock ≡ Some own =
    numbers_find c.self.inside.printed c.self.inside.numbers c.self.invariant own.lock ∙ ap (λ l. lock_in l own.lock) c.self.view_is ∙ c.requires.there in
    rw (c.with_state-new.ensures, there) refl

pub restate-requires-clause-restated : goal.restate-requires-clause-restated
restate-requires-clause-restated c = c.with_state-new.ensures ∙ ap (λ (r : LockRecord). in_state c.args.own r.state) (sym c.with_state-new.ensures)

placed_is : (c : goal.After-restate) → c.restate.new.printed ≡ placed printed_cmp (in_state c.args.own c.args.state) (without c.self.inside.printed c.args.own.lock)
placed_is c = c.restate.ensures.items ∙ ap (λ r. placed printed_cmp r (without c.self.inside.printed c.args.own.lock)) c.with_state-new.ensures

pub invariant_of-self : goal.invariant_of-self
invariant_of-self c =
    let new = in_state c.args.own c.args.state in
    subst (λ (l : List LockRecord). IsIndexed l c.replace.new.numbers) (sym (placed_is c))
    (indexed_put c.self.inside.printed c.self.inside.numbers c.self.invariant new c.replace.new.numbers c.replace.ensures.rising
    (subst (λ (r : LockRecord). (lock : ℕ) → filter (is_lock lock) c.replace.new.numbers ≡ filter (is_lock lock) (put c.self.inside.numbers r)) c.with_state-new.ensures c.replace.ensures.alike))

pub returns-clause-put : goal.returns-clause-put
returns-clause-put c =
    let new = in_state c.args.own c.args.state in
    placed_is c ∙ sym (shown_put c.self.inside.printed new c.self.invariant.sorted) ∙ ap (λ l. in_order printed_cmp (put l new)) c.self.view_is
