use Rattle.std.proofs.Common.{◌≡◌, List, Some, sym, ap, subst, ◌∙◌}
use Rattle.lock_command.specs.declared.record.LockRecord.{LockRecord}
use Rattle.lock_command.specs.Locks.{is_lock, lock_in}
use Rattle.lock_index.specs.Printed.{printed_cmp}
use Rattle.lock_index.specs.Placed.{in_order}
use Rattle.lock_index.proofs.Shown.{if_some, found_by_number, numbers_find, shown_sorted}
use Rattle.lock_index.proofs.index.Index.lock_in.Goals as goal

found : (c : goal.After-numbered) → c.numbered.result ≡ lock_in c.self.inside.printed c.args.lock
found c =
    c.numbered.ensures
    ∙ numbers_find c.self.inside.printed c.self.inside.numbers c.self.invariant c.args.lock

pub returns-clause-found : goal.returns-clause-found
returns-clause-found c = found c ∙ ap (λ l. lock_in l c.args.lock) c.self.view_is

pub returns-clause-there : goal.returns-clause-there
returns-clause-there c =
    if_some c.numbered.result (λ r. lock_in c.args.self.now r.lock ≡ Some r) (λ r e.
    ap (λ l. lock_in l r.lock) (sym c.self.view_is) ∙ found_by_number (is_lock c.args.lock) c.self.inside.printed r c.self.invariant.distinct (sym (found c) ∙ e))

pub returns-clause-printed : goal.returns-clause-printed
returns-clause-printed c = subst (λ (l : List LockRecord). in_order printed_cmp l ≡ l) c.self.view_is (shown_sorted c.self.inside.printed c.self.invariant.sorted)
