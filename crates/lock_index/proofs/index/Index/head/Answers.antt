use Rattle.std.proofs.Common.{◌≡◌, List, Some, sym, ap, subst, ◌∙◌}
use Rattle.lock_command.specs.declared.record.LockRecord.{LockRecord}
use Rattle.lock_command.specs.Locks.{lock_in, head_of}
use Rattle.lock_index.specs.Printed.{printed_cmp}
use Rattle.lock_index.specs.Placed.{in_order}
use Rattle.lock_index.proofs.Apart.{name_is}
use Rattle.lock_index.proofs.Queued.{head_on_name}
use Rattle.lock_index.proofs.Shown.{if_some, turn_by_number, shown_sorted}
use Rattle.lock_index.proofs.index.Index.head.Goals as goal

pub returns-clause-there : goal.returns-clause-there
returns-clause-there c =
    let xs = c.self.inside.printed in
    let is : c.head.result ≡ head_of xs c.args.name.now = c.head.ensures in
    if_some c.head.result (λ r. lock_in c.args.self.now r.lock ≡ Some r) (λ r e.
    ap (λ l. lock_in l r.lock) (sym c.self.view_is) ∙ turn_by_number c.args.name.now xs r c.self.invariant.distinct (sym is ∙ e))

pub returns-clause-printed : goal.returns-clause-printed
returns-clause-printed c = subst (λ (l : List LockRecord). in_order printed_cmp l ≡ l) c.self.view_is (shown_sorted c.self.inside.printed c.self.invariant.sorted)

pub returns-clause-named : goal.returns-clause-named
returns-clause-named c =
    let xs = c.self.inside.printed in
    if_some c.head.result (λ r. r.name ≡ c.args.name.now) (λ r e. name_is r.name c.args.name.now (head_on_name c.args.name.now xs r (sym c.head.ensures ∙ e)))
