use Rattle.std.proofs.Common.{◌≡◌, List, sym, ap, ◌∙◌}
use Rattle.lock_command.specs.declared.record.LockRecord.{LockRecord}
use Rattle.lock_index.specs.Placed.{in_order}
use Rattle.lock_index.specs.Printed.{printed_cmp}
use Rattle.lock_index.proofs.Shown.{shown_sorted}
use Rattle.lock_table.specs.Apply.{forgotten}
use Rattle.lock_table.proofs.Outcomes.{forgotten_locks}
use Rattle.lock_table.proofs.locks.Locks.forget.Goals as goal

pub returns-then-has_locks-clause-locks : goal.returns-then-has_locks-clause-locks
returns-then-has_locks-clause-locks c =
    let now = c.self.inside.index in
    sym c.self.view_is ∙ sym (shown_sorted now c.printed.ensures.sorted) ∙ ap (in_order printed_cmp) (sym (forgotten_locks now c.args.gone)) ∙ ap (λ (l : List LockRecord). in_order printed_cmp (forgotten l c.args.gone).locks) c.self.view_is

pub returns-clause-locks : goal.returns-clause-locks
returns-clause-locks c =
    let now = c.self.inside.index in
    sym c.self.view_is ∙ sym (shown_sorted now c.printed.ensures.sorted) ∙ ap (in_order printed_cmp) (sym (forgotten_locks now c.args.gone)) ∙ ap (λ (l : List LockRecord). in_order printed_cmp (forgotten l c.args.gone).locks) c.self.view_is
