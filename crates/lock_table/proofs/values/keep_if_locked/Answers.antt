use Rattle.std.proofs.Common.{sym, ◌∙◌}
use Rattle.lock_table.proofs.Stored.{own_locked, own_lost}
use Rattle.lock_table.proofs.values.keep_if_locked.Goals as goal

pub returns-then-not-has_locks : goal.returns-then-not-has_locks
returns-then-not-has_locks c =
    c.forget.ensures ∙ own_lost c.args.locks.now c.args.values.now c.args.name c.requires.others (sym c.has_locks.ensures ∙ c.if-not-has_locks.true)

pub returns-else-not-has_locks : goal.returns-else-not-has_locks
returns-else-not-has_locks c =
    own_locked c.args.locks.now c.args.values.now c.args.name c.requires.others (sym c.has_locks.ensures ∙ c.if-not-has_locks.false)
