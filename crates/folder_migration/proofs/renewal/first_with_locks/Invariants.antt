use Rattle.std.proofs.Common.{◌≡◌, None, find, take}
use Rattle.lock_table.specs.Apply.{has_locks}
use Rattle.folder_migration.proofs.renewal.first_with_locks.Given as goal

-- none so far
abbrev pub invariant-loop-at : goal.invariant-loop-at
invariant-loop-at l = find (has_locks l.table.locks) (take l.at l.clients) ≡ None
