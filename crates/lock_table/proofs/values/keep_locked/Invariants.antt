use Rattle.std.proofs.Common.{◌≡◌, ◌≤◌, length}
use Rattle.lock_table.specs.Stored.{is_locked}
use Rattle.lock_index.proofs.Partly.{partly}
use Rattle.lock_table.proofs.values.keep_locked.Given as goal

-- of what is behind is left what has to be
abbrev pub invariant-loop-at : goal.invariant-loop-at
invariant-loop-at l = (l.values ≡ partly (is_locked l.locks) l.initial.values l.at) × (l.at ≤ length l.initial.values)

abbrev pub decreases-loop-at : goal.decreases-loop-at
decreases-loop-at l = l.at
