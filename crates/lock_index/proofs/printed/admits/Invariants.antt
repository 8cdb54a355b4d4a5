use Rattle.std.proofs.Common.{◌≡◌, drop}
use Rattle.lock_command.specs.Locks.{admits}
use Rattle.lock_index.proofs.printed.admits.Given as goal

-- the rest decides
abbrev pub invariant-loop-at : goal.invariant-loop-at
invariant-loop-at l = admits l.printed l.lock l.name l.mode ≡ admits (drop l.at l.printed) l.lock l.name l.mode
