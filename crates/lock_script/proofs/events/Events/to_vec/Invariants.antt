use Rattle.std.proofs.Common.{◌≡◌, ◌++◌, drop}
use Rattle.lock_script.specs.Events.{each_event}
use Rattle.lock_script.proofs.events.Events.to_vec.Given as goal

-- the events so far, and those of the runs that are left
abbrev pub invariant-loop-run : goal.invariant-loop-run
invariant-loop-run l = l.events.items ++ each_event (drop l.run-index l.run-items) ≡ l.self
