use Rattle.std.proofs.Common.{length}
use Rattle.lock_script.specs.Draft.{so_far}
use Rattle.lock_script.proofs.Progress.{IsRead}
use Rattle.lock_script.proofs.reading.read_script.Given as goal

abbrev pub invariant-lines : goal.invariant-lines
invariant-lines l = IsRead l.bytes l.lines l.rest (so_far l.draft)

abbrev pub decreases-lines : goal.decreases-lines
decreases-lines l = length l.rest
