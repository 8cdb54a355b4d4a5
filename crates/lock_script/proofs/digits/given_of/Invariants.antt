use Rattle.std.proofs.Common.{length}
use Rattle.lock_script.proofs.GivenLemmas.{IsRead}
use Rattle.lock_script.proofs.digits.given_of.Given as goal

abbrev pub invariant-loop-rest : goal.invariant-loop-rest
invariant-loop-rest l = IsRead l.word l.bytes.items l.rest

abbrev pub decreases-loop-rest : goal.decreases-loop-rest
decreases-loop-rest l = length l.rest
