use Rattle.folders.proofs.Sets.{IsFoundBelow}
use Rattle.folders.proofs.set.common_header.Given as goal

abbrev pub invariant-loop-number : goal.invariant-loop-number
invariant-loop-number l = IsFoundBelow l.found l.first l.number
