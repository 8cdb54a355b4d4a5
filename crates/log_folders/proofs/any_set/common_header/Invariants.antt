use Rattle.log_folders.specs.AnySets.{AreOfSetBelow}
use Rattle.log_folders.proofs.any_set.common_header.Given as goal

abbrev pub invariant-loop-number : goal.invariant-loop-number
invariant-loop-number l = AreOfSetBelow l.found l.first l.number
