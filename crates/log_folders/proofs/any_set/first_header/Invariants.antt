use Rattle.log_folders.specs.AnySets.{AreRefusedBelow}
use Rattle.log_folders.proofs.any_set.first_header.Given as goal

abbrev pub invariant-loop-number : goal.invariant-loop-number
invariant-loop-number l = AreRefusedBelow l.found l.number
