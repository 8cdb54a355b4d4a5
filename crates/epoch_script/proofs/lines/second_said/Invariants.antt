use Rattle.std.proofs.Common.{length}
use Rattle.epoch_script.proofs.Seconds.{IsCounted}
use Rattle.epoch_script.proofs.lines.second_said.Given as goal

abbrev pub invariant-lines : goal.invariant-lines
invariant-lines l = IsCounted l.bytes l.number l.rest l.one_said

abbrev pub decreases-lines : goal.decreases-lines
decreases-lines l = length l.rest
