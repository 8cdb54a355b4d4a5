use Rattle.std.specs.Prelude.{All}
use Rattle.std.proofs.Common.{take}
use Rattle.fault_sweep.specs.Judging.{GoesByCommands}
use Rattle.fault_sweep.proofs.judging.judge_answers.Given as goal

abbrev pub invariant-loop-answer : goal.invariant-loop-answer
invariant-loop-answer l = All (GoesByCommands l.log) (take l.answer-index l.answers)
