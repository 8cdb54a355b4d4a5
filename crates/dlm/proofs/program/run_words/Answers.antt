-- Status 0 is that of a task that ended well.
use Rattle.std.proofs.Common.{arith}
use Rattle.script_files.proofs.Ending.{ended}
use Rattle.dlm.proofs.program.run_words.Goals as goal

pub returns-in-Ok-clause-done : goal.returns-in-Ok-clause-done
returns-in-Ok-clause-done g c = λ well. record {
  task = c.in-Ok.task;
  may = c.in-Ok.ensures;
  printed = ended c.carry_out.result _ c.finish.result c.finish.ensures.status well c.carry_out.ensures;
}

pub returns-in-Err-clause-done : goal.returns-in-Err-clause-done
returns-in-Err-clause-done g c = λ well. absurd (omega (arith, well, c.decline.ensures.some))
