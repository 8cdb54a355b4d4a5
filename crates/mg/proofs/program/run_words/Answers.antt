-- Status 0 is that of a task that ended well, and 2 that of wrong words.
use Rattle.std.proofs.Common.{arith}
use Rattle.script_files.proofs.Ending.{ended, never_two}
use Rattle.mg.proofs.program.run_words.Goals as goal

pub returns-in-Ok-clause-done : goal.returns-in-Ok-clause-done
returns-in-Ok-clause-done g c = λ well. record {
  request = c.in-Ok.request;
  asked = c.in-Ok.ensures.asked;
  done = ended c.carry_out.result _ c.finish.result c.finish.ensures.status well c.carry_out.ensures;
}

pub returns-in-Ok-clause-wrong : goal.returns-in-Ok-clause-wrong
returns-in-Ok-clause-wrong g c = λ two. absurd (never_two c.carry_out.result c.finish.result c.finish.ensures.status two)

pub returns-in-Err-clause-done : goal.returns-in-Err-clause-done
returns-in-Err-clause-done g c = λ well. absurd (omega (arith, well, c.decline.ensures.some))

pub returns-in-Err-clause-wrong : goal.returns-in-Err-clause-wrong
returns-in-Err-clause-wrong g c = λ two. record { fault = c.in-Err.fault; wrong = c.in-Err.ensures.wrong; own = c.decline.ensures.usage.0 two }
