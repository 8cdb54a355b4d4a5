use Rattle.std.proofs.Common.{refl}
use Rattle.fault_sweep.specs.Judging.{GoesByCommands}
use Rattle.fault_sweep.proofs.Comparing.{one_more_of_all, all_of_all}
use Rattle.fault_sweep.proofs.judging.judge_answers.Goals as goal

pub loop-answer-preserved : goal.loop-answer-preserved
loop-answer-preserved c =
    one_more_of_all (GoesByCommands c.args.log.now) c.args.answers.now c.args.answers.now c.loop-answer.answer-index c.answer-item.result refl c.loop-answer-test.true c.answer-item.is
    (c.in_ok-goes_by.ensures.0 c.if-not-branch.false) c.loop-answer.invariant

pub returns : goal.returns
returns c = (
  (λ t. all_of_all (GoesByCommands c.args.log.now) c.args.answers.now c.args.answers.now c.loop-answer.answer-index refl c.loop-answer-test.false c.loop-answer.invariant),
  (λ all. refl),
)
