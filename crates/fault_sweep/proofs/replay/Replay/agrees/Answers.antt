use Rattle.std.specs.Prelude.{IfOk, IsTrue, ◌↔◌}
use Rattle.std.proofs.Common.{List, ap, ◌∙◌, subst}
use Rattle.simulator.specs.declared.answer.Answer.{Answer}
use Rattle.fault_sweep.specs.Judging.{AllGoBy}
use Rattle.fault_sweep.specs.Replayed.{Played}
use Rattle.fault_sweep.proofs.replay.Replay.agrees.Goals as goal

pub returns : goal.returns
returns c =
    subst (λ (l : List Answer). IfOk c.judge_answers.result (λ right. IsTrue right ↔ AllGoBy c.args.log.now l))
    (c.deref.ensures.value ∙ ap (λ (r : Played). r.report) c.self.view_is) c.judge_answers.ensures
