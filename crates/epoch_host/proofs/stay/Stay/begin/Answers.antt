use Rattle.std.proofs.Common.{Option, ◌∙◌, subst}
use Rattle.std.specs.Prelude.{IfSome, Some}
use Rattle.epoch_host.specs.declared.stay.Leave.{Leave}
use Rattle.epoch_host.specs.Staying.{IsSoLeft}
use Rattle.epoch_host.proofs.Leading.{given_led, stays_as}
use Rattle.epoch_host.proofs.stay.Stay.begin.Goals as goal

pub returns-in-Some-clause-left : goal.returns-in-Some-clause-left
returns-in-Some-clause-left c = subst (λ (o : Option Leave). IfSome o (λ leave. IsSoLeft c.args.task.now (Some leave) c.args.self.now)) c.in-Some.is c.at_once.ensures.left

pub returns-in-Some-clause-silent : goal.returns-in-Some-clause-silent
returns-in-Some-clause-silent c said is = c.at_once.ensures.silent said (c.in-Some.is ∙ is)

pub returns-in-Some-clause-leads : goal.returns-in-Some-clause-leads
returns-in-Some-clause-leads c = stays_as c.args.self.now

pub returns-clause-leads : goal.returns-clause-leads
returns-clause-leads c k h deeds led = c.come_from.ensures.leads k h deeds (given_led k h deeds c.args.self.now c.args.task.now c.tries_of-self.result led)
