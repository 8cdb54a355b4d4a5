use Rattle.fault_sweep.proofs.Following.{has_first, steps_also, not_first}
use Rattle.fault_sweep.proofs.replay.steps_of.Goals as goal

pub loop-many-preserved : goal.loop-many-preserved
loop-many-preserved c = steps_also c.args.events.now c.loop-many.many c.args.host _ c.loop-many-test.true c.index-events-many.is (c.is_step.ensures.step c.if-not-is_step.false) c.loop-many.invariant

pub returns-then-not-is_step-clause-some : goal.returns-then-not-is_step-clause-some
returns-then-not-is_step-clause-some c = not_first c.args.events.now c.loop-many.many c.args.host _ c.index-events-many.is (c.is_step.ensures.other c.if-not-is_step.true)

pub returns-clause-some : goal.returns-clause-some
returns-clause-some c = has_first c.args.events.now _
