use Rattle.std.proofs.Common.{subst}
use Rattle.fault_sweep.specs.Replayed.{GoesOn}
use Rattle.fault_sweep.proofs.Following.{fewer_steps}
use Rattle.fault_sweep.proofs.replay.Replay.follow_first.Goals as goal

pub returns-in_ok-made-in-Step-clause-happened : goal.returns-in_ok-made-in-Step-clause-happened
returns-in_ok-made-in-Step-clause-happened c =
    let steps = c.in_ok-made-in-Step in
    subst (GoesOn c.args.self.now c.happen_steps.new.self)
    (fewer_steps c.args.events.now c.in-Step.host steps.made c.steps_of.result steps.ensures.made.1 c.steps_of.ensures.steps) steps.ensures.happened
