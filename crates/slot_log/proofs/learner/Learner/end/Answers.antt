use Rattle.std.proofs.Common.{ap}
use Rattle.phases.specs.Calls.{end_as}
use Rattle.slot_log.specs.Learning.{with_floor}
use Rattle.slot_log.specs.Kept.{task_as}
use Rattle.slot_log.proofs.Learners.{counted, outrun}
use Rattle.slot_log.proofs.learner.Learner.end.Goals as goal

pub returns-else-task-le1-clause-leads : goal.returns-else-task-le1-clause-leads
returns-else-task-le1-clause-leads g c c' h m t ballot of leads =
    let v = g.L.Layout.version in
    let spelled = g.L.Layout.spelled in
    outrun v c' h m t (task_as spelled c.args.task) ballot c.in-Outrun.mbal (end_as spelled c.args.end) c.begin.new.self (ap (end_as spelled) c.in-Outrun.is) of c.if-task-le1.false
    (c.begin.ensures.leads c' h (with_floor (with_floor m ballot) c.in-Outrun.mbal)
    (counted v c' h (with_floor m ballot) c.args.self.now c.count_ballot.new.self _ _ c.in-Outrun.mbal leads c.requires.idle c.count_ballot.ensures))
