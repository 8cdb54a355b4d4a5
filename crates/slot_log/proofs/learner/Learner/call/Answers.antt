use Rattle.attempt.specs.DeviceCalls.{call_of_need}
use Rattle.slot_log.specs.Kept.{kept_of, Kept}
use Rattle.slot_log.proofs.Learners.{call_next}
use Rattle.slot_log.proofs.learner.Learner.call.Goals as goal

pub returns-clause-next : goal.returns-clause-next
returns-clause-next g c c' h m leads =
    let v = g.L.Layout.version in
    let spelled = g.L.Layout.spelled in
    let s = c.self.inside in
    let k : Kept = kept_of spelled s.host s.config s.learned.items s.floor s.task s.attempt s.said in
    call_next v c' h m k c.args.self.now c.self.view_is leads c.requires.busy (call_of_need v c.call.result) c.call.ensures.next
