use Rattle.std.proofs.Common.{refl}
use Rattle.torn_block.specs.Layout.{cluster_version}
use Rattle.attempt.specs.DeviceCalls.{call_of_need}
use Rattle.attempt.specs.declared.heard.Heard.TheVariants as answer
use Rattle.host.specs.Kept.{values_with}
use Rattle.host.proofs.UnderWay.{beat_next, known, look_next, marking_next}
use Rattle.host.proofs.Hosts.{attempt_next}
use Rattle.host.proofs.host_core.HostCore.call.Goals as goal

pub returns-in-Nothing-clause-next : goal.returns-in-Nothing-clause-next
returns-in-Nothing-clause-next c c' h m leads =
    let k = c.self.inside.learner in
    let led = known c' h m c.self.inside _ c.self.view_is leads in
    attempt_next c' h m k.said m.doing refl (call_of_need cluster_version c.call.result) (c.call.ensures.next c' h (values_with k.said m) led.learner)

pub returns-in-Look-clause-next : goal.returns-in-Look-clause-next
returns-in-Look-clause-next c c' h m leads =
    look_next c' h m c.self.inside _ c.self.view_is leads c.in-Look.look c.in-Look.is answer.Done (call_of_need cluster_version c.call-in-Look.result) c.call-in-Look.ensures.next

pub returns-in-Beat-clause-next : goal.returns-in-Beat-clause-next
returns-in-Beat-clause-next c c' h m leads =
    beat_next c' h m c.self.inside _ c.self.view_is leads c.in-Beat.beat c.in-Beat.is c.self.invariant.alone answer.Done (call_of_need cluster_version c.call-in-Beat.result) c.call-in-Beat.ensures.next

pub returns-in-Mark-clause-next : goal.returns-in-Mark-clause-next
returns-in-Mark-clause-next c c' h m leads =
    marking_next c' h m c.self.inside _ c.self.view_is leads c.in-Mark.marking c.in-Mark.is answer.Done (call_of_need cluster_version c.call-in-Mark.result) c.call-in-Mark.ensures.next
