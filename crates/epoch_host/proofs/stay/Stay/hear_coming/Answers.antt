use Rattle.std.proofs.Common.{subst}
use Rattle.attempt.specs.DeviceCalls.{device_answer}
use Rattle.standings.specs.Past.{MayCall, made}
use Rattle.coming.specs.Coming.{RaisesTowards}
use Rattle.epoch_deeds.specs.Deeds.{Deeds}
use Rattle.epoch_host.specs.Leading.{LeadsToStay}
use Rattle.epoch_host.specs.Staying.{IsDoing, call_due}
use Rattle.epoch_host.proofs.Going.{makes_then}
use Rattle.epoch_host.proofs.Leading.{coming_ended, coming_led}
use Rattle.epoch_host.proofs.stay.Stay.hear_coming.Goals as goal

pub returns-in_err-end-clause-makes : goal.returns-in_err-end-clause-makes
returns-in_err-end-clause-makes c k h deeds led =
    let s = c.args.self.now in
    let on = (subst (IsDoing s) c.in-Comes.is c.requires.sound.doing).on in
    coming_led k h deeds s led c.in-Comes.disk c.in-Comes.coming c.in-Comes.is c.hear.new.self (device_answer c.args.heard.now) on
    (λ n host past knows. subst (MayCall n host past) c.call-due.ensures.due (c.call-due.ensures.may n host past knows))
    (λ n host past knows. subst (RaisesTowards n host past c.in-Comes.coming) c.call-due.ensures.due (c.call-due.ensures.rises n host past knows))
    c.hear.ensures.knows c.hear.ensures.same.epoch

pub returns-then-eq-clause-makes : goal.returns-then-eq-clause-makes
returns-then-eq-clause-makes c k h deeds led =
    let s = c.args.self.now in
    let on = (subst (IsDoing s) c.in-Comes.is c.requires.sound.doing).on in
    coming_ended k h deeds s led c.in-Comes.disk c.in-Comes.coming c.in-Comes.is c.hear.new.self (device_answer c.args.heard.now) s.come on
    (λ n host past knows. subst (MayCall n host past) c.call-due.ensures.due (c.call-due.ensures.may n host past knows))
    (λ n host past knows. subst (RaisesTowards n host past c.in-Comes.coming) c.call-due.ensures.due (c.call-due.ensures.rises n host past knows))
    c.hear.ensures.knows c.hear.ensures.same.epoch

pub returns-clause-makes : goal.returns-clause-makes
returns-clause-makes c k h deeds led =
    let s = c.args.self.now in
    let on = (subst (IsDoing s) c.in-Comes.is c.requires.sound.doing).on in
    makes_then k h deeds _ (call_due s).0 (made (call_due s).1 (device_answer c.args.heard.now)) (λ (after : Deeds). LeadsToStay k h after c.come_from.new.self)
    (coming_ended k h deeds s led c.in-Comes.disk c.in-Comes.coming c.in-Comes.is c.hear.new.self (device_answer c.args.heard.now) _ on
    (λ n host past knows. subst (MayCall n host past) c.call-due.ensures.due (c.call-due.ensures.may n host past knows))
    (λ n host past knows. subst (RaisesTowards n host past c.in-Comes.coming) c.call-due.ensures.due (c.call-due.ensures.rises n host past knows))
    c.hear.ensures.knows c.hear.ensures.same.epoch)
    (λ after led. c.come_from.ensures.leads k h after led)
