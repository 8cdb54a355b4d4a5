use Rattle.std.proofs.Common.{◌≡◌, ℕ, List, ◌++◌, Option, None, sym, ◌∙◌, ap, subst}
use Rattle.std.specs.Option.{option_map}
use Rattle.attempt.specs.Answers.{Answered}
use Rattle.lock_command.specs.declared.command.Command.{Command}
use Rattle.lock_command.specs.Reading.{decoded}
use Rattle.lock_command.specs.declared.reply.Reply.{Reply}
use Rattle.torn_block.specs.Layout.{cluster_version}
use Rattle.attempt.specs.DeviceCalls.{heard_of}
use Rattle.slot_log.specs.Learning as log
use Rattle.slot_log.specs.declared.outcome.LogOutcome.{LogOutcome}
use Rattle.host.specs.Host.{hears, reply_after}
use Rattle.host.specs.Kept.{Kept, values_with, answer_of, option_list}
use Rattle.host.proofs.UnderWay.{attempt_alone, attempt_doing, attempt_few, attempt_hears, attempt_stays, known}
use Rattle.host.proofs.Hosts.{Carries, follows, heard_none, heard_value, operating-hears}
use Rattle.host.proofs.host_core.HostCore.hear_attempt.Goals as goal

pub returns-in_default-clause-leads : goal.returns-in_default-clause-leads
returns-in_default-clause-leads c c' h m leads =
    let s = c.self.inside in
    let new : Kept = record { learner = c.hear.new.self; prefix = s.prefix.items; said = c.tell.new.said; beside = s.beside; readings = s.readings } in
    let x : Answered = record { disk = s.learner.attempt.disk; heard = heard_of cluster_version c.args.heard.now } in
    let led = known c' h m s _ c.self.view_is leads in
    let busy = attempt_doing c' h m s _ c.self.view_is leads c.requires.alone c.requires.busy in
    let before = values_with s.learner.said m in
    let l = log.hears cluster_version c' h before before.doing x in
    let leads' = c.hear.ensures.leads c' h before led.learner in
    let after = heard_none c' h s.learner.said m busy.0 x busy.1 (sym (c.offered.ensures.value c' h l leads') ∙ ap (option_map (λ (value : List ℕ). value)) c.in_default.is) in
    attempt_hears c' h m s _ c.self.view_is leads c.requires.alone c.requires.busy c.args.heard.now new
    (follows c' h (hears c' h m busy.0 x) l new None leads' after.0
    (led.prefix ∙ sym after.1)
    (c.tell.ensures ∙ ap (λ (o : Option LogOutcome). answer_of o None) c.said.ensures.said)
    after.2
    (led.readings ∙ sym (operating-hears c' h m busy.0 x).readings)
    (attempt_stays c' h m s _ c.self.view_is leads c.requires.alone c.requires.busy x))

pub returns-clause-leads : goal.returns-clause-leads
returns-clause-leads c c' h m leads =
    let s = c.self.inside in
    let new : Kept = record { learner = c.judge-reply.new.learner; prefix = c.judge-reply.new.prefix.items; said = c.of-self-inside.result; beside = s.beside; readings = s.readings } in
    let x : Answered = record { disk = s.learner.attempt.disk; heard = heard_of cluster_version c.args.heard.now } in
    let value = c.in-Some.value in
    let led = known c' h m s _ c.self.view_is leads in
    let busy = attempt_doing c' h m s _ c.self.view_is leads c.requires.alone c.requires.busy in
    let before = values_with s.learner.said m in
    let l = log.hears cluster_version c' h before before.doing x in
    let leads' = c.hear.ensures.leads c' h before led.learner in
    let after = heard_value c' h s.learner.said m busy.0 x busy.1 value (sym (c.offered.ensures.value c' h l leads') ∙ ap (option_map (λ (value : List ℕ). value)) c.in-Some.is) in
    let reply : c.judge-reply.result ≡ option_map (reply_after m.learned) (decoded value) =
    c.judge-reply.ensures.reply ∙ ap (λ (before : List Command). option_map (reply_after before) (decoded value)) led.prefix in
    let IsCarried : Option Reply → Type 0 = λ r. Carries r (hears c' h m busy.0 x).said in
    attempt_hears c' h m s _ c.self.view_is leads c.requires.alone c.requires.busy c.args.heard.now new
    (follows c' h (hears c' h m busy.0 x) _ new c.judge-reply.result (c.judge-reply.ensures.leads c' h l leads') after.0
    (c.judge-reply.ensures.prefix ∙ ap (λ (before : List Command). before ++ option_list (decoded value)) led.prefix ∙ sym after.1)
    (c.of-self-inside.ensures ∙ ap (λ (o : Option LogOutcome). answer_of o c.judge-reply.result) c.said-2.ensures.said)
    (subst IsCarried (sym reply) after.2)
    (led.readings ∙ sym (operating-hears c' h m busy.0 x).readings)
    (attempt_stays c' h m s _ c.self.view_is leads c.requires.alone c.requires.busy x))

pub returns-in_default-clause-alone : goal.returns-in_default-clause-alone
returns-in_default-clause-alone c c' h m leads =
    attempt_alone c' h m c.self.inside _ c.self.view_is leads c.requires.alone c.requires.busy (heard_of cluster_version c.args.heard.now) (c.hear.ensures.alone c' h)

pub returns-clause-alone : goal.returns-clause-alone
returns-clause-alone c c' h m leads =
    attempt_alone c' h m c.self.inside _ c.self.view_is leads c.requires.alone c.requires.busy (heard_of cluster_version c.args.heard.now) (c.hear.ensures.alone c' h)

pub returns-in_default-clause-few : goal.returns-in_default-clause-few
returns-in_default-clause-few c c' h m leads = attempt_few c' h m c.self.inside _ c.self.view_is leads c.requires.alone c.requires.busy

pub returns-clause-few : goal.returns-clause-few
returns-clause-few c c' h m leads = attempt_few c' h m c.self.inside _ c.self.view_is leads c.requires.alone c.requires.busy
