use Rattle.std.proofs.Common.{List, ℕ, Option, None, sym, ◌∙◌, ap}
use Rattle.slot_log.specs.Learning as log
use Rattle.slot_log.specs.declared.operation.Operation.TheVariants as operation
use Rattle.slot_log.specs.declared.outcome.LogOutcome.{LogOutcome}
use Rattle.host.specs.Host.{Submitting, goes_on}
use Rattle.host.specs.Kept.{values_of, values_with, answer_of, is_idle}
use Rattle.host.proofs.UnderWay.{known}
use Rattle.host.proofs.Hosts.{carries-goes_on, follows, idles, kept_in, learned-goes_on, operating-goes_on, operating_alone, values_of-goes_on}
use Rattle.host.proofs.host_core.HostCore.submit.Goals as goal

pub returns : goal.returns
returns c c' h m leads =
    let s = c.self.inside in
    let tries = c.args.tries in
    let operation_is = Submitting c.args.command in
    let led = known c' h m s _ c.self.view_is leads in
    let stays = operating-goes_on c' m operation_is tries in
    let idle = idles (kept_in s) (ap is_idle c.self.view_is ∙ c.requires.idle) in
    follows c' h (goes_on c' m operation_is tries) _ (record { learner = c.place.new.self; prefix = s.prefix.items; said = c.of-self-inside.result; beside = s.beside; readings = s.readings }) None
    (c.place.ensures.leads c' h (values_with s.learner.said m) led.learner)
    (ap (λ (value : List ℕ). log.goes_on c' (values_of m) (operation.Placing value) tries) c.encode.ensures.spelling ∙ values_of-goes_on c' m operation_is tries)
    (led.prefix ∙ sym (learned-goes_on c' m operation_is tries))
    (c.of-self-inside.ensures ∙ ap (λ (o : Option LogOutcome). answer_of o None) c.said.ensures.said)
    (carries-goes_on None c' m operation_is tries)
    (led.readings ∙ sym stays.readings)
    (operating_alone c' h (goes_on c' m operation_is tries) s.beside idle.alone stays.doing)
