use Rattle.std.proofs.Common.{◌≡◌, ◌∙◌, [], length, sym, ap, subst, arith}
use Rattle.std.proofs.lemmas.List.{length-map, map-id}
use Rattle.lock_command.specs.Command.{spelling}
use Rattle.rounds.specs.Look.Kept as look_kept
use Rattle.rounds.specs.Look.Status as look
use Rattle.paxos_block.specs.Shape.{Shape}
use Rattle.host.specs.Host.{look_of}
use Rattle.host.specs.Kept.{is_idle}
use Rattle.host.proofs.UnderWay.{begins_look, known, looked_all}
use Rattle.host.proofs.Hosts.{kept_in}
use Rattle.host.proofs.host_core.HostCore.look_on.Goals as goal

pub returns-then-slot-slots-clause-leads : goal.returns-then-slot-slots-clause-leads
returns-then-slot-slots-clause-leads c c' h m leads =
    let led = known c' h m c.self.inside _ c.self.view_is leads in
    let idle = ap is_idle c.self.view_is ∙ c.requires.idle in
    let there : length c.learned.result.now ≡ length m.learned = ap length (sym (map-id c.learned.result.now) ∙ c.learned.ensures.learned) ∙ ap length led.learner.learned ∙ length-map m.learned spelling in
    let disks = c.disks.ensures.value ∙ sym (ap (λ (s : Shape). s.disks) c.self.invariant.config) ∙ ap (λ (s : Shape). s.disks) led.learner.shape in
    let slots = c.slots.ensures.value ∙ sym (ap (λ (s : Shape). s.slots) c.self.invariant.config) ∙ ap (λ (s : Shape). s.slots) led.learner.shape in
    let below = c.if-slot-slots.true in
    let setup : record { slot = length c.learned.result.now; disks = c.disks.result; first = c.args.first } ≡ look_of c' m c.args.first = (λ i. record { slot = there i; disks = disks i; first = c.args.first }) in
    begins_look c' h m (kept_in c.self.inside) led idle c.args.first c.new.result (omega (arith, below, there, slots))
    (subst (λ (s : look.Setup). look_kept.LeadsTo s [] c.new.result) setup c.new.ensures.leads)

pub returns-else-slot-slots-clause-leads : goal.returns-else-slot-slots-clause-leads
returns-else-slot-slots-clause-leads c c' h m leads =
    let led = known c' h m c.self.inside _ c.self.view_is leads in
    let idle = ap is_idle c.self.view_is ∙ c.requires.idle in
    let there : length c.learned.result.now ≡ length m.learned = ap length (sym (map-id c.learned.result.now) ∙ c.learned.ensures.learned) ∙ ap length led.learner.learned ∙ length-map m.learned spelling in
    let slots = c.slots.ensures.value ∙ sym (ap (λ (s : Shape). s.slots) c.self.invariant.config) ∙ ap (λ (s : Shape). s.slots) led.learner.shape in
    let full = c.if-slot-slots.false in
    looked_all c' h m (kept_in c.self.inside) led idle c.args.first (length c.learned.result.now) there (omega (arith, full, there, slots))
