use Rattle.std.proofs.Common.{◌≡◌, ◌<◌, ◌∙◌, ℕ, List, get_or, sym, ap, ap₂, length, arith}
use Rattle.std.proofs.lemmas.Bool.{ltb-true, ltb-false}
use Rattle.std.proofs.lemmas.List.{map-id}
use Rattle.paxos_block.specs.Shape.{Shape}
use Rattle.host.specs.Kept.{is_idle}
use Rattle.host.proofs.UnderWay.{begins_marking, known, refuses_marking}
use Rattle.host.proofs.Hosts.{kept_in}
use Rattle.host.proofs.host_core.HostCore.mark.Goals as goal

pub returns-in-Some : goal.returns-in-Some
returns-in-Some c c' h m leads =
    let k = kept_in c.self.inside in
    let led = known c' h m c.self.inside _ c.self.view_is leads in
    let idle = ap is_idle c.self.view_is ∙ c.requires.idle in
    let learned = sym (map-id c.learned.result.now) ∙ c.learned.ensures.learned in
    let there : length c.learned.result.now ≡ length k.learner.learned = ap length learned in
    let below : c.from.result < length c.learned.result.now = ltb-true c.from.result (length c.learned.result.now) (sym c.in-Some.ensures.lookup.0) in
    let inside : c.args.slot < length k.learner.learned = omega (arith, below, there, c.from.ensures) in
    let value = c.in-Some.ensures.lookup.1 ∙ ap₂ (λ (l : List (List ℕ)) (i : ℕ). get_or l i c.in-Some.value.now) learned c.from.ensures in
    begins_marking c' h m k led idle c.args.slot c.get-in-Some.result c.disks-disks.result c.in-Some.value.now c.new.result inside value (c.get-in-Some.ensures.value ∙ sym c.self.invariant.host) (c.disks-disks.ensures.value ∙ sym (ap (λ (s : Shape). s.disks) c.self.invariant.config)) c.new.ensures.leads

pub returns-in-None : goal.returns-in-None
returns-in-None c c' h m leads =
    let k = kept_in c.self.inside in
    let led = known c' h m c.self.inside _ c.self.view_is leads in
    let idle = ap is_idle c.self.view_is ∙ c.requires.idle in
    let learned = sym (map-id c.learned.result.now) ∙ c.learned.ensures.learned in
    let there : length c.learned.result.now ≡ length k.learner.learned = ap length learned in
    let beyond = ltb-false c.from.result (length c.learned.result.now) (sym c.in-None.ensures.lookup.0) in
    refuses_marking c' h m k led idle c.args.slot (omega (arith, beyond, there, c.from.ensures))
