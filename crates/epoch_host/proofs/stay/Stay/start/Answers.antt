use Rattle.std.proofs.Common.{◌≡◌, ℕ, sym, ◌∙◌, subst, refl}
use Rattle.paxos_block.specs.Shape.{Shape}
use Rattle.host.specs.Host.{fresh}
use Rattle.host.specs.Kept.{LeadsTo}
use Rattle.epoch_host.proofs.Going.{goes_then}
use Rattle.epoch_host.proofs.Leading.{starts_led}
use Rattle.epoch_host.proofs.stay.Stay.start.Goals as goal

pub returns-clause-starts : goal.returns-clause-starts
returns-clause-starts c k h deeds config host stopped opened over =
    let of : c.args.config ≡ k = sym c.come_from.ensures.same.config ∙ config in
    let own : c.args.host ≡ h = sym c.come_from.ensures.same.host ∙ host in
    goes_then k h deeds _ _
    (starts_led k h deeds _ refl of own stopped opened over
    (subst (λ (x : ℕ). LeadsTo k x fresh c.in_ok-core.core) own (subst (λ (x : Shape). LeadsTo x c.args.host fresh c.in_ok-core.core) of c.in_ok-core.ensures))
    c.new-window.ensures.follows c.new-window.ensures.rests)
    (λ after led. c.come_from.ensures.leads k h after led)
