use Rattle.std.proofs.Common.{ℕ, ◌∙◌, subst}
use Rattle.torn_block.specs.Layout.{cluster_version}
use Rattle.paxos_block.specs.Places.{image_length}
use Rattle.coming.specs.Coming.{Knows}
use Rattle.epoch_deeds.specs.Deeds.{Deeds}
use Rattle.epoch_host.specs.declared.stay.Doing.TheVariants.{Comes}
use Rattle.epoch_host.specs.Leading.{LeadsToStay}
use Rattle.epoch_host.proofs.Going.{goes_none}
use Rattle.epoch_host.proofs.Leading.{comes_led}
use Rattle.epoch_host.proofs.stay.Stay.come_on.Goals as goal

pub returns-clause-leads : goal.returns-clause-leads
returns-clause-leads c k h deeds led =
    let s = c.args.self.now in
    let notes = c.new-coming.result in
    goes_none k h deeds (λ (after : Deeds). LeadsToStay k h after (record s { window = c.forget.new.self; doing = Comes c.args.disk notes }))
    (comes_led k h deeds s led c.args.disk c.forget.new.self notes c.forget.ensures.follows c.forget.ensures.forgotten c.forget.ensures.rests
    (λ past.
    subst (λ (slots : ℕ). Knows (image_length cluster_version slots) s.host past notes) c.slots.ensures.value
    (subst (λ (host : ℕ). Knows (image_length cluster_version c.slots.result) host past notes) c.get.ensures.value (c.new-coming.ensures.knows past)))
    (c.new-coming.ensures.of.2 ∙ c.new.ensures))
