use Rattle.std.proofs.Common.{◌≡◌, ◌≤◌, ◌+◌, refl, rules, sym, ◌∙◌, subst}
use Rattle.lock_table.specs.Apply.{table_after}
use Rattle.epoch_host.specs.declared.over.Over.TheVariants.{Known}
use Rattle.epoch_host.specs.declared.stay.Arrival.{Arrival}
use Rattle.epoch_host.specs.declared.stay.Errand.TheVariants.{Works}
use Rattle.epoch_host.specs.declared.stay.Stay.{Stay}
use Rattle.epoch_host.specs.declared.walk.Whereabouts.TheVariants.{In}
use Rattle.epoch_host.specs.Staying.{learned_of}
use Rattle.epoch_host.specs.Walking.{IsStaying}
use Rattle.epoch_host.proofs.Carrying.{shown_beside}
use Rattle.epoch_host.proofs.Moving.{goes_next, same_place}
use Rattle.epoch_host.proofs.walk.Walk.go_on.Goals as goal

pub carried_over-requires : goal.carried_over-requires
carried_over-requires c = record { beside = shown_beside c.table.result.now (table_after c.in-In.stay.core.prefix) c.table.ensures.table }

pub returns-in_err-values-clause-leads : goal.returns-in_err-values-clause-leads
returns-in_err-values-clause-leads c = same_place c.args.self.now c.args.self.now refl refl refl

pub returns-in_err-extend_from_slice-clause-leads : goal.returns-in_err-extend_from_slice-clause-leads
returns-in_err-extend_from_slice-clause-leads c = same_place c.args.self.now c.args.self.now refl refl refl

pub returns-clause-leads : goal.returns-clause-leads
returns-clause-leads c =
    let s = c.requires.stays in
    let both : In s.0 ≡ In c.in-In.stay = sym s.1 ∙ c.in-In.is in
    let same : s.0 ≡ c.in-In.stay = cc in
    let staying : IsStaying c.args.self.now c.in-In.stay = subst (IsStaying c.args.self.now) same s.2 in
    let full : c.in-In.stay.config.slots ≤ learned_of c.in-In.stay = subst (λ (x : Stay). x.config.slots ≤ learned_of x) same s.4 in
    let arrival : Arrival = record { epoch = c.in-In.stay.epoch + 1; errand = Works; over = Known c.in_ok-values.values c.extend_from_slice.new.self } in
    let kept : c.extend_from_slice.new.self.items ≡ c.in-In.stay.core.prefix = search rules in
    goes_next c.args.self.now c.enter.new.self c.in-In.stay arrival c.table.result.now c.in_ok-values.values c.extend_from_slice.new.self c.in-In.is full staying.sound.learned.0 c.table.ensures.table c.in_ok-values.ensures.bytes c.in_ok-values.ensures.spelled kept refl
    refl c.enter.ensures.enters

pub refuse-requires : goal.refuse-requires
refuse-requires c = record { cause = λ task is k h deeds led. tt }
