use Rattle.std.specs.Prelude.{slice_index}
use Rattle.std.proofs.Common.{ℕ, ap, subst}
use Rattle.std.proofs.lemmas.Bool.{ltb-true, ltb-false}
use Rattle.epoch_images.specs.Working.{RunsBefore}
use Rattle.epoch_images.proofs.Doing.{runs_before, runs_not_before, runs_nowhere}
use Rattle.epoch_images.proofs.operation.takes_no_part.Goals as goal

pub returns-in-Some-clause-none : goal.returns-in-Some-clause-none
returns-in-Some-clause-none c = λ early s h deeds leads.
    subst (λ (k : ℕ). RunsBefore s h (slice_index c.args.firsts.now k) deeds) c.from.ensures
    (runs_before s h (slice_index c.args.firsts.now c.from.result) c.in-Some.epoch deeds (c.in-Some.ensures.known s h deeds leads)
    (ltb-true c.in-Some.epoch (slice_index c.args.firsts.now c.from.result) early))

pub returns-in-Some-clause-part : goal.returns-in-Some-clause-part
returns-in-Some-clause-part c = λ late s h deeds leads.
    subst (λ (k : ℕ). RunsBefore s h (slice_index c.args.firsts.now k) deeds → ⊥) c.from.ensures
    (runs_not_before s h (slice_index c.args.firsts.now c.from.result) c.in-Some.epoch deeds (c.in-Some.ensures.known s h deeds leads)
    (ltb-false c.in-Some.epoch (slice_index c.args.firsts.now c.from.result) late))

pub returns-in-None-clause-part : goal.returns-in-None-clause-part
returns-in-None-clause-part c = λ late s h deeds leads. runs_nowhere s h (slice_index c.args.firsts.now c.args.disk) deeds (c.in-None.ensures.known s h deeds leads)
