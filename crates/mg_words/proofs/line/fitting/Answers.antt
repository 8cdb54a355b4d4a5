-- The words before the place fit, and the one there does not, or there is none, or nothing stands there.
use Rattle.std.proofs.Common.{◌≡◌, ℕ, true, length, map, ◌∙◌, arith, below_more}
use Rattle.mg_words.specs.Forms.{fits_at, slots}
use Rattle.mg_words.specs.declared.keyword.Keyword.TheVariants.{Create}
use Rattle.mg_words.specs.declared.slot.Slot.TheVariants.{Word}
use Rattle.mg_words.proofs.Lines.{fits_here, upto}
use Rattle.mg_words.proofs.line.fitting.Goals as goal

pub returns-in_default : goal.returns-in_default
returns-in_default c =
    upto c.args.form c.slots-slots.result.now c.args.words.now c.loop-place.place c.slots-slots.ensures (omega arith) c.loop-place.invariant.there c.loop-place.invariant.fit
    (λ inside there. absurd (omega (arith, c.in_default.ensures.lookup.3)))

pub returns-then-not-fits : goal.returns-then-not-fits
returns-then-not-fits c =
    let look = c.in-Some.ensures.lookup in
    let here =
    fits_here c.args.form c.slots-slots.result.now c.args.words.now c.loop-place.place (Word Create) c.in-Some.word.now c.fits.result c.slots-slots.ensures c.loop-place-test.true look.3.0 look.1 c.fits.ensures in
    upto c.args.form c.slots-slots.result.now c.args.words.now c.loop-place.place c.slots-slots.ensures (omega arith) c.loop-place.invariant.there c.loop-place.invariant.fit
    (λ inside there. here ∙ c.if-not-fits.true)

pub loop-place-preserved : goal.loop-place-preserved
loop-place-preserved c =
    let look = c.in-Some.ensures.lookup in
    let here =
    fits_here c.args.form c.slots-slots.result.now c.args.words.now c.loop-place.place (Word Create) c.in-Some.word.now c.fits.result c.slots-slots.ensures c.loop-place-test.true look.3.0 look.1 c.fits.ensures in
    record {
      there = omega (arith, look.3.0);
      fit =
          below_more (λ (k : ℕ). fits_at (slots c.args.form) (map (λ word. word.now) c.args.words.now) k ≡ true) c.loop-place.place c.loop-place.invariant.fit
          (here ∙ c.if-not-fits.false);
    }

pub returns : goal.returns
returns c =
    upto c.args.form c.slots-slots.result.now c.args.words.now (length c.slots-slots.result.now) c.slots-slots.ensures (omega arith) (omega (arith, c.loop-place.invariant.there))
    (λ k below. c.loop-place.invariant.fit k (omega arith)) (λ inside there. absurd (omega arith))
