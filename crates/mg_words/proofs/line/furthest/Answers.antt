-- A form is the best of one more.
use Rattle.std.proofs.Common.{◌≡◌, ◌≤◌, ◌∙◌, ℕ, map, get_or, ap, subst, sym, arith, below_more}
use Rattle.mg_words.specs.Forms.{fitting, forms}
use Rattle.mg_words.specs.declared.form.Form.{Form}
use Rattle.mg_words.specs.declared.form.Form.TheVariants.{Create}
use Rattle.mg_words.proofs.EachForm.{of_each}
use Rattle.mg_words.proofs.line.furthest.Goals as goal
use Rattle.mg_words.proofs.line.furthest.Goals.{then-most-many, else-most-many}

pub loop-form-preserved : goal.loop-form-preserved
loop-form-preserved c =
    let many = λ (form : Form). fitting form (map (λ word. word.now) c.args.words.now) in
    let here : many (get_or forms c.loop-form.form-index Create) ≡ c.fitting-many.result = sym c.fitting-many.ensures in
    elim c.if-most-many.branch [
      | then-most-many w ↦ record {
        best = ap many w.best-is ∙ (here ∙ sym w.most-is);
        most =
            below_more (λ (k : ℕ). many (get_or forms k Create) ≤ c.if-most-many.most) c.loop-form.form-index
            (λ k below. omega (arith, c.loop-form.invariant.most k below, w.most-is, w.if-most-many.true))
            (omega (arith, here, w.most-is));
      }
      | else-most-many w ↦ record {
        best = ap many w.best-is ∙ (c.loop-form.invariant.best ∙ sym w.most-is);
        most =
            below_more (λ (k : ℕ). many (get_or forms k Create) ≤ c.if-most-many.most) c.loop-form.form-index
            (λ k below. omega (arith, c.loop-form.invariant.most k below, w.most-is))
            (omega (arith, here, w.most-is, w.if-most-many.false));
      }
    ]

pub returns : goal.returns
returns c =
    of_each (λ (form : Form). fitting form (map (λ word. word.now) c.args.words.now) ≤ fitting c.loop-form.best (map (λ word. word.now) c.args.words.now))
    (λ k below. subst (λ (n : ℕ). fitting (get_or forms k Create) (map (λ word. word.now) c.args.words.now) ≤ n) (sym c.loop-form.invariant.best) (c.loop-form.invariant.most k (omega arith)))
