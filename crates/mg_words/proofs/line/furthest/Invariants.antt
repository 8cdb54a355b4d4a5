use Rattle.std.proofs.Common.{◌≡◌, ◌<◌, ◌≤◌, ℕ, get_or, map}
use Rattle.mg_words.specs.Forms.{fitting, forms}
use Rattle.mg_words.specs.declared.form.Form.TheVariants.{Create}
use Rattle.mg_words.proofs.line.furthest.Given as goal

-- no form before this one has room for more words than the best
abbrev pub invariant-loop-form : goal.invariant-loop-form
invariant-loop-form l = record {
  best : fitting l.best (map (λ word. word.now) l.words) ≡ l.most;
  most : (k : ℕ) → k < l.form-index → fitting (get_or forms k Create) (map (λ word. word.now) l.words) ≤ l.most;
}
