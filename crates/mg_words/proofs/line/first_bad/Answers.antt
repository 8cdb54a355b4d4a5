-- No form takes the words, so no request is asked by them.
use Rattle.std.proofs.Common.{◌≤◌, ℕ, map, subst, sym}
use Rattle.mg_words.specs.Forms.{fitting}
use Rattle.mg_words.proofs.Lines.{never_both}
use Rattle.mg_words.proofs.line.first_bad.Goals as goal

pub returns : goal.returns
returns c = record {
  asks_nothing = λ request asks. never_both _ asks.taken (c.requires asks.form);
  no_further = λ other. subst (λ (n : ℕ). fitting other (map (λ word. word.now) c.args.words.now) ≤ n) (sym c.fitting-place.ensures) (c.furthest-form.ensures other);
  form = c.furthest-form.result;
  so_far = sym c.fitting-place.ensures;
  wanted = c.slot_at-wanted.ensures;
}
