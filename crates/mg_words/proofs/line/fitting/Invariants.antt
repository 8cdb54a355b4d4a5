use Rattle.std.proofs.Common.{◌≡◌, ◌<◌, ◌≤◌, ℕ, true, length, map}
use Rattle.mg_words.specs.Forms.{fits_at, slots}
use Rattle.mg_words.proofs.line.fitting.Given as goal

-- each word before this place is there, and fits
abbrev pub invariant-loop-place : goal.invariant-loop-place
invariant-loop-place l = record {
  there : l.place ≤ length l.words;
  fit : (k : ℕ) → k < l.place → fits_at (slots l.fn.form) (map (λ word. word.now) l.words) k ≡ true;
}
