use Rattle.std.proofs.Common.{◌≡◌, ◌<◌, ◌+◌, ◌-◌, ◌/◌, ℕ, cond, nat_lt, sym, ap, ◌∙◌, inl, inr, arith}
use Rattle.std.proofs.lemmas.Bool.{cases_lt, lt-ltb, le-ltb}
use Rattle.lock_index.proofs.narrowing.lower.Goals as goal

told : (a b : ℕ) → a < 65536 → b < 65536 → (b + 65535 - a) / 65536 ≡ cond (nat_lt a b) 1 0
told a b one two = elim (cases_lt a b) as (λ w. (b + 65535 - a) / 65536 ≡ cond (nat_lt a b) 1 0) [
  | inl less ↦ let is : (b + 65535 - a) / 65536 ≡ 1 = omega (arith, less, one, two) in is ∙ ap {B = ℕ} (λ t. cond t 1 0) (sym (lt-ltb a b less))
  | inr not_less ↦ let is : (b + 65535 - a) / 65536 ≡ 0 = omega (arith, not_less, one, two) in is ∙ ap {B = ℕ} (λ t. cond t 1 0) (sym (le-ltb a b not_less))
]

pub returns-clause-lower : goal.returns-clause-lower
returns-clause-lower c = (λ i. (c.from.ensures i + 65535 - c.from-2.ensures i) / 65536) ∙ told c.args.a c.args.b (omega arith) (omega arith)
