-- How many disks pass a test.
use Rattle.std.proofs.Common.{ℕ, zero, suc, ◌+◌, ◌<◌, ◌≤◌, ◌≡◌, ◌≢◌, ◌⊎◌, Bool, true, false, cond, inl, inr, refl, sym, ap, ◌∙◌, arith}
use Rattle.std.proofs.lemmas.Bool.{cases_eq}
use Rattle.attempt.specs.Numbers.{count}
use Rattle.attempt.proofs.Firsts.{count_same}

-- where one number more passes, the count is one more
pub count_one_more : (n : ℕ) (p q : ℕ → Bool) (d : ℕ) → d < n → p d ≡ false → q d ≡ true → ((e : ℕ) → e ≢ d → q e ≡ p e) → count n q ≡ count n p + 1
count_one_more zero p q d l was now same = absurd (omega arith)
count_one_more (suc n) p q d l was now same = elim (cases_eq d n) [
  | inl here ↦
      (let before = count_same n q p (λ e less. same e (λ (is : e ≡ d). absurd (omega arith))) in
      let no : ℕ = 0 in
      let one : ℕ = 1 in
      let off : cond (p n) 1 0 ≡ no = ap (λ (b : Bool). cond b 1 0) (ap p (sym here) ∙ was) in
      let on : cond (q n) 1 0 ≡ one = ap (λ (b : Bool). cond b 1 0) (ap q (sym here) ∙ now) in
      omega (arith, before, off, on))
  | inr there ↦
      (let before = count_one_more n p q d (omega arith) was now same in
      let last : ◌≡◌ {A = ℕ} (cond (q n) 1 0) (cond (p n) 1 0) = ap (λ (b : Bool). cond b 1 0) (same n (λ (is : n ≡ d). there (sym is))) in
      omega (arith, before, last))
]

-- where each number passes one of two tests, both together count them all
pub count_either : (n : ℕ) (p q : ℕ → Bool) → ((e : ℕ) → e < n → (p e ≡ true) ⊎ (q e ≡ true)) → n ≤ count n p + count n q
count_either zero p q each = omega arith
count_either (suc n) p q each =
    let before = count_either n p q (λ e l. each e (omega arith)) in
    let one : ℕ = 1 in
    elim (each n (omega arith)) [
      | inl passes ↦ (let on : cond (p n) 1 0 ≡ one = ap (λ (b : Bool). cond b 1 0) passes in omega (arith, before, on))
      | inr passes ↦ (let on : cond (q n) 1 0 ≡ one = ap (λ (b : Bool). cond b 1 0) passes in omega (arith, before, on))
    ]

-- where none passes, the count is 0
pub count_none : (n : ℕ) → count n (λ d. false) ≡ 0
count_none zero = refl
count_none (suc n) = let before : count n (λ d. false) ≡ 0 = count_none n in omega arith
