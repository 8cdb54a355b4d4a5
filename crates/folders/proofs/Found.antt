-- What a check finds: whether any block of what it looked at is damaged.
use Rattle.std.proofs.Common.{◌≡◌, ◌+◌, ◌∙◌, ℕ, zero, suc, Bool, true, false, List, [], ◌∷◌, ◌||◌, IsTrue, refl, sym, subst, arith, inl, inr}
use Rattle.std.specs.Prelude.{◌↔◌, ◌⊎◌, Contains}
use Rattle.std.specs.List.{list_any}
use Rattle.std.proofs.lemmas.Bool.{or_cases, or_left, or_right, cases_lt, false≢true}
use Rattle.torn_block.specs.Layout.{cluster_version}
use Rattle.paxos_block.specs.Places.{row_of}
use Rattle.paxos_block.specs.Row.{IsDamagedRow}
use Rattle.folders.specs.Damage.{IsDamagedBelow}

one_is_true : (xs : List Bool) → list_any (λ x. x) xs ≡ true → Contains xs true
one_is_true [] t = absurd (false≢true t)
one_is_true (true ∷ xs) t = (0, omega arith, refl)
one_is_true (false ∷ xs) t = let further = one_is_true xs t in let below = further.1 in (suc further.0, omega arith, further.2)

true_is_found : (xs : List Bool) → Contains xs true → list_any (λ x. x) xs ≡ true
true_is_found [] (k, below, is) = absurd (omega arith)
true_is_found (true ∷ xs) contained = refl
true_is_found (false ∷ xs) (zero, below, is) = absurd (false≢true is)
true_is_found (false ∷ xs) (suc k, below, is) = true_is_found xs (k, omega arith, is)

-- some test is true
pub any_is : (xs : List Bool) (any : Bool) → any ≡ list_any (λ x. x) xs → {P : Type 0} → (Contains xs true ↔ P) → IsTrue any ↔ P
any_is xs any is decides = ((λ t. decides.0 (one_is_true xs (sym is ∙ t))), (λ p. is ∙ true_is_found xs (decides.1 p)))

-- one test or the other
either_is : (a b : Bool) {P Q : Type 0} → (IsTrue a ↔ P) → (IsTrue b ↔ Q) → IsTrue (a || b) ↔ (P ⊎ Q)
either_is a b {P} {Q} p q = (
  (λ t. elim (or_cases a b t) [ inl x ↦ inl (p.0 x) | inr y ↦ inr (q.0 y) ]),
  (λ s. elim s [ inl x ↦ or_left a b (p.1 x) | inr y ↦ or_right a b (q.1 y) ]),
)

-- before any row there is what was found before
pub none_below : (any : Bool) (bytes : List ℕ) → IsTrue any ↔ (IsTrue any ⊎ IsDamagedBelow 0 bytes)
none_below any bytes = ((λ t. inl t), (λ s. elim s [ inl t ↦ t | inr damage ↦ (let below = damage.1 in absurd (omega arith)) ]))

-- one row more
pub below_more : {P : Type 0} (bytes : List ℕ) (n : ℕ) (a b : Bool) → (IsTrue a ↔ (P ⊎ IsDamagedBelow n bytes)) → (IsTrue b ↔ IsDamagedRow cluster_version (row_of cluster_version n bytes)) → IsTrue (a || b) ↔ (P ⊎ IsDamagedBelow (n + 1) bytes)
below_more bytes n a b before here =
    let both = either_is a b before here in (
      (λ t.
          elim (both.0 t) [
            | inl sofar ↦ elim sofar [ inl p ↦ inl p | inr damage ↦ (let below = damage.1 in inr (damage.0, omega arith, damage.2)) ]
            | inr damage ↦ inr (n, omega arith, damage)
          ]),
      (λ s.
          elim s [
            | inl p ↦ both.1 (inl (inl p))
            | inr damage ↦
                (let k = damage.0 in
                let below = damage.1 in
                both.1
                (elim (cases_lt k n) [
                  | inl lt ↦ inl (inr (k, lt, damage.2))
                  | inr ge ↦ (let same : k ≡ n = omega arith in inr (subst (λ (j : ℕ). IsDamagedRow cluster_version (row_of cluster_version j bytes)) same damage.2))
                ]))
          ]),
    )

-- the heartbeats first, and then the rows
pub image_is : (any beats now : Bool) {A B : Type 0} → (IsTrue beats ↔ A) → (IsTrue now ↔ (IsTrue (any || beats) ⊎ B)) → IsTrue now ↔ (IsTrue any ⊎ (A ⊎ B))
image_is any beats now {A} {B} area rows = (
  (λ t.
      elim (rows.0 t) [
        | inl sofar ↦ elim (or_cases any beats sofar) [ inl x ↦ inl x | inr y ↦ inr (inl (area.0 y)) ]
        | inr damage ↦ inr (inr damage)
      ]),
  (λ s.
      elim s [
        | inl x ↦ rows.1 (inl (or_left any beats x))
        | inr damage ↦ elim damage [ inl y ↦ rows.1 (inl (or_right any beats (area.1 y))) | inr z ↦ rows.1 (inr z) ]
      ]),
)

-- damage is told only where there is some
pub image_cause : (any beats : Bool) {A B : Type 0} → (IsTrue beats ↔ A) → IsTrue (any || beats) ⊎ B → IsTrue any ⊎ (A ⊎ B)
image_cause any beats area told =
    elim told [
      | inl sofar ↦ elim (or_cases any beats sofar) [ inl x ↦ inl x | inr y ↦ inr (inl (area.0 y)) ]
      | inr damage ↦ inr (inr damage)
    ]
