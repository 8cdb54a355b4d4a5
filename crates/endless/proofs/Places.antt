-- Places of an epoch, and places of all.
use Rattle.std.proofs.Common.{ℕ, zero, suc, ◌≡◌, ◌==◌, ◌≤◌, Bool, true, false, cond, List, [], ◌∷◌, length, refl, ◌∙◌, ap, arith}
use Rattle.std.proofs.lemmas.Bool.{eq-eqb}
use Rattle.endless.specs.Lived.{Lived, In, Crash, Loss, part, now}
use Rattle.endless.specs.Headline.{IsIn}

-- as time goes on no less is done
pub now_rises : (e i j : ℕ) (lived : List Lived) → i ≤ j → now e i lived ≤ now e j lived
now_rises e zero j lived order = omega arith
now_rises e (suc i) zero lived order = absurd (omega (arith, order))
now_rises e (suc i) (suc j) [] order = omega arith
now_rises e (suc i) (suc j) (Crash disk left ∷ lived) order = let rest = now_rises e i j lived (omega (arith, order)) in omega (arith, rest)
now_rises e (suc i) (suc j) (Loss disk ∷ lived) order = let rest = now_rises e i j lived (omega (arith, order)) in omega (arith, rest)
now_rises e (suc i) (suc j) (In epoch entry ∷ lived) order =
    let rest = now_rises e i j lived (omega (arith, order)) in
    either (epoch == e) rest
  where
    either : (b : Bool) → now e i lived ≤ now e j lived → cond b (suc (now e i lived)) (now e i lived) ≤ cond b (suc (now e j lived)) (now e j lived)
    either true rest = omega (arith, rest)
    either false rest = rest

-- behind what is done in the epoch one more is done there
pub now_next : (e i : ℕ) (lived : List Lived) → IsIn lived i e → now e (suc i) lived ≡ suc (now e i lived)
now_next e i [] is = absurd (let none = is.1 in cc)
now_next e zero (Crash disk left ∷ lived) is = absurd (let other = is.1 in cc)
now_next e zero (Loss disk ∷ lived) is = absurd (let other = is.1 in cc)
now_next e zero (In epoch entry ∷ lived) is =
    let there = is.1 in
    let same : epoch ≡ e = cc in
    ap (λ (b : Bool). cond b (suc (now e zero lived)) (now e zero lived)) (eq-eqb epoch e same)
now_next e (suc i) (Crash disk left ∷ lived) is = ap suc (now_next e i lived is)
now_next e (suc i) (Loss disk ∷ lived) is = ap suc (now_next e i lived is)
now_next e (suc i) (In epoch entry ∷ lived) is = either (epoch == e) (now_next e i lived is)
  where
    either : (b : Bool) → now e (suc i) lived ≡ suc (now e i lived) → cond b (suc (now e (suc i) lived)) (now e (suc i) lived) ≡ suc (cond b (suc (now e i lived)) (now e i lived))
    either true rest = ap suc rest
    either false rest = rest

-- each place of an epoch is one of all
pub place_for : (e : ℕ) (lived : List Lived) (i : ℕ) → i ≤ length (part e lived) → (k : ℕ) × (now e k lived ≡ i)
place_for e lived zero fits = (0, refl)
place_for e [] (suc i) fits = absurd (omega (arith, fits))
place_for e (Crash disk left ∷ lived) (suc i) fits = let rest = place_for e lived i (omega (arith, fits)) in (suc rest.0, ap suc rest.1)
place_for e (Loss disk ∷ lived) (suc i) fits = let rest = place_for e lived i (omega (arith, fits)) in (suc rest.0, ap suc rest.1)
place_for e (In epoch entry ∷ lived) (suc i) fits = either (epoch == e) refl (λ j. place_for e lived j) fits
  where
    either : (b : Bool) → (epoch == e) ≡ b → ((j : ℕ) → j ≤ length (part e lived) → (k : ℕ) × (now e k lived ≡ j)) → suc i ≤ length (cond b (entry ∷ part e lived) (part e lived))
        → (k : ℕ) × (now e k (In epoch entry ∷ lived) ≡ suc i)
    either true is rest long =
        let found = rest i (omega (arith, long)) in
        (suc found.0, ap (λ (b : Bool). cond b (suc (now e found.0 lived)) (now e found.0 lived)) is ∙ ap suc found.1)
    either false is rest long =
        let found = rest (suc i) long in
        (suc found.0, ap (λ (b : Bool). cond b (suc (now e found.0 lived)) (now e found.0 lived)) is ∙ found.1)

-- no more is done of an epoch than there is
pub now_within : (e i : ℕ) (lived : List Lived) → now e i lived ≤ length (part e lived)
now_within e zero lived = omega arith
now_within e (suc i) [] = omega arith
now_within e (suc i) (Crash disk left ∷ lived) = let rest = now_within e i lived in omega (arith, rest)
now_within e (suc i) (Loss disk ∷ lived) = let rest = now_within e i lived in omega (arith, rest)
now_within e (suc i) (In epoch entry ∷ lived) = either (epoch == e) (now_within e i lived)
  where
    either : (b : Bool) → now e i lived ≤ length (part e lived) → cond b (suc (now e i lived)) (now e i lived) ≤ length (cond b (entry ∷ part e lived) (part e lived))
    either true rest = omega (arith, rest)
    either false rest = rest
