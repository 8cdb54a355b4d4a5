-- Which positions are unsynced once some are written, by two lists of which the first promises less.
use Rattle.std.specs.Prelude.{min, take, drop}
use Rattle.std.proofs.Common.{get_or, ℕ, ◌+◌, ◌-◌, ◌<◌, ◌≤◌, ◌≡◌, ◌⊎◌, Bool, false, List, ◌++◌, length, length-append, refl, sym, ap, ◌∙◌, inl, inr, arith}
use Rattle.std.proofs.lemmas.Bool.{cases_lt}
use Rattle.std.proofs.lemmas.List.{length-take, length-take-le, length-drop, take_all, get_or-take, get_or-drop, get_or_append_left, get_or-append_right, get_or_past}
use Rattle.disk.specs.Disk.{put_at}

-- HOW LONG

-- so long is a list of m items in which n are put
long_put : (m at n : ℕ) → ℕ
long_put m at n = min at m + n + (m - (at + n))

length_put : {X : Type 0} (old : List X) (at : ℕ) (items : List X) → length (put_at old at items) ≡ long_put (length old) at (length items)
unfolding long_put
length_put old at items =
    omega (arith, length-append (take at old ++ items) (drop (at + length items) old), length-append (take at old) items, length-take at old, length-drop (at + length items) old)

-- two lists that are as long stay so, though what is put in them differ
pub as_long : {X Y : Type 0} (one : List X) (other : List Y) (at : ℕ) (items : List X) (others : List Y) → length one ≡ length other → length items ≡ length others →
    length (put_at one at items) ≡ length (put_at other at others)
as_long one other at items others same many =
    length_put one at items ∙ ap (λ (m : ℕ). long_put m at (length items)) same ∙ ap (λ (n : ℕ). long_put (length other) at n) many ∙ sym (length_put other at others)

-- WHAT IS CLAIMED

-- what the first one claims of this position the second one does, too
abbrev pub Claims : List Bool → List Bool → ℕ → Type 0
Claims first second p = get_or first p false ≡ false → get_or second p false ≡ false

module _ (first second items : List Bool) (at front p : ℕ) (one : length (take at first) ≡ front) (other : length (take at second) ≡ front) (least : front ≤ at)
    (here : (front ≡ at) ⊎ (length second ≤ at)) (claims : Claims first second p) where
  abbrev n : ℕ
  n = length items

  abbrev rest : List Bool → List Bool
  rest l = drop (at + n) l

  both : (l : List Bool) → length (take at l) ≡ front → length (take at l ++ items) ≡ front + n
  both l is = omega (arith, length-append (take at l) items, is)

  below : (l : List Bool) → length (take at l) ≡ front → p < front → get_or (put_at l at items) p false ≡ get_or l p false
  below l is low =
      get_or_append_left (take at l ++ items) (rest l) false p (omega (arith, both l is, low))
      ∙ get_or_append_left (take at l) items false p (omega (arith, is, low))
      ∙ get_or-take at l p false (omega (arith, low, least))

  inside : (l : List Bool) → length (take at l) ≡ front → front ≤ p → p < front + n → get_or (put_at l at items) p false ≡ get_or items (p - front) false
  inside l is from_there within =
      get_or_append_left (take at l ++ items) (rest l) false p (omega (arith, both l is, within)) ∙ get_or-append_right (take at l) items front p false is from_there

  above : (l : List Bool) → length (take at l) ≡ front → front + n ≤ p → get_or (put_at l at items) p false ≡ get_or l (at + n + (p - (front + n))) false
  above l is behind =
      get_or-append_right (take at l ++ items) (rest l) (front + n) p false (both l is) behind ∙ get_or-drop (at + n) l (p - (front + n)) false

  claims_put : Claims (put_at first at items) (put_at second at items) p
  claims_put is =
      elim (cases_lt p front) [
        | inl low ↦ below second other low ∙ claims (sym (below first one low) ∙ is)
        | inr from_there ↦ elim (cases_lt p (front + n)) [
          | inl within ↦ inside second other from_there within ∙ sym (inside first one from_there within) ∙ is
          | inr behind ↦ above second other behind ∙ elim here [
            | inl exactly ↦
                (let same : at + n + (p - (front + n)) ≡ p = omega (arith, exactly, behind) in
                ap (λ (j : ℕ). get_or second j false) same
                ∙ claims (ap (λ (j : ℕ). get_or first j false) (sym same) ∙ sym (above first one behind) ∙ is))
            | inr past ↦ get_or_past second (at + n + (p - (front + n))) false (omega (arith, past))
          ]
        ]
      ]

-- so it is once some positions are written
pub claims_written : (first second items : List Bool) (at p : ℕ) → length first ≡ length second → Claims first second p → Claims (put_at first at items) (put_at second at items) p
claims_written first second items at p same claims =
    elim (cases_lt (length first) at) [
      | inl short ↦
          claims_put first second items at (length first) p (ap (λ (l : List Bool). length l) (take_all at first (omega (arith, short))))
          (ap (λ (l : List Bool). length l) (take_all at second (omega (arith, short, same))) ∙ sym same) (omega (arith, short)) (inr (omega (arith, short, same))) claims
      | inr inside ↦
          claims_put first second items at at p (length-take-le at first inside) (length-take-le at second (omega (arith, inside, same))) (omega arith) (inl refl) claims
    ]
