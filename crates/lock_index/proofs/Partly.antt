-- A list of which the back part alone is sifted.
use Rattle.std.proofs.Common.{◌≡◌, ◌≤◌, ◌<◌, ℕ, zero, suc, Bool, true, false, cond, List, [], ◌∷◌, ◌++◌, ◌-◌, length, get_or, take, drop, remove, not, refl, sym, ap, ◌∙◌, arith}
use Rattle.std.specs.List.{filter, AllWithin}
use Rattle.std.proofs.lemmas.List.{drop_all}

-- the elements in front as they are, and of those from a place on the ones that pass
abbrev pub partly : {X : Type 0} → (X → Bool) → List X → ℕ → List X
partly P xs k = take k xs ++ filter P (drop k xs)

module _ {X : Type 0} (P : X → Bool) where
  pub partly_none : (xs : List X) → partly P xs (length xs) ≡ xs
  partly_none [] = refl
  partly_none (x ∷ xs) = ap (λ l. x ∷ l) (partly_none xs)

  pub partly_last : (xs : List X) (k : ℕ) (d : X) → k < length xs → get_or (partly P xs (suc k)) k d ≡ get_or xs k d
  partly_last [] k d inside = absurd (omega (arith, inside))
  partly_last (x ∷ xs) zero d inside = refl
  partly_last (x ∷ xs) (suc k) d inside = partly_last xs k d (omega (arith, inside))

  pub partly_left : (xs : List X) (k : ℕ) (d : X) → k < length xs → P (get_or xs k d) ≡ false → remove (partly P xs (suc k)) k ≡ partly P xs k
  partly_left [] k d inside fails = absurd (omega (arith, inside))
  partly_left (x ∷ xs) zero d inside fails = ap (λ b. cond b (x ∷ filter P xs) (filter P xs)) (sym fails)
  partly_left (x ∷ xs) (suc k) d inside fails = ap (λ l. x ∷ l) (partly_left xs k d (omega (arith, inside)) fails)

  -- what stands in front is as it was
  pub partly_front : (xs : List X) (k j : ℕ) (d : X) → j < k → k ≤ length xs → get_or (partly P xs k) j d ≡ get_or xs j d
  partly_front xs zero j d before inside = absurd (omega (arith, before))
  partly_front [] (suc k) j d before inside = absurd (omega (arith, inside))
  partly_front (x ∷ xs) (suc k) zero d before inside = refl
  partly_front (x ∷ xs) (suc k) (suc j) d before inside = partly_front xs k j d (omega (arith, before)) (omega (arith, inside))

  -- several that pass
  pub partly_past : (xs : List X) (low k : ℕ) → low ≤ k → k ≤ length xs → AllWithin (λ x. P x ≡ true) xs low k → partly P xs k ≡ partly P xs low
  partly_past xs zero zero up inside pass = refl
  partly_past xs (suc low) zero up inside pass = absurd (omega (arith, up))
  partly_past [] low (suc k) up inside pass = absurd (omega (arith, inside))
  partly_past (x ∷ xs) zero (suc k) up inside pass =
      ap (λ l. x ∷ l) (partly_past xs zero k (omega arith) (omega (arith, inside)) (λ i d from to. pass (suc i) d (omega arith) (omega (arith, to))))
      ∙ ap (λ b. cond b (x ∷ filter P xs) (filter P xs)) (sym (pass zero x (omega arith) (omega arith)))
  partly_past (x ∷ xs) (suc low) (suc k) up inside pass =
      ap (λ l. x ∷ l) (partly_past xs low k (omega (arith, up)) (omega (arith, inside)) (λ i d from to. pass (suc i) d (omega (arith, from)) (omega (arith, to))))

-- what passes of the elements from a place on
abbrev pub behind : {X : Type 0} → (X → Bool) → List X → ℕ → List X
behind Q xs k = filter Q (drop k xs)

module _ {X : Type 0} (Q : X → Bool) where
  pub behind_all : (xs : List X) (k : ℕ) → length xs ≤ k → behind Q xs k ≡ []
  behind_all xs k past = ap (filter Q) (drop_all k xs past)

  pub behind_next : (xs : List X) (k : ℕ) (d : X) → k < length xs → Q (get_or xs k d) ≡ true → behind Q xs k ≡ get_or xs k d ∷ behind Q xs (suc k)
  behind_next [] k d inside passes = absurd (omega (arith, inside))
  behind_next (x ∷ xs) zero d inside passes = ap (λ b. cond b (x ∷ filter Q xs) (filter Q xs)) passes
  behind_next (x ∷ xs) (suc k) d inside passes = behind_next xs k d (omega (arith, inside)) passes

  -- several that fail
  pub behind_past : (xs : List X) (low k : ℕ) → low ≤ k → k ≤ length xs → AllWithin (λ x. Q x ≡ false) xs low k → behind Q xs low ≡ behind Q xs k
  behind_past xs zero zero up inside fail = refl
  behind_past xs (suc low) zero up inside fail = absurd (omega (arith, up))
  behind_past [] low (suc k) up inside fail = absurd (omega (arith, inside))
  behind_past (x ∷ xs) zero (suc k) up inside fail =
      ap (λ b. cond b (x ∷ filter Q xs) (filter Q xs)) (fail zero x (omega arith) (omega arith))
      ∙ behind_past xs zero k (omega arith) (omega (arith, inside)) (λ i d from to. fail (suc i) d (omega arith) (omega (arith, to)))
  behind_past (x ∷ xs) (suc low) (suc k) up inside fail =
      behind_past xs low k (omega (arith, up)) (omega (arith, inside)) (λ i d from to. fail (suc i) d (omega (arith, from)) (omega (arith, to)))

  -- where nothing is taken out yet
  pub taken_none : (xs : List X) (low : ℕ) → low ≤ length xs → AllWithin (λ x. Q x ≡ false) xs low (length xs) → xs ≡ partly (λ x. not (Q x)) xs low
  taken_none xs low inside others =
      sym (partly_none (λ x. not (Q x)) xs)
      ∙ partly_past (λ x. not (Q x)) xs low (length xs) inside (omega arith) (λ i d from to. ap not (others i d from to))

  pub behind_none : (xs : List X) (low : ℕ) → low ≤ length xs → AllWithin (λ x. Q x ≡ false) xs low (length xs) → behind Q xs low ≡ []
  behind_none xs low inside others = behind_past xs low (length xs) inside (omega arith) others ∙ behind_all xs (length xs) (omega arith)

  module _ (xs now left : List X) (k : ℕ) (inside : k < length xs) (goes : (d : X) → Q (get_or xs k d) ≡ true) (so_far : now ≡ partly (λ x. not (Q x)) xs (suc k)) (out : left ≡ remove now k) where
    -- what stands in front of the element that was taken out
    pub taken_front : (j : ℕ) (d : X) → j < k → get_or left j d ≡ get_or xs j d
    taken_front j d before =
        ap (λ l. get_or l j d) (out ∙ ap (λ l. remove l k) so_far ∙ partly_left (λ x. not (Q x)) xs k d inside (ap not (goes d)))
        ∙ partly_front (λ x. not (Q x)) xs k j d before (omega (arith, inside))

    pub taken_others : (low : ℕ) → AllWithin (λ x. Q x ≡ false) left low k → AllWithin (λ x. Q x ≡ false) xs low k
    taken_others low others = λ i d from to. ap Q (sym (taken_front i d to)) ∙ others i d from to

    pub taken_next : (low : ℕ) (d : X) → low ≤ k → AllWithin (λ x. Q x ≡ false) left low k → left ≡ partly (λ x. not (Q x)) xs low
    taken_next low d up others =
        out
        ∙ ap (λ l. remove l k) so_far
        ∙ partly_left (λ x. not (Q x)) xs k d inside (ap not (goes d))
        ∙ partly_past (λ x. not (Q x)) xs low k up (omega (arith, inside)) (λ i e from to. ap not (taken_others low others i e from to))

    pub taken_last : (low : ℕ) → low ≤ k → (0 < low → (d : X) → Q (get_or left (low - 1) d) ≡ true) → 0 < low → (d : X) → Q (get_or xs (low - 1) d) ≡ true
    taken_last low up last some d = ap Q (sym (taken_front (low - 1) d (omega (arith, up, some)))) ∙ last some d

    pub behind_taken : (low : ℕ) (d : X) → low ≤ k → AllWithin (λ x. Q x ≡ false) left low k → behind Q xs low ≡ get_or xs k d ∷ behind Q xs (suc k)
    behind_taken low d up others = behind_past xs low k up (omega (arith, inside)) (taken_others low others) ∙ behind_next xs k d inside (goes d)
