-- A list with some items put in its middle.
use Rattle.std.proofs.Common.{◌≡◌, ℕ, ◌+◌, ◌-◌, ◌<◌, ◌≤◌, Bool, true, List, [], ◌++◌, length, get_or, take, drop, replicate, sym, ◌∙◌, ap, subst, inl, inr, arith, append_assoc, length-append, length-drop}
use Rattle.std.proofs.lemmas.Bool.{cases_lt}
use Rattle.std.proofs.lemmas.List.{length-replicate, replicate-append-replicate, length-take-le, take_all, drop_all, append-nil, drop-drop, take-append-drop}
use Rattle.std.proofs.Math.Seq.{take-append-add, drop-append-add}
use Rattle.disk.specs.Disk.{put_at}
use Rattle.disk.specs.Image.{Contents, overwritten}
use Rattle.disk.proofs.CrashLemmas.{put-below, put-inside, put-above}

pub length-put_at : {X : Type 0} (old : List X) (at : ℕ) (items : List X) → at + length items ≤ length old → length (put_at old at items) ≡ length old
length-put_at old at items within =
    omega (arith, length-append (take at old ++ items) (drop (at + length items) old), length-append (take at old) items, length-take-le at old (omega arith), length-drop (at + length items) old)

-- what holds of an item once some are put: of one of those, or of what was there
pub put_each : {X : Type 0} (old items : List X) (at : ℕ) (d : X) → at + length items ≤ length old → (P : X → Type 0) (k : ℕ) → ((j : ℕ) → at + j ≡ k → j < length items → P (get_or items j d)) → ((at ≤ k → k < at + length items → ⊥) → P (get_or old k d)) → P (get_or (put_at old at items) k d)
put_each old items at d within P k inside outside =
    elim (cases_lt k at) [
      | inl below ↦ subst P (sym (put-below old at items within d k below)) (outside (λ from under. omega arith))
      | inr from ↦
          elim (cases_lt k (at + length items)) [
            | inl under ↦
                (let e : at + (k - at) ≡ k = omega arith in
                let is = ap (λ (i : ℕ). get_or (put_at old at items) i d) (sym e) ∙ put-inside old at items within d (k - at) (omega arith) in
                subst P (sym is) (inside (k - at) e (omega arith)))
            | inr over ↦ subst P (sym (put-above old at items within d k over)) (outside (λ first under. omega arith))
          ]
    ]

-- nothing put changes nothing
pub put_nothing : {X : Type 0} (old : List X) (at : ℕ) → put_at old at [] ≡ old
put_nothing {X} old at =
    let e : at + 0 ≡ at = omega arith in
    ap (λ (k : ℕ). (take at old ++ []) ++ drop k old) e
    ∙ ap (λ (l : List X). l ++ drop at old) (append-nil (take at old))
    ∙ take-append-drop at old

put_past : {X : Type 0} (old : List X) (at : ℕ) (items : List X) → length old ≤ at → put_at old at items ≡ old ++ items
put_past {X} old at items past =
    ap (λ (l : List X). (l ++ items) ++ drop (at + length items) old) (take_all at old past)
    ∙ ap (λ (l : List X). (old ++ items) ++ l) (drop_all (at + length items) old (omega (arith, past)))
    ∙ append-nil (old ++ items)

-- what is put right behind what was put is put with it
pub put_twice : {X : Type 0} (old xs ys : List X) (at : ℕ) → put_at (put_at old at xs) (at + length xs) ys ≡ put_at old at (xs ++ ys)
put_twice {X} old xs ys at =
    let n = length xs in
    let m = length ys in
    elim (cases_lt (length old) at) [
      | inl past ↦
          ap (λ (l : List X). put_at l (at + n) ys) (put_past old at xs (omega arith))
          ∙ put_past (old ++ xs) (at + n) ys (omega (arith, length-append old xs))
          ∙ append_assoc old xs ys
          ∙ sym (put_past old at (xs ++ ys) (omega arith))
      | inr within ↦
          (let front = take at old in
          let p = front ++ xs in
          let rest = drop (at + n) old in
          let long : length p ≡ at + n = omega (arith, length-append front xs, length-take-le at old within) in
          let a : at + n ≡ length p + 0 = omega (arith, long) in
          let b : at + n + m ≡ length p + m = omega (arith, long) in
          let c : at + n + m ≡ at + length (xs ++ ys) = omega (arith, length-append xs ys) in
          ap (λ (k : ℕ). (take k (p ++ rest) ++ ys) ++ drop (at + n + m) (p ++ rest)) a
          ∙ ap (λ (l : List X). (l ++ ys) ++ drop (at + n + m) (p ++ rest)) (take-append-add p rest 0 ∙ append-nil p)
          ∙ ap (λ (k : ℕ). (p ++ ys) ++ drop k (p ++ rest)) b
          ∙ ap (λ (l : List X). (p ++ ys) ++ l) (drop-append-add p rest m ∙ drop-drop m (at + n) old)
          ∙ ap (λ (l : List X). l ++ drop (at + n + m) old) (append_assoc front xs ys)
          ∙ ap (λ (k : ℕ). (front ++ (xs ++ ys)) ++ drop k old) c)
    ]

pub overwritten_nothing : (old : Contents) (at : ℕ) → overwritten old at [] ≡ old
overwritten_nothing old at i =
    record { bytes = put_nothing old.bytes at i; unsynced = put_nothing old.unsynced at i }

pub overwritten_twice : (old : Contents) (xs ys : List ℕ) (at : ℕ) → overwritten (overwritten old at xs) (at + length xs) ys ≡ overwritten old at (xs ++ ys)
overwritten_twice old xs ys at =
    let n = length xs in
    let m = length ys in
    let one : List Bool = replicate n true in
    let long : n ≡ length one = sym (length-replicate n true) in
    let both : n + m ≡ length (xs ++ ys) = sym (length-append xs ys) in
    let flags : put_at (put_at old.unsynced at one) (at + n) (replicate m true) ≡ put_at old.unsynced at (replicate (length (xs ++ ys)) true) =
    ap (λ (k : ℕ). put_at (put_at old.unsynced at one) (at + k) (replicate m true)) long
    ∙ put_twice old.unsynced one (replicate m true) at
    ∙ ap (λ (l : List Bool). put_at old.unsynced at l) (replicate-append-replicate n m true ∙ ap (λ (k : ℕ). replicate k true) both) in
    λ i. record { bytes = put_twice old.bytes xs ys at i; unsynced = flags i }
