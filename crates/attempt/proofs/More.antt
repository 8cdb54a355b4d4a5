-- One answer more: the answers of all disks with it, and what they keep.
use Rattle.std.specs.Prelude.{if◌then◌else◌}
use Rattle.std.proofs.Common.{ℕ, ◌≡◌, ◌≢◌, ◌==◌, Bool, true, false, List, [], ◌∷◌, ◌++◌, append-nil, refl, sym, subst, ap, ◌∙◌}
use Rattle.attempt.specs.Heard.{Heard, Answered, Answers, on, more}
use Rattle.attempt.proofs.Lists.{by_eq}

module _ {A : Type 0} where
  -- on the disk
  pub more_here : (f : Answers A) (d : ℕ) (x : Heard A) → more f d x d ≡ f d ++ x ∷ []
  more_here f d x = by_eq (λ t. (if t then f d ++ x ∷ [] else f d) ≡ f d ++ x ∷ []) d d (λ e. refl) (λ off. absurd (off refl))

  -- on another
  pub more_there : (f : Answers A) (d : ℕ) (x : Heard A) (e : ℕ) → e ≢ d → more f d x e ≡ f e
  more_there f d x e off = by_eq (λ t. (if t then f d ++ x ∷ [] else f e) ≡ f e) e d (λ same. absurd (off same)) (λ ne. refl)

  -- what holds on the disk and on the others holds on each
  pub by_disk : (f : Answers A) (d : ℕ) (x : Heard A) (P : ℕ → List (Heard A) → Type 0) → P d (f d ++ x ∷ []) → ((e : ℕ) → e ≢ d → P e (f e)) → (e : ℕ) → P e (more f d x e)
  by_disk f d x P here there e = by_eq (λ t. P e (if t then f d ++ x ∷ [] else f e)) e d (λ same. at (sym same)) (there e)
    where
      at : d ≡ e → P e (f d ++ x ∷ [])
      at same = subst (λ (k : ℕ). P k (f d ++ x ∷ [])) same here

  -- an answer at the head changes nothing at the end
  on_by : (y : Answered A) (xs ys : List (Answered A)) (d : ℕ) (zs : List (Heard A)) → on xs d ≡ on ys d ++ zs → on (y ∷ xs) d ≡ on (y ∷ ys) d ++ zs
  on_by y xs ys d zs e = go (y.disk == d)
    where
      go : (t : Bool) → (if t then y.heard ∷ on xs d else on xs d) ≡ (if t then y.heard ∷ on ys d else on ys d) ++ zs
      go true = ap (λ (l : List (Heard A)). y.heard ∷ l) e
      go false = e

  -- at the end of its disk's answers it stands
  on_here : (xs : List (Answered A)) (x : Answered A) → on (xs ++ x ∷ []) x.disk ≡ on xs x.disk ++ x.heard ∷ []
  on_here [] x = by_eq (λ t. (if t then x.heard ∷ [] else []) ≡ x.heard ∷ []) x.disk x.disk (λ e. refl) (λ ne. absurd (ne refl))
  on_here (y ∷ xs) x = on_by y (xs ++ x ∷ []) xs x.disk (x.heard ∷ []) (on_here xs x)

  -- and not among those of another
  on_there : (xs : List (Answered A)) (x : Answered A) (d : ℕ) → d ≢ x.disk → on (xs ++ x ∷ []) d ≡ on xs d
  on_there [] x d ne = by_eq (λ t. (if t then x.heard ∷ [] else []) ≡ []) x.disk d (λ e. absurd (ne (sym e))) (λ e. refl)
  on_there (y ∷ xs) x d ne = on_by y (xs ++ x ∷ []) xs d [] (on_there xs x d ne ∙ sym (append-nil (on xs d))) ∙ append-nil (on (y ∷ xs) d)

  -- so it is for each disk
  on_at : (xs : List (Answered A)) (x : Answered A) (e : ℕ) → on (xs ++ x ∷ []) e ≡ more (on xs) x.disk x.heard e
  on_at xs x e = by_eq (λ t. on (xs ++ x ∷ []) e ≡ (if t then on xs x.disk ++ x.heard ∷ [] else on xs e)) e x.disk
      (λ same. ap (on (xs ++ x ∷ [])) same ∙ on_here xs x)
      (λ off. on_there xs x e off)

  -- the answers of a list with one more
  pub on_more : (heard : List (Answered A)) (x : Answered A) → on (heard ++ x ∷ []) ≡ more (on heard) x.disk x.heard
  on_more heard x = λ i e. (on_at heard x e) i
