-- What holds at each number after a put.
use Rattle.std.proofs.Common.{ℕ, ◌≡◌, ◌≢◌, Bool, true, false, cond, refl, subst, sym, ◌==◌}
use Rattle.std.proofs.lemmas.Bool.{eqb-true, eqb-false, eq-eqb, ne_eqb, cond-true, cond-false}
use Rattle.agreement.specs.State.{put}

-- the number itself, and any other
pub put_same : {A : Type 0} (f : ℕ → A) (k : ℕ) (x : A) → put f k x k ≡ x
put_same f k x = cond-true (k == k) x (f k) (eq-eqb k k refl)

pub put_other : {A : Type 0} (f : ℕ → A) (k : ℕ) (x : A) (i : ℕ) → i ≢ k → put f k x i ≡ f i
put_other f k x i ne = cond-false (i == k) x (f i) (ne_eqb i k ne)

-- so of all numbers, for one function and for two
pub all_put : {A : Type 0} (P : ℕ → A → Type 0) (f : ℕ → A) (k : ℕ) (x : A) → P k x → ((i : ℕ) → i ≢ k → P i (f i)) → (i : ℕ) → P i (put f k x i)
all_put P f k x here there i = go (i == k) refl
  where
    go : (t : Bool) → (i == k) ≡ t → P i (cond t x (f i))
    go true e = subst (λ j. P j x) (sym (eqb-true i k e)) here
    go false e = there i (eqb-false i k e)

pub all_put2 : {A B : Type 0} (P : ℕ → A → B → Type 0) (f : ℕ → A) (g : ℕ → B) (k : ℕ) (x : A) (y : B) → P k x y → ((i : ℕ) → i ≢ k → P i (f i) (g i)) → (i : ℕ) → P i (put f k x i) (put g k y i)
all_put2 P f g k x y here there i = go (i == k) refl
  where
    go : (t : Bool) → (i == k) ≡ t → P i (cond t x (f i)) (cond t y (g i))
    go true e = subst (λ j. P j x y) (sym (eqb-true i k e)) here
    go false e = there i (eqb-false i k e)

-- and of two numbers
pub all_put_at : {A : Type 0} (P : ℕ → ℕ → A → Type 0) (f : ℕ → ℕ → A) (k j : ℕ) (x : A) → P k j x → ((i l : ℕ) → P i l (f i l)) → (i l : ℕ) → P i l (put f k (put (f k) j x) i l)
all_put_at P f k j x here there =
    all_put (λ i g. (l : ℕ) → P i l (g l)) f k (put (f k) j x) (all_put (P k) (f k) j x here (λ l ne. there k l)) (λ i ne. there i)
