-- Readings one after the other.
use Rattle.std.proofs.Common.{◌≡◌, ◌⊎◌, inl, inr, ℕ, Bool, true, false, cond, ◌&&◌, List, [], ◌∷◌, Option, Some, None, refl, ap}
use Rattle.std.specs.Prelude.{bytes_eq}
use Rattle.std.proofs.lemmas.Slice.Eq.{bytes_eq-Decides}
use Rattle.lock_command.specs.Reading.{◌>>=◌, passed}
use Rattle.lock_script.specs.Words.{last_word}

-- where two readings found something, each did
pub bound : {A B : Type 0} (found : Option A) (f : A → Option B) (y : B) → (found >>= f) ≡ Some y → (x : A) × (found ≡ Some x) × (f x ≡ Some y)
bound None f y h = absurd (cc)
bound (Some x) f y h = (x, refl, h)

pub was_passed : {A : Type 0} (test : Bool) (x y : A) → passed test x ≡ Some y → (test ≡ true) × (x ≡ y)
was_passed true x y h = (refl, cc)
was_passed false x y h = absurd (cc)

pub is_passed : {A : Type 0} (test : Bool) (x : A) → test ≡ true → passed test x ≡ Some x
is_passed test x h = ap (λ t. passed t x) h

pub not_passed : {A : Type 0} (test : Bool) (x : A) → (test ≡ true → ⊥) → None ≡ passed test x
not_passed true x never = absurd (never refl)
not_passed false x never = refl

pub both_are : (a b : Bool) → (a && b) ≡ true → (a ≡ true) × (b ≡ true)
both_are true b h = (refl, h)
both_are false b h = cc

-- a word that is a text, or is read as another one
pub picked : {A : Type 0} (word text : List ℕ) (this other : Option A) (y : A) → cond (bytes_eq word text) this other ≡ Some y → ((word ≡ text) × (this ≡ Some y)) ⊎ (other ≡ Some y)
picked {A} word text this other y h = by_test (bytes_eq word text) (bytes_eq-Decides word text).0 h where
  by_test : (test : Bool) → (test ≡ true → word ≡ text) → cond test this other ≡ Some y → ((word ≡ text) × (this ≡ Some y)) ⊎ (other ≡ Some y)
  by_test true same found = inl (same refl, found)
  by_test false same found = inr found

-- one word alone
pub record ReadOne {A : Type 0} (read : List ℕ → Option A) (words : List (List ℕ)) (x : A) : Type 0 where
  pub word : List ℕ
  pub words_are : words ≡ word ∷ []
  pub reads : read word ≡ Some x

pub one_read : {A : Type 0} (read : List ℕ → Option A) (words : List (List ℕ)) (x : A) → (last_word words >>= read) ≡ Some x → ReadOne read words x
one_read read [] x h = absurd (cc)
one_read read (word ∷ []) x h = record { word = word; words_are = refl; reads = h }
one_read read (word ∷ next ∷ words) x h = absurd (cc)
