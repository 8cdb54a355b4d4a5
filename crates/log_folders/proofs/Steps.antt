-- Steps of a check, one after another.
use Rattle.std.specs.Prelude.{◌⊎◌, IfErr, IsTrue, OnOk}
use Rattle.std.proofs.Common.{◌≡◌, ◌+◌, ◌∙◌, ◌++◌, ℕ, zero, suc, Bool, List, [], ◌∷◌, Option, Result, Ok, Err, refl, sym, ap, subst, arith, add-zero, inl, inr}
use Rattle.std.specs.List.{flat_map, range_with_len}
use Rattle.std.specs.Result.{IsErrAnd}
use Rattle.std.proofs.lemmas.List.{flat_map_more}
use Rattle.std.proofs.KnownBytes.{Appends-trans}
use Rattle.disk.specs.Disk.{Device, DiskState}
use Rattle.log_folders.specs.Areas.{Writes}
use Rattle.log_folders.specs.Steps.{Keeps, Prints}

-- a text is one behind the other
pub record IsBoth (IsFirst IsSecond : List ℕ → Type 0) (text : List ℕ) : Type 0 where
  pub first : List ℕ
  pub second : List ℕ
  pub is_first : IsFirst first
  pub is_second : IsSecond second
  pub is : text ≡ first ++ second

-- WHAT IS KEPT

-- nothing is told
pub kept_still : (d0 d1 : Device) (s0 s1 : DiskState) (any : Bool) (P : List ℕ → Type 0) → d1 ≡ d0 → (IsTrue d0.tells → s1 ≡ s0) → Keeps d0 d1 s0 s1 any any P
kept_still d0 d1 s0 s1 any P device same = record { device = device; unchanged = same; cause = λ t told. inl told }

module _ (d0 d1 d2 : Device) (s0 s1 s2 : DiskState) (f g h : Bool) (P Q : List ℕ → Type 0) (one : Keeps d0 d1 s0 s1 f g P) where
  tells_on : IsTrue d0.tells → IsTrue d1.tells
  tells_on t = subst (λ (d : Device). IsTrue d.tells) (sym one.device) t

  -- one step more
  pub kept_on : Keeps d1 d2 s1 s2 g h Q → Keeps d0 d2 s0 s2 f h (λ bytes. P bytes ⊎ Q bytes)
  kept_on other =
      record {
        device = other.device ∙ one.device;
        unchanged = λ t. other.unchanged (tells_on t) ∙ one.unchanged t;
        cause =
            λ t told.
            elim (other.cause (tells_on t) told) [
              | inl before ↦ elim (one.cause t before) [ inl first ↦ inl first | inr p ↦ inr (inl p) ]
              | inr q ↦ inr (inr (subst (λ (s : DiskState). Q s.bytes) (one.unchanged t) q))
            ];
      }

  pub printed_on : (a b e : Option (List ℕ)) (T U : List ℕ → List ℕ → Type 0) → Prints d0 s0 a b f g T P → Prints d1 s1 b e g h U Q → Prints d0 s0 a e f h (λ bytes text. IsBoth (T bytes) (U bytes) text) (λ bytes. P bytes ⊎ Q bytes)
  printed_on a b e T U first second =
      record {
        text =
            λ t.
            (let x = first.text t in
            let y = subst (λ (s : DiskState). Writes (U s.bytes) b e) (one.unchanged t) (second.text (tells_on t)) in
            (x.0 ++ y.0, record { first = x.0; second = y.0; is_first = x.1; is_second = y.1; is = refl }, Appends-trans a b e x.0 y.0 x.2 y.2));
        found =
            λ t some.
            elim some [
              | inl before ↦ second.found (tells_on t) (inl (first.found t (inl before)))
              | inr damage ↦ elim damage [
                | inl p ↦ second.found (tells_on t) (inl (first.found t (inr p)))
                | inr q ↦ second.found (tells_on t) (inr (subst (λ (s : DiskState). Q s.bytes) (sym (one.unchanged t)) q))
              ]
            ];
      }

-- the same in other words
pub kept_as : (d0 d1 : Device) (s0 s1 : DiskState) (f g : Bool) (P Q : List ℕ → Type 0) → (IsTrue d0.tells → P s0.bytes → Q s0.bytes) → Keeps d0 d1 s0 s1 f g P → Keeps d0 d1 s0 s1 f g Q
kept_as d0 d1 s0 s1 f g P Q more kept =
    record {
      device = kept.device;
      unchanged = kept.unchanged;
      cause = λ t told. elim (kept.cause t told) [ inl first ↦ inl first | inr p ↦ inr (more t p) ];
    }

pub printed_as : (d : Device) (s : DiskState) (a b : Option (List ℕ)) (f g : Bool) (T U : List ℕ → List ℕ → Type 0) (P Q : List ℕ → Type 0)
    → (IsTrue d.tells → (text : List ℕ) → T s.bytes text → U s.bytes text) → (IsTrue d.tells → Q s.bytes → P s.bytes) → Prints d s a b f g T P → Prints d s a b f g U Q
printed_as d s a b f g T U P Q texts less printed =
    record {
      text = λ t. (let x = printed.text t in (x.0, texts t x.0 x.1, x.2));
      found = λ t some. printed.found t (elim some [ inl first ↦ inl first | inr q ↦ inr (less t q) ]);
    }

-- ONE AFTER ANOTHER

range_more : (a n : ℕ) → range_with_len a (suc n) ≡ range_with_len a n ++ (a + n) ∷ []
range_more a zero = ap (λ (k : ℕ). k ∷ []) (sym (add-zero a))
range_more a (suc n) =
    let same : a + 1 + n ≡ a + suc n = omega arith in
    ap (λ (l : List ℕ). a ∷ l) (range_more (a + 1) n) ∙ ap (λ (k : ℕ). a ∷ (range_with_len (a + 1) n ++ k ∷ [])) same

-- the texts of the numbers below n + 1 are those below n, and that of n
pub texts_more : (text : ℕ → List ℕ) (n : ℕ) → flat_map text (range_with_len 0 n) ++ text n ≡ flat_map text (range_with_len 0 (n + 1))
texts_more text n =
    let last : n ≡ 0 + n = omega arith in
    let next : suc n ≡ n + 1 = omega arith in
    flat_map_more text [] (range_with_len 0 n) n ∙ ap (λ (k : ℕ). flat_map text (range_with_len 0 n ++ k ∷ [])) last ∙ ap (flat_map text) (sym (range_more 0 n))
    ∙ ap (λ (k : ℕ). flat_map text (range_with_len 0 k)) next

-- what was before it left the disk as it was
module _ (d0 d1 : Device) (s0 s1 : DiskState) (device : d1 ≡ d0) (same : IsTrue d0.tells → s1 ≡ s0) (f g : Bool) (P : List ℕ → Type 0) where
  tells_from : IsTrue d0.tells → IsTrue d1.tells
  tells_from t = subst (λ (d : Device). IsTrue d.tells) (sym device) t

  pub kept_from : (d2 : Device) (s2 : DiskState) → Keeps d1 d2 s1 s2 f g P → Keeps d0 d2 s0 s2 f g P
  kept_from d2 s2 kept =
      record {
        device = kept.device ∙ device;
        unchanged = λ t. kept.unchanged (tells_from t) ∙ same t;
        cause = λ t told. subst (λ (s : DiskState). IsTrue f ⊎ P s.bytes) (same t) (kept.cause (tells_from t) told);
      }

  pub printed_from : (a b : Option (List ℕ)) (T : List ℕ → List ℕ → Type 0) → Prints d1 s1 a b f g T P → Prints d0 s0 a b f g T P
  printed_from a b T printed =
      record {
        text = λ t. subst (λ (s : DiskState). Writes (T s.bytes) a b) (same t) (printed.text (tells_from t));
        found = λ t some. printed.found (tells_from t) (subst (λ (s : DiskState). IsTrue f ⊎ P s.bytes) (sym (same t)) some);
      }

-- what is after it only prints
pub printed_more : (d : Device) (s : DiskState) (a b e : Option (List ℕ)) (f g : Bool) (T U : List ℕ → List ℕ → Type 0) (P : List ℕ → Type 0) → Prints d s a b f g T P → (IsTrue d.tells → Writes (U s.bytes) b e)
    → Prints d s a e f g (λ bytes text. IsBoth (T bytes) (U bytes) text) P
printed_more d s a b e f g T U P printed more =
    record {
      text =
          λ t.
          (let x = printed.text t in
          let y = more t in
          (x.0 ++ y.0, record { first = x.0; second = y.0; is_first = x.1; is_second = y.1; is = refl }, Appends-trans a b e x.0 y.0 x.2 y.2));
      found = printed.found;
    }

-- what follows from a step that came to its end, or from its fault
pub then_ok : {T E : Type 0} (result : Result T E) (P Q : Type 0) → (P → Q) → OnOk result P → OnOk result Q
then_ok (Ok value) P Q more so = more so
then_ok (Err fault) P Q more so = tt

pub then_err : {T E : Type 0} (result : Result T E) (P Q : E → Type 0) → ((fault : E) → P fault → Q fault) → IfErr result P → IfErr result Q
then_err (Ok value) P Q more so = tt
then_err (Err fault) P Q more so = more fault so

pub none_ok : {T E : Type 0} (result : Result T E) (P : Type 0) (Q : E → Type 0) → IsErrAnd result Q → OnOk result P
none_ok (Ok value) P Q is = absurd is
none_ok (Err fault) P Q is = tt
