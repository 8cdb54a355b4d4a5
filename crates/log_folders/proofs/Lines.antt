-- The lines of a part, host by host, and whether there is one.
use Rattle.std.specs.Prelude.{◌↔◌, ◌&&◌, IsTrue, slice_index_or, if◌then◌else◌}
use Rattle.std.proofs.Common.{◌≡◌, ◌<◌, ◌+◌, ℕ, Bool, true, false, List, [], Option, refl, sym, ap, subst, arith, inl, inr}
use Rattle.std.specs.Io.KnownBytes.{Appends}
use Rattle.std.specs.List.{flat_map, range_with_len}
use Rattle.std.proofs.KnownBytes.{Appends-nil, Appends-trans}
use Rattle.std.proofs.lemmas.Bool.{cases_lt, false≢true}
use Rattle.log_folders.specs.declared.area.Area.{Area}
use Rattle.log_folders.specs.declared.area.Part.{Part}
use Rattle.log_folders.specs.Areas.{IsHit, IsHitOf, line_if, line_of, lines_of}
use Rattle.log_folders.proofs.Steps.{texts_more}

-- a host below this one is hit
abbrev pub IsHitUpTo : (shown damaged : List Bool) → ℕ → Type 0
IsHitUpTo shown damaged n = (host : ℕ) × (host < n) × IsHitOf shown damaged host

both_true : (a b : Bool) → (a && b) ≡ true → (a ≡ true) × (b ≡ true)
both_true true b is = (refl, is)
both_true false b is = absurd (false≢true is)

not_both : (a b : Bool) → (a && b) ≡ false → (a ≡ true) × (b ≡ true) → ⊥
not_both true true is both = false≢true (sym is)
not_both true false is both = false≢true both.1
not_both false b is both = false≢true both.0

pub and_true : (a b : Bool) → a ≡ true → b ≡ true → (a && b) ≡ true
and_true true b is_a is_b = is_b
and_true false b is_a is_b = absurd (false≢true is_a)

pub and_left : (a b : Bool) → a ≡ false → (a && b) ≡ false
and_left true b is = absurd (false≢true (sym is))
and_left false b is = refl

pub and_right : (a b : Bool) → b ≡ false → (a && b) ≡ false
and_right true b is = is
and_right false b is = refl

-- Before a host: these lines were printed, and it is known whether there is one.
pub record Lined (area : Area) (part : Part) (shown damaged : List Bool) (host : ℕ) (a b : Option (List ℕ)) (found : Bool) : Type 0 where
  pub text : Appends a b (flat_map (line_if area part shown damaged) (range_with_len 0 host))
  pub hit : IsTrue found ↔ IsHitUpTo shown damaged host

module _ (area : Area) (part : Part) (shown damaged : List Bool) where
  abbrev hits : ℕ → Bool
  hits host = slice_index_or shown host false && slice_index_or damaged host false

  abbrev texts : ℕ → List ℕ
  texts host = line_if area part shown damaged host

  line_there : (host : ℕ) → hits host ≡ true → line_of area part host ≡ texts host
  line_there host is = ap (λ (t : Bool). if t then line_of area part host else []) (sym is)

  no_line : (host : ℕ) → hits host ≡ false → [] ≡ texts host
  no_line host is = ap (λ (t : Bool). if t then line_of area part host else []) (sym is)

  more : (host : ℕ) (a b e : Option (List ℕ)) (line : List ℕ) → Appends a b (flat_map texts (range_with_len 0 host)) → Appends b e line → line ≡ texts host → Appends a e (flat_map texts (range_with_len 0 (host + 1)))
  more host a b e line before printed is =
      subst (Appends a e) (texts_more texts host) (Appends-trans a b e (flat_map texts (range_with_len 0 host)) (texts host) before (subst (Appends b e) is printed))

  pub none_lined : (a : Option (List ℕ)) → Lined area part shown damaged 0 a a false
  none_lined a = record { text = Appends-nil a; hit = ((λ t. absurd (false≢true t)), (λ hit. (let below = hit.1 in absurd (omega (arith, below))))) }

  -- a line more
  pub one_lined : (host : ℕ) (a b e : Option (List ℕ)) (found : Bool) → hits host ≡ true → Lined area part shown damaged host a b found → Appends b e (line_of area part host) → Lined area part shown damaged (host + 1) a e true
  one_lined host a b e found is before printed =
      record {
        text = more host a b e (line_of area part host) before.text printed (line_there host is);
        hit = ((λ t. (host, omega arith, both_true (slice_index_or shown host false) (slice_index_or damaged host false) is)), (λ hit. refl));
      }

  -- or none
  pub one_passed : (host : ℕ) (a b : Option (List ℕ)) (found : Bool) → hits host ≡ false → Lined area part shown damaged host a b found → Lined area part shown damaged (host + 1) a b found
  one_passed host a b found is before =
      record {
        text = more host a b b [] before.text (Appends-nil b) (no_line host is);
        hit = (
          (λ t. (let some = before.hit.0 t in let below = some.1 in (some.0, omega (arith, below), some.2))),
          (λ some.
              (let k = some.0 in
              let below = some.1 in
              elim (cases_lt k host) [
                | inl lt ↦ before.hit.1 (k, lt, some.2)
                | inr ge ↦
                    (let same : k ≡ host = omega (arith, below, ge) in
                    absurd (not_both (slice_index_or shown host false) (slice_index_or damaged host false) is (subst (IsHitOf shown damaged) same some.2)))
              ])),
        );
      }

  -- all hosts
  pub all_lined : (host : ℕ) (a b : Option (List ℕ)) (found : Bool) → host ≡ 16 → Lined area part shown damaged host a b found → Appends a b (lines_of area part shown damaged) × (IsTrue found ↔ IsHit shown damaged)
  all_lined host a b found end before =
      let done = subst (λ (n : ℕ). Lined area part shown damaged n a b found) end before in
      (done.text, done.hit)
