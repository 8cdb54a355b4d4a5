-- Which disk tells the newest epoch, disk by disk.
use Rattle.std.specs.Prelude.{if◌then◌else◌}
use Rattle.std.proofs.Common.{◌≡◌, ◌<◌, ◌≤◌, ◌+◌, ◌∙◌, ℕ, Bool, true, false, nat_lt, Option, Some, None, arith, inl, inr, refl, slice_get, subst, sym}
use Rattle.std.proofs.lemmas.Bool.{cases_lt, ltb-false, ltb-true}
use Rattle.std.proofs.lemmas.Option.{none-some, same_Some}
use Rattle.in_place.specs.Replacing.{IsNewestTold, Tellings, later}
use Rattle.in_place.specs.declared.replace_epoch.EpochsTold.{EpochsTold}

-- by these none of the first disks told a later epoch
abbrev AreUpTo : Tellings → ℕ → ℕ → Type 0
AreUpTo tellings n newest = (k : ℕ) (told : EpochsTold) → k < n → slice_get tellings k ≡ Some (Some told) → told.newest ≤ newest

pub none_yet : (tellings : Tellings) → IsNewestTold tellings 0 None
none_yet tellings =
    record {
      one = λ k told below. absurd (let no : ⊥ = omega (arith, below) in no);
      most = λ k told below. absurd (let no : ⊥ = omega (arith, below) in no);
    }

-- it is one of those before, or the last one
at_last : (tellings : Tellings) (n k : ℕ) (last : Option EpochsTold) (P : EpochsTold → Type 0) → slice_get tellings n ≡ Some last → ((told : EpochsTold) → last ≡ Some told → P told)
    → ((j : ℕ) (told : EpochsTold) → j < n → slice_get tellings j ≡ Some (Some told) → P told) → (told : EpochsTold) → k < n + 1 → slice_get tellings k ≡ Some (Some told) → P told
at_last tellings n k last P is here before told below tells =
    elim (cases_lt k n) [
      | inl lower ↦ before k told lower tells
      | inr above ↦ (let e : k ≡ n = omega (arith, above, below) in
          let same : Some last ≡ Some (Some told) = sym is ∙ (subst (λ (m : ℕ). slice_get tellings m ≡ Some (Some told)) e tells) in
          here told (same_Some last (Some told) same))
    ]

up_to_last : (tellings : Tellings) (n newest : ℕ) (last : Option EpochsTold) → slice_get tellings n ≡ Some last → ((told : EpochsTold) → last ≡ Some told → told.newest ≤ newest) → AreUpTo tellings n newest
    → AreUpTo tellings (n + 1) newest
up_to_last tellings n newest last is here before k told below tells = at_last tellings n k last (λ told. told.newest ≤ newest) is here before told below tells

-- one more that told nothing
none_more : (tellings : Tellings) (n : ℕ) (best : Option EpochsTold) → slice_get tellings n ≡ Some None → IsNewestTold tellings n best → IsNewestTold tellings (n + 1) best
none_more tellings n None is known =
    record {
      one = λ k told. at_last tellings n k None (λ told. ⊥) is (λ told e. none-some told e) known.one told;
      most = up_to_last tellings n 0 None is (λ told e. absurd (none-some told e)) known.most;
    }
none_more tellings n (Some best) is known =
    record {
      one = (known.one.0, omega (arith, known.one.1), known.one.2);
      most = up_to_last tellings n best.newest None is (λ told e. absurd (none-some told e)) known.most;
    }

-- one more that told this is the newest
newest_last : (tellings : Tellings) (n newest : ℕ) (told : EpochsTold) → slice_get tellings n ≡ Some (Some told) → newest ≤ told.newest → AreUpTo tellings n newest → IsNewestTold tellings (n + 1) (Some told)
newest_last tellings n newest told is least most =
    record {
      one = (n, omega arith, is);
      most = up_to_last tellings n told.newest (Some told) is (λ other e. let same : told ≡ other = same_Some told other e in subst (λ (o : EpochsTold). o.newest ≤ told.newest) same (omega arith))
          (λ k other below tells. let up : other.newest ≤ newest = most k other below tells in omega (arith, up, least));
    }

-- it is not
newest_before : (tellings : Tellings) (n : ℕ) (best told : EpochsTold) → slice_get tellings n ≡ Some (Some told) → told.newest ≤ best.newest → IsNewestTold tellings n (Some best) → IsNewestTold tellings (n + 1) (Some best)
newest_before tellings n best told is least known =
    record {
      one = (known.one.0, omega (arith, known.one.1), known.one.2);
      most = up_to_last tellings n best.newest (Some told) is (λ other e. let same : told ≡ other = same_Some told other e in subst (λ (o : EpochsTold). o.newest ≤ best.newest) same least) known.most;
    }

by_test : (tellings : Tellings) (n : ℕ) (best told : EpochsTold) (test : Bool) → nat_lt best.newest told.newest ≡ test → slice_get tellings n ≡ Some (Some told) → IsNewestTold tellings n (Some best)
    → IsNewestTold tellings (n + 1) (if test then Some told else Some best)
by_test tellings n best told true e is known = let less = ltb-true best.newest told.newest e in newest_last tellings n best.newest told is (omega (arith, less)) known.most
by_test tellings n best told false e is known = newest_before tellings n best told is (ltb-false best.newest told.newest e) known

pub one_more : (tellings : Tellings) (n : ℕ) (best last : Option EpochsTold) → slice_get tellings n ≡ Some last → IsNewestTold tellings n best → IsNewestTold tellings (n + 1) (later best last)
one_more tellings n None None is known = none_more tellings n None is known
one_more tellings n None (Some told) is known = newest_last tellings n 0 told is (omega arith) known.most
one_more tellings n (Some best) None is known = none_more tellings n (Some best) is known
one_more tellings n (Some best) (Some told) is known = by_test tellings n best told (nat_lt best.newest told.newest) refl is known
