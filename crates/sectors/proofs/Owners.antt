-- Names of machines that differ, and how many disks say one.
use Rattle.std.proofs.Common.{◌≡◌, ◌≢◌, ◌≤◌, ◌<◌, ◌+◌, ◌∙◌, refl, ℕ, Bool, true, false, not, cond, sym, ap, subst, arith, inl, inr, get_or, length}
use Rattle.std.specs.Prelude.{slice_get, Option, Some, None, IfSome, IfNone, bytes_eq}
use Rattle.std.specs.Option.{unwrap_or}
use Rattle.std.specs.List.{count_by}
use Rattle.std.proofs.lemmas.Bool.{both_ways, not-true, cases_order}
use Rattle.std.proofs.lemmas.List.Sums.{get_or-le-sum_by}
use Rattle.std.proofs.lemmas.Option.{slice_get_within, slice_get-get_or}
use Rattle.std.proofs.lemmas.Slice.Eq.{bytes_eq-Decides}
use Rattle.sectors.specs.declared.name.MachineName.{MachineName}
use Rattle.sectors.specs.Owners.{Said, says, IsAnother, IsMostSaid, NobodyElse}

-- from what `!=` of their bytes answers
pub is_other : (a b : MachineName) → not (bytes_eq a.bytes b.bytes) ≡ true → a ≢ b
is_other a b differ same =
    let equal = (bytes_eq-Decides a.bytes b.bytes).1 (ap (λ (n : MachineName). n.bytes) same) in
    both_ways (bytes_eq a.bytes b.bytes) (not-true (bytes_eq a.bytes b.bytes) differ) equal

by_test : (t : Bool) → (t ≡ true → ⊥) → not t ≡ true
by_test true h = absurd (h refl)
by_test false h = refl

pub others_differ : (a b : MachineName) → a ≢ b → not (bytes_eq a.bytes b.bytes) ≡ true
others_differ a b other =
    by_test (bytes_eq a.bytes b.bytes) (λ equal. other (λ i. record { bytes = (bytes_eq-Decides a.bytes b.bytes).0 equal i }))

-- Of the first n disks none says another machine's name that more disks say than these; the name found is said by so many.
pub record Best (machine : MachineName) (said : Said) (n most : ℕ) (found : Option MachineName) : Type 0 where
  pub least : (k : ℕ) (rival : MachineName) → k < n → slice_get said k ≡ Some (Some rival) → IsAnother machine rival → count_by (says rival) said ≤ most
  pub some : IfSome found (λ name. IsAnother machine name × ((k : ℕ) × (slice_get said k ≡ Some (Some name))) × (count_by (says name) said ≡ most))
  pub none : IfNone found (most ≡ 0)

name_in : MachineName → Option (Option MachineName) → MachineName
name_in d (Some (Some name)) = name
name_in d (Some None) = d
name_in d None = d

pub one_name : (a b : MachineName) (o : Option (Option MachineName)) → o ≡ Some (Some a) → o ≡ Some (Some b) → a ≡ b
unfolding name_in
one_name a b o e f = ap (name_in a) (sym e ∙ f)

pub nothing_said : (a : MachineName) (o : Option (Option MachineName)) (one : Option MachineName) → o ≡ Some one → o ≡ Some (Some a) → one ≡ Some a
nothing_said a o one e f = ap (λ (p : Option (Option MachineName)). unwrap_or p None) (sym e ∙ f)

module _ (machine : MachineName) (said : Said) (n most : ℕ) (found : Option MachineName) (best : Best machine said n most found) where
  -- the next disk says nothing, or no other machine, or one that no more disks say
  pub best_kept : ((rival : MachineName) → slice_get said n ≡ Some (Some rival) → IsAnother machine rival → count_by (says rival) said ≤ most) → Best machine said (n + 1) most found
  best_kept next = record {
    least = λ k rival below here another. elim (cases_order k n) [
      | inl same ↦ next rival (ap (slice_get said) (sym same) ∙ here) another
      | inr later ↦ elim later [ inl before ↦ best.least k rival before here another | inr behind ↦ absurd (omega arith) ]
    ];
    some = best.some;
    none = best.none;
  }

  -- the next disk says one that more disks say
  pub best_taken : (name : MachineName) → slice_get said n ≡ Some (Some name) → IsAnother machine name → most < count_by (says name) said → Best machine said (n + 1) (count_by (says name) said) (Some name)
  best_taken name here another more = record {
    least = λ k rival below there other. elim (cases_order k n) [
      | inl same ↦
          (let one = one_name rival name (slice_get said n) (ap (slice_get said) (sym same) ∙ there) here in
          let e = ap (λ (r : MachineName). count_by (says r) said) one in
          omega (arith, e))
      | inr later ↦ elim later [ inl before ↦ (let a = best.least k rival before there other in omega arith) | inr behind ↦ absurd (omega arith) ]
    ];
    some = (another, (n, here), refl);
    none = tt;
  }

-- the same of numbers that are equal
pub best_is : (machine : MachineName) (said : Said) (n most most' : ℕ) (found found' : Option MachineName) → most' ≡ most → found' ≡ found → Best machine said n most found → Best machine said n most' found'
best_is machine said n most most' found found' e f best =
    subst (λ (m : ℕ). Best machine said n m found') (sym e) (subst (λ (o : Option MachineName). Best machine said n most o) (sym f) best)

-- nothing found, of all disks: none says another machine's name
pub best_nothing : (machine : MachineName) (said : Said) (n most : ℕ) → length said ≤ n → most ≡ 0 → Best machine said n most None → NobodyElse machine said
best_nothing machine said n most all none best k name here another =
    let least = best.least k name (omega (arith, all, slice_get_within said k (Some name) here)) here another in
    let within = slice_get_within said k (Some name) here in
    let one = get_or-le-sum_by (λ (one : Option MachineName). cond (says name one) 1 0) said k None within in
    let same = nothing_said name (slice_get said k) (get_or said k None) (slice_get-get_or said k None within) here in
    let test : says name (get_or said k None) ≡ true = ap (says name) same ∙ (bytes_eq-Decides name.bytes name.bytes).1 refl in
    let some : 1 ≤ count_by (says name) said = subst (λ (b : Bool). cond b 1 0 ≤ count_by (says name) said) test one in
    omega (arith, some, least, none)

-- something found, of all disks
pub best_found : (machine : MachineName) (said : Said) (n most : ℕ) (name : MachineName) → length said ≤ n → Best machine said n most (Some name) → IsMostSaid machine said name
best_found machine said n most name all best =
    record {
      another = best.some.0;
      disk = best.some.1.0;
      here = best.some.1.1;
      most = λ k rival there other. let a = best.least k rival (omega (arith, all, slice_get_within said k (Some rival) there)) there other in omega (arith, a, best.some.2);
    }

pub best_ends : (machine : MachineName) (said : Said) (n most : ℕ) (found : Option MachineName) → length said ≤ n → Best machine said n most found → IfNone found (NobodyElse machine said) × IfSome found (IsMostSaid machine said)
best_ends machine said n most None all best = (best_nothing machine said n most all best.none best, tt)
best_ends machine said n most (Some name) all best = (tt, best_found machine said n most name all best)
