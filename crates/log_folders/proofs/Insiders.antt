-- Who is inside of the newest epoch of an area, by the numbers of the hosts.
use Rattle.std.specs.Prelude.{◌↔◌, IsTrue, slice_index, slice_index_or}
use Rattle.std.proofs.Common.{◌≡◌, ◌<◌, ◌+◌, ◌∙◌, ◌==◌, ℕ, Bool, false, List, Option, Some, None, get_or, length, sym, ap, subst, arith, inl, inr, eq-eqb}
use Rattle.std.proofs.Math.ListN.{set}
use Rattle.std.proofs.lemmas.Bool.{cases_lt, eqb-true, false≢true}
use Rattle.std.proofs.lemmas.List.{get_or-set_same, get_or-set_other, length-set}
use Rattle.torn_block.specs.declared.layout.TheConstants.{HOSTS}
use Rattle.standings.specs.Epochs.{IsNewest, epoch_by, epoch_of}
use Rattle.standings.specs.Reading.{numbers_in}
use Rattle.log_folders.specs.Areas.{AreInside, IsInside, SaysNumbers}

-- By host, as far as they were looked at, whether it has this number.
pub record Having (numbers : List ℕ) (number : ℕ) (having : List Bool) (n : ℕ) : Type 0 where
  pub count : length having ≡ HOSTS
  pub each : (host : ℕ) → host < n → IsTrue (slice_index_or having host false) ↔ (slice_index numbers host ≡ number)

-- the next one
pub one_had : (numbers : List ℕ) (number : ℕ) (having : List Bool) (n : ℕ) → n < 16 → Having numbers number having n → Having numbers number (set having n (slice_index numbers n == number)) (n + 1)
one_had numbers number having n within before =
    let is = slice_index numbers n == number in
    let there : n < length having = omega (arith, within, before.count) in
    record {
      count = length-set having n is ∙ before.count;
      each =
          λ host below.
          elim (cases_lt host n) [
            | inl lt ↦
                (let other : get_or (set having n is) host false ≡ get_or having host false = get_or-set_other having n host is false (λ same. omega (arith, same, lt)) in
                ((λ t. (before.each host lt).0 (sym other ∙ t)), (λ has. other ∙ (before.each host lt).1 has)))
            | inr ge ↦
                (let same : n ≡ host = omega (arith, below, ge) in
                subst (λ (h : ℕ). IsTrue (get_or (set having n is) h false) ↔ (slice_index numbers h ≡ number)) same
                (let here : get_or (set having n is) n false ≡ is = get_or-set_same having n is false there in
                ((λ t. eqb-true (slice_index numbers n) number (sym here ∙ t)), (λ has. here ∙ eq-eqb (slice_index numbers n) number has))))
          ];
    }

-- the newest epoch is one
one_newest : (area : ℕ) (numbers : ℕ → ℕ) (a b : ℕ) → IsNewest area numbers (Some a) → IsNewest area numbers (Some b) → a ≡ b
one_newest area numbers a b is_a is_b =
    let less = is_b.1 is_a.0.0 a is_a.0.1 is_a.0.2 in
    let more = is_a.1 is_b.0.0 b is_b.0.1 is_b.0.2 in
    omega (arith, less, more)

not_both : (area : ℕ) (numbers : ℕ → ℕ) (a : ℕ) → IsNewest area numbers None → IsNewest area numbers (Some a) → ⊥
not_both area numbers a none some = let no = none some.0.0 some.0.1 in let has = some.0.2 in absurd (cc (no, has))

-- it is the same of numbers that are the same
pub newest_as : (area : ℕ) (f g : ℕ → ℕ) → ((host : ℕ) → host < HOSTS → f host ≡ g host) → (newest : Option ℕ) → IsNewest area f newest → IsNewest area g newest
newest_as area f g same None none = λ host below. ap (epoch_by area) (sym (same host below)) ∙ none host below
newest_as area f g same (Some e) some = (
  (some.0.0, some.0.1, ap (epoch_by area) (sym (same some.0.0 some.0.1)) ∙ some.0.2),
  (λ host other below is. some.1 host other below (ap (epoch_by area) (same host below) ∙ is)),
)

module _ (area : ℕ) (row numbers : List ℕ) (says : SaysNumbers row (Some numbers)) where
  -- whoever has the number of the newest epoch
  pub insiders : (newest : ℕ) → IsNewest area (slice_index numbers) (Some newest) → (inside : List Bool)
      → ((host : ℕ) → host < HOSTS → IsTrue (slice_index_or inside host false) ↔ (slice_index numbers host ≡ (epoch_of newest).number)) → AreInside area row inside
  insiders newest is inside each host below =
      let newest_is = newest_as area (slice_index numbers) (numbers_in row) says.1 (Some newest) is in (
        (λ t. record { sound = says.0; newest = newest; is_newest = newest_is; number = sym (says.1 host below) ∙ (each host below).0 t }),
        (λ one.
            (each host below).1
            (says.1 host below ∙ one.number ∙ ap (λ (e : ℕ). (epoch_of e).number) (one_newest area (numbers_in row) one.newest newest one.is_newest newest_is))),
      )

  -- nobody, where the area has had no epoch
  pub none_inside : IsNewest area (slice_index numbers) None → (host : ℕ) → IsInside area row host → ⊥
  none_inside none host one = not_both area (numbers_in row) one.newest (newest_as area (slice_index numbers) (numbers_in row) says.1 None none) one.is_newest

-- nobody, by a list that has nobody
pub nobody : (area : ℕ) (row : List ℕ) (inside : List Bool) → ((host : ℕ) → host < HOSTS → slice_index_or inside host false ≡ false) → ((host : ℕ) → IsInside area row host → ⊥) → AreInside area row inside
nobody area row inside none outside host below = ((λ t. absurd (false≢true (sym (none host below) ∙ t))), (λ one. absurd (outside host one)))
