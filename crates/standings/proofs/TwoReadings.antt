-- Whom two readings show, host by host; and that a mask of it is the one of the rows that were read.
use Rattle.std.specs.Prelude.{◌==◌, ◌&&◌, ◌↔◌, slice_index, slice_index_or, if◌then◌else◌}
use Rattle.std.proofs.Common.{ℕ, ◌≡◌, ◌<◌, ◌+◌, ◌∙◌, Bool, true, false, List, length, get_or, set, map, inl, inr, refl, sym, subst, arith}
use Rattle.std.specs.List.{range_with_len}
use Rattle.std.proofs.lemmas.Bool.{cases_lt, eqb-true, eq-eqb}
use Rattle.std.proofs.lemmas.List.{get_or-set_same, get_or-set_other, length-set}
use Rattle.std.proofs.lemmas.List.FromFn.{fill_by_all, get_or-map-range_with_len}
use Rattle.torn_block.specs.declared.layout.TheConstants.{HOSTS}
use Rattle.heartbeat.specs.Beat.{counters_in}
use Rattle.standings.specs.declared.epoch.Epoch.{Epoch}
use Rattle.standings.specs.Epochs.{host_at}
use Rattle.standings.specs.Reading.{AreClear, HasPassed, masked, numbers_in, shown_by, shown_in}
use Rattle.standings.proofs.Numbers.{counters_are_numbers}

also : (a b : Bool) → (b ≡ true → a ≡ true) → b ≡ (a && b)
also true b so = refl
also false true so = absurd (let wrong = so refl in cc)
also false false so = refl

module _ (e : Epoch) (first second : List ℕ) where
  abbrev is_shown : ℕ → Bool
  is_shown = shown_by e (slice_index first) (slice_index second)

  -- The hosts below this one are clear, and the list tells whom of them to show.
  pub record Sofar (shown : List Bool) (host : ℕ) : Type 0 where
    pub count : length shown ≡ HOSTS
    pub clear : (k : ℕ) → k < host → slice_index second k ≡ e.number → slice_index first k ≡ e.number
    pub tells : (k : ℕ) → k < host → get_or shown k false ≡ is_shown k

  pub one_more : (shown : List Bool) (host : ℕ) (is : Bool) → host < 16 → Sofar shown host → (slice_index second host ≡ e.number → slice_index first host ≡ e.number) → is ≡ is_shown host → Sofar (set shown host is) (host + 1)
  one_more shown host is some sofar clear own =
      record {
        count = length-set shown host is ∙ sofar.count;
        clear =
            λ k below.
            elim (cases_lt k host) [
              | inl before ↦ sofar.clear k before
              | inr from ↦ (let same : host ≡ k = omega arith in subst (λ (h : ℕ). slice_index second h ≡ e.number → slice_index first h ≡ e.number) same clear)
            ];
        tells =
            λ k below.
            elim (cases_lt k host) [
              | inl before ↦ get_or-set_other shown host k is false (λ same. absurd (omega arith)) ∙ sofar.tells k before
              | inr from ↦
                  (let same : host ≡ k = omega arith in
                  subst (λ (h : ℕ). get_or (set shown host is) h false ≡ is_shown h) same (get_or-set_same shown host is false (omega (arith, sofar.count)) ∙ own))
            ];
      }

  -- who is inside by the second reading is shown, since it was inside in the first
  pub inside_is_shown : (host : ℕ) → (slice_index second host ≡ e.number → slice_index first host ≡ e.number) → (slice_index second host == e.number) ≡ is_shown host
  inside_is_shown host clear =
      also (slice_index first host == e.number) (slice_index second host == e.number) (λ own. eq-eqb (slice_index first host) e.number (clear (eqb-true (slice_index second host) e.number own)))

  pub all_clear : (HasPassed e (slice_index second) → ⊥) → (shown : List Bool) → Sofar shown 16 → AreClear e (slice_index first) (slice_index second)
  all_clear stay shown sofar host below = (
    elim (cases_lt e.number (slice_index second host)) [ inl less ↦ absurd (stay (host, below, less)) | inr most ↦ most ],
    sofar.clear host below,
  )

  pub all_shown : (shown : List Bool) → Sofar shown 16 → shown ≡ shown_in e first second
  all_shown shown sofar = fill_by_all is_shown shown HOSTS false sofar.count sofar.tells

-- FOR CALLERS

-- somebody has left by the numbers that are told exactly if so by the row
pub passed_by_row : (e : Epoch) (row : List ℕ) → HasPassed e (slice_index (counters_in row)) ↔ HasPassed e (numbers_in row)
passed_by_row e row = (
  (λ passed. (passed.0, passed.1, omega (arith, passed.2, counters_are_numbers row passed.0 passed.1))),
  (λ passed. (passed.0, passed.1, omega (arith, passed.2, counters_are_numbers row passed.0 passed.1))),
)

module _ (e : Epoch) (first second : List ℕ) where
  -- the readings are clear by the numbers that are told exactly if they are so by the bytes of the rows
  pub clear_by_rows : AreClear e (slice_index (counters_in first)) (slice_index (counters_in second)) → AreClear e (numbers_in first) (numbers_in second)
  clear_by_rows clear host below =
      let one = counters_are_numbers first host below in
      let two = counters_are_numbers second host below in
      let now = clear host below in
      (omega (arith, now.0, two), λ own. sym one ∙ now.1 (two ∙ own))

  -- and they show the same hosts
  shown_at : (host : ℕ) → host < HOSTS → slice_index_or (shown_in e (counters_in first) (counters_in second)) host false ≡ shown_by e (numbers_in first) (numbers_in second) host
  shown_at host below =
      let one = counters_are_numbers first host below in
      let two = counters_are_numbers second host below in
      get_or-map-range_with_len (shown_by e (slice_index (counters_in first)) (slice_index (counters_in second))) 0 HOSTS host host false below (omega arith) ∙ (λ i. (one i == e.number) && (two i == e.number))

  host_below : (o : ℕ) → host_at o < HOSTS
  host_below o = omega arith

  -- so a row that is masked by whom the numbers show is masked by the rows
  pub masked_by_rows : (row : List ℕ) → masked (λ host. slice_index_or (shown_in e (counters_in first) (counters_in second)) host false) row ≡ masked (shown_by e (numbers_in first) (numbers_in second)) row
  unfolding masked
  masked_by_rows row =
      λ i. map (λ o. if shown_at (host_at o) (host_below o) i then slice_index_or row o 0 else 0) (range_with_len 0 (length row))
