-- The least host of a kind, and the disks on which a counter differs, one by one.
use Rattle.std.proofs.Common.{ℕ, zero, suc, ◌+◌, ◌<◌, ◌≤◌, ◌≡◌, Bool, true, false, Some, None, length, take, get_or, inl, inr, ap, ◌∙◌, refl, arith}
use Rattle.std.specs.List.{count_by, find, range_with_len, zip}
use Rattle.std.proofs.lemmas.Bool.{cases_eq}
use Rattle.std.proofs.lemmas.List.{take_all}
use Rattle.std.proofs.lemmas.List.Sums.{count_by_more_yes, count_by_more_no}
use Rattle.std.proofs.lemmas.Slice.Zip.{length-zip, get_or-zip}
use Rattle.heartbeat.specs.Suggesting.{Readings, has_moved, moves_in}

-- the first that passes is found
first_from : (p : ℕ → Bool) (a n k : ℕ) → a ≤ k → k < a + n → ((j : ℕ) → a ≤ j → j < k → p j ≡ false) → p k ≡ true → find p (range_with_len a n) ≡ Some k
first_from p a zero k from below none here = absurd (omega arith)
first_from p a (suc n) k from below none here = elim (cases_eq a k) [
  | inl same ↦ (let first : p a ≡ true = ap p same ∙ here in rw first (ap Some same))
  | inr off ↦ rw (none a (omega arith) (omega arith)) (first_from p (a + 1) n k (omega arith) (omega arith) (λ j later under. none j (omega arith) under) here)
]

-- where none passes, none is found
none_from : (p : ℕ → Bool) (a n : ℕ) → ((j : ℕ) → a ≤ j → j < a + n → p j ≡ false) → find p (range_with_len a n) ≡ None
none_from p a zero none = refl
none_from p a (suc n) none = rw (none a (omega arith) (omega arith)) (none_from p (a + 1) n (λ j later under. none j (omega arith) (omega arith)))

pub none_found : (p : ℕ → Bool) (n : ℕ) → ((j : ℕ) → j < n → p j ≡ false) → find p (range_with_len 0 n) ≡ None
none_found p n none = none_from p 0 n (λ j from under. none j (omega arith))

pub first_found : (p : ℕ → Bool) (n k : ℕ) → ((j : ℕ) → j < k → p j ≡ false) → k < n → p k ≡ true → find p (range_with_len 0 n) ≡ Some k
first_found p n k none below here = first_from p 0 n k (omega arith) (omega arith) (λ j from under. none j under) here

module _ (host : ℕ) (before after : Readings) (disk : ℕ) (some : disk < length before) (many : length before ≡ length after) where
  pair : get_or (zip before after) disk (None, None) ≡ (get_or before disk None, get_or after disk None)
  pair = get_or-zip before after disk (None, None) some (omega arith)

  inside : disk < length (zip before after)
  inside = omega (arith, length-zip before after)

  -- one disk more, on which it differs or does not
  pub one_more : has_moved host (get_or before disk None) (get_or after disk None) ≡ true → count_by (moves_in host) (take (disk + 1) (zip before after)) ≡ count_by (moves_in host) (take disk (zip before after)) + 1
  one_more moved = count_by_more_yes (moves_in host) (zip before after) disk (None, None) inside (ap (moves_in host) pair ∙ moved)

  pub none_more : has_moved host (get_or before disk None) (get_or after disk None) ≡ false → count_by (moves_in host) (take (disk + 1) (zip before after)) ≡ count_by (moves_in host) (take disk (zip before after))
  none_more stays = count_by_more_no (moves_in host) (zip before after) disk (None, None) inside (ap (moves_in host) pair ∙ stays)

-- all disks
pub all_counted : (host : ℕ) (before after : Readings) → length before ≡ length after → count_by (moves_in host) (take (length before) (zip before after)) ≡ count_by (moves_in host) (zip before after)
all_counted host before after many =
    ap (count_by (moves_in host)) (take_all (length before) (zip before after) (omega (arith, length-zip before after)))
