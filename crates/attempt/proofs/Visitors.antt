-- Which disks take part in a phase, wait for its calls and are left in it, and what one answer more changes of that.
use Rattle.std.specs.Prelude.{nat_lt, nat_le}
use Rattle.std.proofs.Common.{inl, inr, true≢false, ℕ, ◌<◌, ◌≤◌, ◌≡◌, ◌==◌, ◌&&◌, not, Bool, true, false, Option, None, List, [], ◌∷◌, ◌++◌, length, refl, sym, subst, ap, ◌∙◌, arith}
use Rattle.std.proofs.lemmas.Bool.{and_parts, and_from, and_left, and_right, ne_eqb, lt-ltb, ltb-true, le-ltb, le-leb, leb-true, not-true, both_ways, cases_lt}
use Rattle.torn_block.specs.declared.layout.TheConstants.{LAST_SEQUENCE}
use Rattle.attempt.specs.Calls.{Phase, start, goal}
use Rattle.attempt.specs.Answers.{Heard, Answers, all_good, is_bad, last_row, seen_block, more}
use Rattle.attempt.specs.Setup.{Setup}
use Rattle.attempt.specs.Visits.{is_stuck, is_past, takes_part, waits, visited, is_left, is_left_at}
use Rattle.attempt.proofs.Firsts.{none_below, below_none}
use Rattle.attempt.proofs.Lists.{length_more, good_more}
use Rattle.attempt.proofs.More.{by_disk}

-- ONE DISK

-- what taking part is made of
pub record IsPart (p : Phase) (a : List Heard) : Type 0 where
  pub good : all_good a ≡ true
  pub come : start p ≤ length a

-- the test tells it
pub part_is : (p : Phase) (a : List Heard) → takes_part p a ≡ true → IsPart p a
part_is p a takes =
    let parts = and_parts (all_good a) (nat_le (start p) (length a)) takes in
    record { good = parts.0; come = leb-true (start p) (length a) parts.1 }

-- and is passed by it
pub part_if : (p : Phase) (a : List Heard) → IsPart p a → takes_part p a ≡ true
part_if p a is = and_from (all_good a) (nat_le (start p) (length a)) is.good (le-leb (start p) (length a) is.come)

-- a write that is not the next call is not due to a spent block
pub not_stuck : (s : Setup) (p : Phase) (a : List Heard) → start p < length a → is_stuck s p a ≡ false
not_stuck s p a l = and_left (length a == start p) (nat_le LAST_SEQUENCE (seen_block (last_row a) s.host).sequence) (ne_eqb (length a) (start p) (λ e. omega arith))

-- a disk that has made all calls of a phase waits for none
pub waits_over : (s : Setup) (p : Phase) (a : List Heard) → goal p ≤ length a → waits s p a ≡ false
waits_over s p a l = and_left (takes_part p a && nat_lt (length a) (goal p)) (not (is_stuck s p a)) (and_right (takes_part p a) (nat_lt (length a) (goal p)) (le-ltb (length a) (goal p) l))

-- what waiting is made of
pub record IsWaiting (s : Setup) (p : Phase) (a : List Heard) : Type 0 where
  pub part : IsPart p a
  pub short : length a < goal p
  pub unspent : is_stuck s p a ≡ false

-- the test tells it
pub waiting_is : (s : Setup) (p : Phase) (a : List Heard) → waits s p a ≡ true → IsWaiting s p a
waiting_is s p a is =
    let parts = and_parts (takes_part p a && nat_lt (length a) (goal p)) (not (is_stuck s p a)) is in
    let first = and_parts (takes_part p a) (nat_lt (length a) (goal p)) parts.0 in
    record { part = part_is p a first.0; short = ltb-true (length a) (goal p) first.1; unspent = not-true (is_stuck s p a) parts.1 }

-- and is passed by it
pub waiting_if : (s : Setup) (p : Phase) (a : List Heard) → IsWaiting s p a → waits s p a ≡ true
waiting_if s p a is =
    and_from (takes_part p a && nat_lt (length a) (goal p)) (not (is_stuck s p a))
    (and_from (takes_part p a) (nat_lt (length a) (goal p)) (part_if p a is.part) (lt-ltb (length a) (goal p) is.short))
    (ap not is.unspent)

-- who takes part in a phase has come through those before
pub part_before : (p q : Phase) (a : List Heard) → start q ≤ start p → IsPart p a → IsPart q a
part_before p q a less is = record { good = is.good; come = omega (arith, is.come) }

-- a good answer leaves a disk in its phases
pub part_more : (p : Phase) (a : List Heard) (x : Heard) → is_bad x ≡ false → IsPart p a → IsPart p (a ++ x ∷ [])
part_more p a x good is =
    record {
      good = good_more a x ∙ and_from (all_good a) (not (is_bad x)) is.good (ap not good);
      come = omega (arith, length_more a x, is.come);
    }

-- and it takes part in nothing then
pub bad_part : (p : Phase) (a : List Heard) → all_good a ≡ false → takes_part p a ≡ false
bad_part p a bad = and_left (all_good a) (nat_le (start p) (length a)) bad

-- a disk left takes part
pub left_is : (s : Setup) (p : Phase) (at : Option ℕ) (f : Answers) (d : ℕ) → is_left_at at s p f d ≡ true → IsPart p (f d)
left_is s p at f d left = part_is p (f d) (and_parts (takes_part p (f d)) (not (is_stuck s p (f d) && is_past at d)) left).0

-- a disk that takes part and has no write due to a spent block is left
pub left_if : (s : Setup) (p : Phase) (at : Option ℕ) (f : Answers) (d : ℕ) → IsPart p (f d) → is_stuck s p (f d) ≡ false → is_left_at at s p f d ≡ true
left_if s p at f d is unspent = and_from (takes_part p (f d)) (not (is_stuck s p (f d) && is_past at d)) (part_if p (f d) is) (ap not (and_left (is_stuck s p (f d)) (is_past at d) unspent))

-- ALL DISKS

-- not stuck on a disk that is past
past_none : (stuck : Bool) → not (stuck && true) ≡ true → stuck ≡ false
past_none true is = absurd (true≢false (sym is))
past_none false is = refl

-- by one disk's tests
over_by : (s : Setup) (p : Phase) (f : Answers) (d : ℕ) → waits s p (f d) ≡ false → is_left_at None s p f d ≡ true → goal p ≤ length (f d)
over_by s p f d still left =
    let unspent = past_none (is_stuck s p (f d)) (and_parts (takes_part p (f d)) (not (is_stuck s p (f d) && true)) left).1 in
    elim (cases_lt (length (f d)) (goal p)) [
      | inl short ↦ absurd (both_ways (waits s p (f d)) still (waiting_if s p (f d) (record { part = left_is s p None f d left; short = short; unspent = unspent })))
      | inr over ↦ over
    ]

-- once no disk waits, a disk left has made all calls of the phase
pub left_over : (s : Setup) (p : Phase) (f : Answers) (d : ℕ) → visited s p f ≡ None → d < s.disks → is_left s p f d ≡ true → goal p ≤ length (f d)
left_over s p f d none l left =
    over_by s p f d (none_below s.disks (λ e. waits s p (f e)) none d l) (subst (λ (at : Option ℕ). is_left_at at s p f d ≡ true) none left)

-- a phase that is over stays so
pub visited_kept : (s : Setup) (f : Answers) (d : ℕ) (x : Heard) (p : Phase) → goal p ≤ length (f d) → visited s p f ≡ None → visited s p (more f d x) ≡ None
visited_kept s f d x p over none = below_none s.disks (λ e. waits s p (more f d x e)) (λ e l. by_disk f d x (λ k a. k < s.disks → waits s p a ≡ false)
    (λ u. waits_over s p (f d ++ x ∷ []) (omega (arith, length_more (f d) x)))
    (λ k off u. none_below s.disks (λ y. waits s p (f y)) none k u)
    e l)
