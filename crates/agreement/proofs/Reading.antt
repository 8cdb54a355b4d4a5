-- What a read gives: a block of its host that is not below the confirmed one.
use Rattle.std.proofs.Common.{ℕ, ◌<◌, ◌≤◌, ◌≡◌, ◌≢◌, inl, inr, true, refl, sym, subst, arith}
use Rattle.std.proofs.lemmas.Bool.{cases_eq}
use Rattle.agreement.specs.State.{HOSTS, owner_of, Vote, Block, vote_in, Cell, wrote_one, Asking, State}
use Rattle.agreement.specs.State.Mind.{One}
use Rattle.agreement.specs.Event.{Write, at_rest, being_written, IsReading, IsRow, IsOthers, IsLastVote}
use Rattle.agreement.proofs.Invariant.{Proposals, Accepted, IsNext, IsRegister, IsAsked, IsAsking, Holds}
use Rattle.agreement.proofs.Frames.{stage_at, mind_at}

-- a ballot's owner is one of the hosts
pub owner_below : (b : ℕ) → owner_of b < HOSTS
owner_below b = omega arith

-- the last vote is the old one, or one of those that were read
pub last_vote : {Value : Type 0} (P : Vote Value → Type 0) (IsRead : Block Value → Type 0) (old new : Vote Value) → IsLastVote IsRead old new → P old → ((x : Block Value) → IsRead x → P (vote_in x)) → P new
last_vote P IsRead old new last was reads = elim last.picked [
  | inl same ↦ subst P (sym same) was
  | inr (x, read, same) ↦ subst P (sym same) (reads x read)
]

module _ {Value : Type 0} {proposed : Proposals Value} {accepted : Accepted} {h d : ℕ} (c : Cell Value) (r : IsRegister proposed accepted h d c) where
  -- the confirmed block, or the one in writing
  pub next_read : (x : Block Value) → IsReading c x → IsNext proposed h c.confirmed x
  next_read x (inl same) = subst (IsNext proposed h c.confirmed) (sym same) (record { block = r.confirmed; mbal = omega arith; bal = omega arith })
  next_read x (inr coming) = r.writing x coming

  -- a next block becomes the confirmed one
  pub rests : (x : Block Value) (stage : ℕ) → IsNext proposed h c.confirmed x → IsRegister proposed accepted h d (at_rest x stage)
  rests x stage next = record {
    confirmed = next.block;
    writing = λ y e. absurd (cc);
    kept = λ b acc own. let low = r.kept b acc own in omega (arith, next.bal);
    promised = λ b p is on own. let low = r.promised b p is on own in omega (arith, next.mbal);
  }

  -- a next block is being written
  pub comes : (w : Write Value) → IsNext proposed h c.confirmed w.block → IsRegister proposed accepted h d (being_written c w)
  comes w next = record {
    confirmed = r.confirmed;
    writing = λ y e. let same : w.block ≡ y = cc in subst (IsNext proposed h c.confirmed) same next;
    kept = r.kept;
    promised = r.promised;
  }

module _ {Value : Type 0} (disks : ℕ) (s : State Value) (i : Holds disks s) (h d ballot : ℕ) (row : ℕ → Block Value) (is_row : IsRow s h d ballot row) where
  -- of each other host
  pub row_next : (g : ℕ) → g < HOSTS → g ≢ h → IsNext s.proposed g (s.cell g d).confirmed (row g)
  row_next g within other = next_read (s.cell g d) (i.registers g d) (row g) (is_row.reads g within other)

  -- no other host has on this disk an mbal above the reader's ballot
  pub row_below : (g : ℕ) → g < HOSTS → g ≢ h → (s.cell g d).confirmed.mbal ≤ ballot
  row_below g within other = let next = row_next g within other in omega (arith, next.mbal, is_row.below g within other)

-- A read of phase 1 finds all that is accepted on the disk.
pub finds : {Value : Type 0} (disks : ℕ) (s : State Value) (i : Holds disks s) (h d : ℕ) (row : ℕ → Block Value) (a : Asking Value) (best : Vote Value) → s.mind h ≡ One a → (s.cell h d).stage ≡ wrote_one
    → IsRow s h d a.ballot row → IsLastVote (IsOthers h row) a.best best → (b : ℕ) → s.accepted b d ≡ true → b ≤ best.bal
finds disks s i h d row a best is stage is_row last b acc =
    let cell : IsAsked s.accepted d a (s.cell h d) = stage_at disks s i h d (One a) is (omega arith) in
    let mind : IsAsking s.proposed h a = mind_at disks s i h (One a) is in
    let g = owner_of b in
    elim (cases_eq g h) [
      | inl mine ↦ (let low = (i.registers h d).kept b acc mine in omega (arith, low, cell.write.bal, mind.from_own, last.kept))
      | inr other ↦ (let low = (i.registers g d).kept b acc refl in
          let next = row_next disks s i h d a.ballot row is_row g (owner_below b) other in
          omega (arith, low, next.bal, last.reached (row g) (g, owner_below b, other, refl)))
    ]
