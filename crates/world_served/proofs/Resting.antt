-- As long as no other host promises or votes, each row that an attempt reads shows of the others the mbal that the opening's row of that disk showed.
use Rattle.std.proofs.Common.{ℕ, ◌+◌, ◌≤◌, ◌≡◌, ◌≢◌, inl, inr, true, Some, None, List, [], ◌∷◌, ◌++◌, length, sym, ap, ◌∙◌, arith}
use Rattle.std.proofs.lemmas.Bool.{cases_order}
use Rattle.disk.specs.Disk.{DiskState}
use Rattle.torn_block.specs.Layout.{cluster_version}
use Rattle.paxos_block.specs.Places.{row_of}
use Rattle.paxos_block.specs.Row.{DecodedBlock, decoded_row}
use Rattle.paxos_block.specs.Votes.{says_in}
use Rattle.attempt.specs.Calls.{Phase, Opening, One, Two, goal}
use Rattle.attempt.specs.Answers as answers
use Rattle.attempt.specs.Answers.{Heard, Answers, told, all_good, row_in}
use Rattle.attempt.proofs.Lists.{length_more, boot_more, row_kept, row_last, row_none}
use Rattle.attempt.proofs.OneDisk.{IsDisk}
use Rattle.world_safety.specs.Knows.{IsCurrent}
use Rattle.world_served.proofs.Blocks.{row_is_seen, shown}

-- Of the rows that were read of a disk: they show of the others the mbal that the opening's row did, and that is what the disk shows now, as long as it has not crashed.
pub record RestsOn (host slot : ℕ) (disk : DiskState) (a : List Heard) : Type 0 where
  pub among : (p : Phase) (g : ℕ) (first later : List DecodedBlock) → row_in Opening a ≡ Some first → row_in p a ≡ Some later → g ≢ host → (says_in later g).mbal ≡ (says_in first g).mbal
  pub now : (g : ℕ) (first : List DecodedBlock) → row_in Opening a ≡ Some first → IsCurrent disk a → g ≢ host → (says_in first g).mbal ≡ (shown disk slot g).mbal

-- so it is on each disk
abbrev pub Rests : (host slot : ℕ) → (ℕ → DiskState) → Answers → Type 0
Rests host slot disk f = (d : ℕ) → RestsOn host slot (disk d) (f d)

-- before anything was heard
pub rests_none : (host slot : ℕ) (disk : DiskState) → RestsOn host slot disk []
rests_none host slot disk = record { among = λ p g first later is. absurd (let none = row_none Opening [] (omega arith) in let both : None ≡ Some first = sym none ∙ is in cc); now = λ g first is. absurd (let none = row_none Opening [] (omega arith) in let both : None ≡ Some first = sym none ∙ is in cc) }

-- the disk is another, which shows the same mbal while the boot number stays
pub rests_on : (host slot : ℕ) (disk new : DiskState) (a : List Heard) → (IsCurrent new a → IsCurrent disk a × ((g : ℕ) → g ≢ host → (shown new slot g).mbal ≡ (shown disk slot g).mbal)) → RestsOn host slot disk a → RestsOn host slot new a
rests_on host slot disk new a same rests =
    record { among = rests.among; now = λ g first is current off. (let old = same current in rests.now g first is old.0 off ∙ sym (old.1 g off)) }

-- ONE ANSWER MORE

-- each phase is over with the opening or later
opening_first : (p : Phase) → goal Opening ≤ goal p
opening_first Opening = omega arith
opening_first One = omega arith
opening_first Two = omega arith

module _ (host slot : ℕ) (disk new : DiskState) (a : List Heard) (x : Heard) (is_disk : IsDisk a) (good : all_good a ≡ true) (boot : new.boot ≡ disk.boot) (kept : (g : ℕ) → g ≢ host → (shown new slot g).mbal ≡ (shown disk slot g).mbal)
    (reads : (row : List DecodedBlock) → x ≡ answers.Told (Some row) → IsCurrent disk a × (decoded_row cluster_version (row_of cluster_version slot disk.bytes) ≡ Some row)) (before : RestsOn host slot disk a) where
  abbrev longer : List Heard
  longer = a ++ x ∷ []

  -- a row is one of before, or the one that is told now
  data Which (p : Phase) (row : List DecodedBlock) : Type 0 where
    Old : (over : goal p ≤ length a) → (is : row_in p a ≡ Some row) → Which p row
    New : (last : length a + 1 ≡ goal p) → (is : x ≡ answers.Told (Some row)) → Which p row

  -- what is told is a sound row
  told_is : (y : Heard) (row : List DecodedBlock) → told y ≡ Some row → y ≡ answers.Told (Some row)
  told_is (answers.Told (Some seen)) row is = let same : seen ≡ row = cc in ap (λ (r : List DecodedBlock). answers.Told (Some r)) same
  told_is (answers.Told None) row is = absurd (cc)
  told_is answers.Done row is = absurd (cc)
  told_is (answers.Booted b) row is = absurd (cc)
  told_is (answers.Fault fault) row is = absurd (cc)

  -- each row is one of these
  which : (p : Phase) (row : List DecodedBlock) → row_in p longer ≡ Some row → Which p row
  which p row is =
      elim (cases_order (length a + 1) (goal p)) [
        | inl same ↦ New same (told_is x row (sym (row_last p a x same) ∙ is))
        | inr (inl below) ↦ absurd (let none = row_none p longer (omega (arith, below, length_more a x)) in let both : None ≡ Some row = sym none ∙ is in cc)
        | inr (inr above) ↦ (let over : goal p ≤ length a = omega arith in Old over (sym (row_kept p a x over) ∙ is))
      ]

  -- what is told now is what the disk shows
  tells_now : (row : List DecodedBlock) (g : ℕ) → x ≡ answers.Told (Some row) → (says_in row g).mbal ≡ (shown disk slot g).mbal
  tells_now row g is = ap (λ (r : List DecodedBlock). (says_in r g).mbal) (row_is_seen (row_of cluster_version slot disk.bytes) row (reads row is).1)

  -- so each shows of the others the mbal that the opening's did
  among_by : (p : Phase) (g : ℕ) (first later : List DecodedBlock) → Which Opening first → Which p later → g ≢ host → (says_in later g).mbal ≡ (says_in first g).mbal
  among_by p g first later (Old over is) (Old over_too is_too) off = before.among p g first later is is_too off
  among_by p g first later (Old over is) (New last is_too) off = tells_now later g is_too ∙ sym (before.now g first is (reads later is_too).0 off)
  among_by p g first later (New last is) (New last_too is_too) off = tells_now later g is_too ∙ sym (tells_now first g is)
  among_by p g first later (New last is) (Old over is_too) off = absurd (omega (arith, last, over, opening_first p))

  -- and that is what the disk shows now
  now_by : (g : ℕ) (first : List DecodedBlock) → Which Opening first → IsCurrent new longer → g ≢ host → (says_in first g).mbal ≡ (shown new slot g).mbal
  now_by g first (New last is) current off = tells_now first g is ∙ sym (kept g off)
  now_by g first (Old over is) current off =
      let booted = is_disk.booted good (omega (arith, over)) in
      before.now g first is (record { good = good; boot = sym (boot_more a x booted.0 booted.1) ∙ current.boot ∙ boot }) off ∙ sym (kept g off)

  -- so it is with the answer
  pub rests_more : RestsOn host slot new longer
  rests_more =
      record {
        among = λ p g first later is is_too. among_by p g first later (which Opening first is) (which p later is_too);
        now = λ g first is. now_by g first (which Opening first is);
      }
