-- What a window knows of the disks, and by what of their pasts it knows that.
use Rattle.std.specs.Prelude.{◌≡◌, ◌≢◌, ◌+◌, ℕ, Bool, true, List, [], ◌∷◌, ◌++◌, slice_index_or, Option, Some, None}
use Rattle.disk.specs.Disk.{Attach, Read, Sync, Answer, Booted, Told, Done}
use Rattle.torn_block.specs.declared.layout.TheConstants.{ROW_LENGTH, BLOCK_LENGTH}
use Rattle.heartbeat.specs.Beat.{counters_in}
use Rattle.standings.specs.declared.epoch.Epoch.{Epoch}
use Rattle.standings.specs.Epochs.{base_of, number_place}
use Rattle.standings.specs.Reading.{HasPassed, numbers_in}
use Rattle.standings.specs.Past.{Made, Past, made, reading, AllSpare, IsSureOf}
use Rattle.window.specs.declared.sight.Sight.{Sight}
use Rattle.window.specs.declared.step.Reading.{Reading}
use Rattle.window.specs.declared.step.Step.{Step}
use Rattle.window.specs.declared.step.Step.TheVariants.{First, Row, Second}

-- PASTS

-- what a host did on each disk, since its start
abbrev pub Pasts : Type 0
Pasts = ℕ → Past

-- A call more was made, on this disk.
pub record AddsCall (old new : Pasts) (disk : ℕ) (m : Made) : Type 0 where
  pub here : new disk ≡ old disk ++ m ∷ []
  pub others : (other : ℕ) → other ≢ disk → new other ≡ old other

-- Calls were made on this disk alone.
pub record AddsCalls (old new : Pasts) (disk : ℕ) : Type 0 where
  pub more : Past
  pub here : new disk ≡ old disk ++ more
  pub others : (other : ℕ) → other ≢ disk → new other ≡ old other

-- ONE DISK

-- no call was answered by a boot number
abbrev pub TellsNone : Answer → Type 0
TellsNone (Booted boot) = ⊥
TellsNone other = Unit {0}

abbrev pub AllTellNone : Past → Type 0
AllTellNone [] = Unit {0}
AllTellNone (m ∷ past) = TellsNone m.answer × AllTellNone past

-- This is the boot number that the disk told last.
pub record IsAttached (boot : ℕ) (past : Past) : Type 0 where
  pub before : Past
  pub behind : Past
  pub is : past ≡ before ++ made Attach (Booted boot) ∷ behind
  pub last : AllTellNone behind

-- Since it told its boot number last it was synced under that one. The host did not write its number since the sync.
pub record IsSynced (n area host boot : ℕ) (past : Past) : Type 0 where
  pub before : Past
  pub behind : Past
  pub is : past ≡ before ++ made (Sync boot) Done ∷ behind
  pub last : AllTellNone behind
  pub still : AllSpare (number_place n area host) BLOCK_LENGTH behind

-- These are the numbers that a row of standings says.
pub record AreSaid (row numbers : List ℕ) : Type 0 where
  pub are : numbers ≡ counters_in row

-- These numbers were read in an area's row of standings.
pub record AreNumbers (n area boot : ℕ) (numbers : List ℕ) (past : Past) : Type 0 where
  pub row : List ℕ
  pub early : Past
  pub later : Past
  pub is : past ≡ early ++ reading n area boot row ∷ later
  pub says : AreSaid row numbers

-- the same where there are some
abbrev pub AreNumbersOf : (n area boot : ℕ) → Option (List ℕ) → Past → Type 0
AreNumbersOf n area boot None past = Unit {0}
AreNumbersOf n area boot (Some numbers) past = AreNumbers n area boot numbers past

-- Each thing that was noted of a disk is so by its past.
pub record Knows (n : ℕ) (e : Epoch) (host : ℕ) (past : Past) (s : Sight) : Type 0 where
  pub attached : IsAttached s.boot.number past
  pub synced : s.is_synced ≡ true → IsSynced n e.area host s.boot.number past
  pub sure : s.is_sure ≡ true → IsSureOf n e.area host e.number past
  pub numbers : AreNumbersOf n e.area s.boot.number s.numbers past

-- so it is where nothing was noted
abbrev pub KnowsOf : (n : ℕ) → Epoch → (host : ℕ) → Past → Option Sight → Type 0
KnowsOf n e host past None = Unit {0}
KnowsOf n e host past (Some s) = Knows n e host past s

-- The row at a place of the image was read last of all. Before it these numbers were read in the standings.
pub record HasReadRow (n : ℕ) (e : Epoch) (boot at : ℕ) (row first : List ℕ) (past : Past) : Type 0 where
  pub standings : List ℕ
  pub early : Past
  pub before : Past
  pub is : past ≡ early ++ reading n e.area boot standings ∷ before ++ made (Read boot (base_of n e.area + at) ROW_LENGTH) (Told row) ∷ []
  pub says : AreSaid standings first

-- what was read for a read under way
abbrev pub HasRead : (n : ℕ) → Epoch → (boot at : ℕ) → (row : List ℕ) → Past → Step → Type 0
HasRead n e boot at row past First = Unit {0}
HasRead n e boot at row past (Row first is_last) = AreNumbers n e.area boot first past
HasRead n e boot at row past (Second first is_last) = HasReadRow n e boot at row first past

-- A row of standings showed that somebody has left the epoch.
pub record ShowsLater (n : ℕ) (e : Epoch) (past : Past) : Type 0 where
  pub boot : ℕ
  pub row : List ℕ
  pub before : Past
  pub behind : Past
  pub is : past ≡ before ++ reading n e.area boot row ∷ behind
  pub passed : HasPassed e (numbers_in row)

-- ALL DISKS

-- what was seen of a disk
abbrev pub sight_in : List (Option Sight) → ℕ → Option Sight
sight_in sights disk = slice_index_or sights disk None

-- Each thing that is kept is so by the pasts of the disks.
pub record AllKnow (n : ℕ) (e : Epoch) (host : ℕ) (seen : List (Option Sight)) (under_way : Option Reading) (row : List ℕ) (has_passed : Bool) (pasts : Pasts) : Type 0 where
  pub sights : (disk : ℕ) → KnowsOf n e host (pasts disk) (sight_in seen disk)
  pub reading : (r : Reading) → under_way ≡ Some r → HasRead n e r.boot.number r.at row (pasts r.disk) r.step
  pub passed : has_passed ≡ true → (disk : ℕ) × ShowsLater n e (pasts disk)
