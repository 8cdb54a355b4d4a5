-- What a search for the newest epoch calls on each disk, and what of the pasts holds what it keeps.
use Rattle.std.specs.Prelude.{◌≡◌, ◌⊎◌, ◌+◌, ◌*◌, ◌-◌, ◌≤◌, ◌<◌, ◌==◌, ℕ, Bool, List, [], ◌∷◌, ◌++◌, length, slice_index, slice_index_or, Option, Some, None, is_some, if◌then◌else◌}
use Rattle.disk.specs.declared.fault.DiskFault.{DiskFault}
use Rattle.disk.specs.Disk.{Call, Attach, Read, Booted, Fault}
use Rattle.torn_block.specs.Layout.{cluster_version}
use Rattle.torn_block.specs.declared.layout.TheConstants.{DISKS, HOSTS, ROW_LENGTH, LAST_SEQUENCE}
use Rattle.heartbeat.specs.Beat.{IsDamagedArea, counters_in}
use Rattle.paxos_block.specs.Places.{image_length}
use Rattle.attempt.specs.Numbers.{count}
use Rattle.standings.specs.Epochs.{epoch_by, standings_place}
use Rattle.standings.specs.Past.{Made, Past, made, reading}
use Rattle.coming.specs.declared.found.Found.{Found}
use Rattle.coming.specs.declared.found.Found.TheVariants as found
use Rattle.coming.specs.declared.search.Search.{Search}
use Rattle.coming.specs.declared.search.Step.{Step}
use Rattle.coming.specs.declared.search.Step.TheVariants as step

-- of each area the numbers of the hosts
abbrev pub Standings : Type 0
Standings = List (List ℕ)

-- by disk, where both rows were read
abbrev pub Readings : Type 0
Readings = List (Option Standings)

abbrev pub on_disk : Readings → ℕ → Option Standings
on_disk readings d = slice_index_or readings d None

-- all that a host did on each disk; and with one call more on this one
abbrev pub Pasts : Type 0
Pasts = ℕ → Past

abbrev pub and_made : Pasts → ℕ → Made → Pasts
and_made pasts d m e = if e == d then pasts d ++ m ∷ [] else pasts e

-- THE CALL THAT IS DUE

-- how many bytes the image of an epoch has
abbrev pub image_of : Search → ℕ
image_of s = image_length cluster_version s.slots

abbrev pub call_at : Step → Search → Call
call_at step.Attaching s = Attach
call_at (step.First boot) s = Read boot.number (standings_place (image_of s) 0) ROW_LENGTH
call_at (step.Second boot first) s = Read boot.number (standings_place (image_of s) 1) ROW_LENGTH

-- on the disk that is asked
abbrev pub call_due : Search → ℕ × Call
call_due s = (s.disk, call_at s.step s)

-- WHAT WAS READ

-- The host attached to the disk, and read both rows of standings there. That is the last that it did.
pub record AreRead (n : ℕ) (standings : Standings) (past : Past) : Type 0 where
  pub boot : ℕ
  pub first : List ℕ
  pub second : List ℕ
  pub before : Past
  pub is : past ≡ before ++ made Attach (Booted boot) ∷ reading n 0 boot first ∷ reading n 1 boot second ∷ []
  pub numbers : standings ≡ counters_in first ∷ counters_in second ∷ []

-- or a call failed
pub record HasFailed (past : Past) : Type 0 where
  pub before : Past
  pub call : Call
  pub fault : DiskFault
  pub is : past ≡ before ++ made call (Fault fault) ∷ []

-- or one of these rows is damaged
pub record ShowsDamage (n : ℕ) (past : Past) : Type 0 where
  pub before : Past
  pub area : ℕ
  pub boot : ℕ
  pub row : List ℕ
  pub is : past ≡ before ++ reading n area boot row ∷ []
  pub damaged : IsDamagedArea row

-- The disk was asked, with this outcome.
abbrev pub WasAsked : ℕ → Option Standings → Past → Type 0
WasAsked n None past = HasFailed past ⊎ ShowsDamage n past
WasAsked n (Some standings) past = AreRead n standings past

-- on so many of the first disks both rows were read
abbrev pub has_answered : Readings → ℕ → Bool
has_answered readings d = is_some (on_disk readings d)

abbrev pub answered_of : ℕ → Readings → ℕ
answered_of disks readings = count disks (has_answered readings)

-- a host's number in an area on a disk
abbrev pub number_in : Standings → (area host : ℕ) → ℕ
number_in standings area host = slice_index (slice_index_or standings area []) host

-- a number that was read on one of these disks belongs to this epoch
pub record IsReached (disks : ℕ) (readings : Readings) (order : ℕ) : Type 0 where
  pub disk : ℕ
  pub is_disk : disk < disks
  pub standings : Standings
  pub read : on_disk readings disk ≡ Some standings
  pub area : ℕ
  pub is_area : area < 2
  pub host : ℕ
  pub is_host : host < HOSTS
  pub belongs : epoch_by area (number_in standings area host) ≡ Some order

-- no number that was read on one of these disks belongs to a newer epoch
abbrev pub AreUpTo : ℕ → Readings → ℕ → Type 0
AreUpTo disks readings newest = (order : ℕ) → IsReached disks readings order → order ≤ newest

-- HOW IT ENDS

-- More than half of the disks answered, and this is the newest epoch to which a number belongs that was read there.
pub record IsNewest (disks : ℕ) (readings : Readings) (order answered : ℕ) : Type 0 where
  pub answers : answered ≡ answered_of disks readings
  pub majority : disks < 2 * answered
  pub reached : IsReached disks readings order
  pub up_to : AreUpTo disks readings order

-- Or half of the disks answered, or fewer.
abbrev pub HasFound : ℕ → Readings → Found → Type 0
HasFound disks readings (found.Newest order answered) = IsNewest disks readings order answered
HasFound disks readings found.TooFew = 2 * answered_of disks readings ≤ disks

-- WHAT IS KEPT AT ANY TIME

-- so many disks were asked
abbrev pub asked_by : Option Found → (disk disks : ℕ) → ℕ
asked_by None disk disks = disk
asked_by (Some end) disk disks = disks

abbrev pub asked : Search → ℕ
asked s = asked_by s.end s.disk s.disks

abbrev pub AreNumbers : List ℕ → Type 0
AreNumbers numbers = (host : ℕ) → host < HOSTS → slice_index numbers host ≤ LAST_SEQUENCE

abbrev pub IsStep : Step → Type 0
IsStep step.Attaching = Unit {0}
IsStep (step.First boot) = Unit {0}
IsStep (step.Second boot first) = AreNumbers first

abbrev pub EndsBy : ℕ → Readings → Option Found → Type 0
EndsBy disks readings None = Unit {0}
EndsBy disks readings (Some end) = HasFound disks readings end

-- what is counted goes by the readings on the first disks
pub record Counts (disks : ℕ) (readings : Readings) (answered newest : ℕ) : Type 0 where
  pub answers : answered ≡ answered_of disks readings
  pub up_to : AreUpTo disks readings newest
  pub reached : 0 < answered → IsReached disks readings newest
  pub nothing : answered ≡ 0 → newest ≡ 0

pub record IsSound (s : Search) : Type 0 where
  pub asks_one : s.disk < s.disks
  pub few : s.disks ≤ DISKS
  pub room : length s.readings ≡ DISKS
  pub step : IsStep s.step
  pub counts : Counts (asked s) s.readings s.answered s.newest
  pub later : (d : ℕ) → asked s ≤ d → on_disk s.readings d ≡ None
  pub ends : EndsBy s.disks s.readings s.end

-- a row is read now
abbrev pub IsReadDue : Step → Type 0
IsReadDue step.Attaching = ⊥
IsReadDue (step.First boot) = Unit {0}
IsReadDue (step.Second boot first) = Unit {0}

-- all of it but the step and the end, with the disk that is asked counted as asked
pub record IsSoundAfter (s : Search) : Type 0 where
  pub asks_one : s.disk < s.disks
  pub few : s.disks ≤ DISKS
  pub room : length s.readings ≡ DISKS
  pub step : IsStep s.step
  pub counts : Counts (s.disk + 1) s.readings s.answered s.newest
  pub later : (d : ℕ) → s.disk + 1 ≤ d → on_disk s.readings d ≡ None

-- WHAT IT KNOWS

-- what it did on the disk that it asks
abbrev pub IsAt : ℕ → Step → Past → Type 0
IsAt n step.Attaching past = Unit {0}
IsAt n (step.First boot) past = (before : Past) × (past ≡ before ++ made Attach (Booted boot.number) ∷ [])
IsAt n (step.Second boot first) past =
    (before : Past) × (row : List ℕ) × (past ≡ before ++ made Attach (Booted boot.number) ∷ reading n 0 boot.number row ∷ []) × (first ≡ counters_in row)

abbrev pub IsGoing : Option Found → Search → Past → Type 0
IsGoing None s past = IsAt (image_of s) s.step past
IsGoing (Some end) s past = Unit {0}

-- in these pasts all is so that is kept
pub record IsKept (s : Search) (pasts : Pasts) : Type 0 where
  pub read : (d : ℕ) → d < asked s → WasAsked (image_of s) (on_disk s.readings d) (pasts d)
  pub here : IsGoing s.end s (pasts s.disk)

-- These pasts of a host, on disks whose images have so many bytes, lead to what is kept.
pub record Knows (n : ℕ) (pasts : Pasts) (s : Search) : Type 0 where
  pub image : image_of s ≡ n
  pub kept : IsKept s pasts

-- it goes on over the same disks
pub record IsSame (old new : Search) : Type 0 where
  pub slots : new.slots ≡ old.slots
  pub disks : new.disks ≡ old.disks

-- HOW MANY CALLS

-- so many of the three calls were made
abbrev pub made_by : Step → ℕ
made_by step.Attaching = 0
made_by (step.First boot) = 1
made_by (step.Second boot first) = 2

abbrev pub left_by : Option Found → Search → ℕ
left_by None s = 3 * (s.disks - s.disk) - made_by s.step
left_by (Some end) s = 0

-- so many calls are left at most
abbrev pub calls_left : Search → ℕ
calls_left s = left_by s.end s
