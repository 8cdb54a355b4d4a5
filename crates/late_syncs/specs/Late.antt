-- A disk that lets syncs come late: what a sync has to keep is written back some time after the sync was asked for, in parts, and with more that nobody asked for.
use Rattle.std.specs.Prelude.{◌≡◌, ◌⊎◌, ◌||◌, ℕ, Bool, false, List, [], ◌∷◌, slice_index_or}
use Rattle.disk.specs.Disk.{DiskState, Call, Sync, Answer, Done, IsUnder, Step}
use Rattle.disk.specs.Crash.{IsWhole}

-- the disk as it is, and of each position whether a sync that is answered well has still to keep it
pub record LateDisk : Type 0 where
  pub disk : DiskState
  pub owes : ℕ → Bool

abbrev pub is_unsynced : DiskState → ℕ → Bool
is_unsynced disk p = slice_index_or disk.unsynced p false

-- at first it owes nothing
abbrev pub at_first : DiskState → LateDisk
at_first disk = record { disk = disk; owes = λ p. false }

abbrev pub OwesNothing : LateDisk → Type 0
OwesNothing late = (p : ℕ) → late.owes p ≡ false

-- CALLS

-- A sync is asked for that will be answered well. Nothing is synced yet, and all that is unsynced is owed.
pub record IsAskedFor (call : Call) (old new : LateDisk) : Type 0 where
  pub there : old.disk.gone ≡ false
  pub under : IsUnder call old.disk.boot
  pub same : new.disk ≡ old.disk
  pub owes : (p : ℕ) → new.owes p ≡ (old.owes p || is_unsynced old.disk p)

-- The call gets this answer. A sync stands where it was asked for, each other call where it takes effect.
abbrev pub AnswersLate : LateDisk → Call → Answer → LateDisk → Type 0
AnswersLate old (Sync boot) Done new = IsAskedFor (Sync boot) old new
AnswersLate old call answer new = Step old.disk call answer new.disk × (new.owes ≡ old.owes)

-- BETWEEN CALLS

-- the position is as it was
abbrev pub Stays : LateDisk → LateDisk → ℕ → Type 0
Stays old new p = (is_unsynced new.disk p ≡ is_unsynced old.disk p) × (new.owes p ≡ old.owes p)

-- what it holds lasts from now on, and is owed no more
abbrev pub Lasts : LateDisk → ℕ → Type 0
Lasts new p = (is_unsynced new.disk p ≡ false) × (new.owes p ≡ false)

-- Some positions are written back: for a sync, or because the system does so.
pub record WritesBack (old new : LateDisk) : Type 0 where
  pub bytes : new.disk.bytes ≡ old.disk.bytes
  pub whole : IsWhole new.disk
  pub each : (p : ℕ) → Stays old new p ⊎ Lasts new p
  pub boot : new.disk.boot ≡ old.disk.boot
  pub gone : new.disk.gone ≡ old.disk.gone

-- ALL OF THEM

-- An entry takes place, or something is written back.
pub data Moment (E : Type 0) : Type 0 where
  Takes : (entry : E) → Moment E
  Keeps : Moment E

abbrev pub entries_of : {E : Type 0} → List (Moment E) → List E
entries_of [] = []
entries_of (Takes entry ∷ moments) = entry ∷ entries_of moments
entries_of (Keeps ∷ moments) = entries_of moments

-- one after another, where an entry leads from one disk to the next so
abbrev pub GoesThrough : {E : Type 0} → (LateDisk → E → LateDisk → Type 0) → LateDisk → List (Moment E) → Type 0
GoesThrough Goes old [] = Unit {0}
GoesThrough Goes old (Takes entry ∷ moments) = (new : LateDisk) × Goes old entry new × GoesThrough Goes new moments
GoesThrough Goes old (Keeps ∷ moments) = (new : LateDisk) × WritesBack old new × GoesThrough Goes new moments

-- By some history it has served these entries.
pub record ServesLate {E : Type 0} (Goes : LateDisk → E → LateDisk → Type 0) (first : DiskState) (entries : List E) : Type 0 where
  pub history : List (Moment E)
  pub same : entries ≡ entries_of history
  pub goes : GoesThrough Goes (at_first first) history
