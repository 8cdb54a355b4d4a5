-- When a block stays marked, when a slot is marked on most disks, and what attempts and looks find of that.
use Rattle.std.specs.Prelude.{◌≡◌, ◌⊎◌, ◌*◌, ◌+◌, ◌<◌, ◌≤◌, ℕ, Bool, true, List, [], length, slice_get, Some}
use Rattle.torn_block.specs.Layout.{cluster_version}
use Rattle.torn_block.specs.declared.layout.TheConstants.{HOSTS}
use Rattle.paxos_block.specs.Places.{VoteOf, place_of}
use Rattle.attempt.specs.Answers.{Answered, on}
use Rattle.attempt.specs.Calls.{Opening, One, Two}
use Rattle.attempt.specs.Numbers.{count}
use Rattle.attempt.specs.Setup.{Setup}
use Rattle.attempt.specs.Status.{Status, Due, Ended, Committed, Decided, Empty, Outrun, NoMajority, BallotsSpent, status}
use Rattle.rounds.specs.Look.Status as look
use Rattle.paxos_block.specs.Shape.{Shape}
use Rattle.host.specs.declared.answer.HostAnswer.TheVariants.{Looked, Marked}
use Rattle.host.specs.declared.task.Task.TheVariants.{Look, Mark}
use Rattle.host.specs.Host.{Looking, Looks, Memory, Running}
use Rattle.world.specs.Entry.{Filled, Begin, is_of}
use Rattle.world.specs.World.{World}
use Rattle.world.specs.Chosen.{at, migrated, Hears, SaysAt, IsCallOf}
use Rattle.world.specs.Looks.{HearsLooking}
use Rattle.world_safety.specs.Claims.{HasHeardNothing}
use Rattle.world_safety.specs.Marks.{AllSay}

-- MARKS LAST

-- Whatever a crash now may make of the host's block of the slot on this disk, it is marked.
abbrev pub IsMarkedOn : World → (slot host d : ℕ) → Type 0
IsMarkedOn w slot host d = AllSay (λ says. says.mark ≡ true) (place_of cluster_version (VoteOf slot host)) (w.disk d)

-- Once it is so, it is so for good: behind each later entry, be it a crash, a loss, or a call of whatever host.
abbrev pub StaysMarked : Shape → List Filled → Type 0
StaysMarked c log = (i j slot host d : ℕ) → i ≤ j → slot < c.slots → host < HOSTS → IsMarkedOn (at c log i) slot host d → IsMarkedOn (at c log j) slot host d

-- MARKINGS

-- A marking of the slot begins at entry i and answers at entry j with this count; in between the host makes device calls alone.
pub record IsMarking (c : Shape) (log : List Filled) (i j host slot n : ℕ) : Type 0 where
  pub begins : slice_get log i ≡ Some (Begin host (Mark slot))
  pub order : i ≤ j
  pub calls : (k : ℕ) (e : Filled) → i < k → k ≤ j → slice_get log k ≡ Some e → is_of host e ≡ true → IsCallOf host e
  pub says : SaysAt c log j host (Marked n)

-- on so many disks the host's block of the slot is marked
pub record IsMarkedOnMany (c : Shape) (w : World) (slot host n : ℕ) : Type 0 where
  pub those : ℕ → Bool
  pub many : count c.disks those ≡ n
  pub each : (d : ℕ) → d < c.disks → those d ≡ true → IsMarkedOn w slot host d

-- Behind a marking that answers, the host's block of the slot is marked on as many disks as it says.
abbrev pub CountsMarked : Shape → List Filled → Type 0
CountsMarked c log = (i j host slot n : ℕ) → IsMarking c log i j host slot n → IsMarkedOnMany c (at c log (j + 1)) slot host n

-- before entry i some host has marked the slot, on more than half of the disks
pub record IsMarkedBefore (c : Shape) (log : List Filled) (i slot : ℕ) : Type 0 where
  pub from : ℕ
  pub to : ℕ
  pub host : ℕ
  pub n : ℕ
  pub marking : IsMarking c log from to host slot n
  pub before : to < i
  pub most : c.disks < 2 * n

-- WHAT IS FOUND

-- the attempt is in its opening, or is told what was decided, or lacks a majority
abbrev pub FindsMark : Status → Type 0
FindsMark (Due Opening d) = Unit {0}
FindsMark (Due One d) = ⊥
FindsMark (Due Two d) = ⊥
FindsMark (Ended (Committed value)) = ⊥
FindsMark (Ended (Decided value)) = Unit {0}
FindsMark (Ended Empty) = ⊥
FindsMark (Ended (Outrun mbal)) = ⊥
FindsMark (Ended NoMajority) = Unit {0}
FindsMark (Ended BallotsSpent) = ⊥

-- before entry i the slot was marked on more than half of the disks: by some host, or as it was migrated
abbrev pub IsFoundBefore : Shape → List Filled → (i slot : ℕ) → Type 0
IsFoundBefore c log i slot = IsMarkedBefore c log i slot ⊎ ((0 < i) × (slot < length (migrated log)))

-- So it is with each attempt, of whatever operation, that has heard nothing yet when its slot is marked on more than half of the disks.
abbrev pub AttemptsFind : Shape → List Filled → Type 0
AttemptsFind c log =
    (i j : ℕ) (s : Setup) (heard : List Answered) (hears : Hears c log j s heard) → i ≤ j → IsFoundBefore c log i s.slot → HasHeardNothing (at c log i) hears.host s.slot → FindsMark (status s (on heard))

-- the look goes on, or is told what was decided, or finds too few sound rows to say that nothing is
abbrev pub SeesMark : look.Status → Type 0
SeesMark (look.Due d) = Unit {0}
SeesMark (look.Ended (look.Decided d value)) = Unit {0}
SeesMark (look.Ended look.Unmarked) = ⊥
SeesMark (look.Ended look.NoMajority) = Unit {0}

-- no look of the host at this slot is under way, or it has heard nothing yet
abbrev pub HasSeenNothing : World → ℕ → ℕ → Type 0
HasSeenNothing w host slot = (m : Memory) (t : Looking) → w.host host ≡ Running m → m.doing ≡ Some (Looks t) → length m.learned ≡ slot → t.heard ≡ []

-- So it is with each look that has heard nothing yet when its slot is marked on more than half of the disks: though it syncs nothing, it never
-- says that no mark tells the slot.
abbrev pub LooksSee : Shape → List Filled → Type 0
LooksSee c log =
    (i j : ℕ) (s : look.Setup) (heard : List Answered) (hears : HearsLooking c log j s heard) → i ≤ j → IsFoundBefore c log i s.slot → HasSeenNothing (at c log i) hears.host s.slot → SeesMark (look.status s (on heard))

-- A look of the host begins at entry i, and at entry j this one, or a later one, answers that it has learned n commands.
pub record HasLooked (c : Shape) (log : List Filled) (i j host n : ℕ) : Type 0 where
  pub begins : slice_get log i ≡ Some (Begin host Look)
  pub order : i ≤ j
  pub says : SaysAt c log j host (Looked n)

-- A look that begins when each slot up to k is marked on more than half of the disks, and answers, has learned more than k commands.
abbrev pub LooksFind : Shape → List Filled → Type 0
LooksFind c log = (i j host n k : ℕ) → HasLooked c log i j host n → ((slot : ℕ) → slot ≤ k → IsFoundBefore c log i slot) → k < n

-- So each look that answers has learned all that was migrated.
abbrev pub LooksFindMigrated : Shape → List Filled → Type 0
LooksFindMigrated c log = (i j host n : ℕ) → HasLooked c log i j host n → length (migrated log) ≤ n
