-- When marks are true: a marked block has an input of which something is known, as that it was chosen for the slot.
use Rattle.std.specs.Prelude.{◌≡◌, ◌⊎◌, ◌<◌, ℕ, true, List, slice_get, Some}
use Rattle.disk.specs.Crash.{MayLeave}
use Rattle.disk.specs.Disk.{DiskState}
use Rattle.torn_block.specs.Layout.{cluster_version}
use Rattle.torn_block.specs.Block.{value_of}
use Rattle.torn_block.specs.Place.{block_in}
use Rattle.torn_block.specs.declared.layout.TheConstants.{HOSTS}
use Rattle.paxos_block.specs.Saying.{Said as PBlock}
use Rattle.paxos_block.specs.Places.{VoteOf, place_of}
use Rattle.paxos_block.specs.Row.{DecodedBlock, says_of}
use Rattle.paxos_block.specs.Votes.{says_in}
use Rattle.attempt.specs.Answers.{Heard, Told}
use Rattle.lock_command.specs.declared.command.Command.{Command}
use Rattle.lock_command.specs.Command.{spelling}
use Rattle.paxos_block.specs.Shape.{Shape}
use Rattle.host.specs.Host.{Memory, Running}
use Rattle.world.specs.World.{World}

-- A block that is marked has an input, and this is known of it.
abbrev pub IsMarkTrue : (List ℕ → Type 0) → PBlock → Type 0
IsMarkTrue Known says = says.mark ≡ true → (value : List ℕ) × (says.inp ≡ Some value) × Known value

-- whatever a crash may make of the block at this place, it says this alone
abbrev pub AllSay : (PBlock → Type 0) → ℕ → DiskState → Type 0
AllSay P place disk =
    (bytes : List ℕ) → MayLeave disk bytes → P (says_of cluster_version (value_of cluster_version (block_in cluster_version place bytes)))

-- so it may say now, or after a crash now
abbrev pub MaySayOn : ℕ → DiskState → PBlock → Type 0
MaySayOn place disk says =
    (bytes : List ℕ) × MayLeave disk bytes ×
    (says_of cluster_version (value_of cluster_version (block_in cluster_version place bytes)) ≡ says)

-- The marks of all hosts' blocks of all slots on all disks are true, now and after a crash now,
abbrev pub AllMarksTrue : Shape → World → (ℕ → List ℕ → Type 0) → Type 0
AllMarksTrue c w Known =
    (slot host d : ℕ) → slot < c.slots → host < HOSTS →
    AllSay (IsMarkTrue (Known slot)) (place_of cluster_version (VoteOf slot host)) (w.disk d)

-- those of a row,
abbrev pub ShowsTrueMarks : (List ℕ → Type 0) → List DecodedBlock → Type 0
ShowsTrueMarks Known row = (g : ℕ) → g < HOSTS → IsMarkTrue Known (says_in row g)

-- and those of each row that was told.
abbrev pub TellsTrueMarks : (List ℕ → Type 0) → List Heard → Type 0
TellsTrueMarks Known a = (n : ℕ) (row : List DecodedBlock) → slice_get a n ≡ Some (Told (Some row)) → ShowsTrueMarks Known row

-- it is known of whatever a running host has learned, in its slot
abbrev pub AllLearnedKnown : World → (ℕ → List ℕ → Type 0) → Type 0
AllLearnedKnown w Known = (h : ℕ) (m : Memory) (slot : ℕ) (command : Command) → w.host h ≡ Running m → slice_get m.learned slot ≡ Some command → Known slot (spelling command)

-- the host has learned this for the slot
pub record HasLearned (w : World) (h slot : ℕ) (says : PBlock) : Type 0 where
  pub memory : Memory
  pub command : Command
  pub running : w.host h ≡ Running memory
  pub learned : slice_get memory.learned slot ≡ Some command
  pub inp : says.inp ≡ Some (spelling command)

-- A block that is marked then may have said the same before, or says with a mark what its host has learned.
abbrev pub KeepsMarks : Shape → World → World → Type 0
KeepsMarks c w w' =
    (slot host d : ℕ) → slot < c.slots → host < HOSTS
    → AllSay
    (λ says. says.mark ≡ true → MaySayOn (place_of cluster_version (VoteOf slot host)) (w.disk d) says ⊎ HasLearned w host slot says)
    (place_of cluster_version (VoteOf slot host)) (w'.disk d)
