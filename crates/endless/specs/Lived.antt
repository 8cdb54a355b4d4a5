-- What is done in all epochs, in one order: what an epoch is of it, and when somebody has learned an epoch whole.
use Rattle.std.specs.Prelude.{◌≡◌, ◌+◌, ◌==◌, ◌<◌, ◌≤◌, ℕ, zero, suc, List, [], ◌∷◌, length, if◌then◌else◌}
use Rattle.paxos_block.specs.Shape.{Shape}
use Rattle.host.specs.Host.{Memory, Running}
use Rattle.world.specs.Entry.{Filled, Crashed, Lost}
use Rattle.world.specs.World.{IsRun}
use Rattle.world.specs.Chosen.{at, IsRecovery}

pub data Lived : Type 0 where
  -- what a host does in an epoch
  In : (epoch : ℕ) → (entry : Filled) → Lived
  -- a disk crashes, and these are the bytes of its image of each epoch then
  Crash : (disk : ℕ) → (left : ℕ → List ℕ) → Lived
  -- a disk is lost for good, for each epoch
  Loss : (disk : ℕ) → Lived

-- what is done in an epoch
abbrev pub part : ℕ → List Lived → List Filled
part e [] = []
part e (In epoch entry ∷ lived) = if epoch == e then entry ∷ part e lived else part e lived
part e (Crash disk left ∷ lived) = Crashed disk (left e) ∷ part e lived
part e (Loss disk ∷ lived) = Lost disk ∷ part e lived

-- so much of it is done before place i of all
abbrev pub now : ℕ → ℕ → List Lived → ℕ
now e zero lived = 0
now e (suc i) [] = 0
now e (suc i) (In epoch entry ∷ lived) = if epoch == e then suc (now e i lived) else now e i lived
now e (suc i) (Crash disk left ∷ lived) = suc (now e i lived)
now e (suc i) (Loss disk ∷ lived) = suc (now e i lived)

-- at place i of all the host is running in the epoch, and knows this
abbrev pub RunsIn : Shape → List Lived → (i e h : ℕ) → Memory → Type 0
RunsIn c lived i e h m = (at c (part e lived) (now e i lived)).host h ≡ Running m

-- by place i of all some host has learned the epoch whole
pub record IsWholeBy (c : Shape) (lived : List Lived) (e i : ℕ) : Type 0 where
  pub place : ℕ
  pub by : place ≤ i
  pub host : ℕ
  pub memory : Memory
  pub runs : RunsIn c lived place e host memory
  pub whole : length memory.learned ≡ c.slots

-- Each epoch is a run, and nobody is in the next one before somebody has learned it whole.
pub record IsLived (c : Shape) (lived : List Lived) : Type 0 where
  pub is_run : (e : ℕ) → IsRun c (part e lived)
  pub in_turn : (i e h : ℕ) (memory : Memory) → RunsIn c lived i (suc e) h memory → IsWholeBy c lived e i

-- A recovery that answers with less than a whole epoch is of the last one: when it began nobody was, or had been, in a later epoch. So nothing had been acknowledged there.
abbrev pub RecoveriesAreOfTheLast : Type 0
RecoveriesAreOfTheLast =
    (c : Shape) (lived : List Lived) → 1 ≤ c.slots → IsLived c lived → (i j e h n : ℕ) → IsRecovery c (part e lived) (now e i lived) j h n → n < c.slots →
    (k f g : ℕ) (memory : Memory) → k ≤ i → RunsIn c lived k (f + suc e) g memory → ⊥
