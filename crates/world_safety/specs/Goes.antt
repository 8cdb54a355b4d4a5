-- What an entry is in the machines: a few moves, and what they tell of it.
use Rattle.std.specs.Prelude.{◌≡◌, ◌≤◌, ◌⊎◌, ℕ, true, List, [], ◌∷◌, ◌++◌, length, Some}
use Rattle.disk.specs.Disk.{Answer}
use Rattle.attempt.specs.Answers.{Answers, on, heard_as}
use Rattle.attempt.specs.Chosen.{Chooses}
use Rattle.attempt.specs.Prepared.{Proposes}
use Rattle.attempt.specs.Proposal.{ballot}
use Rattle.attempt.specs.Setup.{Setup}
use Rattle.attempt.specs.Status.{Ended, Decided, status}
use Rattle.rounds.specs.Look.Status as look
use Rattle.paxos_block.specs.Shape.{Shape}
use Rattle.host.specs.declared.answer.HostAnswer.TheVariants.{Recovered}
use Rattle.host.specs.Host.{Attempt, Looking, Attempts, Looks, Memory, Running, input_of, setup_of, look_of, looking_with}
use Rattle.world.specs.Entry.{Filled, Called, is_of, host_step}
use Rattle.world.specs.World.{World}
use Rattle.agreement.specs.Chosen.{IsInput, IsProposed, IsChosenBy, IsChosen, IsEmpty}
use Rattle.agreement.specs.Event.Event.{Starts}
use Rattle.agreement.specs.Log.{Move, events_of_slot}
use Rattle.agreement.specs.Log.Move.{At}
use Rattle.attempt_safety.specs.Machine.{Machine}
use Rattle.world_safety.specs.Marks.{KeepsMarks}
use Rattle.world_safety.specs.Next.{next_world}
use Rattle.world_safety.specs.Tied.{Moves, machine, Tied}

-- among the moves is this one
abbrev pub Has : Moves → Move (List ℕ) → Type 0
Has late m = (before : Moves) × (behind : Moves) × (late ≡ before ++ m ∷ behind)

-- the host is trying this slot
pub record IsTryingAt (w : World) (h slot : ℕ) : Type 0 where
  pub memory : Memory
  pub doing : Attempt
  pub running : w.host h ≡ Running memory
  pub does : memory.doing ≡ Some (Attempts doing)
  pub is : length memory.learned ≡ slot

-- with the answer of the entry an attempt proposes this value
abbrev pub ProposesWith : Shape → ℕ → Memory → Attempt → Filled → List ℕ → Type 0
ProposesWith c h m t (Called g k call answer left) v = Proposes (setup_of c h m t.operation) (on (t.heard ++ record { disk = k; heard = heard_as answer } ∷ [])) v
ProposesWith c h m t other v = ⊥

-- the host of the entry is trying to place this value in the slot, and with the entry it proposes it
pub record IsInputAt (c : Shape) (w : World) (slot : ℕ) (e : Filled) (v : List ℕ) : Type 0 where
  pub host : ℕ
  pub memory : Memory
  pub doing : Attempt
  pub of : is_of host e ≡ true
  pub running : w.host host ≡ Running memory
  pub does : memory.doing ≡ Some (Attempts doing)
  pub input : input_of doing.operation ≡ Some v
  pub on_slot : slot ≡ length memory.learned
  pub proposes : ProposesWith c host memory doing e v

-- With the entry its host tries a slot that it was trying, or it begins an attempt there. And where a recovery ends, it has all slots, or the
-- slot that it was trying, behind those that it has learned, was found empty.
pub record HostGoes (c : Shape) (w : World) (e : Filled) (ms more : Moves) (h : ℕ) : Type 0 where
  pub begun : (m : Memory) (t : Attempt) → host_step c h (w.host h) e ≡ Running m → m.doing ≡ Some (Attempts t) → IsTryingAt w h (length m.learned) ⊎ Has more (At (length m.learned) (Starts h))
  pub empty : (m : Memory) (n : ℕ) → host_step c h (w.host h) e ≡ Running m → m.said ≡ Some (Recovered n)
      → (c.slots ≤ length m.learned) ⊎ (IsTryingAt w h (length m.learned) × IsEmpty c.disks (machine (ms ++ more) (length m.learned)) h)

-- By its ballot, what the attempt proposes is proposed in the machine, and what it chooses is chosen there.
pub record Carries (m : Machine) (s : Setup) (f : Answers) : Type 0 where
  pub proposed : (v : List ℕ) → Proposes s f v → IsProposed m.proposed (ballot s f) v
  pub chosen : (v : List ℕ) → Chooses s f v → IsChosenBy s.disks m (ballot s f) v

-- so it is with the attempt of a host that hears an answer
abbrev pub CarriesOn : Shape → World → Moves → Filled → Type 0
CarriesOn c w ms (Called h k call answer left) =
    (m : Memory) (t : Attempt) → w.host h ≡ Running m → m.doing ≡ Some (Attempts t)
    → Carries (machine ms (length m.learned)) (setup_of c h m t.operation) (on (t.heard ++ record { disk = k; heard = heard_as answer } ∷ []))
CarriesOn c w ms other = Unit {0}

-- Where an attempt ends with the entry by what a marked block tells, that is chosen in the slot.
abbrev pub AttemptDecides : Shape → World → Moves → (h k : ℕ) → Answer → Type 0
AttemptDecides c w ms h k answer =
    (m : Memory) (t : Attempt) (v : List ℕ) → w.host h ≡ Running m → m.doing ≡ Some (Attempts t)
    → status (setup_of c h m t.operation) (on (t.heard ++ record { disk = k; heard = heard_as answer } ∷ [])) ≡ Ended (Decided v)
    → IsChosen c.disks (machine ms (length m.learned)) v

-- And where a look is told by one, that is chosen in the slot.
abbrev pub LookDecides : Shape → World → Moves → (h k : ℕ) → Answer → Type 0
LookDecides c w ms h k answer =
    (m : Memory) (t : Looking) (d : ℕ) (u : List ℕ) → w.host h ≡ Running m → m.doing ≡ Some (Looks t)
    → look.status (look_of c m t.first) (on (looking_with t (record { disk = k; heard = heard_as answer })).heard) ≡ look.Ended (look.Decided d u)
    → IsChosen c.disks (machine ms (length m.learned)) u

abbrev pub DecidesChosen : Shape → World → Moves → Filled → Type 0
DecidesChosen c w ms (Called h k call answer left) = AttemptDecides c w ms h k answer × LookDecides c w ms h k answer
DecidesChosen c w ms other = Unit {0}

-- The entry is a few moves.
pub record Goes (c : Shape) (w : World) (e : Filled) (ms : Moves) : Type 0 where
  pub more : Moves
  pub tied : Tied c (next_world c w e) (ms ++ more)
  pub inputs : (j : ℕ) (v : List ℕ) → IsInput (events_of_slot j more) v → IsInputAt c w j e v
  pub host : (h : ℕ) → is_of h e ≡ true → HostGoes c w e ms more h
  pub carries : CarriesOn c w (ms ++ more) e
  pub marks : KeepsMarks c w (next_world c w e)
