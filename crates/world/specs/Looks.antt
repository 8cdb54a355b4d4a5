-- A host that looks: what it says, and what its look hears.
use Rattle.std.specs.Prelude.{◌≡◌, ℕ, List, slice_get, Option, Some, None}
use Rattle.disk.specs.Disk.{Call, Answer}
use Rattle.attempt.specs.Answers.{Answered, heard_as}
use Rattle.rounds.specs.Look.Status.{Setup}
use Rattle.paxos_block.specs.Shape.{Shape}
use Rattle.attempt.specs.declared.refusal.Refusal.TheVariants as refusal
use Rattle.host.specs.declared.answer.HostAnswer.{HostAnswer}
use Rattle.host.specs.declared.answer.HostAnswer.TheVariants.{Looked, Refused}
use Rattle.host.specs.Host.{Looking, Looks, Memory, Running, look_of, looking_with}
use Rattle.world.specs.Entry.{Filled, Called}
use Rattle.world.specs.Chosen.{at}

-- WHAT ITS LOOK HEARS

-- At entry i a host's look at a slot hears an answer, and has heard these then.
pub record HearsLooking (c : Shape) (log : List Filled) (i : ℕ) (s : Setup) (heard : List Answered) : Type 0 where
  pub host : ℕ
  pub disk : ℕ
  pub call : Call
  pub answer : Answer
  pub left : List ℕ
  pub entry : slice_get log i ≡ Some (Called host disk call answer left)
  pub memory : Memory
  pub running : (at c log i).host host ≡ Running memory
  pub looking : Looking
  pub looks : memory.doing ≡ Some (Looks looking)
  pub is_setup : s ≡ look_of c memory looking.first
  pub is_heard : heard ≡ (looking_with looking (record { disk = disk; heard = heard_as answer })).heard

-- WHAT IT SAYS

-- nothing yet; or how many commands it has learned; or that too few disks are left, or that what was decided is no command
abbrev pub SaysLooking : (learned : ℕ) → Option HostAnswer → Type 0
SaysLooking learned None = Unit {0}
SaysLooking learned (Some (Looked n)) = n ≡ learned
SaysLooking learned (Some (Refused refusal.NoMajority)) = Unit {0}
SaysLooking learned (Some (Refused refusal.NotACommand)) = Unit {0}
SaysLooking learned (Some other) = ⊥
