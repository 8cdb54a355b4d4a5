-- What a step of a host adds to its own list.
use Rattle.std.specs.Prelude.{◌≡◌, ℕ, List, [], ◌∷◌, ◌++◌, Some}
use Rattle.disk.specs.Disk.{Answer}
use Rattle.paxos_block.specs.Shape.{Shape}
use Rattle.host.specs.declared.answer.HostAnswer.TheVariants as said
use Rattle.host.specs.Host.{said_of}
use Rattle.world.specs.Entry.{Called}
use Rattle.cluster_tie.specs.Parts.{Placed, Own, own_of, adds}
use Rattle.cluster.specs.Seat.{host_in, due_in, IsDueOn}
use Rattle.cluster.specs.declared.fault.HostFault.{HostFault}
use Rattle.cluster.specs.declared.fault.HostFault.TheVariants.{Refused, NoMemory, JournalFull, SeatTaken, SeatsMissing, OpenCall}

-- exactly one entry more: the host's next call, with some answer
pub record IsStep (c : Shape) (old new : Own) : Type 0 where
  pub place : ℕ
  pub disk : ℕ
  pub answer : Answer
  pub left : List ℕ
  pub due : IsDueOn c old disk
  pub is : new ≡ adds old place (Called old.number disk (due_in c old).1 answer left)

-- the step was made, and ended the operation so; or it was not made
abbrev pub Ends : Shape → HostFault → Own → Own → Type 0
Ends c (Refused refusal) old new = IsStep c old new × (said_of (host_in c new) ≡ Some (said.Refused refusal))
Ends c NoMemory old new = new ≡ old
Ends c JournalFull old new = new ≡ old
Ends c OpenCall old new = new ≡ old
Ends c SeatTaken old new = ⊥
Ends c SeatsMissing old new = ⊥

-- one after the other, each is the host's next call then
abbrev pub AreSteps : Shape → Own → List Placed → Type 0
AreSteps c own [] = Unit {0}
AreSteps c own (x ∷ xs) = IsStep c own (adds own x.0 x.1) × AreSteps c (adds own x.0 x.1) xs

-- steps alone were added
pub record GoesOn (c : Shape) (old new : Own) : Type 0 where
  pub added : List Placed
  pub is : new ≡ own_of old.number (old.entries ++ added)
  pub steps : AreSteps c old added
