-- A race of hosts, and what it leaves.
use Rattle.std.specs.Prelude.{◌≡◌, ◌<◌, ◌≤◌, ◌↔◌, ℕ, Bool, IsTrue, List, [], length, slice_index_or}
use Rattle.lock_command.specs.declared.command.Command.{Command}
use Rattle.paxos_block.specs.Shape.{Shape}
use Rattle.host.specs.Host.{learned_of}
use Rattle.world.specs.Entry.{Filled, of_host}
use Rattle.world.specs.World.{world, IsFreshRun}
use Rattle.world.specs.Headline.{IsSafe, HasNoSecondLog}
use Rattle.cluster_tie.specs.Parts.{Own}
use Rattle.race.specs.Agreement.{Agree}
use Rattle.race.specs.Answers.{IsAnswer, IsTold}
use Rattle.race.specs.declared.answer.Answer.{Answer}

-- three disks, 64 slots
abbrev pub track : Shape
track = record { disks = 3; slots = 64 }

-- of any two of so many hosts, one's prefix begins the other's
abbrev pub HostsAgree : List Filled → ℕ → Type 0
HostsAgree log hosts =
    (i j : ℕ) → i < hosts → j < hosts → Agree (learned_of ((world track log).host i)) (learned_of ((world track log).host j))

-- What so many hosts left: one run, in which no other host took part, with one log,
pub record IsRace (hosts : ℕ) (answers : List Answer) (agree : Bool) : Type 0 where
  pub log : List Filled
  pub run : IsFreshRun track log
  pub alone : (h : ℕ) → hosts ≤ h → of_host h log ≡ []
  pub commands : List Command
  pub safe : IsSafe track log commands
  pub no_other : HasNoSecondLog track log
  -- by which the answers go, one a host, by rising host,
  pub each : (h : ℕ) (d : Answer) → h < hosts → IsAnswer track log commands h (slice_index_or answers h d)
  -- and whether they agree.
  pub agree_is : IsTrue agree ↔ HostsAgree log hosts

-- THE SEATS

-- the seats are of the hosts from 0 on, in their order
abbrev pub AreByHost : List Own → Type 0
AreByHost seats = (i : ℕ) (d : Own) → i < length seats → (slice_index_or seats i d).number ≡ i

-- each of the answers is what its seat tells
abbrev pub AreTold : Shape → List Own → List Answer → Type 0
AreTold c seats answers = (i : ℕ) (d : Own) (e : Answer) → i < length seats → IsTold c (slice_index_or seats i d) (slice_index_or answers i e)
