-- What a submission that is left alone comes to.
use Rattle.std.specs.Prelude.{◌≡◌, ◌+◌, ◌*◌, ◌<◌, ◌≤◌, ℕ, Bool, true, List, length, take, drop, slice_get, Option, Some, None}
use Rattle.attempt.specs.Numbers.{count}
use Rattle.lock_command.specs.declared.command.Command.{Command}
use Rattle.paxos_block.specs.Shape.{Shape}
use Rattle.attempt.specs.declared.refusal.Refusal.TheVariants as refusal
use Rattle.host.specs.declared.answer.HostAnswer.{HostAnswer}
use Rattle.host.specs.declared.answer.HostAnswer.TheVariants.{Ack, Refused}
use Rattle.host.specs.declared.task.Task.TheVariants.{Submit}
use Rattle.host.specs.Host.{learned_of, said_of}
use Rattle.world.specs.Entry.{Filled, Begin, of_host}
use Rattle.world.specs.Chosen.{at, migrated}
use Rattle.world_safety.specs.Claims.{IsProposedAt}
use Rattle.world_served.specs.Alone.{IsAlone, IsAnsweredWell}

-- Each slot that the host has not learned before entry i is marked, if some attempt of any host had a proposal for it before, or if it was migrated.
pub record MarksOpen (c : Shape) (log : List Filled) (i host : ℕ) (marks : ℕ → Bool) : Type 0 where
  pub proposed : (slot k b : ℕ) (value : List ℕ) → k < i → IsProposedAt c log k slot b value → length (learned_of ((at c log i).host host)) ≤ slot → marks slot ≡ true
  pub migrated : (slot : ℕ) → slot < length (migrated log) → length (learned_of ((at c log i).host host)) ≤ slot → marks slot ≡ true

-- So many calls were made, of at most so many, and nothing is said yet; or the command is acknowledged, or refused for want of slots or of ballots.
abbrev pub IsServedBy : (most calls : ℕ) → Option HostAnswer → Type 0
IsServedBy most calls None = calls < most
IsServedBy most calls (Some (Ack slot reply)) = calls ≤ most
IsServedBy most calls (Some (Refused refusal.LogFull)) = calls ≤ most
IsServedBy most calls (Some (Refused refusal.BallotsSpent)) = calls ≤ most
IsServedBy most calls (Some other) = ⊥

-- how many calls the host made behind entry i and before entry j, where it made calls alone
abbrev pub calls_between : List Filled → (i j host : ℕ) → ℕ
calls_between log i j host = length (of_host host (drop (i + 1) (take j log)))

-- A submission begins at entry i, and its host is left alone and answered from there until place j; the slots that are open are marked.
pub record IsLeftAlone (c : Shape) (log : List Filled) (i j host tries : ℕ) (command : Command) (marks : ℕ → Bool) : Type 0 where
  pub submitted : slice_get log i ≡ Some (Begin host (Submit command tries))
  pub order : i < j
  pub alone : IsAlone c log i j host
  pub answered : IsAnsweredWell c log i j host
  pub marked : MarksOpen c log i host marks

-- It is served within seventeen calls for each disk, and as many for each marked slot.
abbrev pub ServesAlone : Shape → List Filled → Type 0
ServesAlone c log =
    (i j host tries : ℕ) (command : Command) (marks : ℕ → Bool) → IsLeftAlone c log i j host tries command marks
    → IsServedBy (17 * c.disks * (count c.slots marks + 1)) (calls_between log i j host) (said_of ((at c log j).host host))
