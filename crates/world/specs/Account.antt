-- What a host has learned, its floor, and when it gives up, told by how its attempts ended and by what its looks were told; and its
-- readings, by how its beats did.
use Rattle.std.specs.Prelude.{◌≡◌, ◌+◌, ◌≤◌, ◌==◌, ◌↔◌, ℕ, true, List, [], ◌∷◌, ◌++◌, length, max, Option, Some, None, if◌then◌else◌}
use Rattle.std.specs.Option.{option_or}
use Rattle.attempt.specs.Answers.{Answered, on, heard_as}
use Rattle.attempt.specs.Setup.{Setup}
use Rattle.attempt.specs.Status.{Status, Due, Ended, End, status, taken}
use Rattle.attempt.specs.Status as attempt
use Rattle.heartbeat.specs.Suggesting.{Readings}
use Rattle.rounds.specs.Beat.Answers as beat_answers
use Rattle.rounds.specs.Beat.Status as beat
use Rattle.rounds.specs.Look.Status as look
use Rattle.lock_command.specs.declared.command.Command.{Command}
use Rattle.lock_command.specs.Reading.{decoded}
use Rattle.paxos_block.specs.Shape.{Shape}
use Rattle.attempt.specs.declared.refusal.Refusal.TheVariants as refusal
use Rattle.host.specs.declared.answer.HostAnswer.TheVariants.{Refused}
use Rattle.host.specs.declared.task.Task.TheVariants.{Submit, Recover}
use Rattle.host.specs.Host.{Doing, Attempts, Looks, Beats, Memory, Host, Stopped, Running, fresh, setup_of, beat_of, look_of, with_heard, looking_with, said_of, learned_of, is_idle}
use Rattle.world.specs.Entry.{Filled, Stop, Begin, Called, Torn, host_step, host_after}

-- ATTEMPTS THAT END

-- an attempt that has ended: its slot, the ballot that it took, or 0, and how it ended
pub record Ending : Type 0 where
  pub slot : ℕ
  pub ballot : ℕ
  pub end : End

abbrev pub ending_by : Setup → List Answered → Status → List Ending
ending_by s heard (Due phase d) = []
ending_by s heard (Ended end) = record { slot = s.slot; ballot = taken s (on heard); end = end } ∷ []

-- a look that a mark told its slot's value ends there as an attempt does that a mark told it, and takes no ballot
abbrev pub told_by : look.Setup → look.Status → List Ending
told_by s (look.Due d) = []
told_by s (look.Ended (look.Decided d value)) = record { slot = s.slot; ballot = 0; end = attempt.Decided value } ∷ []
told_by s (look.Ended look.Unmarked) = []
told_by s (look.Ended look.NoMajority) = []

-- what ends with this answer: the attempt under way, or the look under way that is told a value
abbrev pub ending_in : Shape → ℕ → Memory → Option Doing → Answered → List Ending
ending_in c h m (Some (Attempts t)) x = let s = setup_of c h m t.operation in let heard = (with_heard t x).heard in ending_by s heard (status s (on heard))
ending_in c h m (Some (Looks t)) x = let s = look_of c m t.first in told_by s (look.status s (on (looking_with t x).heard))
ending_in c h m other x = []

abbrev pub ending_at : Shape → ℕ → Host → Filled → List Ending
ending_at c h (Running m) (Called g d call answer left) = ending_in c h m m.doing (record { disk = d; heard = heard_as answer })
ending_at c h host e = []

-- the attempts of a host that end with these entries, and what its looks are told, in their order
abbrev pub endings : Shape → ℕ → Host → List Filled → List Ending
endings c h host [] = []
endings c h host (e ∷ es) = ending_at c h host e ++ endings c h (host_step c h host e) es

-- BEATS THAT END

abbrev pub beat_ended_by : beat.Status → List beat.End
beat_ended_by (beat.Due disk) = []
beat_ended_by (beat.Ended end) = end ∷ []

-- the beat that ends with this answer, if one does
abbrev pub beat_ended_in : Shape → ℕ → Option Doing → beat_answers.Answered → List beat.End
beat_ended_in c h (Some (Beats heard)) x = beat_ended_by (beat.status (beat_of c h) (beat_answers.on (heard ++ x ∷ [])))
beat_ended_in c h other x = []

abbrev pub beat_ended_at : Shape → ℕ → Host → Filled → List beat.End
beat_ended_at c h (Running m) (Called g d call answer left) = beat_ended_in c h m.doing (record { disk = d; heard = beat_answers.heard_as answer })
beat_ended_at c h host e = []

-- how the beats of a host ended that end with these entries, in their order
abbrev pub beats_ended : Shape → ℕ → Host → List Filled → List beat.End
beats_ended c h host [] = []
beats_ended c h host (e ∷ es) = beat_ended_at c h host e ++ beats_ended c h (host_step c h host e) es

-- WHAT THEY TELL

-- what a beat that ended well has read
abbrev pub read_by : beat.End → Option Readings
read_by (beat.Beaten readings) = Some readings
read_by beat.NoMajority = None

-- what the last of them that ended well has read
abbrev pub last_read : List beat.End → Option Readings
last_read [] = None
last_read (x ∷ xs) = option_or (last_read xs) (read_by x)

abbrev pub read_as : Option Command → List Command
read_as None = []
read_as (Some command) = command ∷ []

abbrev pub committed_by : End → List Command
committed_by (attempt.Committed value) = read_as (decoded value)
committed_by (attempt.Decided value) = read_as (decoded value)
committed_by other = []

-- the commands that they committed, or were told to be decided
abbrev pub committed : List Ending → List Command
committed [] = []
committed (x ∷ xs) = committed_by x.end ++ committed xs

-- the ballot that outran an attempt
abbrev pub outran : End → ℕ
outran (attempt.Outrun mbal) = mbal
outran other = 0

-- the greatest of the ballots that those for a slot took, and of those that outran them
abbrev pub greatest_on : ℕ → List Ending → ℕ
greatest_on slot [] = 0
greatest_on slot (x ∷ xs) = max (if x.slot == slot then max x.ballot (outran x.end) else 0) (greatest_on slot xs)

abbrev pub one_if_outrun : End → ℕ
one_if_outrun (attempt.Outrun mbal) = 1
one_if_outrun other = 0

-- how many were outrun
abbrev pub outruns : List Ending → ℕ
outruns [] = 0
outruns (x ∷ xs) = one_if_outrun x.end + outruns xs

-- WHAT IS CLAIMED

-- the floor of a running host
abbrev pub floor_of : Host → ℕ
floor_of Stopped = 0
floor_of (Running m) = m.floor

-- the readings that a running host goes by
abbrev pub readings_of : Host → Option Readings
readings_of Stopped = None
readings_of (Running m) = m.readings

-- no entry by which a host stops
abbrev pub GoesOn : Filled → Type 0
GoesOn (Stop h) = ⊥
GoesOn (Torn h d call left) = ⊥
GoesOn other = Unit {0}

abbrev pub AllGoOn : List Filled → Type 0
AllGoOn [] = Unit {0}
AllGoOn (e ∷ es) = GoesOn e × AllGoOn es

-- By the attempts that ended since its start, and by what its looks were told: what a host has learned is what they committed, slot by
-- slot, and its floor on the next slot is the greatest ballot that those on that slot took or were outrun by. Its readings are those of
-- its last beat since its start that ended well.
pub record IsAccountedFor (c : Shape) (h : ℕ) (since : List Filled) : Type 0 where
  pub learned : learned_of (host_after c h (Running fresh) since) ≡ committed (endings c h (Running fresh) since)
  pub floor : let host = host_after c h (Running fresh) since in floor_of host ≡ greatest_on (length (learned_of host)) (endings c h (Running fresh) since)
  pub readings : readings_of (host_after c h (Running fresh) since) ≡ last_read (beats_ended c h (Running fresh) since)

abbrev pub AccountsFor : Type 0
AccountsFor = (c : Shape) (h : ℕ) (since : List Filled) → AllGoOn since → IsAccountedFor c h since

-- an entry by which an operation begins, with so many tries
abbrev pub BeginsWith : ℕ → Filled → Type 0
BeginsWith tries (Begin h (Submit command n)) = n ≡ tries
BeginsWith tries (Begin h (Recover n)) = n ≡ tries
BeginsWith tries other = ⊥

abbrev pub IsCalled : Filled → Type 0
IsCalled (Called h d call answer left) = Unit {0}
IsCalled other = ⊥

abbrev pub AllCalled : List Filled → Type 0
AllCalled [] = Unit {0}
AllCalled (e ∷ es) = IsCalled e × AllCalled es

-- An operation that an idle host begins is refused as outrun exactly when as many of its attempts as it has tries were outrun; and no more are.
pub record GivesUpByTries (c : Shape) (h tries : ℕ) (m : Memory) (e : Filled) (calls : List Filled) : Type 0 where
  pub exactly : (said_of (host_after c h (Running m) (e ∷ calls)) ≡ Some (Refused refusal.Outrun)) ↔ (outruns (endings c h (Running m) (e ∷ calls)) ≡ tries)
  pub no_more : outruns (endings c h (Running m) (e ∷ calls)) ≤ tries

abbrev pub GivesUp : Type 0
GivesUp = (c : Shape) (h tries : ℕ) (m : Memory) (e : Filled) (calls : List Filled) → is_idle m ≡ true → 1 ≤ tries → BeginsWith tries e → AllCalled calls → GivesUpByTries c h tries m e calls
