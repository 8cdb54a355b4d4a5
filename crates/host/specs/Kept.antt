-- What a host keeps, and when that is what follows from its tasks and answers.
use Rattle.std.specs.Prelude.{◌≡◌, ◌<◌, ◌≤◌, ◌&&◌, ℕ, Bool, true, false, List, [], ◌∷◌, length, map, take, Option, Some, None}
use Rattle.std.specs.Option.{option_map}
use Rattle.disk.specs.Disk as device
use Rattle.lock_command.specs.declared.command.Command.{Command}
use Rattle.lock_command.specs.Command.{spelling}
use Rattle.lock_command.specs.declared.reply.Reply.{Reply}
use Rattle.paxos_block.specs.Shape.{Shape}
use Rattle.heartbeat.specs.Suggesting.{Readings}
use Rattle.rounds.specs.Beat.Answers.{Answered}
use Rattle.rounds.specs.Beat.Kept as beat_kept
use Rattle.rounds.specs.Beat.Notes as beat_notes
use Rattle.rounds.specs.Marking.Kept as mark_kept
use Rattle.rounds.specs.Marking.Notes as mark_notes
use Rattle.rounds.specs.Look.Kept as look_kept
use Rattle.rounds.specs.declared.looks.notes.Notes as look_notes
use Rattle.torn_block.specs.Layout.{cluster_version}
use Rattle.slot_log.specs.Kept as learners
use Rattle.slot_log.specs.Learning as log
use Rattle.slot_log.specs.declared.operation.Operation.TheVariants as operation
use Rattle.slot_log.specs.declared.outcome.LogOutcome as log_outcome
use Rattle.slot_log.specs.declared.outcome.LogOutcome.TheVariants as outcome
use Rattle.host.specs.declared.answer.HostAnswer.{HostAnswer}
use Rattle.host.specs.declared.answer.HostAnswer.TheVariants.{Ack, Recovered, Looked, Beaten, Marked, Refused}
use Rattle.host.specs.declared.beside.Beside.{Beside}
use Rattle.host.specs.declared.beside.Beside.TheVariants as beside
use Rattle.host.specs.declared.task.Task.{Task}
use Rattle.host.specs.declared.task.Task.TheVariants as task
use Rattle.host.specs.Host.{Operation, Submitting, Recovering, Attempt, Looking, Marking, Doing, Attempts, Looks, Beats, Marks, Memory, beat_of, marking_of, look_of}

-- its learner, the commands learned, what the last entry made it say, what is under way beside the learner, and what the last beat that
-- ended well read
pub record Kept : Type 0 where
  pub learner : learners.Kept
  pub prefix : List Command
  pub said : Option HostAnswer
  pub beside : Beside
  pub readings : Option Readings

-- the learner alone may be at work
abbrev pub is_nothing : Beside → Bool
is_nothing beside.Nothing = true
is_nothing other = false

-- a look is under way, a beat, a marking
abbrev pub is_looking : Beside → Bool
is_looking (beside.Look notes) = true
is_looking other = false

abbrev pub is_beating : Beside → Bool
is_beating (beside.Beat notes) = true
is_beating other = false

abbrev pub is_marking : Beside → Bool
is_marking (beside.Mark notes) = true
is_marking other = false

-- nothing is under way
abbrev pub is_idle : Kept → Bool
is_idle k = learners.is_idle k.learner && is_nothing k.beside

abbrev pub due_by : learners.Kept → Beside → ℕ × device.Call
due_by learner beside.Nothing = learners.due_call learner
due_by learner (beside.Look notes) = look_kept.call_due notes
due_by learner (beside.Beat notes) = beat_kept.call_due notes
due_by learner (beside.Mark notes) = mark_kept.call_due notes

-- the disk and the device call that are due, where something is under way
abbrev pub due_call : Kept → ℕ × device.Call
due_call k = due_by k.learner k.beside

-- a look is under way at the next slot, on the same disks, while the learner is idle
pub record LooksAlone (learner : learners.Kept) (notes : look_notes.Notes) : Type 0 where
  pub idle : learners.is_idle learner ≡ true
  pub going : notes.end ≡ None
  pub as_many : notes.disks ≡ learner.shape.disks
  pub is_next : notes.slot ≡ length learner.learned
  pub inside : notes.slot < learner.shape.slots

-- a beat is, of the same host
pub record BeatsAlone (learner : learners.Kept) (notes : beat_notes.Notes) : Type 0 where
  pub idle : learners.is_idle learner ≡ true
  pub going : notes.end ≡ None
  pub is_host : notes.host ≡ learner.host
  pub as_many : notes.disks ≡ learner.shape.disks

-- a marking is, of the same host and of a slot of the log
pub record MarksAlone (learner : learners.Kept) (notes : mark_notes.Notes) : Type 0 where
  pub idle : learners.is_idle learner ≡ true
  pub going : notes.end ≡ None
  pub is_host : notes.host ≡ learner.host
  pub as_many : notes.disks ≡ learner.shape.disks
  pub inside : notes.slot < learner.shape.slots

abbrev pub IsAlone : learners.Kept → Beside → Type 0
IsAlone learner beside.Nothing = Unit {0}
IsAlone learner (beside.Look notes) = LooksAlone learner notes
IsAlone learner (beside.Beat notes) = BeatsAlone learner notes
IsAlone learner (beside.Mark notes) = MarksAlone learner notes

-- an operation has a try at least
abbrev pub MayBegin : Kept → Task → Type 0
MayBegin k (task.Submit command tries) = 1 ≤ tries
MayBegin k (task.Recover tries) = 1 ≤ tries
MayBegin k other = Unit {0}

-- what there is, as a list
abbrev pub option_list : {A : Type 0} → Option A → List A
option_list None = []
option_list (Some x) = x ∷ []

-- THE SAME BY VALUES

abbrev pub operation_of : Operation → log.Operation
operation_of (Submitting command) = operation.Placing (spelling command)
operation_of Recovering = operation.Recovering

abbrev pub outcome_in : Option HostAnswer → Option log_outcome.LogOutcome
outcome_in None = None
outcome_in (Some (Ack slot reply)) = Some (outcome.Placed slot)
outcome_in (Some (Recovered length)) = Some (outcome.Recovered length)
outcome_in (Some (Looked length)) = None
outcome_in (Some (Beaten host)) = None
outcome_in (Some (Marked count)) = None
outcome_in (Some (Refused refusal)) = Some (outcome.Refused refusal)

abbrev pub attempt_of : Attempt → log.Doing
attempt_of t = record { operation = operation_of t.operation; tries = t.tries; heard = t.heard }

-- the learner's part of what is under way
abbrev pub attempt_in : Option Doing → Option log.Doing
attempt_in (Some (Attempts t)) = Some (attempt_of t)
attempt_in other = None

-- what a host knows, as its learner does, which told this last
abbrev pub values_with : Option log_outcome.LogOutcome → Memory → log.Memory
values_with told m = record { learned = map spelling m.learned; floor = m.floor; doing = attempt_in m.doing; said = told }

abbrev pub values_of : Memory → log.Memory
values_of m = values_with (outcome_in m.said) m

-- the answer that an outcome is, with the reply to the command that was learned with it
abbrev pub answer_of : Option log_outcome.LogOutcome → Option Reply → Option HostAnswer
answer_of None reply = None
answer_of (Some (outcome.Placed slot)) None = None
answer_of (Some (outcome.Placed slot)) (Some reply) = Some (Ack slot reply)
answer_of (Some (outcome.Recovered length)) reply = Some (Recovered length)
answer_of (Some (outcome.Refused refusal)) reply = Some (Refused refusal)

-- no command is acknowledged
abbrev pub AcknowledgesNone : Option HostAnswer → Type 0
AcknowledgesNone None = Unit {0}
AcknowledgesNone (Some (Ack slot reply)) = ⊥
AcknowledgesNone (Some (Recovered length)) = Unit {0}
AcknowledgesNone (Some (Looked length)) = Unit {0}
AcknowledgesNone (Some (Beaten host)) = Unit {0}
AcknowledgesNone (Some (Marked count)) = Unit {0}
AcknowledgesNone (Some (Refused refusal)) = Unit {0}

-- WHAT FOLLOWS

-- an attempt is under way, which is the learner's, or nothing
abbrev pub IsOperating : Option Doing → Type 0
IsOperating None = Unit {0}
IsOperating (Some (Attempts t)) = Unit {0}
IsOperating other = ⊥

-- what is kept beside the learner is what is under way, and has heard the same
abbrev pub IsDoing : Shape → ℕ → Memory → Option Doing → Beside → Type 0
IsDoing c h m doing beside.Nothing = IsOperating doing
IsDoing c h m doing (beside.Look notes) = (t : Looking) × (doing ≡ Some (Looks t)) × look_kept.LeadsTo (look_of c m t.first) t.heard notes
IsDoing c h m doing (beside.Beat notes) = (heard : List Answered) × (doing ≡ Some (Beats heard)) × beat_kept.LeadsTo (beat_of c h) heard notes
IsDoing c h m doing (beside.Mark notes) = (t : Marking) × (doing ≡ Some (Marks t)) × mark_kept.LeadsTo (marking_of c h m t.slot) t.heard notes

-- What is known leads to this: it is what the host keeps.
pub record LeadsTo (c : Shape) (h : ℕ) (m : Memory) (k : Kept) : Type 0 where
  pub learner : learners.LeadsTo cluster_version c h (values_with k.learner.said m) k.learner
  pub prefix : k.prefix ≡ m.learned
  pub said : k.said ≡ m.said
  pub readings : option_map (take c.disks) k.readings ≡ m.readings
  pub doing : IsDoing c h m m.doing k.beside
