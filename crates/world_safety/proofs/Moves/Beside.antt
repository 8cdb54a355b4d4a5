-- What is no attempt: a look, a beat and a marking try nothing, and say nothing of the log.
use Rattle.std.specs.Prelude.{nat_lt}
use Rattle.std.proofs.Common.{ℕ, ◌≡◌, Option, Some, None, List, [], ◌∷◌, ◌++◌, length, sym, subst}
use Rattle.disk.specs.Disk.{Answer}
use Rattle.attempt.specs.Answers.{on, heard_as}
use Rattle.rounds.specs.Beat.Answers as beat_answers
use Rattle.rounds.specs.Beat.Status as beat
use Rattle.rounds.specs.Look.Status as look
use Rattle.rounds.specs.Marking.Status as mark
use Rattle.lock_command.specs.declared.command.Command.{Command}
use Rattle.lock_command.specs.Reading.{decoded}
use Rattle.paxos_block.specs.Shape.{Shape}
use Rattle.attempt.specs.declared.refusal.Refusal.TheVariants as refusal
use Rattle.host.specs.declared.answer.HostAnswer.{HostAnswer}
use Rattle.host.specs.declared.answer.HostAnswer.TheVariants.{Ack, Recovered, Looked, Refused}
use Rattle.host.specs.declared.task.Task.{Task}
use Rattle.host.specs.declared.task.Task.TheVariants.{Submit, Recover, Look, Beat, Mark}
use Rattle.host.specs.Host.{Looking, Marking, Doing, Attempts, Looks, Beats, Marks, Memory, says, does, learns, look_of, looks_on, look_by, looking_with, takes_marked, beat_of, beat_by, marking_of, marking_by, marking_with, starts, hears_from}
use Rattle.world.proofs.Enduring.{on_either}

-- no attempt is under way
abbrev pub IsNoAttempt : Option Doing → Type 0
IsNoAttempt (Some (Attempts t)) = ⊥
IsNoAttempt other = Unit {0}

-- neither an acknowledgement nor a recovery is said
abbrev pub SaysNoneOfLog : Option HostAnswer → Type 0
SaysNoneOfLog (Some (Ack slot reply)) = ⊥
SaysNoneOfLog (Some (Recovered n)) = ⊥
SaysNoneOfLog other = Unit {0}

-- so it is with a host
abbrev pub TriesNone : Memory → Type 0
TriesNone m = IsNoAttempt m.doing × SaysNoneOfLog m.said

-- no operation begins
abbrev pub IsNoOperation : Task → Type 0
IsNoOperation (Submit command tries) = ⊥
IsNoOperation (Recover tries) = ⊥
IsNoOperation other = Unit {0}

-- WITH AN ANSWER

looks_none : (c : Shape) (m : Memory) (first : ℕ) → TriesNone (looks_on c m first)
looks_none c m first =
    on_either (nat_lt (length m.learned) c.slots) (does m (Looks (record { first = first; heard = [] }))) (says m (Looked (length m.learned))) (λ (n : Memory). TriesNone n) (λ fits. (tt, tt)) (λ full. (tt, tt))

takes_none : (c : Shape) (m : Memory) (d : ℕ) (o : Option Command) → TriesNone (takes_marked c m d o)
takes_none c m d None = (tt, tt)
takes_none c m d (Some command) = looks_none c (learns m command) d

look_none : (c : Shape) (m : Memory) (t : Looking) (st : look.Status) → TriesNone (look_by c m t st)
look_none c m t (look.Due d) = (tt, tt)
look_none c m t (look.Ended (look.Decided d value)) = takes_none c m d (decoded value)
look_none c m t (look.Ended look.Unmarked) = (tt, tt)
look_none c m t (look.Ended look.NoMajority) = (tt, tt)

beat_none : (h : ℕ) (m : Memory) (heard : List beat_answers.Answered) (st : beat.Status) → TriesNone (beat_by h m heard st)
beat_none h m heard (beat.Due d) = (tt, tt)
beat_none h m heard (beat.Ended (beat.Beaten readings)) = (tt, tt)
beat_none h m heard (beat.Ended beat.NoMajority) = (tt, tt)

marking_none : (m : Memory) (t : Marking) (st : mark.Status) → TriesNone (marking_by m t st)
marking_none m t (mark.Due d) = (tt, tt)
marking_none m t (mark.Ended (mark.Marked count)) = (tt, tt)
marking_none m t (mark.Ended mark.NoMajority) = (tt, tt)

-- whatever is no attempt leaves none behind an answer
pub hears_none : (c : Shape) (h : ℕ) (m : Memory) (doing : Doing) (k : ℕ) (answer : Answer) → IsNoAttempt (Some doing) → TriesNone (hears_from c h m (Some doing) k answer)
hears_none c h m (Attempts t) k answer none = absurd none
hears_none c h m (Looks t) k answer none =
    let more = looking_with t (record { disk = k; heard = heard_as answer }) in
    look_none c m more (look.status (look_of c m t.first) (on more.heard))
hears_none c h m (Beats heard) k answer none =
    let more : List beat_answers.Answered = heard ++ record { disk = k; heard = beat_answers.heard_as answer } ∷ [] in
    beat_none h m more (beat.status (beat_of c h) (beat_answers.on more))
hears_none c h m (Marks t) k answer none =
    let more = marking_with t (record { disk = k; heard = heard_as answer }) in
    marking_none m more (mark.status (marking_of c h m t.slot) (on more.heard))

-- so where no attempt is under way, none is behind an answer
pub stays_none : (c : Shape) (h : ℕ) (m : Memory) (o : Option Doing) (k : ℕ) (answer : Answer) → m.doing ≡ o → IsNoAttempt o → IsNoAttempt (hears_from c h m o k answer).doing
stays_none c h m None k answer is none = subst IsNoAttempt (sym is) tt
stays_none c h m (Some doing) k answer is none = (hears_none c h m doing k answer none).0

-- WHERE IT BEGINS

pub starts_none : (c : Shape) (m : Memory) (task : Task) → IsNoOperation task → TriesNone (starts c m task)
starts_none c m (Submit command tries) none = absurd none
starts_none c m (Recover tries) none = absurd none
starts_none c m Look none = looks_none c m 0
starts_none c m Beat none = (tt, tt)
starts_none c m (Mark slot) none =
    on_either (nat_lt slot (length m.learned)) (does m (Marks (record { slot = slot; heard = [] }))) (says m (Refused refusal.NotLearned)) (λ (n : Memory). TriesNone n) (λ known. (tt, tt)) (λ unknown. (tt, tt))
