-- What a core does first on a disk, and how it stays what its spelling reads as: a command that it submits.
use Rattle.std.specs.Prelude.{nat_lt, nat_le, if◌then◌else◌}
use Rattle.std.proofs.Common.{◌≡◌, ◌-◌, ℕ, Bool, true, false, List, [], length, Option, Some, None, subst}
use Rattle.disk.specs.Disk.{Call, Attach, Answer}
use Rattle.attempt.specs.Answers.{on, heard_as}
use Rattle.attempt.specs.Setup.{Setup}
use Rattle.attempt.specs.Status.{Status, Due, Ended, End, Committed, Decided, Empty, Outrun, NoMajority, BallotsSpent, status}
use Rattle.attempt.specs.NextCall.{next_in}
use Rattle.attempt.specs.declared.refusal.Refusal.TheVariants as refusal
use Rattle.lock_command.specs.declared.command.Command.{Command}
use Rattle.lock_command.specs.Reading.{decoded}
use Rattle.paxos_block.specs.Shape.{Shape}
use Rattle.rounds.specs.Beat.Answers as beat_answers
use Rattle.rounds.specs.Beat.Status as beat
use Rattle.rounds.specs.Marking.Status as mark
use Rattle.rounds.specs.Look.Status as look
use Rattle.host.specs.declared.answer.HostAnswer.TheVariants.{Refused}
use Rattle.host.specs.declared.task.Task.{Task}
use Rattle.host.specs.declared.task.Task.TheVariants as task
use Rattle.host.specs.Host.{Operation, Submitting, Recovering, Attempt, Looking, Marking, Doing, Attempts, Looks, Beats, Marks, Memory, setup_of, beat_of, marking_of, look_of, says, does, begins, full_answer, goes_on, is_submitted, after_learning, learns, takes, with_floor, ended, by_status, with_heard, hears_from, beat_by, marking_by, marking_with, look_by, looking_with, looks_on, takes_marked, starts}
use Rattle.window.specs.declared.window.Window.{Window}
use Rattle.window.specs.Calls.{sight_of}
use Rattle.window.specs.Hearing.{IsReady}
use Rattle.epoch_host.specs.Leading.{IsReadyFor, IsSpelledBy, IsSpelledIn}
use Rattle.epoch_host.specs.Working.{IsSpelled}

by_test : (P : Memory → Type 0) (b : Bool) (m n : Memory) → P m → P n → P (if b then m else n)
by_test P true m n p q = p
by_test P false m n p q = q

-- THE FIRST CALL IS AN ATTACH

module _ (w : Window) where
  attach_ready : (k d : ℕ) (call : Call) → ◌≡◌ {A = Option (ℕ × Call)} (Some (k, Attach)) (Some (d, call)) → IsReady call (sight_of w d)
  attach_ready k d call next = (let pair : (k, Attach) ≡ (d, call) = cc in subst (λ (q : ℕ × Call). IsReady q.1 (sight_of w q.0)) pair tt)

  attempt_first : (s : Setup) (st : Status) (d : ℕ) (call : Call) → next_in s (on []) st ≡ Some (d, call) → IsReady call (sight_of w d)
  attempt_first s (Due p k) d call next = attach_ready k d call next
  attempt_first s (Ended end) d call next = absurd (cc)

  beat_first : (s : beat.Setup) (st : beat.Status) (d : ℕ) (call : Call) → beat.next_in s (beat_answers.on []) st ≡ Some (d, call) → IsReady call (sight_of w d)
  beat_first s (beat.Due k) d call next = attach_ready k d call next
  beat_first s (beat.Ended end) d call next = absurd (cc)

  mark_first : (s : mark.Setup) (st : mark.Status) (d : ℕ) (call : Call) → mark.next_in s (on []) st ≡ Some (d, call) → IsReady call (sight_of w d)
  mark_first s (mark.Due k) d call next = attach_ready k d call next
  mark_first s (mark.Ended end) d call next = absurd (cc)

  look_first : (s : look.Setup) (st : look.Status) (d : ℕ) (call : Call) → look.next_in s (on []) st ≡ Some (d, call) → IsReady call (sight_of w d)
  look_first s (look.Due k) d call next = attach_ready k d call next
  look_first s (look.Ended end) d call next = absurd (cc)

  module _ (c : Shape) (h : ℕ) where
    abbrev First : Memory → Type 0
    First m = IsReadyFor c h m w

    going_first : (m : Memory) (operation : Operation) (tries : ℕ) → First (goes_on c m operation tries)
    going_first m operation tries =
        by_test First (nat_lt (length m.learned) c.slots) (begins m operation tries) (says m (full_answer operation (length m.learned)))
        (λ d call next. attempt_first (setup_of c h m operation) (status (setup_of c h m operation) (on [])) d call next) (λ d call next. absurd (cc))

    -- what begins makes no write before it has heard anything
    pub begun_ready : (m : Memory) (given : Task) → First (starts c m given)
    begun_ready m (task.Submit command tries) = going_first m (Submitting command) tries
    begun_ready m (task.Recover tries) = going_first m Recovering tries
    begun_ready m task.Look =
        by_test First (nat_lt (length m.learned) c.slots) (does m (Looks (record { first = 0; heard = [] }))) _
        (λ d call next. look_first (look_of c m 0) (look.status (look_of c m 0) (on [])) d call next) (λ d call next. absurd (cc))
    begun_ready m task.Beat = λ d call next. beat_first (beat_of c h) (beat.status (beat_of c h) (beat_answers.on [])) d call next
    begun_ready m (task.Mark slot) =
        by_test First (nat_lt slot (length m.learned)) (does m (Marks (record { slot = slot; heard = [] }))) _
        (λ d call next. mark_first (marking_of c h m slot) (mark.status (marking_of c h m slot) (on [])) d call next) (λ d call next. absurd (cc))

-- WHAT IS SUBMITTED IS WHAT ITS SPELLING READS AS

module _ (c : Shape) where
  abbrev So : Memory → Type 0
  So m = IsSpelledBy m.doing

  going : (m : Memory) (operation : Operation) (tries : ℕ) → IsSpelledIn operation → So (goes_on c m operation tries)
  going m operation tries is = by_test So (nat_lt (length m.learned) c.slots) (begins m operation tries) (says m (full_answer operation (length m.learned))) is tt

  pub spelled_begun : (m : Memory) (given : Task) → IsSpelled given → So (starts c m given)
  spelled_begun m (task.Submit command tries) is = going m (Submitting command) tries is
  spelled_begun m (task.Recover tries) is = going m Recovering tries tt
  spelled_begun m task.Look is = by_test So (nat_lt (length m.learned) c.slots) (does m (Looks (record { first = 0; heard = [] }))) _ tt tt
  spelled_begun m task.Beat is = tt
  spelled_begun m (task.Mark slot) is = by_test So (nat_lt slot (length m.learned)) (does m (Marks (record { slot = slot; heard = [] }))) _ tt tt

  learned : (m : Memory) (t : Attempt) (command : Command) (b : Bool) → IsSpelledIn t.operation → So (after_learning c m t command b)
  learned m t command true is = tt
  learned m t command false is = going (learns m command) t.operation t.tries is

  took : (m : Memory) (t : Attempt) (ballot : ℕ) (value : List ℕ) (o : Option Command) → IsSpelledIn t.operation → So (takes c m t ballot value o)
  took m t ballot value None is = tt
  took m t ballot value (Some command) is = learned m t command (is_submitted t.operation value) is

  over : (m : Memory) (t : Attempt) (ballot : ℕ) (end : End) → IsSpelledIn t.operation → So (ended c m t ballot end)
  over m t ballot (Committed value) is = took m t ballot value (decoded value) is
  over m t ballot (Decided value) is = took m t ballot value (decoded value) is
  over m t ballot Empty is = tt
  over m t ballot (Outrun mbal) is =
      let n = with_floor (with_floor m ballot) mbal in
      by_test So (nat_le t.tries 1) (says n (Refused refusal.Outrun)) (begins n t.operation (t.tries - 1)) tt is
  over m t ballot NoMajority is = tt
  over m t ballot BallotsSpent is = tt

  goes : (m : Memory) (t : Attempt) (ballot : ℕ) (st : Status) → IsSpelledIn t.operation → So (by_status c m t ballot st)
  goes m t ballot (Due phase disk) is = is
  goes m t ballot (Ended end) is = over m t ballot end is

  looks_next : (m : Memory) (first : ℕ) → So (looks_on c m first)
  looks_next m first = by_test So (nat_lt (length m.learned) c.slots) (does m (Looks (record { first = first; heard = [] }))) _ tt tt

  looks_told : (m : Memory) (d : ℕ) (o : Option Command) → So (takes_marked c m d o)
  looks_told m d None = tt
  looks_told m d (Some command) = looks_next (learns m command) d

  looks : (m : Memory) (t : Looking) (st : look.Status) → So (look_by c m t st)
  looks m t (look.Due disk) = tt
  looks m t (look.Ended (look.Decided disk value)) = looks_told m disk (decoded value)
  looks m t (look.Ended look.Unmarked) = tt
  looks m t (look.Ended look.NoMajority) = tt

  beats : (h : ℕ) (m : Memory) (heard : List beat_answers.Answered) (st : beat.Status) → So (beat_by h m heard st)
  beats h m heard (beat.Due disk) = tt
  beats h m heard (beat.Ended (beat.Beaten readings)) = tt
  beats h m heard (beat.Ended beat.NoMajority) = tt

  marks : (m : Memory) (t : Marking) (st : mark.Status) → So (marking_by m t st)
  marks m t (mark.Due disk) = tt
  marks m t (mark.Ended (mark.Marked count)) = tt
  marks m t (mark.Ended mark.NoMajority) = tt

  -- and stays so
  pub spelled_heard : (h : ℕ) (m : Memory) (o : Option Doing) (d : ℕ) (answer : Answer) → IsSpelledBy m.doing → IsSpelledBy o → So (hears_from c h m o d answer)
  spelled_heard h m None d answer was is = was
  spelled_heard h m (Some (Attempts t)) d answer was is = goes m (with_heard t (record { disk = d; heard = heard_as answer })) _ _ is
  spelled_heard h m (Some (Looks t)) d answer was is = looks m (looking_with t _) _
  spelled_heard h m (Some (Beats heard)) d answer was is = beats h m _ _
  spelled_heard h m (Some (Marks t)) d answer was is = marks m (marking_with t _) _
