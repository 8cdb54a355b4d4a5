-- Whatever a core hears, what it has under way stays the task, or goes before it, and what it says in the end fits that.
use Rattle.std.specs.Prelude.{nat_lt, nat_le, is_none, if◌then◌else◌}
use Rattle.std.proofs.Common.{◌≡◌, ◌<◌, ◌-◌, ℕ, Bool, true, false, List, [], ◌∷◌, ◌++◌, length, Option, Some, None, refl, sym, ◌∙◌, ap, subst, true≢false}
use Rattle.std.proofs.lemmas.Slice.Eq.{bytes_eq-Decides}
use Rattle.disk.specs.Disk.{Answer}
use Rattle.attempt.specs.Status.{Status, Due, Ended, End, Committed, Decided, Empty, Outrun, NoMajority, BallotsSpent}
use Rattle.attempt.specs.declared.refusal.Refusal.TheVariants as refusal
use Rattle.lock_command.specs.declared.command.Command.{Command}
use Rattle.lock_command.specs.Command.{spelling}
use Rattle.lock_command.specs.Reading.{decoded}
use Rattle.rounds.specs.Beat.Answers as beat_answers
use Rattle.rounds.specs.Beat.Status as beat
use Rattle.rounds.specs.Marking.Status as mark
use Rattle.rounds.specs.Look.Status as look
use Rattle.paxos_block.specs.Shape.{Shape}
use Rattle.host.specs.declared.answer.HostAnswer.TheVariants.{Ack, Recovered, Looked, Beaten, Marked, Refused}
use Rattle.host.specs.declared.task.Task.{Task}
use Rattle.host.specs.declared.task.Task.TheVariants as task
use Rattle.host.specs.Host.{Operation, Submitting, Recovering, Attempt, Looking, Marking, Doing, Attempts, Looks, Beats, Marks as MarksSlot, Memory, says, does, begins, full_answer, goes_on, is_submitted, after_learning, learns, takes, with_floor, tries_again, ended, by_status, with_heard, hears_from, beat_by, marking_by, marking_with, look_by, looking_with, looks_on, takes_marked, starts, suggested, reply_after}
use Rattle.epoch_host.specs.declared.over.Over.{Over}
use Rattle.epoch_host.specs.declared.stay.Work.{Work}
use Rattle.epoch_host.specs.declared.stay.Work.TheVariants.{Goes, Carries, Marks, Looks as LooksOnly}
use Rattle.epoch_host.specs.Answering.{AreRead, DoesFor, EndsTask, IsFor, IsOfTask, IsPlaced, SaysFor}
use Rattle.epoch_host.specs.Submitting.{IsClients, SubmitsFor}
use Rattle.epoch_host.specs.Working.{IsSpelled}

by_test : (P : Memory → Type 0) (b : Bool) (m n : Memory) → P m → P n → P (if b then m else n)
by_test P true m n p q = p
by_test P false m n p q = q

-- a task is what is begun for it
pub itself : (given : Task) → IsFor given given
itself (task.Submit command tries) = refl
itself (task.Recover tries) = tt
itself task.Look = tt
itself task.Beat = refl
itself (task.Mark slot) = refl

-- A core does something for a task, and has said nothing; or it has said what fits the task.
abbrev pub GoesFor : Over → (slots : ℕ) → Task → Work → Memory → Option Doing → Type 0
GoesFor over slots given what m None = SaysFor over slots given what m.learned m.said
GoesFor over slots given what m (Some doing) = DoesFor given what (Some doing) × (m.said ≡ None)

pub does_of : (over : Over) (slots : ℕ) (given : Task) (what : Work) (m : Memory) (o : Option Doing) → GoesFor over slots given what m o → DoesFor given what o
does_of over slots given Goes m None is = tt
does_of over slots given (Carries at) m None is = tt
does_of over slots given Marks m None is = tt
does_of over slots given LooksOnly m None is = tt
does_of over slots given what m (Some doing) is = is.0

pub silent_of : (over : Over) (slots : ℕ) (given : Task) (what : Work) (m : Memory) (o : Option Doing) → is_none o ≡ false → GoesFor over slots given what m o → m.said ≡ None
silent_of over slots given what m None busy is = absurd (true≢false busy)
silent_of over slots given what m (Some doing) busy is = is.1

-- THE TASK, OR WHAT GOES BEFORE IT

module _ (over : Over) (given : Task) (c : Shape) where
  abbrev So : Memory → Type 0
  So m = GoesFor over c.slots given Goes m m.doing

  full : (m : Memory) (operation : Operation) → So (says m (full_answer operation (length m.learned)))
  full m (Submitting command) = tt
  full m Recovering = refl

  going : (m : Memory) (operation : Operation) (tries : ℕ) → IsOfTask given operation → So (goes_on c m operation tries)
  going m operation tries is = by_test So (nat_lt (length m.learned) c.slots) (begins m operation tries) (says m (full_answer operation (length m.learned))) (is, refl) (full m operation)

  -- a look goes on, where there is a slot
  looks_next : (m : Memory) (first : ℕ) → So (looks_on c m first)
  looks_next m first = by_test So (nat_lt (length m.learned) c.slots) (does m (Looks (record { first = first; heard = [] }))) _ (tt, refl) refl

  -- so it begins
  pub begins_for : (m : Memory) (begun : Task) → IsFor given begun → So (starts c m begun)
  begins_for m (task.Submit command tries) is = going m (Submitting command) tries (tries, is)
  begins_for m (task.Recover tries) is = going m Recovering tries tt
  begins_for m task.Look is = looks_next m 0
  begins_for m task.Beat is = (is, refl)
  begins_for m (task.Mark slot) is = by_test So (nat_lt slot (length m.learned)) (does m (MarksSlot (record { slot = slot; heard = [] }))) _ (is, refl) tt

  -- the command that was learned last is the one that was submitted
  placed : (m : Memory) (value : List ℕ) (command own : Command) (tries : ℕ) → IsSpelled given → given ≡ task.Submit own tries → IsClients over m.learned (Submitting own) → decoded value ≡ Some command
      → is_submitted (Submitting own) value ≡ true → EndsTask over c.slots given (m.learned ++ command ∷ []) (Ack (length m.learned) (reply_after m.learned command))
  placed m value command own tries spelled is may read submitted =
      let bytes : spelling own ≡ value = (bytes_eq-Decides (spelling own) value).0 submitted in
      let both : Some own ≡ Some command = sym (subst IsSpelled is spelled) ∙ ap decoded bytes ∙ read in
      let same : own ≡ command = cc in
      let so : IsPlaced over (m.learned ++ command ∷ []) command (length m.learned) (reply_after m.learned command) = record { before = m.learned; last = refl; at = refl; replied = refl; stands = may.0 } in
      subst (λ (x : Task). EndsTask over c.slots x (m.learned ++ command ∷ []) (Ack (length m.learned) (reply_after m.learned command))) (sym is)
      (subst (λ (x : Command). IsPlaced over (m.learned ++ command ∷ []) x (length m.learned) (reply_after m.learned command)) (sym same) so)

  module _ (spelled : IsSpelled given) where
    acknowledged : (m : Memory) (value : List ℕ) (command : Command) (operation : Operation) → IsOfTask given operation → IsClients over m.learned operation → decoded value ≡ Some command → is_submitted operation value ≡ true
        → EndsTask over c.slots given (m.learned ++ command ∷ []) (Ack (length m.learned) (reply_after m.learned command))
    acknowledged m value command (Submitting own) (tries, is) may read submitted = placed m value command own tries spelled is may read submitted
    acknowledged m value command Recovering is may read submitted = absurd (cc)

    learned : (m : Memory) (t : Attempt) (value : List ℕ) (command : Command) (b : Bool) → IsOfTask given t.operation → IsClients over m.learned t.operation → decoded value ≡ Some command → is_submitted t.operation value ≡ b
        → So (after_learning c m t command b)
    learned m t value command true is may read submitted = acknowledged m value command t.operation is may read submitted
    learned m t value command false is may read other = going (learns m command) t.operation t.tries is

    took : (m : Memory) (t : Attempt) (ballot : ℕ) (value : List ℕ) (o : Option Command) → IsOfTask given t.operation → IsClients over m.learned t.operation → decoded value ≡ o → So (takes c m t ballot value o)
    took m t ballot value None is may read = tt
    took m t ballot value (Some command) is may read = learned m t value command (is_submitted t.operation value) is may read refl

    tried : (m : Memory) (operation : Operation) (tries : ℕ) → IsOfTask given operation → So (tries_again m operation tries)
    tried m operation tries is = by_test So (nat_le tries 1) (says m (Refused refusal.Outrun)) (begins m operation (tries - 1)) tt (is, refl)

    over_now : (m : Memory) (t : Attempt) (ballot : ℕ) (end : End) → IsOfTask given t.operation → IsClients over m.learned t.operation → So (ended c m t ballot end)
    over_now m t ballot (Committed value) is may = took m t ballot value (decoded value) is may refl
    over_now m t ballot (Decided value) is may = took m t ballot value (decoded value) is may refl
    over_now m t ballot Empty is may = refl
    over_now m t ballot (Outrun mbal) is may = tried (with_floor (with_floor m ballot) mbal) t.operation t.tries is
    over_now m t ballot NoMajority is may = tt
    over_now m t ballot BallotsSpent is may = tt

    goes : (m : Memory) (t : Attempt) (ballot : ℕ) (st : Status) → IsOfTask given t.operation → IsClients over m.learned t.operation → So (by_status c m t ballot st)
    goes m t ballot (Due phase disk) is may = (is, refl)
    goes m t ballot (Ended end) is may = over_now m t ballot end is may

    looks_told : (m : Memory) (d : ℕ) (o : Option Command) → So (takes_marked c m d o)
    looks_told m d None = tt
    looks_told m d (Some command) = looks_next (learns m command) d

    looks : (m : Memory) (t : Looking) (st : look.Status) → So (look_by c m t st)
    looks m t (look.Due disk) = (tt, refl)
    looks m t (look.Ended (look.Decided disk value)) = looks_told m disk (decoded value)
    looks m t (look.Ended look.Unmarked) = refl
    looks m t (look.Ended look.NoMajority) = tt

    beats : (h : ℕ) (m : Memory) (heard : List beat_answers.Answered) (st : beat.Status) → given ≡ task.Beat → So (beat_by h m heard st)
    beats h m heard (beat.Due disk) is = (is, refl)
    beats h m heard (beat.Ended (beat.Beaten readings)) is = subst (λ (x : Task). EndsTask over c.slots x m.learned (Beaten (suggested h m.readings readings))) (sym is) tt
    beats h m heard (beat.Ended beat.NoMajority) is = tt

    marks : (m : Memory) (t : Marking) (st : mark.Status) → given ≡ task.Mark t.slot → t.slot < length m.learned → So (marking_by m t st)
    marks m t (mark.Due disk) is inside = (is, refl)
    marks m t (mark.Ended (mark.Marked count)) is inside = subst (λ (x : Task). EndsTask over c.slots x m.learned (Marked count)) (sym is) inside
    marks m t (mark.Ended mark.NoMajority) is inside = tt

    task_heard : (h : ℕ) (m : Memory) (o : Option Doing) (d : ℕ) (answer : Answer) → is_none o ≡ false → SubmitsFor over Goes m.learned o → DoesFor given Goes o → ((slot : ℕ) → given ≡ task.Mark slot → slot < length m.learned)
        → So (hears_from c h m o d answer)
    task_heard h m None d answer busy may is inside = absurd (true≢false busy)
    task_heard h m (Some (Attempts t)) d answer busy may is inside = goes m (with_heard t _) _ _ is may
    task_heard h m (Some (Looks t)) d answer busy may is inside = looks m (looking_with t _) _
    task_heard h m (Some (Beats heard)) d answer busy may is inside = beats h m _ _ is
    task_heard h m (Some (MarksSlot t)) d answer busy may is inside = marks m (marking_with t _) _ is (inside t.slot is)

-- A PART OF THE TABLE

module _ (over : Over) (given : Task) (slot : ℕ) (c : Shape) where
  abbrev Carried : Memory → Type 0
  Carried m = GoesFor over c.slots given (Carries slot) m m.doing

  part_full : (m : Memory) (operation : Operation) → Carried (says m (full_answer operation (length m.learned)))
  part_full m (Submitting command) = tt
  part_full m Recovering = refl

  part_going : (m : Memory) (operation : Operation) (tries : ℕ) → Carried (goes_on c m operation tries)
  part_going m operation tries = by_test Carried (nat_lt (length m.learned) c.slots) (begins m operation tries) (says m (full_answer operation (length m.learned))) (tt, refl) (part_full m operation)

  part_learned : (m : Memory) (t : Attempt) (command : Command) (b : Bool) → Carried (after_learning c m t command b)
  part_learned m t command true = tt
  part_learned m t command false = part_going (learns m command) t.operation t.tries

  part_took : (m : Memory) (t : Attempt) (ballot : ℕ) (value : List ℕ) (o : Option Command) → Carried (takes c m t ballot value o)
  part_took m t ballot value None = tt
  part_took m t ballot value (Some command) = part_learned m t command (is_submitted t.operation value)

  part_over : (m : Memory) (t : Attempt) (ballot : ℕ) (end : End) → Carried (ended c m t ballot end)
  part_over m t ballot (Committed value) = part_took m t ballot value (decoded value)
  part_over m t ballot (Decided value) = part_took m t ballot value (decoded value)
  part_over m t ballot Empty = refl
  part_over m t ballot (Outrun mbal) =
      let n = with_floor (with_floor m ballot) mbal in by_test Carried (nat_le t.tries 1) (says n (Refused refusal.Outrun)) (begins n t.operation (t.tries - 1)) tt (tt, refl)
  part_over m t ballot NoMajority = tt
  part_over m t ballot BallotsSpent = tt

  part_goes : (m : Memory) (t : Attempt) (ballot : ℕ) (st : Status) → Carried (by_status c m t ballot st)
  part_goes m t ballot (Due phase disk) = (tt, refl)
  part_goes m t ballot (Ended end) = part_over m t ballot end

-- ITS MARKING

module _ (over : Over) (given : Task) (c : Shape) where
  marked_part : (m : Memory) (t : Marking) (st : mark.Status) → GoesFor over c.slots given Marks (marking_by m t st) (marking_by m t st).doing
  marked_part m t (mark.Due disk) = (tt, refl)
  marked_part m t (mark.Ended (mark.Marked count)) = tt
  marked_part m t (mark.Ended mark.NoMajority) = tt

-- A LOOK ALONE

module _ (over : Over) (given : Task) (c : Shape) where
  abbrev Alone : Memory → Type 0
  Alone m = GoesFor over c.slots given LooksOnly m m.doing

  alone_next : (m : Memory) (first : ℕ) → Alone (looks_on c m first)
  alone_next m first = by_test Alone (nat_lt (length m.learned) c.slots) (does m (Looks (record { first = first; heard = [] }))) _ (tt, refl) refl

  alone_told : (m : Memory) (d : ℕ) (o : Option Command) → Alone (takes_marked c m d o)
  alone_told m d None = tt
  alone_told m d (Some command) = alone_next (learns m command) d

  alone_goes : (m : Memory) (t : Looking) (st : look.Status) → Alone (look_by c m t st)
  alone_goes m t (look.Due disk) = (tt, refl)
  alone_goes m t (look.Ended (look.Decided disk value)) = alone_told m disk (decoded value)
  alone_goes m t (look.Ended look.Unmarked) = refl
  alone_goes m t (look.Ended look.NoMajority) = tt

-- ANY OF THEM

-- so it goes on, or says
pub hears_for : (over : Over) (given : Task) (c : Shape) (what : Work) (h : ℕ) (m : Memory) (o : Option Doing) (d : ℕ) (answer : Answer) → IsSpelled given → is_none o ≡ false → SubmitsFor over what m.learned o → DoesFor given what o
    → ((slot : ℕ) → given ≡ task.Mark slot → slot < length m.learned) → GoesFor over c.slots given what (hears_from c h m o d answer) (hears_from c h m o d answer).doing
hears_for over given c Goes h m o d answer spelled busy may is inside = task_heard over given c spelled h m o d answer busy may is inside
hears_for over given c (Carries slot) h m None d answer spelled busy may is inside = absurd (true≢false busy)
hears_for over given c (Carries slot) h m (Some (Attempts t)) d answer spelled busy may is inside = part_goes over given slot c m (with_heard t _) _ _
hears_for over given c (Carries slot) h m (Some (Looks t)) d answer spelled busy may is inside = absurd may
hears_for over given c (Carries slot) h m (Some (Beats heard)) d answer spelled busy may is inside = absurd may
hears_for over given c (Carries slot) h m (Some (MarksSlot t)) d answer spelled busy may is inside = absurd may
hears_for over given c Marks h m None d answer spelled busy may is inside = absurd (true≢false busy)
hears_for over given c Marks h m (Some (Attempts t)) d answer spelled busy may is inside = absurd may
hears_for over given c Marks h m (Some (Looks t)) d answer spelled busy may is inside = absurd may
hears_for over given c Marks h m (Some (Beats heard)) d answer spelled busy may is inside = absurd may
hears_for over given c Marks h m (Some (MarksSlot t)) d answer spelled busy may is inside = marked_part over given c m (marking_with t _) _
hears_for over given c LooksOnly h m None d answer spelled busy may is inside = absurd (true≢false busy)
hears_for over given c LooksOnly h m (Some (Attempts t)) d answer spelled busy may is inside = absurd may
hears_for over given c LooksOnly h m (Some (Looks t)) d answer spelled busy may is inside = alone_goes over given c m (looking_with t _) _
hears_for over given c LooksOnly h m (Some (Beats heard)) d answer spelled busy may is inside = absurd may
hears_for over given c LooksOnly h m (Some (MarksSlot t)) d answer spelled busy may is inside = absurd may

-- A PART OF THE TABLE BEGINS, AND ITS MARKING

pub part_begins : (over : Over) (given : Task) (slot : ℕ) (c : Shape) (m : Memory) (command : Command) (tries : ℕ) → GoesFor over c.slots given (Carries slot) (starts c m (task.Submit command tries)) (starts c m (task.Submit command tries)).doing
part_begins over given slot c m command tries = part_going over given slot c m (Submitting command) tries

pub mark_begins : (over : Over) (given : Task) (c : Shape) (m : Memory) (slot : ℕ) → GoesFor over c.slots given Marks (starts c m (task.Mark slot)) (starts c m (task.Mark slot)).doing
mark_begins over given c m slot =
    by_test (λ (n : Memory). GoesFor over c.slots given Marks n n.doing) (nat_lt slot (length m.learned)) (does m (MarksSlot (record { slot = slot; heard = [] }))) (says m (Refused refusal.NotLearned)) (tt, refl) tt

-- A look alone begins.
pub alone_begins : (over : Over) (given : Task) (c : Shape) (m : Memory) → GoesFor over c.slots given LooksOnly (starts c m task.Look) (starts c m task.Look).doing
alone_begins over given c m = alone_next over given c m 0

-- A LOOK AND A RECOVERY

pub looked_ends : (over : Over) (slots : ℕ) (given : Task) (learned : List Command) (told : ℕ) → given ≡ task.Look → AreRead over learned told → EndsTask over slots given learned (Looked told)
looked_ends over slots given learned told is read = subst (λ (x : Task). EndsTask over slots x learned (Looked told)) (sym is) read

pub recovered_ends : (over : Over) (slots : ℕ) (given : Task) (learned : List Command) (told tries : ℕ) → given ≡ task.Recover tries → AreRead over learned told × (length learned < slots) → EndsTask over slots given learned (Recovered told)
recovered_ends over slots given learned told tries is read = subst (λ (x : Task). EndsTask over slots x learned (Recovered told)) (sym is) read
