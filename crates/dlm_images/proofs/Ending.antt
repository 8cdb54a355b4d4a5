-- How a task ends: whatever the host hears, it goes on, or has ended with an answer of its own.
use Rattle.std.proofs.Common.{◌≡◌, ◌-◌, ℕ, Bool, true, false, List, [], ◌∷◌, ◌++◌, length, nat_lt, nat_le, Option, Some, None, refl, sym, ◌∙◌, ap, subst, if◌then◌else◌}
use Rattle.std.proofs.lemmas.Slice.Eq.{bytes_eq-Decides}
use Rattle.std.specs.Option.{option_or}
use Rattle.attempt.specs.Answers as answers
use Rattle.attempt.specs.Answers.{Answered, on, heard_as}
use Rattle.attempt.specs.Setup.{Setup}
use Rattle.attempt.specs.Status as attempt
use Rattle.attempt.specs.Status.{Status, Due, Ended, status, taken}
use Rattle.attempt.specs.Proposal.{best}
use Rattle.attempt.proofs.Statuses.{HasNone, told_by}
use Rattle.lock_command.specs.declared.command.Command.{Command}
use Rattle.lock_command.specs.Command.{spelling, Fits as FitsCommand}
use Rattle.lock_command.specs.Reading.{decoded, checked}
use Rattle.lock_command.proofs.Readings.{command_at-spelling}
use Rattle.paxos_block.specs.Shape.{Shape}
use Rattle.attempt.specs.declared.refusal.Refusal.{Refusal}
use Rattle.attempt.specs.declared.refusal.Refusal.TheVariants as refusal
use Rattle.disk.specs.Disk as device
use Rattle.rounds.specs.Marking.Status as mark
use Rattle.rounds.specs.Look.Status as look
use Rattle.rounds.proofs.Look.Histories as looks
use Rattle.attempt.specs.Looking.{OnlyReads}
use Rattle.host.specs.declared.answer.HostAnswer.TheVariants.{Recovered, Looked, Refused}
use Rattle.host.specs.declared.task.Task.TheVariants as tasks
use Rattle.host.specs.Host.{Memory, Attempt, Marking, Looking, Doing, Attempts, Looks, Marks, Operation, Submitting, Recovering, does, says, goes_on, hears, hears_from, begins, by_status, takes, after_learning, is_submitted, learns, with_heard, with_floor, tries_again, full_answer, setup_of, input_of, marking_by, marking_with, marking_of, starts_marking, look_by, look_of, looking_with, looks_on, takes_marked, next_doing}
use Rattle.dlm_images.specs.Operations.{Made, after_call, after_made, AreDue, AreReads, Ends}
use Rattle.dlm_images.specs.Tasks.{EndsTask}

-- NO INPUT, NO PROPOSAL

none_proposed : (first other : Option (List ℕ)) → option_or first other ≡ None → other ≡ None
none_proposed None other is = is
none_proposed (Some x) other is = absurd (cc)

-- an attempt that has an input does not end without a proposal
no_input : (s : Setup) (f : answers.Answers) → status s f ≡ Ended attempt.Empty → s.input ≡ None
no_input s f is = let none : HasNone s f = told_by s f (Ended attempt.Empty) is in none_proposed (best s f).inp s.input none.none

-- A COMMAND READS BACK

checked_same : (c : Command) (b : Bool) → b ≡ true → (if b then Some c else None) ≡ Some c
checked_same c true is = refl
checked_same c false is = absurd (cc)

-- one whose numbers are in their ranges is what its spelling reads as
pub reads_back : (command : Command) → FitsCommand command → decoded (spelling command) ≡ Some command
reads_back command fits =
    ap (checked (spelling command)) (command_at-spelling command fits) ∙ checked_same command _ ((bytes_eq-Decides (spelling command) (spelling command)).1 refl)

-- the command that was submitted reads back
abbrev pub ReadsBack : Operation → Type 0
ReadsBack (Submitting command) = decoded (spelling command) ≡ Some command
ReadsBack Recovering = Unit {0}

-- CALL AFTER CALL

pub by_test : (P : Memory → Type 0) (b : Bool) (m n : Memory) → (b ≡ true → P m) → (b ≡ false → P n) → P (if b then m else n)
by_test P true m n p q = p refl
by_test P false m n p q = q refl

-- what holds after each answer, holds after all
after_all : (c : Shape) (h : ℕ) (P : Memory → Type 0) → ((m : Memory) (d : ℕ) (answer : device.Answer) → P m → P (hears_from c h m m.doing d answer)) → (m : Memory) (xs : List Made) → P m → P (after_made c h m xs)
after_all c h P hears_it m [] is = is
after_all c h P hears_it m (x ∷ xs) is = after_all c h P hears_it (after_call c h m x) xs (hears_it m x.disk x.answer is)

-- AN OPERATION

-- the operation is under way, or has ended
abbrev GoesOn : Operation → Memory → Option Doing → Type 0
GoesOn o m None = Ends o m.learned m.said
GoesOn o m (Some (Attempts t)) = t.operation ≡ o
GoesOn o m (Some other) = ⊥

abbrev IsOf : Operation → Memory → Type 0
IsOf o m = GoesOn o m m.doing

full : (o : Operation) (m : Memory) → IsOf o (says m (full_answer o (length m.learned)))
full (Submitting command) m = tt
full Recovering m = refl

goes_on_of : (c : Shape) (m : Memory) (o : Operation) (tries : ℕ) → IsOf o (goes_on c m o tries)
goes_on_of c m o tries = by_test (IsOf o) (nat_lt (length m.learned) c.slots) (begins m o tries) (says m (full_answer o (length m.learned))) (λ is. refl) (λ is. full o m)

-- a refusal ends any operation
refusal_of : (o : Operation) (learned : List Command) (r : Refusal) → Ends o learned (Some (Refused r))
refusal_of (Submitting command) learned r = tt
refusal_of Recovering learned r = tt

tries_of : (m : Memory) (o : Operation) (tries : ℕ) → IsOf o (tries_again m o tries)
tries_of m o tries = by_test (IsOf o) (nat_le tries 1) (says m (Refused refusal.Outrun)) (begins m o (tries - 1)) (λ is. refusal_of o m.learned refusal.Outrun) (λ is. refl)

same_command : (a b : Command) → Some a ≡ Some b → a ≡ b
same_command a b is = cc

-- a committed value that is the command submitted is acknowledged
learned_of : (c : Shape) (m : Memory) (t : Attempt) (value : List ℕ) (command : Command) → decoded value ≡ Some command → ReadsBack t.operation →
    (b : Bool) → is_submitted t.operation value ≡ b → IsOf t.operation (after_learning c m t command b)
learned_of c m t value command read back false is = goes_on_of c (learns m command) t.operation t.tries
learned_of c m t value command read back true is = by_operation t.operation back is
  where
    by_operation : (o : Operation) → ReadsBack o → is_submitted o value ≡ true → IsOf o (after_learning c m t command true)
    by_operation (Submitting given) back is =
        let spelled : spelling given ≡ value = (bytes_eq-Decides (spelling given) value).0 is in
        let same : given ≡ command = same_command given command (sym back ∙ ap decoded spelled ∙ read) in
        subst (λ (x : Command). IsOf (Submitting x) (after_learning c m t command true)) (sym same)
        (record { before = m.learned; last = refl; at = refl; replied = refl })
    by_operation Recovering back is = absurd (cc)

taken_of : (c : Shape) (m : Memory) (t : Attempt) (ballot : ℕ) (value : List ℕ) → ReadsBack t.operation → (o : Option Command) → decoded value ≡ o → IsOf t.operation (takes c m t ballot value o)
taken_of c m t ballot value back None read = refusal_of t.operation m.learned refusal.NotACommand
taken_of c m t ballot value back (Some command) read = learned_of c m t value command read back (is_submitted t.operation value) refl

-- only a recovery ends where nothing was proposed
empty_of : (o : Operation) (m : Memory) → input_of o ≡ None → Ends o m.learned (Some (Recovered (length m.learned)))
empty_of (Submitting command) m none = absurd (cc)
empty_of Recovering m none = refl

status_of : (c : Shape) (m : Memory) (t : Attempt) (ballot : ℕ) (at : Status) → (at ≡ Ended attempt.Empty → input_of t.operation ≡ None) → ReadsBack t.operation → IsOf t.operation (by_status c m t ballot at)
status_of c m t ballot (Due phase disk) only back = refl
status_of c m t ballot (Ended (attempt.Committed value)) only back = taken_of c m t ballot value back (decoded value) refl
status_of c m t ballot (Ended (attempt.Decided value)) only back = taken_of c m t ballot value back (decoded value) refl
status_of c m t ballot (Ended attempt.Empty) only back = empty_of t.operation (with_floor m ballot) (only refl)
status_of c m t ballot (Ended (attempt.Outrun mbal)) only back = tries_of (with_floor (with_floor m ballot) mbal) t.operation t.tries
status_of c m t ballot (Ended attempt.NoMajority) only back = refusal_of t.operation m.learned refusal.NoMajority
status_of c m t ballot (Ended attempt.BallotsSpent) only back = refusal_of t.operation m.learned refusal.BallotsSpent

-- whatever it hears, an operation goes on, or has ended
hears_of : (c : Shape) (h : ℕ) (m : Memory) (o : Operation) (doing : Option Doing) (d : ℕ) (answer : device.Answer) → ReadsBack o → m.doing ≡ doing → GoesOn o m doing → IsOf o (hears_from c h m doing d answer)
hears_of c h m o None d answer back is goes = subst (GoesOn o m) (sym is) goes
hears_of c h m o (Some (Attempts t)) d answer back is goes =
    let x : Answered = record { disk = d; heard = heard_as answer } in
    let s : Setup = setup_of c h m t.operation in
    let heard = on (t.heard ++ x ∷ []) in
    subst (λ (p : Operation). IsOf p (hears c h m t x)) goes
    (status_of c m (with_heard t x) (taken s heard) (status s heard) (no_input s heard) (subst ReadsBack (sym goes) back))
hears_of c h m o (Some other) d answer back is goes = absurd goes

-- an operation that is under way no more has ended
pub operation_ends : (c : Shape) (h : ℕ) (m : Memory) (o : Operation) (tries : ℕ) (xs : List Made) → ReadsBack o → (after_made c h (goes_on c m o tries) xs).doing ≡ None →
    Ends o (after_made c h (goes_on c m o tries) xs).learned (after_made c h (goes_on c m o tries) xs).said
operation_ends c h m o tries xs back none =
    subst (GoesOn o (after_made c h (goes_on c m o tries) xs)) none
    (after_all c h (IsOf o) (λ n d answer. hears_of c h n o n.doing d answer back refl) (goes_on c m o tries) xs (goes_on_of c m o tries))

-- A MARKING

module _ (c : Shape) (h slot : ℕ) (learned : List Command) where
  -- the marking is under way, or has ended, and this is what is learned
  abbrev pub MarksOn : Memory → Option Doing → Type 0
  MarksOn m None = (m.learned ≡ learned) × EndsTask (tasks.Mark slot) m.learned m.said
  MarksOn m (Some (Marks t)) = m.learned ≡ learned
  MarksOn m (Some other) = ⊥

  abbrev IsMarking : Memory → Type 0
  IsMarking m = MarksOn m m.doing

  marked_of : (m : Memory) (t : Marking) (st : mark.Status) → m.learned ≡ learned → IsMarking (marking_by m t st)
  marked_of m t (mark.Due disk) is = is
  marked_of m t (mark.Ended (mark.Marked count)) is = (is, tt)
  marked_of m t (mark.Ended mark.NoMajority) is = (is, tt)

  marks_of : (m : Memory) (doing : Option Doing) (d : ℕ) (answer : device.Answer) → m.doing ≡ doing → MarksOn m doing → IsMarking (hears_from c h m doing d answer)
  marks_of m None d answer is goes = subst (MarksOn m) (sym is) goes
  marks_of m (Some (Marks t)) d answer is goes =
      let u : Marking = marking_with t (record { disk = d; heard = heard_as answer }) in
      marked_of m u (mark.status (marking_of c h m t.slot) (on u.heard)) goes
  marks_of m (Some other) d answer is goes = absurd goes

  begun_of : (m : Memory) → m.learned ≡ learned → IsMarking (starts_marking m slot)
  begun_of m same =
      by_test IsMarking (nat_lt slot (length m.learned)) (does m (Marks (record { slot = slot; heard = [] }))) (says m (Refused refusal.NotLearned))
      (λ is. same) (λ is. (same, tt))

  -- one that is under way no more has ended, and has changed nothing that was learned
  pub marking_ends : (m : Memory) (xs : List Made) → m.learned ≡ learned → (after_made c h (starts_marking m slot) xs).doing ≡ None → MarksOn (after_made c h (starts_marking m slot) xs) None
  marking_ends m xs same none =
      subst (MarksOn (after_made c h (starts_marking m slot) xs)) none
      (after_all c h IsMarking (λ n d answer. marks_of n n.doing d answer refl) (starts_marking m slot) xs (begun_of m same))

-- A LOOK

-- the look is under way, or has ended
abbrev LooksOn : Memory → Option Doing → Type 0
LooksOn m None = EndsTask tasks.Look m.learned m.said
LooksOn m (Some (Looks t)) = Unit {0}
LooksOn m (Some other) = ⊥

abbrev IsLook : Memory → Type 0
IsLook m = LooksOn m m.doing

on_of : (c : Shape) (m : Memory) (first : ℕ) → IsLook (looks_on c m first)
on_of c m first =
    by_test IsLook (nat_lt (length m.learned) c.slots) (does m (Looks (record { first = first; heard = [] }))) (says m (Looked (length m.learned)))
    (λ is. tt) (λ is. refl)

taken_marked : (c : Shape) (m : Memory) (disk : ℕ) (o : Option Command) → IsLook (takes_marked c m disk o)
taken_marked c m disk None = tt
taken_marked c m disk (Some command) = on_of c (learns m command) disk

looked_of : (c : Shape) (m : Memory) (t : Looking) (st : look.Status) → IsLook (look_by c m t st)
looked_of c m t (look.Due disk) = tt
looked_of c m t (look.Ended (look.Decided disk value)) = taken_marked c m disk (decoded value)
looked_of c m t (look.Ended look.Unmarked) = refl
looked_of c m t (look.Ended look.NoMajority) = tt

looks_of : (c : Shape) (h : ℕ) (m : Memory) (doing : Option Doing) (d : ℕ) (answer : device.Answer) → m.doing ≡ doing → LooksOn m doing → IsLook (hears_from c h m doing d answer)
looks_of c h m None d answer is goes = subst (LooksOn m) (sym is) goes
looks_of c h m (Some (Looks t)) d answer is goes =
    let u : Looking = looking_with t (record { disk = d; heard = heard_as answer }) in
    looked_of c m u (look.status (look_of c m t.first) (on u.heard))
looks_of c h m (Some other) d answer is goes = absurd goes

-- one that is under way no more has ended
pub look_ends : (c : Shape) (h : ℕ) (m : Memory) (xs : List Made) → (after_made c h (looks_on c m 0) xs).doing ≡ None →
    EndsTask tasks.Look (after_made c h (looks_on c m 0) xs).learned (after_made c h (looks_on c m 0) xs).said
look_ends c h m xs none =
    subst (LooksOn (after_made c h (looks_on c m 0) xs)) none
    (after_all c h IsLook (λ n d answer. looks_of c h n n.doing d answer refl) (looks_on c m 0) xs (on_of c m 0))

-- a call that is due while it is under way writes nothing
next_reads : (c : Shape) (h : ℕ) (m : Memory) (doing : Option Doing) (k : ℕ) (call : device.Call) → LooksOn m doing → next_doing c h m doing ≡ Some (k, call) → OnlyReads call
next_reads c h m None k call goes next = absurd (cc)
next_reads c h m (Some (Looks t)) k call goes next = looks.reads (look_of c m t.first) (on t.heard) k call next
next_reads c h m (Some other) k call goes next = absurd goes

reads_all : (c : Shape) (h : ℕ) (m : Memory) (xs : List Made) → IsLook m → AreDue c h m xs → AreReads xs
reads_all c h m [] is due = tt
reads_all c h m (x ∷ xs) is due =
    (next_reads c h m m.doing x.disk x.call is due.0.next, reads_all c h (after_call c h m x) xs (looks_of c h m m.doing x.disk x.answer refl is) due.1)

-- so a look writes nothing
pub look_reads : (c : Shape) (h : ℕ) (m : Memory) (xs : List Made) → AreDue c h (looks_on c m 0) xs → AreReads xs
look_reads c h m xs due = reads_all c h (looks_on c m 0) xs (on_of c m 0) due
