-- What an entry makes of what a host has under way: it stays, begins, or hears one answer more.
use Rattle.std.specs.Prelude.{nat_lt, nat_le, slice_get, ◌-◌, cond, if◌then◌else◌}
use Rattle.std.proofs.Common.{ℕ, zero, suc, ◌<◌, ◌≤◌, ◌≡◌, inl, inr, Bool, true, false, Option, Some, None, List, [], ◌∷◌, ◌++◌, length, refl, sym, subst, ap, ◌∙◌, arith}
use Rattle.std.proofs.lemmas.Bool.{cases_eq, eqb-true}
use Rattle.disk.specs.Disk.{DiskState, Call, Answer}
use Rattle.attempt.specs.Answers.{on, heard_as}
use Rattle.attempt.specs.Status.{Status, Due, Ended, End, Committed, Decided, Empty, Outrun, NoMajority, BallotsSpent, status, taken}
use Rattle.rounds.specs.Beat.Answers as beat_answers
use Rattle.rounds.specs.Beat.Status as beat
use Rattle.rounds.specs.Marking.Status as mark
use Rattle.rounds.specs.Look.Status as look
use Rattle.lock_command.specs.declared.command.Command.{Command}
use Rattle.lock_command.specs.Reading.{decoded}
use Rattle.paxos_block.specs.Shape.{Shape}
use Rattle.attempt.specs.declared.refusal.Refusal.TheVariants as refusal
use Rattle.host.specs.declared.answer.HostAnswer.TheVariants.{Looked, Refused}
use Rattle.host.specs.declared.task.Task.{Task}
use Rattle.host.specs.declared.task.Task.TheVariants.{Submit, Recover, Look, Beat, Mark}
use Rattle.host.specs.Host.{Operation, Submitting, Recovering, Attempt, Marking, Looking, Doing, Attempts, Looks, Beats, Marks, Memory, Host, Stopped, Running, setup_of, says, does, begins, full_answer, goes_on, learns, with_floor, is_submitted, after_learning, takes, tries_again, ended, by_status, with_heard, hears_from, beat_by, beat_of, starts_marking, marking_by, marking_with, marking_of, look_by, look_of, looking_with, looks_on, takes_marked}
use Rattle.world.specs.Entry.{Filled, Start, Stop, Begin, Called, Torn, is_on, is_of, disk_step, host_step, started, begins_on}
use Rattle.world.specs.World.{World}
use Rattle.world.specs.Chosen.{at}
use Rattle.world_safety.specs.Next.{next_world}
use Rattle.world_safety.proofs.Runs.Places.{at_next, at_end}

-- THE NEXT WORLD

module _ (c : Shape) (w : World) (e : Filled) where
  -- a disk is the one before, or that after its entry
  pub disk_by : (d : ℕ) (P : DiskState → Type 0) → (is_on d e ≡ true → P (disk_step (w.disk d) e)) → P (w.disk d) → P ((next_world c w e).disk d)
  disk_by d P here there = go (is_on d e) refl
    where
      go : (b : Bool) → is_on d e ≡ b → P (cond b (disk_step (w.disk d) e) (w.disk d))
      go true on = here on
      go false off = there

  -- and so a host
  pub host_by : (h : ℕ) (P : Host → Type 0) → (is_of h e ≡ true → P (host_step c h (w.host h) e)) → P (w.host h) → P ((next_world c w e).host h)
  host_by h P here there = go (is_of h e) refl
    where
      go : (b : Bool) → is_of h e ≡ b → P (cond b (host_step c h (w.host h) e) (w.host h))
      go true of = here of
      go false off = there

-- what each entry keeps from one place to another
module _ (c : Shape) (log : List Filled) (Q : World → Type 0) (i : ℕ) where
  by_entry : (j : ℕ) (o : Option Filled) → slice_get log j ≡ o → ((e : Filled) → slice_get log j ≡ Some e → Q (at c log j) → Q (next_world c (at c log j) e)) → Q (at c log j) → Q (at c log (suc j))
  by_entry j None is step before = subst Q (sym (at_end c log j is)) before
  by_entry j (Some e) is step before = subst Q (sym (at_next c log j e is)) (step e is before)

  pub up_to : (j : ℕ) → i ≤ j → ((p : ℕ) (e : Filled) → i ≤ p → p < j → slice_get log p ≡ Some e → Q (at c log p) → Q (next_world c (at c log p) e)) → Q (at c log i) → Q (at c log j)
  up_to zero le step first = let same : i ≡ zero = omega arith in subst (λ (k : ℕ). Q (at c log k)) same first
  up_to (suc j) le step first = elim (cases_eq i (suc j)) [
    | inl same ↦ subst (λ (k : ℕ). Q (at c log k)) same first
    | inr off ↦
        (let before : i ≤ j = omega (arith, le, off) in
        by_entry j (slice_get log j) refl (λ e is so. step j e before (omega arith) is so) (up_to j before (λ p e from less is so. step p e from (omega arith) is so) first))
  ]

-- WHAT IS UNDER WAY

-- this is so of it, beside so many commands that are learned
abbrev pub DoesIn : (ℕ → Doing → Type 0) → Memory → Option Doing → Type 0
DoesIn P m None = Unit {0}
DoesIn P m (Some doing) = P (length m.learned) doing

abbrev pub Does : (ℕ → Doing → Type 0) → Host → Type 0
Does P Stopped = Unit {0}
Does P (Running m) = DoesIn P m m.doing

-- of whatever is
pub does_at : (P : ℕ → Doing → Type 0) (host : Host) (m : Memory) (doing : Doing) → Does P host → host ≡ Running m → m.doing ≡ Some doing → P (length m.learned) doing
does_at P host m doing is running does = subst (DoesIn P m) does (subst (Does P) running is)

pub does_all : (P : ℕ → Doing → Type 0) (host : Host) → ((m : Memory) (doing : Doing) → host ≡ Running m → m.doing ≡ Some doing → P (length m.learned) doing) → Does P host
does_all P Stopped is = tt
does_all P (Running m) is = go m.doing refl
  where
    go : (o : Option Doing) → m.doing ≡ o → DoesIn P m o
    go None none = tt
    go (Some doing) does = is m doing refl does

-- it has heard nothing yet, and a marking is the one that the entry begins
abbrev pub IsNew : ℕ → Filled → Doing → Type 0
IsNew h e (Attempts t) = t.heard ≡ []
IsNew h e (Looks t) = t.heard ≡ []
IsNew h e (Beats heard) = heard ≡ []
IsNew h e (Marks t) = (t.heard ≡ []) × (e ≡ Begin h (Mark t.slot))

-- with one answer more
abbrev pub with_answer : Doing → ℕ → Answer → Doing
with_answer (Attempts t) k answer = Attempts (with_heard t (record { disk = k; heard = heard_as answer }))
with_answer (Looks t) k answer = Looks (looking_with t (record { disk = k; heard = heard_as answer }))
with_answer (Beats heard) k answer = Beats (heard ++ record { disk = k; heard = beat_answers.heard_as answer } ∷ [])
with_answer (Marks t) k answer = Marks (marking_with t (record { disk = k; heard = heard_as answer }))

module _ (c : Shape) (h : ℕ) (P Q : ℕ → Doing → Type 0) (w : World) (e : Filled) (new : (n : ℕ) (doing : Doing) → IsNew h e doing → Q n doing) where
  one_of : (b : Bool) (first other : Memory) → Does Q (Running first) → Does Q (Running other) → Does Q (Running (if b then first else other))
  one_of true first other is_first is_other = is_first
  one_of false first other is_first is_other = is_other

  -- IT BEGINS

  operates : (m : Memory) (operation : Operation) (tries : ℕ) → Does Q (Running (goes_on c m operation tries))
  operates m operation tries =
      one_of (nat_lt (length m.learned) c.slots) (begins m operation tries) (says m (full_answer operation (length m.learned)))
      (new (length m.learned) (Attempts (record { operation = operation; tries = tries; heard = [] })) refl) tt

  looks : (m : Memory) (first : ℕ) → Does Q (Running (looks_on c m first))
  looks m first =
      one_of (nat_lt (length m.learned) c.slots) (does m (Looks (record { first = first; heard = [] }))) (says m (Looked (length m.learned)))
      (new (length m.learned) (Looks (record { first = first; heard = [] })) refl) tt

  marks : (m : Memory) (slot : ℕ) → e ≡ Begin h (Mark slot) → Does Q (Running (starts_marking m slot))
  marks m slot same =
      one_of (nat_lt slot (length m.learned)) (does m (Marks (record { slot = slot; heard = [] }))) (says m (Refused refusal.NotLearned))
      (new (length m.learned) (Marks (record { slot = slot; heard = [] })) (refl, same)) tt

  begun : (old : Host) (task : Task) → e ≡ Begin h task → Does Q (begins_on c old task)
  begun Stopped task same = tt
  begun (Running m) (Submit command tries) same = operates m (Submitting command) tries
  begun (Running m) (Recover tries) same = operates m Recovering tries
  begun (Running m) Look same = looks m 0
  begun (Running m) Beat same = new (length m.learned) (Beats []) refl
  begun (Running m) (Mark slot) same = marks m slot same

  -- IT HEARS AN ANSWER

  again : (m : Memory) (operation : Operation) (tries : ℕ) → Does Q (Running (tries_again m operation tries))
  again m operation tries =
      one_of (nat_le tries 1) (says m (Refused refusal.Outrun)) (begins m operation (tries - 1)) tt
      (new (length m.learned) (Attempts (record { operation = operation; tries = tries - 1; heard = [] })) refl)

  learned : (m : Memory) (t : Attempt) (command : Command) (own : Bool) → Does Q (Running (after_learning c m t command own))
  learned m t command true = tt
  learned m t command false = operates (learns m command) t.operation t.tries

  took : (m : Memory) (t : Attempt) (ballot : ℕ) (value : List ℕ) (o : Option Command) → Does Q (Running (takes c m t ballot value o))
  took m t ballot value None = tt
  took m t ballot value (Some command) = learned m t command (is_submitted t.operation value)

  over : (m : Memory) (t : Attempt) (ballot : ℕ) (end : End) → Does Q (Running (ended c m t ballot end))
  over m t ballot (Committed value) = took m t ballot value (decoded value)
  over m t ballot (Decided value) = took m t ballot value (decoded value)
  over m t ballot Empty = tt
  over m t ballot (Outrun mbal) = again (with_floor (with_floor m ballot) mbal) t.operation t.tries
  over m t ballot NoMajority = tt
  over m t ballot BallotsSpent = tt

  attempt_so : (m : Memory) (t : Attempt) (ballot : ℕ) (st : Status) → Q (length m.learned) (Attempts t) → Does Q (Running (by_status c m t ballot st))
  attempt_so m t ballot (Due phase disk) is = is
  attempt_so m t ballot (Ended end) is = over m t ballot end

  took_marked : (m : Memory) (d : ℕ) (o : Option Command) → Does Q (Running (takes_marked c m d o))
  took_marked m d None = tt
  took_marked m d (Some command) = looks (learns m command) d

  look_so : (m : Memory) (t : Looking) (st : look.Status) → Q (length m.learned) (Looks t) → Does Q (Running (look_by c m t st))
  look_so m t (look.Due d) is = is
  look_so m t (look.Ended (look.Decided d value)) is = took_marked m d (decoded value)
  look_so m t (look.Ended look.Unmarked) is = tt
  look_so m t (look.Ended look.NoMajority) is = tt

  beat_so : (m : Memory) (heard : List beat_answers.Answered) (st : beat.Status) → Q (length m.learned) (Beats heard) → Does Q (Running (beat_by h m heard st))
  beat_so m heard (beat.Due disk) is = is
  beat_so m heard (beat.Ended (beat.Beaten readings)) is = tt
  beat_so m heard (beat.Ended beat.NoMajority) is = tt

  marking_so : (m : Memory) (t : Marking) (st : mark.Status) → Q (length m.learned) (Marks t) → Does Q (Running (marking_by m t st))
  marking_so m t (mark.Due disk) is = is
  marking_so m t (mark.Ended (mark.Marked count)) is = tt
  marking_so m t (mark.Ended mark.NoMajority) is = tt

  heard_so : (m : Memory) (doing : Doing) (k : ℕ) (answer : Answer) → Q (length m.learned) (with_answer doing k answer) → Does Q (Running (hears_from c h m (Some doing) k answer))
  heard_so m (Attempts t) k answer is =
      let s = setup_of c h m t.operation in
      let longer = with_heard t (record { disk = k; heard = heard_as answer }) in
      attempt_so m longer (taken s (on longer.heard)) (status s (on longer.heard)) is
  heard_so m (Looks t) k answer is =
      let longer = looking_with t (record { disk = k; heard = heard_as answer }) in
      look_so m longer (look.status (look_of c m t.first) (on longer.heard)) is
  heard_so m (Beats heard) k answer is =
      let longer = heard ++ record { disk = k; heard = beat_answers.heard_as answer } ∷ [] in
      beat_so m longer (beat.status (beat_of c h) (beat_answers.on longer)) is
  heard_so m (Marks t) k answer is =
      let longer = marking_with t (record { disk = k; heard = heard_as answer }) in
      marking_so m longer (mark.status (marking_of c h m t.slot) (on longer.heard)) is

  -- WITH EACH ENTRY

  module _ (stays : (m : Memory) (doing : Doing) → w.host h ≡ Running m → m.doing ≡ Some doing → P (length m.learned) doing → Q (length m.learned) doing)
      (more : (m : Memory) (doing : Doing) (k : ℕ) (call : Call) (answer : Answer) (left : List ℕ) → e ≡ Called h k call answer left → w.host h ≡ Running m → m.doing ≡ Some doing → Q (length m.learned) doing → Q (length m.learned) (with_answer doing k answer)) where
    called : (old : Host) → w.host h ≡ old → (k : ℕ) (call : Call) (answer : Answer) (left : List ℕ) → e ≡ Called h k call answer left → Does Q old → Does Q (host_step c h old (Called h k call answer left))
    called Stopped running k call answer left same is = tt
    called (Running m) running k call answer left same is = go m.doing refl is
      where
        go : (o : Option Doing) → m.doing ≡ o → DoesIn Q m o → Does Q (Running (hears_from c h m o k answer))
        go None none so = subst (DoesIn Q m) (sym none) tt
        go (Some doing) does so = heard_so m doing k answer (more m doing k call answer left same running does so)

    start_so : (old : Host) → Does Q old → Does Q (started old)
    start_so Stopped is = tt
    start_so (Running m) is = is

    step_so : (entry : Filled) → e ≡ entry → is_of h entry ≡ true → Does Q (w.host h) → Does Q (host_step c h (w.host h) entry)
    step_so (Start g) same of is = start_so (w.host h) is
    step_so (Stop g) same of is = tt
    step_so (Begin g task) same of is = begun (w.host h) task (same ∙ ap (λ (j : ℕ). Begin j task) (eqb-true g h of))
    step_so (Called g k call answer left) same of is = called (w.host h) refl k call answer left (same ∙ ap (λ (j : ℕ). Called j k call answer left) (eqb-true g h of)) is
    step_so (Torn g k call left) same of is = tt
    step_so other same of is = absurd (cc)

    -- so it is of what is under way behind the entry
    pub goes_next : Does P (w.host h) → Does Q ((next_world c w e).host h)
    goes_next before =
        let is : Does Q (w.host h) = does_all Q (w.host h) (λ m doing running does. stays m doing running does (does_at P (w.host h) m doing before running does)) in
        host_by c w e h (Does Q) (λ of. step_so e refl of is) is
