-- How long a task lasts, and how it ends: each answer brings it nearer to its end.
use Rattle.std.proofs.Common.{◌≡◌, ◌<◌, ◌≤◌, ◌+◌, ◌-◌, ◌*◌, ℕ, zero, suc, Bool, true, false, List, [], ◌∷◌, ◌++◌, length, nat_lt, nat_le, Option, Some, None, refl, sym, ◌∙◌, ap, subst, arith, slice_get, slice_set, take, drop, true≢false}
use Rattle.std.specs.Prelude.{is_none, is_some}
use Rattle.std.proofs.Math.Seq.{take-append_seam}
use Rattle.std.proofs.lemmas.Bool.{ltb-true, leb-false}
use Rattle.std.proofs.lemmas.List.{length-append}
use Rattle.attempt.specs.Answers.{Answered, on, heard_as}
use Rattle.attempt.specs.Status as attempt
use Rattle.attempt.specs.Status.{Status, Due, Ended}
use Rattle.rounds.specs.Beat.Answers as beat_answers
use Rattle.rounds.specs.Beat.Status as beat
use Rattle.rounds.specs.Look.Status as look
use Rattle.rounds.specs.Marking.Status as mark
use Rattle.lock_command.specs.declared.command.Command.{Command}
use Rattle.lock_command.specs.Reading.{decoded}
use Rattle.paxos_block.specs.Shape.{Shape}
use Rattle.attempt.specs.declared.refusal.Refusal.TheVariants as refusal
use Rattle.disk.specs.Disk as device
use Rattle.torn_block.specs.Layout.{cluster_version}
use Rattle.attempt.specs.DeviceCalls.{IsWithin}
use Rattle.attempt.specs.declared.need.DeviceCall as code_call
use Rattle.attempt.specs.declared.need.DeviceCall.TheVariants as call
use Rattle.host.specs.Alone.{IsAnsweredAlone, HasHeardFew}
use Rattle.host.specs.Host as hosts
use Rattle.host.specs.Host.{Operation, Submitting, Recovering, Attempt, Marking, Looking, Doing, Attempts, Looks, Beats, Marks, Memory, does, says, full_answer, starts, hears_from, goes_on, begins, by_status, takes, after_learning, is_submitted, learns, with_heard, with_floor, tries_again, look_by, look_of, looking_with, looks_on, takes_marked, beat_by, beat_of, marking_by, marking_with, marking_of, starts_marking}
use Rattle.host.specs.Kept.{Kept, LeadsTo, is_idle}
use Rattle.host.specs.declared.answer.HostAnswer.{HostAnswer}
use Rattle.host.specs.declared.answer.HostAnswer.TheVariants.{Looked, Refused}
use Rattle.host.specs.declared.task.Task.{Task}
use Rattle.host.specs.declared.task.Task.TheVariants as tasks
use Rattle.host.proofs.Hosts.{idle_is}
use Rattle.dlm_images.specs.Operations.{IsKnown, HasHeard, Made, GaveOne, Gave, after_call, after_made, IsDue, AreDue, AreReads, tries_in, Standing, HasCarriedOut, HasOperated, HasMarked, HasLooked, Ends}
use Rattle.dlm_images.specs.Tasks.{MayBeAsked, EndsTask}
use Rattle.dlm_images.proofs.Ending.{ReadsBack, by_test, operation_ends, marking_ends, look_ends, look_reads}

-- How many calls what is under way may still make. An operation: 119 for each attempt that may follow, since it learns a slot or uses a
-- try, and those that are left of its attempt, the last of them counted once more. A look: fourteen of each slot. A beat and a marking: 63.
abbrev pub left_with : Shape → ℕ → Option Doing → ℕ
left_with c learned None = 0
left_with c learned (Some (Attempts t)) = (c.slots - learned + (t.tries - 1)) * 119 + (119 - length t.heard) + 1
left_with c learned (Some (Looks t)) = (c.slots - learned) * 14 + (15 - length t.heard) + 1
left_with c learned (Some (Beats heard)) = 1 + (63 - length heard)
left_with c learned (Some (Marks t)) = 1 + (63 - length t.heard)

abbrev pub left_in : Shape → Memory → ℕ
left_in c m = left_with c (length m.learned) m.doing

-- a host that has come to this has less left
abbrev Fewer : Shape → ℕ → Memory → Type 0
Fewer c n m = left_in c m < n

goes_on_fewer : (c : Shape) (m : Memory) (o : Operation) (tries n learned : ℕ) → length m.learned ≡ learned + 1 → (c.slots - learned + (tries - 1)) * 119 + 1 < n → 0 < n → Fewer c n (goes_on c m o tries)
goes_on_fewer c m o tries n learned one room some =
    by_test (Fewer c n) (nat_lt (length m.learned) c.slots) (begins m o tries) _
    (λ is. let lt : length m.learned < c.slots = ltb-true (length m.learned) c.slots is in omega (arith, one, lt, room))
    (λ is. some)

after_learning_fewer : (c : Shape) (m : Memory) (t : Attempt) (command : Command) (b : Bool) (n : ℕ) → (c.slots - length m.learned + (t.tries - 1)) * 119 + 1 < n → 0 < n → Fewer c n (after_learning c m t command b)
after_learning_fewer c m t command true n room some = some
after_learning_fewer c m t command false n room some =
    goes_on_fewer c (learns m command) t.operation t.tries n (length m.learned) (length-append m.learned (command ∷ [])) room some

takes_fewer : (c : Shape) (m : Memory) (t : Attempt) (ballot : ℕ) (value : List ℕ) (o : Option Command) (n : ℕ) → (c.slots - length m.learned + (t.tries - 1)) * 119 + 1 < n → 0 < n → Fewer c n (takes c m t ballot value o)
takes_fewer c m t ballot value None n room some = some
takes_fewer c m t ballot value (Some command) n room some = after_learning_fewer c m t command (is_submitted t.operation value) n room some

no_fewer_tries : (tries : ℕ) (b : Bool) → nat_le tries 1 ≡ b → b ≡ false → 1 < tries
no_fewer_tries tries b is not_few = leb-false tries 1 (is ∙ not_few)

tries_fewer : (c : Shape) (m : Memory) (o : Operation) (tries n : ℕ) → (c.slots - length m.learned + (tries - 1)) * 119 + 1 < n → 0 < n → Fewer c n (tries_again m o tries)
tries_fewer c m o tries n room some = on_test (nat_le tries 1) refl
  where
    on_test : (b : Bool) → nat_le tries 1 ≡ b → Fewer c n (tries_again m o tries)
    on_test true is = rw is some
    on_test false is = let more : 1 < tries = no_fewer_tries tries false is refl in rw is (omega (arith, more, room))

status_fewer : (c : Shape) (m : Memory) (t : Attempt) (ballot : ℕ) (s : Status) (n : ℕ) → left_with c (length m.learned) (Some (Attempts t)) < n → (c.slots - length m.learned + (t.tries - 1)) * 119 + 1 < n → 0 < n → Fewer c n (by_status c m t ballot s)
status_fewer c m t ballot (Due p d) n due room some = due
status_fewer c m t ballot (Ended (attempt.Committed value)) n due room some = takes_fewer c m t ballot value (decoded value) n room some
status_fewer c m t ballot (Ended (attempt.Decided value)) n due room some = takes_fewer c m t ballot value (decoded value) n room some
status_fewer c m t ballot (Ended attempt.Empty) n due room some = some
status_fewer c m t ballot (Ended (attempt.Outrun mbal)) n due room some = tries_fewer c (with_floor (with_floor m ballot) mbal) t.operation t.tries n room some
status_fewer c m t ballot (Ended attempt.NoMajority) n due room some = some
status_fewer c m t ballot (Ended attempt.BallotsSpent) n due room some = some

on_fewer : (c : Shape) (m : Memory) (first learned n : ℕ) → length m.learned ≡ learned + 1 → (c.slots - learned) * 14 + 2 < n → 0 < n → Fewer c n (looks_on c m first)
on_fewer c m first learned n one room some =
    by_test (Fewer c n) (nat_lt (length m.learned) c.slots) (does m (Looks (record { first = first; heard = [] }))) (says m (Looked (length m.learned)))
    (λ is. let lt : length m.learned < c.slots = ltb-true (length m.learned) c.slots is in omega (arith, one, lt, room))
    (λ is. some)

marked_fewer : (c : Shape) (m : Memory) (disk n : ℕ) (o : Option Command) → (c.slots - length m.learned) * 14 + 2 < n → 0 < n → Fewer c n (takes_marked c m disk o)
marked_fewer c m disk n None room some = some
marked_fewer c m disk n (Some command) room some = on_fewer c (learns m command) disk (length m.learned) n (length-append m.learned (command ∷ [])) room some

look_fewer : (c : Shape) (m : Memory) (t : Looking) (n : ℕ) (st : look.Status) → left_with c (length m.learned) (Some (Looks t)) < n → (c.slots - length m.learned) * 14 + 2 < n → 0 < n → Fewer c n (look_by c m t st)
look_fewer c m t n (look.Due disk) due room some = due
look_fewer c m t n (look.Ended (look.Decided disk value)) due room some = marked_fewer c m disk n (decoded value) room some
look_fewer c m t n (look.Ended look.Unmarked) due room some = some
look_fewer c m t n (look.Ended look.NoMajority) due room some = some

beat_fewer : (c : Shape) (h : ℕ) (m : Memory) (heard : List beat_answers.Answered) (n : ℕ) (st : beat.Status) → 1 + (63 - length heard) < n → Fewer c n (beat_by h m heard st)
beat_fewer c h m heard n (beat.Due disk) due = due
beat_fewer c h m heard n (beat.Ended (beat.Beaten readings)) due = omega (arith, due)
beat_fewer c h m heard n (beat.Ended beat.NoMajority) due = omega (arith, due)

marking_fewer : (c : Shape) (m : Memory) (t : Marking) (n : ℕ) (st : mark.Status) → 1 + (63 - length t.heard) < n → Fewer c n (marking_by m t st)
marking_fewer c m t n (mark.Due disk) due = due
marking_fewer c m t n (mark.Ended (mark.Marked count)) due = omega (arith, due)
marking_fewer c m t n (mark.Ended mark.NoMajority) due = omega (arith, due)

-- an answer, as an attempt, a look or a marking takes it
abbrev pub answered : Made → Answered
answered x = record { disk = x.disk; heard = heard_as x.answer }

-- an answer leaves less to do
falls : (c : Shape) (h : ℕ) (m : Memory) (o : Option Doing) (x : Made) → c.disks ≤ 7 → is_none o ≡ false → IsAnsweredAlone c h m o (answered x) → HasHeardFew c o → left_in c (hears_from c h m o x.disk x.answer) < left_with c (length m.learned) o
falls c h m None x seven busy alone few = absurd (true≢false busy)
falls c h m (Some (Attempts t)) x seven busy alone few =
    let y = answered x in
    let all : length (t.heard ++ y ∷ []) ≤ 17 * c.disks = alone.bound in
    let one : length (t.heard ++ y ∷ []) ≡ length t.heard + 1 = length-append t.heard (y ∷ []) in
    status_fewer c m (with_heard t y) _ _ (left_with c (length m.learned) (Some (Attempts t))) (omega (arith, one, all, seven)) (omega (arith, one, all, seven)) (omega arith)
falls c h m (Some (Looks t)) x seven busy alone few =
    let y = answered x in
    let u = looking_with t y in
    let one : length u.heard ≡ length t.heard + 1 = length-append t.heard (y ∷ []) in
    let long : length t.heard < 2 * c.disks = few in
    look_fewer c m u (left_with c (length m.learned) (Some (Looks t))) (look.status (look_of c m t.first) (on u.heard)) (omega (arith, one, long, seven)) (omega (arith, long, seven)) (omega arith)
falls c h m (Some (Beats heard)) x seven busy alone few =
    let y : beat_answers.Answered = record { disk = x.disk; heard = beat_answers.heard_as x.answer } in
    let one : length (heard ++ y ∷ []) ≡ length heard + 1 = length-append heard (y ∷ []) in
    let long : length heard < 9 * c.disks = few in
    beat_fewer c h m (heard ++ y ∷ []) (left_with c (length m.learned) (Some (Beats heard))) (beat.status (beat_of c h) (beat_answers.on (heard ++ y ∷ []))) (omega (arith, one, long, seven))
falls c h m (Some (Marks t)) x seven busy alone few =
    let y = answered x in
    let u = marking_with t y in
    let one : length u.heard ≡ length t.heard + 1 = length-append t.heard (y ∷ []) in
    let long : length t.heard < 9 * c.disks = few in
    marking_fewer c m u (left_with c (length m.learned) (Some (Marks t))) (mark.status (marking_of c h m t.slot) (on u.heard)) (omega (arith, one, long, seven))

-- HEARING

-- The host has heard something since, and so many answers more are the most that it may hear.
pub record IsDriven {D : Type 0} (gives : D → device.Call → device.Answer → D → Type 0) (c : Shape) (old new : Standing D) (more : ℕ) : Type 0 where
  pub has_heard : HasHeard gives old new
  pub host : ℕ
  pub memory : Memory
  pub leads : LeadsTo c host memory new.core
  pub left : left_in c memory ≤ more

after_one_more : (c : Shape) (h : ℕ) (m : Memory) (xs : List Made) (x : Made) → after_made c h m (xs ++ x ∷ []) ≡ after_call c h (after_made c h m xs) x
after_one_more c h m [] x = refl
after_one_more c h m (y ∷ ys) x = after_one_more c h (after_call c h m y) ys x

due_one_more : (c : Shape) (h : ℕ) (m : Memory) (xs : List Made) (x : Made) → AreDue c h m xs → IsDue c h (after_made c h m xs) x → AreDue c h m (xs ++ x ∷ [])
due_one_more c h m [] x due last = (last, tt)
due_one_more c h m (y ∷ ys) x due last = (due.0, due_one_more c h (after_call c h m y) ys x due.1 last)

-- nothing was heard yet
pub heard_nothing : {D : Type 0} (gives : D → device.Call → device.Answer → D → Type 0) (s : Standing D) → HasHeard gives s s
heard_nothing gives s = record { made = []; gave = refl; due = λ c h m leads. tt; leads = λ c h m leads. leads }

-- a disk gave one answer more
gave_more : {D : Type 0} (gives : D → device.Call → device.Answer → D → Type 0) (old now new : List D) (xs : List Made) (x : Made) → Gave gives old xs now → GaveOne gives now x new → Gave gives old (xs ++ x ∷ []) new
gave_more gives old now new [] x gave last = (new, subst (λ ds. GaveOne gives ds x new) gave last, refl)
gave_more gives old now new (y ∷ ys) x gave last = (gave.0, gave.1, gave_more gives gave.0 now new ys x gave.2 last)

-- What is known of one call of a busy host: its disk gave the answer, the call was due, and the host heard it, and had not heard too much.
pub record IsOneCall {D : Type 0} (gives : D → device.Call → device.Answer → D → Type 0) (now new : Standing D) (x : Made) : Type 0 where
  pub gave : GaveOne gives now.disks x new.disks
  pub due : (c : Shape) (h : ℕ) (m : Memory) → LeadsTo c h m now.core → IsDue c h m x
  pub leads : (c : Shape) (h : ℕ) (m : Memory) → LeadsTo c h m now.core → LeadsTo c h (after_call c h m x) new.core
  pub busy : (c : Shape) (h : ℕ) (m : Memory) → LeadsTo c h m now.core → hosts.is_idle m ≡ false
  pub alone : (c : Shape) (h : ℕ) (m : Memory) → LeadsTo c h m now.core → IsAnsweredAlone c h m m.doing (answered x)
  pub few : (c : Shape) (h : ℕ) (m : Memory) → LeadsTo c h m now.core → HasHeardFew c m.doing

-- one answer more
pub heard_more : {D : Type 0} (gives : D → device.Call → device.Answer → D → Type 0) (old now new : Standing D) (x : Made) → HasHeard gives old now → IsOneCall gives now new x → HasHeard gives old new
heard_more gives old now new x before one = record {
  made = before.made ++ x ∷ [];
  gave = gave_more gives old.disks now.disks new.disks before.made x before.gave one.gave;
  due = λ c h m is. due_one_more c h m before.made x (before.due c h m is) (one.due c h (after_made c h m before.made) (before.leads c h m is));
  leads = λ c h m is. subst (λ (n : Memory). LeadsTo c h n new.core) (sym (after_one_more c h m before.made x)) (one.leads c h (after_made c h m before.made) (before.leads c h m is));
}

-- what is left to do at first
left_at_first : (c : Shape) (n : ℕ) (o : Option Doing) → c.slots ≤ 4096 → tries_in o ≤ 255 → left_with c n o ≤ 578816
left_at_first c n None slots tries = omega arith
left_at_first c n (Some (Attempts t)) slots tries = omega arith
left_at_first c n (Some (Looks t)) slots tries = omega arith
left_at_first c n (Some (Beats heard)) slots tries = omega arith
left_at_first c n (Some (Marks t)) slots tries = omega arith

pub driven_at_first : {D : Type 0} (gives : D → device.Call → device.Answer → D → Type 0) (disks : List D) (k : Kept) → IsKnown k → k.learner.shape.slots ≤ 4096 → IsDriven gives k.learner.shape (record { core = k; disks = disks }) (record { core = k; disks = disks }) 578816
driven_at_first gives disks k known slots = record {
  has_heard = heard_nothing gives (record { core = k; disks = disks });
  host = known.host;
  memory = known.memory;
  leads = subst (λ (c : Shape). LeadsTo c known.host known.memory k) (sym known.leads.learner.shape) known.leads;
  left = left_at_first k.learner.shape (length known.memory.learned) known.memory.doing slots known.tries;
}

pub driven_more : {D : Type 0} (gives : D → device.Call → device.Answer → D → Type 0) (c : Shape) (old now new : Standing D) (x : Made) (made : ℕ) → c.disks ≤ 7 → IsOneCall gives now new x → IsDriven gives c old now (578816 - made) → IsDriven gives c old new (578816 - (made + 1))
driven_more gives c old now new x made seven one driven =
    let h = driven.host in
    let m = driven.memory in
    let fewer = falls c h m m.doing x seven (one.busy c h m driven.leads) (one.alone c h m driven.leads) (one.few c h m driven.leads) in record {
      has_heard = heard_more gives old now new x driven.has_heard one;
      host = h;
      memory = after_call c h m x;
      leads = one.leads c h m driven.leads;
      left = (let left = driven.left in omega (arith, fewer, left));
    }

-- with none left nothing is under way
none_left_idle : (c : Shape) (n : ℕ) (o : Option Doing) → left_with c n o ≤ 0 → is_none o ≡ true
none_left_idle c n None left = refl
none_left_idle c n (Some (Attempts t)) left = absurd (omega (arith, left))
none_left_idle c n (Some (Looks t)) left = absurd (omega (arith, left))
none_left_idle c n (Some (Beats heard)) left = absurd (omega (arith, left))
none_left_idle c n (Some (Marks t)) left = absurd (omega (arith, left))

pub driven_out : {D : Type 0} (gives : D → device.Call → device.Answer → D → Type 0) (c : Shape) (old new : Standing D) (more : ℕ) → more ≡ 0 → IsDriven gives c old new more → is_idle new.core ≡ true
driven_out gives c old new more none driven =
    idle_is c driven.host driven.memory new.core driven.leads
    ∙ none_left_idle c (length driven.memory.learned) driven.memory.doing (let left = driven.left in omega (arith, none, left))

-- CALLS

-- a longer device has the range too
pub within_more : (n k : ℕ) (d : code_call.DeviceCall) → n ≤ k → IsWithin cluster_version n d → IsWithin cluster_version k d
within_more n k call.Attach more within = tt
within_more n k (call.Sync boot) more within = tt
within_more n k (call.Read boot at) more within = omega (arith, more, within)
within_more n k (call.Write boot at bytes) more within = omega (arith, more, within)

-- what holds of all elements and of one that is put, holds of all then
pub set_keeps : {X : Type 0} (P : X → Type 0) (xs : List X) (i : ℕ) (v : X) → P v → ((k : ℕ) (d : X) → slice_get xs k ≡ Some d → P d) → (k : ℕ) (d : X) → slice_get (slice_set xs i v) k ≡ Some d → P d
set_keeps P [] i v pv all k d is = all k d is
set_keeps P (x ∷ xs) zero v pv all zero d is = let e : v ≡ d = cc in subst P e pv
set_keeps P (x ∷ xs) zero v pv all (suc k) d is = all (suc k) d is
set_keeps P (x ∷ xs) (suc i) v pv all zero d is = all zero d is
set_keeps P (x ∷ xs) (suc i) v pv all (suc k) d is = set_keeps P xs i v pv (λ n e. all (suc n) e) k d is

-- WHAT A HOST KEEPS BETWEEN ITS TASKS

none_doing : (o : Option Doing) → is_none o ≡ true → o ≡ None
none_doing None idle = refl
none_doing (Some t) idle = absurd (true≢false (sym idle))

-- what is known of an idle host has nothing under way
pub idle_memory : (c : Shape) (h : ℕ) (m : Memory) (k : Kept) → LeadsTo c h m k → is_idle k ≡ true → m.doing ≡ None
idle_memory c h m k leads idle = none_doing m.doing (sym (idle_is c h m k leads) ∙ idle)

-- so something is known of an idle host, if anything leads to what it keeps
known_idle : (c : Shape) (h : ℕ) (m : Memory) (k : Kept) → LeadsTo c h m k → is_idle k ≡ true → IsKnown k
known_idle c h m k leads idle = record { shape = c; host = h; memory = m; leads = leads; tries = subst (λ (o : Option Doing). tries_in o ≤ 255) (sym (idle_memory c h m k leads idle)) (omega arith) }

-- a list is written back over one as long
pub written_back : {X : Type 0} (new old : List X) (n : ℕ) → length new ≡ n → take n (new ++ drop (length new) old) ≡ new
written_back new old n is = ap (λ (k : ℕ). take k (new ++ drop (length new) old)) (sym is) ∙ take-append_seam new (drop (length new) old)

-- A TASK BEGINS

-- with no more tries than fit a byte
abbrev HasFewTries : Memory → Type 0
HasFewTries m = tries_in m.doing ≤ 255

few_tries : (c : Shape) (m : Memory) (task : Task) → MayBeAsked task → HasFewTries (starts c m task)
few_tries c m (tasks.Submit command tries) asked =
    by_test HasFewTries (nat_lt (length m.learned) c.slots) (begins m (Submitting command) tries) (says m (full_answer (Submitting command) (length m.learned))) (λ is. asked.1) (λ is. omega arith)
few_tries c m (tasks.Recover tries) asked =
    by_test HasFewTries (nat_lt (length m.learned) c.slots) (begins m Recovering tries) (says m (full_answer Recovering (length m.learned))) (λ is. asked) (λ is. omega arith)
few_tries c m tasks.Look asked =
    by_test HasFewTries (nat_lt (length m.learned) c.slots) (does m (Looks (record { first = 0; heard = [] }))) (says m (Looked (length m.learned))) (λ is. omega arith) (λ is. omega arith)
few_tries c m tasks.Beat asked = absurd asked
few_tries c m (tasks.Mark slot) asked =
    by_test HasFewTries (nat_lt slot (length m.learned)) (does m (Marks (record { slot = slot; heard = [] }))) (says m (Refused refusal.NotLearned)) (λ is. omega arith) (λ is. omega arith)

-- something is known of the host where it begins
pub known_begun : (task : Task) (old begun : Kept) → MayBeAsked task → IsKnown old → ((c : Shape) (h : ℕ) (m : Memory) → LeadsTo c h m old → LeadsTo c h (starts c m task) begun) → IsKnown begun
known_begun task old begun asked known begins_so = record {
  shape = known.shape;
  host = known.host;
  memory = starts known.shape known.memory task;
  leads = begins_so known.shape known.host known.memory known.leads;
  tries = few_tries known.shape known.memory task asked;
}

-- of a cluster of the same shape
pub begun_shape : (begins_with : Shape → Memory → Memory) (old begun : Kept) → IsKnown old → ((c : Shape) (h : ℕ) (m : Memory) → LeadsTo c h m old → LeadsTo c h (begins_with c m) begun) → begun.learner.shape ≡ old.learner.shape
begun_shape begins_with old begun known begins_so =
    (begins_so known.shape known.host known.memory known.leads).learner.shape ∙ sym known.leads.learner.shape

-- What was heard between the beginning and the end is its own, on the disks that were given and are kept.
pub carried_out : {D : Type 0} (gives : D → device.Call → device.Answer → D → Type 0) (begins_with : Shape → Memory → Memory) (old begun ended : Kept) (disks given left kept : List D) → ((c : Shape) (h : ℕ) (m : Memory) → LeadsTo c h m old → LeadsTo c h (begins_with c m) begun)
    → given ≡ disks → left ≡ kept → HasHeard gives (record { core = begun; disks = given }) (record { core = ended; disks = left }) → is_idle ended ≡ true → HasCarriedOut gives begins_with (record { core = old; disks = disks }) (record { core = ended; disks = kept })
carried_out gives begins_with old begun ended disks given left kept begins_so given_is left_is heard idle = record {
  made = heard.made;
  gave = subst (λ ds. Gave gives ds heard.made kept) given_is (subst (λ ds. Gave gives given heard.made ds) left_is heard.gave);
  due = λ c h m leads. heard.due c h (begins_with c m) (begins_so c h m leads);
  leads = λ c h m leads. heard.leads c h (begins_with c m) (begins_so c h m leads);
  ended = idle;
}

-- A TASK HAS ENDED

module _ {D : Type 0} (gives : D → device.Call → device.Answer → D → Type 0) (begins_with : Shape → Memory → Memory) (old new : Standing D) (known : IsKnown old.core) (done : HasCarriedOut gives begins_with old new) where
  abbrev at_first : Memory
  at_first = begins_with known.shape known.memory

  abbrev at_end : Memory
  at_end = after_made known.shape known.host at_first done.made

  pub leads_then : LeadsTo known.shape known.host at_end new.core
  leads_then = done.leads known.shape known.host known.memory known.leads

  -- something is known of the host
  pub known_then : IsKnown new.core
  known_then = known_idle known.shape known.host at_end new.core leads_then done.ended

  -- it is the same host, of a cluster of the same shape
  pub same_host : new.core.learner.host ≡ old.core.learner.host
  same_host = leads_then.learner.is_host ∙ sym known.leads.learner.is_host

  pub same_shape : new.core.learner.shape ≡ old.core.learner.shape
  same_shape = leads_then.learner.shape ∙ sym known.leads.learner.shape

  -- and it says what it says after its answers
  said_then : (P : List Command → Option HostAnswer → Type 0) → (at_end.doing ≡ None → P at_end.learned at_end.said) → P new.core.prefix new.core.said
  said_then P ends =
      subst (λ (said : Option HostAnswer). P new.core.prefix said) (sym leads_then.said)
      (subst (λ (learned : List Command). P learned at_end.said) (sym leads_then.prefix)
      (ends (idle_memory known.shape known.host at_end new.core leads_then done.ended)))

module _ {D : Type 0} (gives : D → device.Call → device.Answer → D → Type 0) (old new : Standing D) (known : IsKnown old.core) where
  -- the host has said how an operation ended
  pub operated_ends : (o : Operation) (tries : ℕ) → ReadsBack o → HasOperated gives o tries old new → Ends o new.core.prefix new.core.said
  operated_ends o tries back done =
      said_then gives (λ c m. goes_on c m o tries) old new known done (Ends o)
      (operation_ends known.shape known.host known.memory o tries done.made back)

  -- or a marking, and what it has learned stayed
  pub marked_ends : (slot : ℕ) → HasMarked gives slot old new → (new.core.prefix ≡ old.core.prefix) × EndsTask (tasks.Mark slot) new.core.prefix new.core.said
  marked_ends slot done =
      said_then gives (λ c m. starts_marking m slot) old new known done (λ learned said. (learned ≡ old.core.prefix) × EndsTask (tasks.Mark slot) learned said)
      (marking_ends known.shape known.host slot old.core.prefix known.memory done.made (sym known.leads.prefix))

  -- or a look
  pub looked_ends : HasLooked gives old new → EndsTask tasks.Look new.core.prefix new.core.said
  looked_ends done =
      said_then gives (λ c m. looks_on c m 0) old new known done (EndsTask tasks.Look) (look_ends known.shape known.host known.memory done.made)

  -- which has written nothing
  pub looked_reads : (done : HasLooked gives old new) → AreReads done.made
  looked_reads done = look_reads known.shape known.host known.memory done.made (done.due known.shape known.host known.memory known.leads)

  pub task_ends : (task : Task) → MayBeAsked task → HasCarriedOut gives (λ c m. starts c m task) old new → EndsTask task new.core.prefix new.core.said
  task_ends (tasks.Submit command tries) asked done = operated_ends (Submitting command) tries asked.0 done
  task_ends (tasks.Recover tries) asked done = operated_ends Recovering tries tt done
  task_ends tasks.Look asked done = looked_ends done
  task_ends tasks.Beat asked done = absurd asked
  task_ends (tasks.Mark slot) asked done = (marked_ends slot done).1

-- so it has said something
pub said_some : (task : Task) (learned : List Command) (said : Option HostAnswer) → EndsTask task learned said → is_some said ≡ true
said_some task learned (Some answer) ends = refl
said_some (tasks.Submit command tries) learned None ends = absurd ends
said_some (tasks.Recover tries) learned None ends = absurd ends
said_some other learned None ends = absurd ends
