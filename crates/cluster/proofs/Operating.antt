-- A task stays what it is, until its host answers it.
use Rattle.std.specs.Prelude.{nat_lt, nat_le, is_none}
use Rattle.std.proofs.Common.{◌≡◌, ◌-◌, ℕ, Bool, true, false, List, [], ◌∷◌, ◌++◌, length, Option, Some, None, refl, sym, ap, subst, ◌∙◌, append_assoc}
use Rattle.std.proofs.lemmas.List.{append-nil}
use Rattle.disk.specs.Disk.{Answer}
use Rattle.attempt.specs.Answers.{Answered, on, heard_as}
use Rattle.rounds.specs.Beat.Answers as beat_answers
use Rattle.rounds.specs.Beat.Status as beat
use Rattle.rounds.specs.Marking.Status as mark
use Rattle.rounds.specs.Look.Status as look
use Rattle.attempt.specs.Status.{Status, Due, Ended, Committed, Decided, Empty, Outrun, NoMajority, BallotsSpent, status, taken}
use Rattle.lock_command.specs.declared.command.Command.{Command}
use Rattle.lock_command.specs.Reading.{decoded}
use Rattle.lock_command.specs.declared.reply.Reply.{Reply}
use Rattle.paxos_block.specs.Shape.{Shape}
use Rattle.attempt.specs.declared.refusal.Refusal.TheVariants as refusal
use Rattle.host.specs.declared.answer.HostAnswer.{HostAnswer}
use Rattle.host.specs.declared.answer.HostAnswer.TheVariants.{Ack, Refused}
use Rattle.host.specs.declared.answer.HostAnswer.TheVariants as said
use Rattle.host.specs.declared.task.Task.{Task}
use Rattle.host.specs.declared.task.Task.TheVariants.{Submit, Recover, Look, Beat, Mark}
use Rattle.host.specs.Host.{Operation, Submitting, Recovering, Attempt, Looking, Marking, Doing, Attempts, Looks, Beats, Marks, Memory, Host, Stopped, Running, setup_of, says, does, begins, full_answer, goes_on, is_submitted, after_learning, learns, takes, tries_again, with_floor, by_status, with_heard, hears_from, beat_by, beat_of, marking_by, marking_with, marking_of, look_by, look_of, looking_with, looks_on, takes_marked, starts, idles, said_of, learned_of, next_of, next_doing, reply_after}
use Rattle.world.specs.Entry.{Filled, Begin, Called, host_step}
use Rattle.world.proofs.Enduring.{on_either}
use Rattle.world_safety.proofs.Claims.Begun.{empty_recovers}
use Rattle.cluster_tie.specs.Parts.{Placed, Own, own_of, adds}
use Rattle.cluster.specs.declared.fault.HostFault.{HostFault}
use Rattle.cluster.specs.declared.fault.HostFault.TheVariants as fault
use Rattle.cluster.specs.declared.receipt.Receipt.{Receipt}
use Rattle.cluster.specs.Cluster.{IsStep, Ends, AreSteps, GoesOn}
use Rattle.cluster.specs.declared.operate.Resumed.{Resumed}
use Rattle.cluster.specs.declared.operate.Resumed.TheVariants as resumed
use Rattle.cluster.specs.declared.operate.Resumed.TheVariants.{Submitted}
use Rattle.cluster.specs.Operations.{HasAnswered, said_by, Stops, task_for, task_in, IsAnswer, IsCarried, HasReceipt, Carries, IsRefusedBy}
use Rattle.cluster.specs.Receipts.{receipt_by, receipts_of, doing_of}
use Rattle.cluster.specs.Seat.{host_in, due_in, IsDoing}
use Rattle.cluster.proofs.Adding.{host_adds, receipts_adds}
use Rattle.cluster.proofs.Goes.{more}

abbrev So : Task → Memory → Type 0
So task m = IsCarried task m m.doing

-- AN ATTEMPT

-- with all slots learned each operation is answered
full_answers : (o : Operation) (n : ℕ) (learned : List Command) → IsAnswer (task_for o n) learned (Some (full_answer o (length learned)))
full_answers (Submitting command) n learned = tt
full_answers Recovering n learned = refl

-- only a submission is acknowledged
acks : (o : Operation) (n : ℕ) (value : List ℕ) (learned : List Command) (slot : ℕ) (reply : Reply) → is_submitted o value ≡ true → IsAnswer (task_for o n) learned (Some (Ack slot reply))
acks (Submitting command) n value learned slot reply is = tt
acks Recovering n value learned slot reply is = absurd (cc is)

-- only a recovery recovers
recovers : (o : Operation) (n : ℕ) (learned : List Command) → o ≡ Recovering → IsAnswer (task_for o n) learned (Some (said.Recovered (length learned)))
recovers (Submitting command) n learned is = absurd (cc is)
recovers Recovering n learned is = refl

going : (c : Shape) (o : Operation) (n : ℕ) (m : Memory) (tries : ℕ) → So (task_for o n) (goes_on c m o tries)
going c o n m tries =
    on_either (nat_lt (length m.learned) c.slots) (begins m o tries) (says m (full_answer o (length m.learned))) (So (task_for o n))
    (λ is. (n, refl, refl)) (λ is. full_answers o n m.learned)

-- the task began with n tries
module _ (c : Shape) (t : Attempt) (n : ℕ) where
  abbrev its : Task
  its = task_for t.operation n

  learned_so : (m : Memory) (command : Command) (value : List ℕ) (own : Bool) → is_submitted t.operation value ≡ own → So its (after_learning c m t command own)
  learned_so m command value true is = acks t.operation n value (m.learned ++ command ∷ []) (length m.learned) (reply_after m.learned command) is
  learned_so m command value false is = going c t.operation n (learns m command) t.tries

  taken_so : (m : Memory) (ballot : ℕ) (value : List ℕ) (o : Option Command) → So its (takes c m t ballot value o)
  taken_so m ballot value None = tt
  taken_so m ballot value (Some command) = learned_so m command value (is_submitted t.operation value) refl

  tried_so : (m : Memory) → So its (tries_again m t.operation t.tries)
  tried_so m =
      on_either (nat_le t.tries 1) (says m (Refused refusal.Outrun)) (begins m t.operation (t.tries - 1)) (So its)
      (λ is. tt) (λ is. (n, refl, refl))

  status_so : (m : Memory) (ballot : ℕ) (st : Status) → (st ≡ Ended Empty → t.operation ≡ Recovering) → So its (by_status c m t ballot st)
  status_so m ballot (Due phase disk) only = (n, refl, refl)
  status_so m ballot (Ended (Committed value)) only = taken_so m ballot value (decoded value)
  status_so m ballot (Ended (Decided value)) only = taken_so m ballot value (decoded value)
  status_so m ballot (Ended Empty) only = recovers t.operation n m.learned (only refl)
  status_so m ballot (Ended (Outrun mbal)) only = tried_so (with_floor (with_floor m ballot) mbal)
  status_so m ballot (Ended NoMajority) only = tt
  status_so m ballot (Ended BallotsSpent) only = tt

-- A LOOK, A BEAT AND A MARKING

look_next : (c : Shape) (m : Memory) (first : ℕ) → So Look (looks_on c m first)
look_next c m first =
    on_either (nat_lt (length m.learned) c.slots) (does m (Looks (record { first = first; heard = [] }))) (says m (said.Looked (length m.learned))) (So Look)
    (λ is. (0, refl, refl)) (λ is. refl)

look_told : (c : Shape) (m : Memory) (d : ℕ) (o : Option Command) → So Look (takes_marked c m d o)
look_told c m d None = tt
look_told c m d (Some command) = look_next c (learns m command) d

look_so : (c : Shape) (m : Memory) (t : Looking) (st : look.Status) → So Look (look_by c m t st)
look_so c m t (look.Due disk) = (0, refl, refl)
look_so c m t (look.Ended (look.Decided d value)) = look_told c m d (decoded value)
look_so c m t (look.Ended look.Unmarked) = refl
look_so c m t (look.Ended look.NoMajority) = tt

beat_so : (h : ℕ) (m : Memory) (heard : List beat_answers.Answered) (st : beat.Status) → So Beat (beat_by h m heard st)
beat_so h m heard (beat.Due disk) = (0, refl, refl)
beat_so h m heard (beat.Ended (beat.Beaten readings)) = tt
beat_so h m heard (beat.Ended beat.NoMajority) = tt

mark_so : (m : Memory) (t : Marking) (st : mark.Status) → So (Mark t.slot) (marking_by m t st)
mark_so m t (mark.Due disk) = (0, refl, refl)
mark_so m t (mark.Ended (mark.Marked count)) = tt
mark_so m t (mark.Ended mark.NoMajority) = tt

-- ONE STEP MORE

-- an answer of a disk leaves it so
heard_so : (c : Shape) (h : ℕ) (m : Memory) (doing : Doing) (n d : ℕ) (answer : Answer) → So (task_in doing n) (hears_from c h m (Some doing) d answer)
heard_so c h m (Attempts t) n d answer =
    let x : Answered = record { disk = d; heard = heard_as answer } in
    let s = setup_of c h m t.operation in
    let heard = t.heard ++ x ∷ [] in
    status_so c (with_heard t x) n m (taken s (on heard)) (status s (on heard)) (empty_recovers c h m t.operation heard)
heard_so c h m (Looks t) n d answer =
    let more = looking_with t (record { disk = d; heard = heard_as answer }) in look_so c m more (look.status (look_of c m t.first) (on more.heard))
heard_so c h m (Beats heard) n d answer =
    let more = heard ++ record { disk = d; heard = beat_answers.heard_as answer } ∷ [] in beat_so h m more (beat.status (beat_of c h) (beat_answers.on more))
heard_so c h m (Marks t) n d answer =
    let more = marking_with t (record { disk = d; heard = heard_as answer }) in mark_so m more (mark.status (marking_of c h m t.slot) (on more.heard))

-- an acknowledgement brings a receipt
brought : (c : Shape) (own new : Own) (at : ℕ) (before : List Receipt) (o : Operation) (n : ℕ) (said : Option HostAnswer) → new.number ≡ own.number
    → receipts_of c new ≡ before ++ receipt_by own.number at (Some (Attempts (record { operation = o; tries = n; heard = [] }))) said → HasReceipt c new (task_for o n) said
brought c own new at before (Submitting command) n (Some (Ack slot reply)) same all =
    let R : ℕ → Receipt = λ h. record { host = h; command = command; slot = slot; reply = reply; place = at } in
    (at, (before, all ∙ ap (λ (h : ℕ). before ++ R h ∷ []) (sym same)))
brought c own new at before (Submitting command) n other same all = tt
brought c own new at before Recovering n said same all = tt

brings : (c : Shape) (own new : Own) (at : ℕ) (before : List Receipt) (doing : Doing) (n : ℕ) (said : Option HostAnswer) → new.number ≡ own.number
    → receipts_of c new ≡ before ++ receipt_by own.number at (Some doing) said → HasReceipt c new (task_in doing n) said
brings c own new at before (Attempts t) n said same all = brought c own new at before t.operation n said same all
brings c own new at before other n said same all = tt

module _ (c : Shape) (task : Task) (old new : Own) (carries : Carries c task old) (step : IsStep c old new) where
  abbrev m : Memory
  m = carries.memory

  abbrev e : Filled
  e = Called old.number step.disk (due_in c old).1 step.answer step.left

  abbrev next : Own
  next = adds old step.place e

  carried_on : (o : Option Doing) → m.doing ≡ o → next_doing c old.number m o ≡ Some (step.disk, (due_in c old).1) → Carries c task next
  carried_on None does due = absurd (cc due)
  carried_on (Some doing) does due =
      let known = subst (IsCarried task m) does carries.doing in
      let after : Memory = hears_from c old.number m (Some doing) step.disk step.answer in
      let is : host_in c next ≡ Running after =
      host_adds c old step.place e ∙ ap (λ (s : Host). host_step c old.number s e) carries.is
      ∙ ap (λ (o : Option Doing). Running (hears_from c old.number m o step.disk step.answer)) does in
      let all : receipts_of c next ≡ receipts_of c old ++ receipt_by old.number step.place (Some doing) after.said =
      receipts_adds c old step.place e
      ∙ (λ i. receipts_of c old ++ receipt_by old.number step.place ((ap doing_of carries.is ∙ does) i) (said_of ((sym (host_adds c old step.place e) ∙ is) i))) in
      let there : Carries c (task_in doing known.0) next = record {
        memory = after;
        is = is;
        doing = heard_so c old.number m doing known.0 step.disk step.answer;
        receipt = brings c old next step.place (receipts_of c old) doing known.0 after.said refl all;
      } in
      subst (λ (k : Task). Carries c k next) (sym known.1) there

  pub steps_on : Carries c task new
  steps_on =
      subst (Carries c task) (sym step.is)
      (carried_on m.doing refl (sym (ap (next_of c old.number) carries.is) ∙ step.due))

pub goes_on_so : (c : Shape) (task : Task) (old new : Own) → Carries c task old → GoesOn c old new → Carries c task new
goes_on_so c task old new carries goes = subst (Carries c task) (sym goes.is) (go old goes.added carries goes.steps)
  where
    go : (own : Own) (xs : List Placed) → Carries c task own → AreSteps c own xs → Carries c task (own_of own.number (own.entries ++ xs))
    go own [] is steps = subst (λ (l : List Placed). Carries c task (own_of own.number l)) (sym (append-nil own.entries)) is
    go own (x ∷ xs) is steps =
        subst (λ (l : List Placed). Carries c task (own_of own.number l)) (append_assoc own.entries (x ∷ []) xs)
        (go (adds own x.0 x.1) xs (steps_on c task own (adds own x.0 x.1) is steps.0) steps.1)

-- AT THE BEGINNING

-- a host that begins a task carries it out
begun_so : (c : Shape) (m : Memory) (task : Task) → So task (starts c m task)
begun_so c m (Submit command tries) = going c (Submitting command) tries m tries
begun_so c m (Recover tries) = going c Recovering tries m tries
begun_so c m Look = look_next c m 0
begun_so c m Beat = (0, refl, refl)
begun_so c m (Mark slot) =
    on_either (nat_lt slot (length m.learned)) (does m (Marks (record { slot = slot; heard = [] }))) (says m (Refused refusal.NotLearned)) (So (Mark slot))
    (λ is. (0, refl, refl)) (λ is. tt)

-- no receipt yet
none_begun : (c : Shape) (new : Own) (m : Memory) (task : Task) → HasReceipt c new task (starts c m task).said
none_begun c new m (Submit command tries) =
    on_either (nat_lt (length m.learned) c.slots) (begins m (Submitting command) tries) (says m (full_answer (Submitting command) (length m.learned)))
    (λ (n : Memory). HasReceipt c new (Submit command tries) n.said) (λ is. tt) (λ is. tt)
none_begun c new m other = tt

begun_at : (c : Shape) (task : Task) (own : Own) (at : ℕ) (host : Host) → host_in c own ≡ host → idles host ≡ true → Carries c task (adds own at (Begin own.number task))
begun_at c task own at Stopped is idle = absurd (cc idle)
begun_at c task own at (Running m) is idle = record {
  memory = starts c m task;
  is = host_adds c own at (Begin own.number task) ∙ ap (λ (s : Host). host_step c own.number s (Begin own.number task)) is;
  doing = begun_so c m task;
  receipt = none_begun c (adds own at (Begin own.number task)) m task;
}

pub task_begun : (c : Shape) (task : Task) (own new : Own) (at : ℕ) → idles (host_in c own) ≡ true → new ≡ adds own at (Begin own.number task) → Carries c task new
task_begun c task own new at idle is = subst (Carries c task) (sym is) (begun_at c task own at (host_in c own) refl idle)

-- AT THE END

-- what was said was said by an idle host
pub said_idle : (c : Shape) (task : Task) (own : Own) → Carries c task own → (said : HostAnswer) → said_of (host_in c own) ≡ Some said → idles (host_in c own) ≡ true
said_idle c task own carries said is = ap idles carries.is ∙ go carries.memory.doing carries.doing
  where
    go : (o : Option Doing) → IsCarried task carries.memory o → is_none o ≡ true
    go None carried = refl
    go (Some doing) carried = let no : None ≡ Some said = sym carried.2 ∙ sym (ap said_of carries.is) ∙ is in absurd (cc no)

-- an idle host has answered its task
pub answered : (c : Shape) (task : Task) (own : Own) → Carries c task own → idles (host_in c own) ≡ true → IsAnswer task (learned_of (host_in c own)) (said_of (host_in c own))
answered c task own carries idle = subst (λ (s : Host). IsAnswer task (learned_of s) (said_of s)) (sym carries.is) (go carries.memory.doing carries.doing (sym (ap idles carries.is) ∙ idle))
  where
    go : (o : Option Doing) → IsCarried task carries.memory o → is_none o ≡ true → IsAnswer task carries.memory.learned carries.memory.said
    go None carried is = carried
    go (Some doing) carried is = absurd (cc is)

-- what the task gave is that
said_is : (c : Shape) (own : Own) (gave : Resumed) → HasAnswered c gave own → said_of (host_in c own) ≡ said_by gave
said_is c own (Submitted receipt) has = has.1
said_is c own (resumed.Recovered n) has = has.1
said_is c own (resumed.Looked n) has = has.1
said_is c own (resumed.Beaten host) has = has.1
said_is c own (resumed.Marked count) has = has.1

pub gave_its : (c : Shape) (task : Task) (own : Own) → Carries c task own → idles (host_in c own) ≡ true → (gave : Resumed) → HasAnswered c gave own → IsAnswer task (learned_of (host_in c own)) (said_by gave)
gave_its c task own carries idle gave has = subst (IsAnswer task (learned_of (host_in c own))) (said_is c own gave has) (answered c task own carries idle)

-- a step that was refused, or could not be made, stops the task
pub stops : (c : Shape) (o : Task) (f : HostFault) (old mid new : Own) → Carries c o old → GoesOn c old mid → idles (host_in c mid) ≡ false → Ends c f mid new → Stops c f old new
stops c o (fault.Refused r) old mid new carries goes busy is =
    let all = more c old mid new goes is.0 in
    (all, said_idle c o new (goes_on_so c o old new carries all) (Refused r) is.1, is.1)
stops c o fault.NoMemory old mid new carries goes busy is = subst (λ (own : Own). GoesOn c old own × (idles (host_in c own) ≡ false)) (sym is) (goes, busy)
stops c o fault.JournalFull old mid new carries goes busy is = subst (λ (own : Own). GoesOn c old own × (idles (host_in c own) ≡ false)) (sym is) (goes, busy)
stops c o fault.OpenCall old mid new carries goes busy is = subst (λ (own : Own). GoesOn c old own × (idles (host_in c own) ≡ false)) (sym is) (goes, busy)
stops c o fault.SeatTaken old mid new carries goes busy is = absurd is
stops c o fault.SeatsMissing old mid new carries goes busy is = absurd is

-- a task that is over was refused
pub refused : (c : Shape) (o : Task) (f : HostFault) (old new : Own) → Carries c o old → GoesOn c old new → IsRefusedBy c f new → Stops c f old new
refused c o (fault.Refused r) old new carries goes is = (goes, said_idle c o new (goes_on_so c o old new carries goes) (Refused r) is, is)
refused c o fault.NoMemory old new carries goes is = absurd is
refused c o fault.JournalFull old new carries goes is = absurd is
refused c o fault.OpenCall old new carries goes is = absurd is
refused c o fault.SeatTaken old new carries goes is = absurd is
refused c o fault.SeatsMissing old new carries goes is = absurd is

-- WHILE IT IS UNDER WAY

no_receipt : (c : Shape) (own : Own) (task : Task) → HasReceipt c own task None
no_receipt c own (Submit command tries) = tt
no_receipt c own other = tt

-- a host that is not idle carries a task out
pub carries_one : (c : Shape) (own : Own) (m : Memory) (submitting : Option Command) → host_in c own ≡ Running m → IsDoing c m m.doing submitting → idles (host_in c own) ≡ false → (task : Task) × Carries c task own
carries_one c own m submitting is doing busy = go m.doing refl doing (sym (ap idles is) ∙ busy)
  where
    go : (o : Option Doing) → m.doing ≡ o → IsDoing c m o submitting → is_none o ≡ false → (task : Task) × Carries c task own
    go None does known off = absurd (cc off)
    go (Some t) does known off =
        let task = task_in t 0 in (
          task,
          record { memory = m; is = is; doing = subst (IsCarried task m) (sym does) (0, refl, known.0); receipt = subst (HasReceipt c own task) (sym known.0) (no_receipt c own task) },
        )
