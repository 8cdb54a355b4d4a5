-- What a running host has learned was chosen, and what it submits was submitted.
use Rattle.std.specs.Prelude.{nat_lt, nat_le, max, slice_get, ◌-◌, cond}
use Rattle.std.proofs.Common.{ℕ, suc, ◌≤◌, ◌≡◌, inl, inr, Bool, true, false, Option, Some, None, List, [], ◌∷◌, ◌++◌, length, refl, sym, subst, ap, ◌∙◌, arith}
use Rattle.std.proofs.lemmas.Bool.{eqb-true}
use Rattle.disk.specs.Disk.{Call, Answer}
use Rattle.paxos_block.specs.Row.{DecodedBlock}
use Rattle.attempt.specs.Answers as answers
use Rattle.attempt.specs.Answers.{Heard, Answered, on, heard_as}
use Rattle.rounds.specs.Marking.Status as mark
use Rattle.attempt.specs.Status as attempt
use Rattle.attempt.specs.Status.{Status, Due, Ended, status, taken}
use Rattle.lock_command.specs.declared.command.Command.{Command}
use Rattle.lock_command.specs.Command.{spelling}
use Rattle.lock_command.specs.Reading.{decoded}
use Rattle.paxos_block.specs.Shape.{Shape}
use Rattle.attempt.specs.declared.refusal.Refusal.TheVariants as refusal
use Rattle.host.specs.declared.answer.HostAnswer.{HostAnswer}
use Rattle.host.specs.declared.answer.HostAnswer.TheVariants.{Ack, Recovered, Looked, Beaten, Marked, Refused}
use Rattle.host.specs.declared.task.Task.{Task}
use Rattle.host.specs.declared.task.Task.TheVariants.{Submit, Recover, Look, Beat, Mark}
use Rattle.host.specs.Host.{Operation, Submitting, Recovering, Attempt, Looking, Marking, Doing, Attempts, Looks, Beats, Marks, Memory, Host, Stopped, Running, setup_of, says, does, reads, begins, full_answer, goes_on, with_floor, learns, reply_after, is_submitted, after_learning, takes, tries_again, by_status, with_heard, look_of, look_by, looking_with, looks_on, takes_marked, beat_by, beat_of, suggested, marking_by, marking_with, marking_of, starts, hears_from}
use Rattle.rounds.specs.Beat.Answers as beat_answers
use Rattle.rounds.specs.Beat.Status as beat
use Rattle.rounds.specs.Look.Status as look
use Rattle.host.proofs.Hosts.{decoded_spelled}
use Rattle.world.specs.Entry.{Filled, Start, Stop, Begin, Called, Torn, Crashed, Lost, Migrated, is_of, started, begins_on, host_step}
use Rattle.world.specs.World.{World, ReadsBack, MayBeGiven, MayBegin, IsRun}
use Rattle.world.proofs.Enduring.{on_either}
use Rattle.world.proofs.Runs.{each}
use Rattle.world.specs.Chosen.{at}
use Rattle.world.proofs.Histories.{committed, hears_with}
use Rattle.agreement.proofs.Slots.{pushed}
use Rattle.world_safety.specs.Tracks.{IsChosenBefore, AreChosen, IsSubmittedBy, IsBegun, Counts, IsTrueDoing, IsTrue, IsTrueOf}
use Rattle.world_safety.specs.Marks.{ShowsTrueMarks, TellsTrueMarks}
use Rattle.world_safety.proofs.Runs.Places.{at_next, at_end}
use Rattle.world_safety.proofs.Runs.Showing.{mark_more, tells_none, all_tell_more, decided_known, look_known}

-- a value that spells a command reads as it
pub reads_back : (value : List ℕ) (command : Command) → decoded value ≡ Some command → ReadsBack command
reads_back value command is = ap decoded (sym (decoded_spelled value command is)) ∙ is

module _ (c : Shape) (log : List Filled) where
  -- IT STAYS TRUE

  pub later_chosen : (i k : ℕ) (value : List ℕ) → IsChosenBefore c log i k value → IsChosenBefore c log (suc i) k value
  later_chosen i k value (inl is) = inl (record { place = is.place; before = (let b = is.before in omega arith); is = is.is })
  later_chosen i k value (inr is) = inr (omega arith, is.1)

  -- until any later place
  pub chosen_upto : (i j k : ℕ) (value : List ℕ) → i ≤ j → IsChosenBefore c log i k value → IsChosenBefore c log j k value
  chosen_upto i j k value le (inl is) = inl (record { place = is.place; before = (let b = is.before in omega arith); is = is.is })
  chosen_upto i j k value le (inr is) = inr (let b = is.0 in omega arith, is.1)

  later_learned : (i : ℕ) (learned : List Command) → AreChosen c log i learned → AreChosen c log (suc i) learned
  later_learned i learned are k command is = let known = are k command is in (known.0, later_chosen i k (spelling command) known.1)

  later_begun : (i h : ℕ) (operation : Operation) → IsBegun log i h operation → IsBegun log (suc i) h operation
  later_begun i h operation is command same =
      let by = is command same in
      record { place = by.place; tries = by.tries; before = (let b = by.before in omega arith); entry = by.entry; reads = by.reads }

  later_told : (i slot : ℕ) (a : List Heard) → TellsTrueMarks (IsChosenBefore c log i slot) a → TellsTrueMarks (IsChosenBefore c log (suc i) slot) a
  later_told i slot a is n row at = mark_more (IsChosenBefore c log i slot) (IsChosenBefore c log (suc i) slot) (later_chosen i slot) row (is n row at)

  later_doing : (i h slot : ℕ) (o : Option Doing) → IsTrueDoing c log i h slot o → IsTrueDoing c log (suc i) h slot o
  later_doing i h slot (Some (Attempts t)) is = (later_begun i h t.operation is.0, λ d. later_told i slot (on t.heard d) (is.1 d))
  later_doing i h slot (Some (Looks t)) is = λ d. later_told i slot (on t.heard d) (is d)
  later_doing i h slot other is = tt

  pub later : (i h : ℕ) (host : Host) → IsTrueOf c log i h host → IsTrueOf c log (suc i) h host
  later i h Stopped is = tt
  later i h (Running m) is = record { learned = later_learned i m.learned is.learned; counts = is.counts; doing = later_doing i h (length m.learned) m.doing is.doing }

  -- WHAT A HOST COMES TO

  module _ (i h : ℕ) where
    says_true : (m : Memory) (floor : ℕ) (said : HostAnswer) → AreChosen c log i m.learned → Counts (Some said) (length m.learned) → IsTrue c log i h (record { learned = m.learned; floor = floor; doing = None; said = Some said; readings = m.readings })
    says_true m floor said are counts = record { learned = are; counts = counts; doing = tt }

    does_true : (m : Memory) (doing : Doing) → AreChosen c log i m.learned → IsTrueDoing c log i h (length m.learned) (Some doing) → IsTrue c log i h (does m doing)
    does_true m doing are is = record { learned = are; counts = tt; doing = is }

    none_told : (slot : ℕ) (d : ℕ) → TellsTrueMarks (IsChosenBefore c log i slot) (on [] d)
    none_told slot d = tells_none (IsChosenBefore c log i slot)

    full_true : (m : Memory) (operation : Operation) → Counts (Some (full_answer operation (length m.learned))) (length m.learned)
    full_true m (Submitting command) = tt
    full_true m Recovering = refl

    goes_on_true : (m : Memory) (operation : Operation) (tries : ℕ) → AreChosen c log i m.learned → IsBegun log i h operation → IsTrue c log i h (goes_on c m operation tries)
    goes_on_true m operation tries are begun =
        on_either (nat_lt (length m.learned) c.slots) (begins m operation tries) (says m (full_answer operation (length m.learned))) (λ (n : Memory). IsTrue c log i h n)
        (λ fits. does_true m (Attempts (record { operation = operation; tries = tries; heard = [] })) are (begun, none_told (length m.learned)))
        (λ full. says_true m m.floor (full_answer operation (length m.learned)) are (full_true m operation))

    one_more : (m : Memory) → AreChosen c log i m.learned → (command : Command) → ReadsBack command → IsChosenBefore c log i (length m.learned) (spelling command) → AreChosen c log i (m.learned ++ command ∷ [])
    one_more m are command reads chosen k found is = elim (pushed m.learned command k found is) [
      | inl old ↦ are k found old
      | inr new ↦ subst (λ (d : Command). ReadsBack d × IsChosenBefore c log i k (spelling d)) new.1 (reads, subst (λ (j : ℕ). IsChosenBefore c log i j (spelling command)) (sym new.0) chosen)
    ]

    module _ (m : Memory) (t : Attempt) (are : AreChosen c log i m.learned) (begun : IsBegun log i h t.operation) where
      learned_true : (command : Command) → AreChosen c log i (m.learned ++ command ∷ []) → (own : Bool) → IsTrue c log i h (after_learning c m t command own)
      learned_true command all true = says_true (learns m command) 0 (Ack (length m.learned) (reply_after m.learned command)) all tt
      learned_true command all false = goes_on_true (learns m command) t.operation t.tries all begun

      takes_true : (b : ℕ) (value : List ℕ) → IsChosenBefore c log i (length m.learned) value → (o : Option Command) → decoded value ≡ o → IsTrue c log i h (takes c m t b value o)
      takes_true b value chosen None reads = says_true m (max m.floor b) (Refused refusal.NotACommand) are tt
      takes_true b value chosen (Some command) reads =
          learned_true command (one_more m are command (reads_back value command reads) (subst (IsChosenBefore c log i (length m.learned)) (decoded_spelled value command reads) chosen)) (is_submitted t.operation value)

      tries_true : (b mbal : ℕ) → IsTrue c log i h (tries_again (with_floor (with_floor m b) mbal) t.operation t.tries)
      tries_true b mbal =
          let outrun : Memory = with_floor (with_floor m b) mbal in
          on_either (nat_le t.tries 1) (says outrun (Refused refusal.Outrun)) (begins outrun t.operation (t.tries - 1)) (λ (n : Memory). IsTrue c log i h n)
          (λ last. says_true m (max (max m.floor b) mbal) (Refused refusal.Outrun) are tt)
          (λ more. does_true outrun (Attempts (record { operation = t.operation; tries = t.tries - 1; heard = [] })) are (begun, none_told (length m.learned)))

      status_true : (b : ℕ) (st : Status) → ((d : ℕ) → TellsTrueMarks (IsChosenBefore c log i (length m.learned)) (on t.heard d)) → ((value : List ℕ) → st ≡ Ended (attempt.Committed value) → IsChosenBefore c log i (length m.learned) value)
          → ((value : List ℕ) → st ≡ Ended (attempt.Decided value) → IsChosenBefore c log i (length m.learned) value) → IsTrue c log i h (by_status c m t b st)
      status_true b (Due p d) told chosen decided = does_true m (Attempts t) are (begun, told)
      status_true b (Ended (attempt.Committed value)) told chosen decided = takes_true b value (chosen value refl) (decoded value) refl
      status_true b (Ended (attempt.Decided value)) told chosen decided = takes_true b value (decided value refl) (decoded value) refl
      status_true b (Ended attempt.Empty) told chosen decided = says_true m (max m.floor b) (Recovered (length m.learned)) are refl
      status_true b (Ended (attempt.Outrun mbal)) told chosen decided = tries_true b mbal
      status_true b (Ended attempt.NoMajority) told chosen decided = says_true m (max m.floor b) (Refused refusal.NoMajority) are tt
      status_true b (Ended attempt.BallotsSpent) told chosen decided = says_true m (max m.floor b) (Refused refusal.BallotsSpent) are tt

  -- WITH EACH ENTRY

  -- each row that the host's attempt is told with the entry shows true marks,
  abbrev pub TellsAttempt : ℕ → ℕ → Type 0
  TellsAttempt i h =
      (k : ℕ) (call : Call) (answer : Answer) (left : List ℕ) → slice_get log i ≡ Some (Called h k call answer left) → (m : Memory) (t : Attempt) → (at c log i).host h ≡ Running m → m.doing ≡ Some (Attempts t)
      → (row : List DecodedBlock) → heard_as answer ≡ answers.Told (Some row) → ShowsTrueMarks (IsChosenBefore c log i (length m.learned)) row

  -- and so does each that its look is told
  abbrev pub TellsLook : ℕ → ℕ → Type 0
  TellsLook i h =
      (k : ℕ) (call : Call) (answer : Answer) (left : List ℕ) → slice_get log i ≡ Some (Called h k call answer left) → (m : Memory) (t : Looking) → (at c log i).host h ≡ Running m → m.doing ≡ Some (Looks t)
      → (row : List DecodedBlock) → heard_as answer ≡ answers.Told (Some row) → ShowsTrueMarks (IsChosenBefore c log i (length m.learned)) row

  abbrev pub ShowsTrue : ℕ → ℕ → Type 0
  ShowsTrue i h = TellsAttempt i h × TellsLook i h

  module _ (run : IsRun c log) (i : ℕ) (h : ℕ) (shows : ShowsTrue i h) where
    -- what an attempt commits with an answer is chosen then
    commits : (k : ℕ) (call : Call) (answer : Answer) (left : List ℕ) → slice_get log i ≡ Some (Called h k call answer left) → (m : Memory) (t : Attempt) → (at c log i).host h ≡ Running m → m.doing ≡ Some (Attempts t) → (value : List ℕ)
        → status (setup_of c h m t.operation) (on (t.heard ++ record { disk = k; heard = heard_as answer } ∷ [])) ≡ Ended (attempt.Committed value) → IsChosenBefore c log (suc i) (length m.learned) value
    commits k call answer left is m t running does value ended =
        let x : Answered = record { disk = k; heard = heard_as answer } in
        let s = setup_of c h m t.operation in
        let hears = hears_with c log i h k call answer left is m running t does in
        inl (record { place = i; before = omega arith; is = committed c log i s (t.heard ++ x ∷ []) value run hears ended })

    -- a look learns what it is told
    looked_on_true : (m : Memory) (first : ℕ) → AreChosen c log (suc i) m.learned → IsTrue c log (suc i) h (looks_on c m first)
    looked_on_true m first are =
        on_either (nat_lt (length m.learned) c.slots) (does m (Looks (record { first = first; heard = [] }))) (says m (Looked (length m.learned))) (λ (n : Memory). IsTrue c log (suc i) h n)
        (λ fits. does_true (suc i) h m (Looks (record { first = first; heard = [] })) are (none_told (suc i) h (length m.learned)))
        (λ full. says_true (suc i) h m m.floor (Looked (length m.learned)) are refl)

    takes_marked_true : (m : Memory) (d : ℕ) (value : List ℕ) → AreChosen c log (suc i) m.learned → IsChosenBefore c log (suc i) (length m.learned) value → (o : Option Command) → decoded value ≡ o → IsTrue c log (suc i) h (takes_marked c m d o)
    takes_marked_true m d value are chosen None reads = says_true (suc i) h m m.floor (Refused refusal.NotACommand) are tt
    takes_marked_true m d value are chosen (Some command) reads =
        looked_on_true (learns m command) d
        (one_more (suc i) h m are command (reads_back value command reads) (subst (IsChosenBefore c log (suc i) (length m.learned)) (decoded_spelled value command reads) chosen))

    look_by_true : (m : Memory) → AreChosen c log (suc i) m.learned → (t : Looking) (st : look.Status) → ((d : ℕ) → TellsTrueMarks (IsChosenBefore c log (suc i) (length m.learned)) (on t.heard d))
        → ((d : ℕ) (value : List ℕ) → st ≡ look.Ended (look.Decided d value) → IsChosenBefore c log (suc i) (length m.learned) value) → IsTrue c log (suc i) h (look_by c m t st)
    look_by_true m are t (look.Due disk) told chosen = does_true (suc i) h m (Looks t) are told
    look_by_true m are t (look.Ended (look.Decided d value)) told chosen = takes_marked_true m d value are (chosen d value refl) (decoded value) refl
    look_by_true m are t (look.Ended look.Unmarked) told chosen = says_true (suc i) h m m.floor (Looked (length m.learned)) are refl
    look_by_true m are t (look.Ended look.NoMajority) told chosen = says_true (suc i) h m m.floor (Refused refusal.NoMajority) are tt

    -- a beat learns nothing,
    beat_by_true : (m : Memory) → AreChosen c log (suc i) m.learned → (heard : List beat_answers.Answered) (st : beat.Status) → IsTrue c log (suc i) h (beat_by h m heard st)
    beat_by_true m are heard (beat.Due disk) = does_true (suc i) h m (Beats heard) are tt
    beat_by_true m are heard (beat.Ended (beat.Beaten readings)) = says_true (suc i) h (reads m readings) m.floor (Beaten (suggested h m.readings readings)) are tt
    beat_by_true m are heard (beat.Ended beat.NoMajority) = says_true (suc i) h m m.floor (Refused refusal.NoMajority) are tt

    -- nor does a marking
    marking_by_true : (m : Memory) → AreChosen c log (suc i) m.learned → (t : Marking) (st : mark.Status) → IsTrue c log (suc i) h (marking_by m t st)
    marking_by_true m are t (mark.Due disk) = does_true (suc i) h m (Marks t) are tt
    marking_by_true m are t (mark.Ended (mark.Marked count)) = says_true (suc i) h m m.floor (Marked count) are tt
    marking_by_true m are t (mark.Ended mark.NoMajority) = says_true (suc i) h m m.floor (Refused refusal.NoMajority) are tt

    hears_true : (k : ℕ) (call : Call) (answer : Answer) (left : List ℕ) → slice_get log i ≡ Some (Called h k call answer left) → (m : Memory) → (at c log i).host h ≡ Running m → (o : Option Doing) → m.doing ≡ o → IsTrue c log (suc i) h m
        → IsTrueDoing c log (suc i) h (length m.learned) o → IsTrue c log (suc i) h (hears_from c h m o k answer)
    hears_true k call answer left is m running None does known under_way = known
    hears_true k call answer left is m running (Some (Attempts t)) does known under_way =
        let K = IsChosenBefore c log (suc i) (length m.learned) in
        let s = setup_of c h m t.operation in
        let x : Answered = record { disk = k; heard = heard_as answer } in
        let told = all_tell_more K t.heard x under_way.1 (λ row tells. mark_more (IsChosenBefore c log i (length m.learned)) K (later_chosen i (length m.learned)) row (shows.0 k call answer left is m t running does row tells)) in
        status_true (suc i) h m (with_heard t x) known.learned under_way.0 (taken s (on (t.heard ++ x ∷ []))) (status s (on (t.heard ++ x ∷ []))) told (commits k call answer left is m t running does)
        (λ value ended. decided_known K s (on (t.heard ++ x ∷ [])) value told refl ended)
    hears_true k call answer left is m running (Some (Looks t)) does known under_way =
        let K = IsChosenBefore c log (suc i) (length m.learned) in
        let x : Answered = record { disk = k; heard = heard_as answer } in
        let more = looking_with t x in
        let s = look_of c m t.first in
        let told = all_tell_more K t.heard x under_way (λ row tells. mark_more (IsChosenBefore c log i (length m.learned)) K (later_chosen i (length m.learned)) row (shows.1 k call answer left is m t running does row tells)) in
        look_by_true m known.learned more (look.status s (on more.heard)) told (λ d value ended. look_known K s (on more.heard) d value told ended)
    hears_true k call answer left is m running (Some (Beats heard)) does known under_way =
        let more : List beat_answers.Answered = heard ++ record { disk = k; heard = beat_answers.heard_as answer } ∷ [] in
        beat_by_true m known.learned more (beat.status (beat_of c h) (beat_answers.on more))
    hears_true k call answer left is m running (Some (Marks t)) does known under_way =
        let more = marking_with t (record { disk = k; heard = heard_as answer }) in
        marking_by_true m known.learned more (mark.status (marking_of c h m t.slot) (on more.heard))

    called_true : (k : ℕ) (call : Call) (answer : Answer) (left : List ℕ) → slice_get log i ≡ Some (Called h k call answer left) → (host : Host) → (at c log i).host h ≡ host → IsTrueOf c log (suc i) h host
        → IsTrueOf c log (suc i) h (host_step c h host (Called h k call answer left))
    called_true k call answer left is Stopped running known = tt
    called_true k call answer left is (Running m) running known = hears_true k call answer left is m running m.doing refl known known.doing

    -- a task begins
    task_true : (task : Task) → slice_get log i ≡ Some (Begin h task) → MayBeGiven c h task → (m : Memory) → IsTrue c log (suc i) h m → IsTrue c log (suc i) h (starts c m task)
    task_true (Submit command tries) is may m known =
        goes_on_true (suc i) h m (Submitting command) tries known.learned
        (λ found same. (let one : command ≡ found = cc in subst (IsSubmittedBy log (suc i) h) one (record { place = i; tries = tries; before = omega arith; entry = is; reads = may.0 })))
    task_true (Recover tries) is may m known = goes_on_true (suc i) h m Recovering tries known.learned (λ found same. absurd (cc))
    task_true Look is may m known = looked_on_true m 0 known.learned
    task_true Beat is may m known = does_true (suc i) h m (Beats []) known.learned tt
    task_true (Mark slot) is may m known =
        on_either (nat_lt slot (length m.learned)) (does m (Marks (record { slot = slot; heard = [] }))) (says m (Refused refusal.NotLearned)) (λ (n : Memory). IsTrue c log (suc i) h n)
        (λ fits. does_true (suc i) h m (Marks (record { slot = slot; heard = [] })) known.learned tt)
        (λ unknown. says_true (suc i) h m m.floor (Refused refusal.NotLearned) known.learned tt)

    begun_true : (task : Task) → slice_get log i ≡ Some (Begin h task) → MayBeGiven c h task → (host : Host) → IsTrueOf c log (suc i) h host → IsTrueOf c log (suc i) h (begins_on c host task)
    begun_true task is may Stopped known = tt
    begun_true task is may (Running m) known = task_true task is may m known

    started_true : (host : Host) → IsTrueOf c log (suc i) h host → IsTrueOf c log (suc i) h (started host)
    started_true Stopped known = record { learned = λ k command is. absurd (cc); counts = tt; doing = tt }
    started_true (Running m) known = known

    step_true : (e : Filled) → slice_get log i ≡ Some e → MayBegin c (at c log i) e → is_of h e ≡ true → IsTrueOf c log (suc i) h ((at c log i).host h) → IsTrueOf c log (suc i) h (host_step c h ((at c log i).host h) e)
    step_true (Start g) is may of known = started_true ((at c log i).host h) known
    step_true (Stop g) is may of known = tt
    step_true (Begin g task) is may of known =
        begun_true task (is ∙ ap (λ (j : ℕ). Some (Begin j task)) (eqb-true g h of)) (subst (λ (j : ℕ). MayBeGiven c j task) (eqb-true g h of) may.1) ((at c log i).host h) known
    step_true (Called g k call answer left) is may of known =
        called_true k call answer left (is ∙ ap (λ (j : ℕ). Some (Called j k call answer left)) (eqb-true g h of)) ((at c log i).host h) refl known
    step_true (Torn g k call left) is may of known = tt
    step_true (Crashed k left) is may of known = absurd (cc)
    step_true (Lost k) is may of known = absurd (cc)
    step_true (Migrated disks commands) is may of known = absurd (cc)

  -- what each host knows is true, and stays so
  pub true_next : IsRun c log → (i h : ℕ) → ShowsTrue i h → IsTrueOf c log i h ((at c log i).host h) → IsTrueOf c log (suc i) h ((at c log (suc i)).host h)
  true_next run i h shows before = by (slice_get log i) refl
    where
      by_own : (e : Filled) (P : Host → Type 0) (old : Host) → (is_of h e ≡ true → P (host_step c h old e)) → P old → P (cond (is_of h e) (host_step c h old e) old)
      by_own e P old own other = go (is_of h e) refl
        where
          go : (b : Bool) → is_of h e ≡ b → P (cond b (host_step c h old e) old)
          go true of = own of
          go false off = other

      known : IsTrueOf c log (suc i) h ((at c log i).host h)
      known = later i h ((at c log i).host h) before

      by : (o : Option Filled) → slice_get log i ≡ o → IsTrueOf c log (suc i) h ((at c log (suc i)).host h)
      by None is = subst (λ (w : World). IsTrueOf c log (suc i) h (w.host h)) (sym (at_end c log i is)) known
      by (Some e) is =
          subst (λ (w : World). IsTrueOf c log (suc i) h (w.host h)) (sym (at_next c log i e is))
          (by_own e (λ host. IsTrueOf c log (suc i) h host) ((at c log i).host h) (λ of. step_true run i h shows e is (each c log i e run is) of known) known)
