-- What a host knows is what its learner knows, once each value that it offers is judged by its spelling.
use Rattle.std.proofs.Common.{◌≡◌, ◌-◌, ◌*◌, ◌&&◌, ℕ, Bool, true, false, zero, suc, List, [], ◌∷◌, ◌++◌, length, map, Option, Some, None, refl, sym, ◌∙◌, ap, subst, if◌then◌else◌}
use Rattle.std.specs.Prelude.{bytes_eq, is_none, is_some, nat_lt, nat_le, take}
use Rattle.std.specs.Option.{option_map}
use Rattle.std.proofs.lemmas.List.{length-map, map-append, append-nil}
use Rattle.std.proofs.lemmas.Bool.{and_parts}
use Rattle.std.proofs.lemmas.Slice.Eq.{bytes_eq-Decides}
use Rattle.torn_block.specs.Layout.{cluster_version}
use Rattle.attempt.specs.Answers.{Answered, Answers, Heard, on, heard_as}
use Rattle.attempt.specs.NextCall.{next_call}
use Rattle.attempt.specs.DeviceCalls.{device_answer, heard_of}
use Rattle.attempt.specs.declared.heard.Heard as code_heard
use Rattle.attempt.specs.declared.heard.Heard.TheVariants as code_answer
use Rattle.attempt.specs.Calls.{Opening}
use Rattle.disk.specs.Disk as device
use Rattle.attempt.specs.Numbers.{count, found, first_below}
use Rattle.attempt.specs.Setup.{Setup}
use Rattle.attempt.specs.Status as attempt
use Rattle.attempt.specs.Status.{Status, Due, Ended, next_or, status, taken}
use Rattle.attempt.specs.Visits.{waits, visited, is_left_at, are_enough}
use Rattle.lock_command.specs.declared.command.Command.{Command}
use Rattle.lock_command.specs.Command.{spelling}
use Rattle.lock_command.specs.Reading.{decoded, checked, command_at}
use Rattle.lock_command.specs.declared.reply.Reply.{Reply}
use Rattle.phases.specs.Notes.{Notes}
use Rattle.paxos_block.specs.Shape.{Shape}
use Rattle.slot_log.specs.Alone as log_alone
use Rattle.slot_log.specs.Kept as learners
use Rattle.slot_log.specs.Kept.{AreDoing, is_idle_with, LogTask}
use Rattle.slot_log.specs.Learning as log
use Rattle.slot_log.specs.Learning.{offered_by, offered_in}
use Rattle.slot_log.specs.declared.outcome.LogOutcome.{LogOutcome}
use Rattle.slot_log.specs.declared.outcome.LogOutcome.TheVariants as outcome
use Rattle.attempt.specs.declared.refusal.Refusal.TheVariants as refusal
use Rattle.host.specs.declared.answer.HostAnswer.{HostAnswer}
use Rattle.host.specs.declared.answer.HostAnswer.TheVariants.{Ack, Recovered, Looked, Beaten, Marked, Refused}
use Rattle.host.specs.Alone.{IsAnsweredAlone}
use Rattle.host.specs.Host as hosts
use Rattle.host.specs.Host.{Memory, Attempt, Doing, Attempts, Looks, Beats, Marks, Operation, Submitting, Recovering, input_of, setup_of, says, does, begins, goes_on, full_answer, learns, takes, after_learning, is_submitted, with_floor, by_status, hears, with_heard, reply_after, hears_from, beat_of, beat_by, suggested, next_in, next_doing, reads, looks_on, Marking, marking_of, marking_by, marking_with, starts_marking, spelled, Looking, look_of, look_by, looking_with, takes_marked}
use Rattle.host.specs.declared.host_core.HostCore.TheInside.{Inside}
use Rattle.host.specs.declared.beside.Beside.{Beside}
use Rattle.host.specs.declared.beside.Beside.TheVariants as beside
use Rattle.host.specs.Kept.{Kept, LeadsTo, operation_of, outcome_in, attempt_of, attempt_in, values_with, values_of, answer_of, option_list, IsOperating, IsDoing, is_nothing, is_idle}

-- ANSWERS

-- an acknowledgement carries this reply
abbrev pub Carries : Option Reply → Option HostAnswer → Type 0
Carries reply None = Unit {0}
Carries reply (Some (Ack slot told)) = reply ≡ Some told
Carries reply (Some (Recovered length)) = Unit {0}
Carries reply (Some (Looked length)) = ⊥
Carries reply (Some (Beaten host)) = ⊥
Carries reply (Some (Marked count)) = ⊥
Carries reply (Some (Refused refusal)) = Unit {0}

pub answer_of-outcome_of : (reply : Option Reply) (said : Option HostAnswer) → Carries reply said → answer_of (outcome_in said) reply ≡ said
answer_of-outcome_of reply None carries = refl
answer_of-outcome_of reply (Some (Ack slot told)) carries = ap (answer_of (outcome_in (Some (Ack slot told)))) carries
answer_of-outcome_of reply (Some (Recovered length)) carries = refl
answer_of-outcome_of reply (Some (Looked length)) carries = absurd carries
answer_of-outcome_of reply (Some (Beaten host)) carries = absurd carries
answer_of-outcome_of reply (Some (Marked count)) carries = absurd carries
answer_of-outcome_of reply (Some (Refused refusal)) carries = refl

-- THE NEXT ATTEMPT

length_same : (m : Memory) → length (map spelling m.learned) ≡ length m.learned
length_same m = length-map m.learned spelling

abbrev setup_at : Shape → ℕ → Memory → Operation → ℕ → Setup
setup_at c h m operation slot = record { version = cluster_version; host = h; slot = slot; disks = c.disks; floor = m.floor; input = input_of operation }

-- it is the same for both
pub setup_same : (c : Shape) (h : ℕ) (m : Memory) (operation : Operation) → log.setup_of cluster_version c h (values_of m) (operation_of operation) ≡ setup_of c h m operation
setup_same c h m (Submitting command) = ap (setup_at c h m (Submitting command)) (length_same m)
setup_same c h m Recovering = ap (setup_at c h m Recovering) (length_same m)

-- and so is the call that is due
pub attempt_next : (c : Shape) (h : ℕ) (m : Memory) (said : Option LogOutcome) (o : Option Doing) → m.doing ≡ o → (call : ℕ × device.Call) → log.next_in cluster_version c h (values_with said m) (attempt_in o) ≡ Some call → next_in c h m ≡ Some call
attempt_next c h m said None is call next = absurd (let none : None ≡ Some call = next in cc)
attempt_next c h m said (Some (Attempts t)) is call next =
    ap (next_doing c h m) is ∙ ap (λ (s : Setup). next_call s (on t.heard)) (sym (setup_same c h m t.operation)) ∙ next
attempt_next c h m said (Some (Looks t)) is call next = absurd (let none : None ≡ Some call = next in cc)
attempt_next c h m said (Some (Beats heard)) is call next = absurd (let none : None ≡ Some call = next in cc)
attempt_next c h m said (Some (Marks t)) is call next = absurd (let none : None ≡ Some call = next in cc)

full_same : (operation : Operation) (n : ℕ) → Some (log.full_outcome (operation_of operation) n) ≡ outcome_in (Some (full_answer operation n))
full_same (Submitting command) n = refl
full_same Recovering n = refl

goes_by_test : (m : Memory) (operation : Operation) (tries n : ℕ) (b : Bool) → (if b then log.begins (values_of m) (operation_of operation) tries else log.says (values_of m) (log.full_outcome (operation_of operation) n)) ≡ values_of (if b then begins m operation tries else says m (full_answer operation n))
goes_by_test m operation tries n true = refl
goes_by_test m operation tries n false = ap (λ (o : Option LogOutcome). record (log.says (values_of m) (outcome.Recovered 0)) { said = o }) (full_same operation n)

abbrev goes_at : Shape → Memory → Operation → ℕ → ℕ → log.Memory
goes_at c m operation tries n = if nat_lt n c.slots then log.begins (values_of m) (operation_of operation) tries else log.says (values_of m) (log.full_outcome (operation_of operation) n)

pub values_of-goes_on : (c : Shape) (m : Memory) (operation : Operation) (tries : ℕ) → log.goes_on c (values_of m) (operation_of operation) tries ≡ values_of (goes_on c m operation tries)
values_of-goes_on c m operation tries =
    ap (goes_at c m operation tries) (length_same m)
    ∙ goes_by_test m operation tries (length m.learned) (nat_lt (length m.learned) c.slots)

learned_by_test : (m : Memory) (operation : Operation) (tries n : ℕ) (b : Bool) → (if b then begins m operation tries else says m (full_answer operation n)).learned ≡ m.learned
learned_by_test m operation tries n true = refl
learned_by_test m operation tries n false = refl

pub learned-goes_on : (c : Shape) (m : Memory) (operation : Operation) (tries : ℕ) → (goes_on c m operation tries).learned ≡ m.learned
learned-goes_on c m operation tries = learned_by_test m operation tries (length m.learned) (nat_lt (length m.learned) c.slots)

carries_by_test : (reply : Option Reply) (m : Memory) (operation : Operation) (tries n : ℕ) (b : Bool) → Carries reply (if b then begins m operation tries else says m (full_answer operation n)).said
carries_by_test reply m operation tries n true = tt
carries_by_test reply m (Submitting command) tries n false = tt
carries_by_test reply m Recovering tries n false = tt

-- nothing is acknowledged there
pub carries-goes_on : (reply : Option Reply) (c : Shape) (m : Memory) (operation : Operation) (tries : ℕ) → Carries reply (goes_on c m operation tries).said
carries-goes_on reply c m operation tries = carries_by_test reply m operation tries (length m.learned) (nat_lt (length m.learned) c.slots)

tries_by_test : (m : Memory) (operation : Operation) (tries : ℕ) (b : Bool) → (if b then log.says (values_of m) (outcome.Refused refusal.Outrun) else log.begins (values_of m) (operation_of operation) tries) ≡ values_of (if b then says m (Refused refusal.Outrun) else begins m operation tries)
tries_by_test m operation tries true = refl
tries_by_test m operation tries false = refl

learned_by_tries : (m : Memory) (operation : Operation) (tries : ℕ) (b : Bool) → (if b then says m (Refused refusal.Outrun) else begins m operation tries).learned ≡ m.learned
learned_by_tries m operation tries true = refl
learned_by_tries m operation tries false = refl

carries_by_tries : (m : Memory) (operation : Operation) (tries : ℕ) (b : Bool) → Carries None (if b then says m (Refused refusal.Outrun) else begins m operation tries).said
carries_by_tries m operation tries true = tt
carries_by_tries m operation tries false = tt

-- AN ATTEMPT THAT OFFERS NOTHING

module _ (c : Shape) (m : Memory) (t : Attempt) (ballot : ℕ) where
  pub values_of-by_status : (last : Option LogOutcome) (st : Status) → offered_by st ≡ None → log.by_status (values_with last m) (attempt_of t) ballot st ≡ values_of (by_status c m t ballot st)
  values_of-by_status last (Due p d) none = refl
  values_of-by_status last (Ended (attempt.Committed value)) none = absurd (cc)
  values_of-by_status last (Ended (attempt.Decided value)) none = absurd (cc)
  values_of-by_status last (Ended attempt.Empty) none = ap (λ (n : ℕ). log.says (log.with_floor (values_of m) ballot) (outcome.Recovered n)) (length_same m)
  values_of-by_status last (Ended (attempt.Outrun mbal)) none = tries_by_test (with_floor (with_floor m ballot) mbal) t.operation (t.tries - 1) (nat_le t.tries 1)
  values_of-by_status last (Ended attempt.NoMajority) none = refl
  values_of-by_status last (Ended attempt.BallotsSpent) none = refl

  pub learned-by_status : (st : Status) → offered_by st ≡ None → (by_status c m t ballot st).learned ≡ m.learned
  learned-by_status (Due p d) none = refl
  learned-by_status (Ended (attempt.Committed value)) none = absurd (cc)
  learned-by_status (Ended (attempt.Decided value)) none = absurd (cc)
  learned-by_status (Ended attempt.Empty) none = refl
  learned-by_status (Ended (attempt.Outrun mbal)) none = learned_by_tries (with_floor (with_floor m ballot) mbal) t.operation (t.tries - 1) (nat_le t.tries 1)
  learned-by_status (Ended attempt.NoMajority) none = refl
  learned-by_status (Ended attempt.BallotsSpent) none = refl

  pub carries-by_status : (st : Status) → offered_by st ≡ None → Carries None (by_status c m t ballot st).said
  carries-by_status (Due p d) none = tt
  carries-by_status (Ended (attempt.Committed value)) none = absurd (cc)
  carries-by_status (Ended (attempt.Decided value)) none = absurd (cc)
  carries-by_status (Ended attempt.Empty) none = tt
  carries-by_status (Ended (attempt.Outrun mbal)) none = carries_by_tries (with_floor (with_floor m ballot) mbal) t.operation (t.tries - 1) (nat_le t.tries 1)
  carries-by_status (Ended attempt.NoMajority) none = tt
  carries-by_status (Ended attempt.BallotsSpent) none = tt

-- A COMMITTED VALUE

passed_is : (b : Bool) (c command : Command) → (if b then Some c else None) ≡ Some command → (b ≡ true) × (c ≡ command)
passed_is true c command is = (refl, cc)
passed_is false c command is = absurd (cc)

checked_spelled : (value : List ℕ) (o : Option Command) (command : Command) → checked value o ≡ Some command → value ≡ spelling command
checked_spelled value None command is = absurd (cc)
checked_spelled value (Some c) command is =
    let told = passed_is (bytes_eq (spelling c) value) c command is in
    sym ((bytes_eq-Decides (spelling c) value).0 told.0) ∙ ap spelling told.1

-- a value that decodes to a command is its spelling
pub decoded_spelled : (value : List ℕ) (command : Command) → decoded value ≡ Some command → value ≡ spelling command
decoded_spelled value command is = checked_spelled value (command_at value) command is

abbrev learned_values : List (List ℕ) → log.Memory
learned_values l = record { learned = l; floor = 0; doing = None; said = None }

pub values_of-learns : (m : Memory) (command : Command) (value : List ℕ) → value ≡ spelling command → log.learns (values_of m) value ≡ values_of (learns m command)
values_of-learns m command value is =
    ap learned_values (ap (λ (v : List ℕ). map spelling m.learned ++ v ∷ []) is ∙ sym (map-append spelling m.learned (command ∷ [])))

placed_same : (operation : Operation) (value : List ℕ) → log.is_placed (operation_of operation) value ≡ is_submitted operation value
placed_same (Submitting command) value = refl
placed_same Recovering value = refl

module _ (c : Shape) (m : Memory) (t : Attempt) (ballot : ℕ) (value : List ℕ) where
  abbrev after_values : Bool → log.Memory
  after_values placed = if placed then log.says (log.learns (values_of m) value) (outcome.Placed (length (map spelling m.learned))) else log.goes_on c (log.learns (values_of m) value) (operation_of t.operation) t.tries

  values_of-after_learning : (command : Command) → value ≡ spelling command → (placed : Bool) → after_values placed ≡ values_of (after_learning c m t command placed)
  values_of-after_learning command is true =
      ap (λ (l : log.Memory). log.says l (outcome.Placed (length (map spelling m.learned)))) (values_of-learns m command value is)
      ∙ ap (λ (n : ℕ). log.says (values_of (learns m command)) (outcome.Placed n)) (length_same m)
  values_of-after_learning command is false =
      ap (λ (l : log.Memory). log.goes_on c l (operation_of t.operation) t.tries) (values_of-learns m command value is)
      ∙ values_of-goes_on c (learns m command) t.operation t.tries

  pub values_of-takes : (o : Option Command) → ((command : Command) → o ≡ Some command → value ≡ spelling command) → log.judged c (log.does (values_of m) (attempt_of t)) (attempt_of t) ballot value (is_some o) ≡ values_of (takes c m t ballot value o)
  values_of-takes None spelled = refl
  values_of-takes (Some command) spelled =
      ap after_values (placed_same t.operation value)
      ∙ values_of-after_learning command (spelled command refl) (is_submitted t.operation value)

  learned_after : (command : Command) (placed : Bool) → (after_learning c m t command placed).learned ≡ m.learned ++ command ∷ []
  learned_after command true = refl
  learned_after command false = learned-goes_on c (learns m command) t.operation t.tries

  pub learned-takes : (o : Option Command) → (takes c m t ballot value o).learned ≡ m.learned ++ option_list o
  learned-takes None = sym (append-nil m.learned)
  learned-takes (Some command) = learned_after command (is_submitted t.operation value)

  carries_after : (command : Command) (placed : Bool) → Carries (Some (reply_after m.learned command)) (after_learning c m t command placed).said
  carries_after command true = refl
  carries_after command false = carries-goes_on (Some (reply_after m.learned command)) c (learns m command) t.operation t.tries

  pub carries-takes : (o : Option Command) → Carries (option_map (reply_after m.learned) o) (takes c m t ballot value o).said
  carries-takes None = tt
  carries-takes (Some command) = carries_after command (is_submitted t.operation value)

-- WHAT IS OFFERED

found_true : (o : Option ℕ) (n : ℕ) → (d : ℕ) × (found o true n ≡ Some d)
found_true None n = (n, refl)
found_true (Some d) n = (d, refl)

first_of_all : (n : ℕ) (passes left : ℕ → Bool) → ((d : ℕ) → passes d ≡ true) → nat_lt n (2 * count n left) ≡ true → (d : ℕ) × (first_below n passes ≡ Some d)
first_of_all zero passes left all enough = absurd (cc)
first_of_all (suc n) passes left all enough =
    let there = found_true (first_below n passes) n in
    (there.0, ap (λ (b : Bool). found (first_below n passes) b n) (all n) ∙ there.1)

offered_through : (enough : Bool) (at : Option ℕ) (rest : Status) → (enough ≡ true → (d : ℕ) × (at ≡ Some d)) → offered_by (if enough then next_or Opening at rest else Ended attempt.NoMajority) ≡ None
offered_through false at rest there = refl
offered_through true (Some d) rest there = refl
offered_through true None rest there = let some = (there refl).1 in absurd (cc)

abbrev nothing : Answers
nothing d = []

-- an attempt that has heard nothing offers nothing
fresh_offers_none : (s : Setup) → offered_by (status s nothing) ≡ None
fresh_offers_none s =
    let at = visited s Opening nothing in
    let left : ℕ → Bool = is_left_at at s Opening nothing in
    offered_through (are_enough s left) at _ (first_of_all s.disks (λ d. waits s Opening []) left (λ d. refl))

tries_offer_none : (c : Shape) (h : ℕ) (m : log.Memory) (operation : log.Operation) (tries : ℕ) (b : Bool) → offered_in cluster_version c h (if b then log.says m (outcome.Refused refusal.Outrun) else log.begins m operation tries) (if b then log.says m (outcome.Refused refusal.Outrun) else log.begins m operation tries).doing ≡ None
tries_offer_none c h m operation tries true = refl
tries_offer_none c h m operation tries false = fresh_offers_none (log.setup_of cluster_version c h m operation)

-- what is offered once the attempt has come to a status
pub offered_after : (c : Shape) (h : ℕ) (m : log.Memory) (t : log.Doing) (ballot : ℕ) (st : Status) → status (log.setup_of cluster_version c h m t.operation) (on t.heard) ≡ st → offered_in cluster_version c h (log.by_status m t ballot st) (log.by_status m t ballot st).doing ≡ offered_by st
offered_after c h m t ballot (Due p d) is = ap offered_by is
offered_after c h m t ballot (Ended (attempt.Committed value)) is = ap offered_by is
offered_after c h m t ballot (Ended (attempt.Decided value)) is = ap offered_by is
offered_after c h m t ballot (Ended attempt.Empty) is = refl
offered_after c h m t ballot (Ended (attempt.Outrun mbal)) is = tries_offer_none c h (log.with_floor (log.with_floor m ballot) mbal) t.operation (t.tries - 1) (nat_le t.tries 1)
offered_after c h m t ballot (Ended attempt.NoMajority) is = refl
offered_after c h m t ballot (Ended attempt.BallotsSpent) is = refl

-- while it is offered, the learner waits,
waits_by : (m : log.Memory) (t : log.Doing) (ballot : ℕ) (st : Status) (value : List ℕ) → offered_by st ≡ Some value → log.by_status m t ballot st ≡ log.does m t
waits_by m t ballot (Due p d) value is = absurd (cc)
waits_by m t ballot (Ended (attempt.Committed other)) value is = refl
waits_by m t ballot (Ended (attempt.Decided other)) value is = refl
waits_by m t ballot (Ended attempt.Empty) value is = absurd (cc)
waits_by m t ballot (Ended (attempt.Outrun mbal)) value is = absurd (cc)
waits_by m t ballot (Ended attempt.NoMajority) value is = absurd (cc)
waits_by m t ballot (Ended attempt.BallotsSpent) value is = absurd (cc)

-- and the host takes it
takes_by : (c : Shape) (m : Memory) (t : Attempt) (ballot : ℕ) (st : Status) (value : List ℕ) → offered_by st ≡ Some value → by_status c m t ballot st ≡ takes c m t ballot value (decoded value)
takes_by c m t ballot (Due p d) value is = absurd (cc)
takes_by c m t ballot (Ended (attempt.Committed other)) value is = (let same : other ≡ value = cc in ap (λ (v : List ℕ). takes c m t ballot v (decoded v)) same)
takes_by c m t ballot (Ended (attempt.Decided other)) value is = (let same : other ≡ value = cc in ap (λ (v : List ℕ). takes c m t ballot v (decoded v)) same)
takes_by c m t ballot (Ended attempt.Empty) value is = absurd (cc)
takes_by c m t ballot (Ended (attempt.Outrun mbal)) value is = absurd (cc)
takes_by c m t ballot (Ended attempt.NoMajority) value is = absurd (cc)
takes_by c m t ballot (Ended attempt.BallotsSpent) value is = absurd (cc)

-- AN ANSWER IS HEARD

-- where no attempt is under way the learner is idle
none_busy : (c : Shape) (h : ℕ) (m : log.Memory) (task : Option LogTask) (a : Notes) → AreDoing cluster_version c h m None task a → is_idle_with task ≡ false → ⊥
none_busy c h m None a are busy = cc
none_busy c h m (Some task) a are busy = are

busy_with : (c : Shape) (h : ℕ) (m : log.Memory) (o : Option Doing) (task : Option LogTask) (a : Notes) → AreDoing cluster_version c h m (attempt_in o) task a → is_idle_with task ≡ false → (t : Attempt) × (o ≡ Some (Attempts t))
busy_with c h m (Some (Attempts t)) task a are busy = (t, refl)
busy_with c h m None task a are busy = absurd (none_busy c h m task a are busy)
busy_with c h m (Some (Looks t)) task a are busy = absurd (none_busy c h m task a are busy)
busy_with c h m (Some (Beats heard)) task a are busy = absurd (none_busy c h m task a are busy)
busy_with c h m (Some (Marks t)) task a are busy = absurd (none_busy c h m task a are busy)

-- where the learner is busy, the host is with an attempt
pub busy_doing : (c : Shape) (h : ℕ) (m : Memory) (k : learners.Kept) → learners.LeadsTo cluster_version c h (values_with k.said m) k → learners.is_idle k ≡ false
    → (t : Attempt) × (m.doing ≡ Some (Attempts t))
busy_doing c h m k leads busy = busy_with c h (values_with k.said m) m.doing k.task k.attempt leads.doing busy

module _ (c : Shape) (h : ℕ) (last : Option LogOutcome) (m : Memory) (t : Attempt) (x : Answered) (is : m.doing ≡ Some (Attempts t)) where
  abbrev told : Attempt
  told = with_heard t x

  abbrev setup : Setup
  setup = setup_of c h m t.operation

  abbrev stands : Status
  stands = status setup (on told.heard)

  abbrev ballot : ℕ
  ballot = taken setup (on told.heard)

  abbrev by_values : log.Memory
  by_values = log.hears cluster_version c h (values_with last m) (values_of m).doing x

  by_values_is : by_values ≡ log.by_status (values_with last m) (attempt_of told) ballot stands
  by_values_is =
      ap (λ (o : Option Doing). log.hears cluster_version c h (values_with last m) (attempt_in o) x) is
      ∙ ap (log.goes_by (values_with last m) (attempt_of told)) (setup_same c h m t.operation)

  offered_is : offered_in cluster_version c h by_values by_values.doing ≡ offered_by stands
  offered_is =
      ap (λ (l : log.Memory). offered_in cluster_version c h l l.doing) by_values_is
      ∙ offered_after c h (values_with last m) (attempt_of told) ballot stands (ap (λ (s : Setup). status s (on told.heard)) (setup_same c h m t.operation))

  -- and nothing is offered
  pub heard_none : offered_in cluster_version c h by_values by_values.doing ≡ None → (by_values ≡ values_of (hears c h m t x)) × ((hears c h m t x).learned ≡ m.learned) × Carries None (hears c h m t x).said
  heard_none offered =
      let none : offered_by stands ≡ None = sym offered_is ∙ offered in (
        by_values_is ∙ values_of-by_status c m told ballot last stands none,
        learned-by_status c m told ballot stands none,
        carries-by_status c m told ballot stands none,
      )

  -- or a value, which is judged
  pub heard_value : (value : List ℕ) → offered_in cluster_version c h by_values by_values.doing ≡ Some value → (log.takes cluster_version c h by_values by_values.doing (is_some (decoded value)) ≡ values_of (hears c h m t x)) × ((hears c h m t x).learned ≡ m.learned ++ option_list (decoded value)) × Carries (option_map (reply_after m.learned) (decoded value)) (hears c h m t x).said
  heard_value value offered =
      let there : offered_by stands ≡ Some value = sym offered_is ∙ offered in
      let waits : by_values ≡ log.does (values_with last m) (attempt_of told) = by_values_is ∙ waits_by (values_with last m) (attempt_of told) ballot stands value there in
      let is_command = is_some (decoded value) in
      let hears' : hears c h m t x ≡ takes c m told ballot value (decoded value) = takes_by c m told ballot stands value there in
      let IsCarried : Memory → Type 0 = λ n. Carries (option_map (reply_after m.learned) (decoded value)) n.said in (
        ap (λ (l : log.Memory). log.takes cluster_version c h l l.doing is_command) waits
            ∙ ap (λ (s : Setup). log.judges c (log.does (values_with last m) (attempt_of told)) (attempt_of told) (taken s (on told.heard)) (offered_by (status s (on told.heard))) is_command) (setup_same c h m t.operation)
            ∙ ap (λ (o : Option (List ℕ)). log.judges c (log.does (values_with last m) (attempt_of told)) (attempt_of told) ballot o is_command) there
            ∙ values_of-takes c m told ballot value (decoded value) (decoded_spelled value)
            ∙ ap values_of (sym hears'),
        ap (λ (n : Memory). n.learned) hears' ∙ learned-takes c m told ballot value (decoded value),
        subst IsCarried (sym hears') (carries-takes c m told ballot value (decoded value)),
      )

-- what follows for a host from what follows for its learner
pub follows : (c : Shape) (h : ℕ) (m : Memory) (l : log.Memory) (k : Kept) (reply : Option Reply) → learners.LeadsTo cluster_version c h l k.learner → l ≡ values_of m → k.prefix ≡ m.learned → k.said ≡ answer_of k.learner.said reply → Carries reply m.said
    → option_map (take c.disks) k.readings ≡ m.readings → IsDoing c h m m.doing k.beside → LeadsTo c h m k
follows c h m l k reply leads is prefix said carries readings doing =
    let Known : log.Memory → Type 0 = λ n. learners.LeadsTo cluster_version c h n k.learner in
    let known : learners.LeadsTo cluster_version c h (values_of m) k.learner = subst Known is leads in
    record {
      learner = subst (λ (o : Option LogOutcome). learners.LeadsTo cluster_version c h (values_with o m) k.learner) (sym known.said) known;
      prefix = prefix;
      said = said ∙ ap (λ (o : Option LogOutcome). answer_of o reply) known.said ∙ answer_of-outcome_of reply m.said carries;
      readings = readings;
      doing = doing;
    }

-- WHAT AN ATTEMPT LEAVES

-- an attempt makes this of a memory: its readings stay, and nothing but an attempt comes
pub record StaysOperating (m n : Memory) : Type 0 where
  pub readings : n.readings ≡ m.readings
  pub doing : IsOperating n.doing

operating_by_test : (m : Memory) (operation : Operation) (tries n : ℕ) (b : Bool) → StaysOperating m (if b then begins m operation tries else says m (full_answer operation n))
operating_by_test m operation tries n true = record { readings = refl; doing = tt }
operating_by_test m operation tries n false = record { readings = refl; doing = tt }

pub operating-goes_on : (c : Shape) (m : Memory) (operation : Operation) (tries : ℕ) → StaysOperating m (goes_on c m operation tries)
operating-goes_on c m operation tries = operating_by_test m operation tries (length m.learned) (nat_lt (length m.learned) c.slots)

operating_by_tries : (m : Memory) (operation : Operation) (tries : ℕ) (b : Bool) → StaysOperating m (if b then says m (Refused refusal.Outrun) else begins m operation tries)
operating_by_tries m operation tries true = record { readings = refl; doing = tt }
operating_by_tries m operation tries false = record { readings = refl; doing = tt }

module _ (c : Shape) (m : Memory) (t : Attempt) (ballot : ℕ) where
  operating_after : (command : Command) (placed : Bool) → StaysOperating m (after_learning c m t command placed)
  operating_after command true = record { readings = refl; doing = tt }
  operating_after command false = (let stays = operating-goes_on c (learns m command) t.operation t.tries in record { readings = stays.readings; doing = stays.doing })

  pub operating-takes : (value : List ℕ) (o : Option Command) → StaysOperating m (takes c m t ballot value o)
  operating-takes value None = record { readings = refl; doing = tt }
  operating-takes value (Some command) = operating_after command (is_submitted t.operation value)

  pub operating-by_status : (st : Status) → StaysOperating m (by_status c m t ballot st)
  operating-by_status (Due p d) = record { readings = refl; doing = tt }
  operating-by_status (Ended (attempt.Committed value)) = operating-takes value (decoded value)
  operating-by_status (Ended (attempt.Decided value)) = operating-takes value (decoded value)
  operating-by_status (Ended attempt.Empty) = record { readings = refl; doing = tt }
  operating-by_status (Ended (attempt.Outrun mbal)) =
      let stays = operating_by_tries (with_floor (with_floor m ballot) mbal) t.operation (t.tries - 1) (nat_le t.tries 1) in
      record { readings = stays.readings; doing = stays.doing }
  operating-by_status (Ended attempt.NoMajority) = record { readings = refl; doing = tt }
  operating-by_status (Ended attempt.BallotsSpent) = record { readings = refl; doing = tt }

pub operating-hears : (c : Shape) (h : ℕ) (m : Memory) (t : Attempt) (x : Answered) → StaysOperating m (hears c h m t x)
operating-hears c h m t x =
    let s = setup_of c h m t.operation in
    let told = with_heard t x in
    operating-by_status c m told (taken s (on told.heard)) (status s (on told.heard))

-- with nothing kept beside the learner
pub operating_alone : (c : Shape) (h : ℕ) (m : Memory) (k : Beside) → k ≡ beside.Nothing → IsOperating m.doing → IsDoing c h m m.doing k
operating_alone c h m k none is = subst (IsDoing c h m m.doing) (sym none) is

-- LEFT ALONE

alone_with : (c : Shape) (h : ℕ) (last : Option LogOutcome) (m : Memory) (o : Option Doing) (x : Answered) → log_alone.IsAnsweredAlone cluster_version c h (values_with last m) (attempt_in o) x → IsAnsweredAlone c h m o x
alone_with c h last m None x alone = tt
alone_with c h last m (Some (Attempts t)) x alone =
    let Served : Setup → Type 0 = λ s. log_alone.IsAnsweredIn s (t.heard ++ x ∷ []) in
    subst Served (setup_same c h m t.operation) alone
alone_with c h last m (Some (Looks t)) x alone = tt
alone_with c h last m (Some (Beats heard)) x alone = tt
alone_with c h last m (Some (Marks t)) x alone = tt

-- what the learner says of an attempt that is left alone holds for the host
pub alone : (c : Shape) (h : ℕ) (m : Memory) (k : learners.Kept) (answer : Heard) → learners.LeadsTo cluster_version c h (values_with k.said m) k → ((n : log.Memory) → learners.LeadsTo cluster_version c h n k → log_alone.IsAnsweredAlone cluster_version c h n n.doing (record { disk = k.attempt.disk; heard = answer })) → IsAnsweredAlone c h m m.doing (record { disk = k.attempt.disk; heard = answer })
alone c h m k answer leads served = alone_with c h k.said m m.doing (record { disk = k.attempt.disk; heard = answer }) (served (values_with k.said m) leads)

-- BUSY WITH ONE THING

pub and_true : (b : Bool) → (b && true) ≡ false → b ≡ false
and_true true is = is
and_true false is = refl

and_false : (b : Bool) → (b && false) ≡ false
and_false true = refl
and_false false = refl

operating_idle : (c : Shape) (h : ℕ) (l : log.Memory) (o : Option Doing) (task : Option LogTask) (a : Notes) → AreDoing cluster_version c h l (attempt_in o) task a → IsOperating o → (is_idle_with task && true) ≡ is_none o
operating_idle c h l None None a are is = refl
operating_idle c h l (Some (Attempts t)) (Some task) a are is = refl
operating_idle c h l None (Some task) a are is = absurd are
operating_idle c h l (Some (Attempts t)) None a are is = absurd are
operating_idle c h l (Some (Looks t)) task a are is = absurd is
operating_idle c h l (Some (Beats heard)) task a are is = absurd is
operating_idle c h l (Some (Marks t)) task a are is = absurd is

idle_by : (c : Shape) (h : ℕ) (m : Memory) (l : log.Memory) (task : Option LogTask) (a : Notes) (k : Beside) → AreDoing cluster_version c h l (attempt_in m.doing) task a → IsDoing c h m m.doing k → (is_idle_with task && is_nothing k) ≡ is_none m.doing
idle_by c h m l task a beside.Nothing are is = operating_idle c h l m.doing task a are is
idle_by c h m l task a (beside.Look notes) are is = and_false (is_idle_with task) ∙ sym (ap is_none is.1)
idle_by c h m l task a (beside.Beat notes) are is = and_false (is_idle_with task) ∙ sym (ap is_none is.1)
idle_by c h m l task a (beside.Mark notes) are is = and_false (is_idle_with task) ∙ sym (ap is_none is.1)

-- the host is idle where what is kept of it is
pub idle_is : (c : Shape) (h : ℕ) (m : Memory) (k : Kept) → LeadsTo c h m k → is_idle k ≡ hosts.is_idle m
idle_is c h m k is = idle_by c h m (values_with k.learner.said m) k.learner.task k.learner.attempt k.beside is.learner.doing is.doing

-- an attempt hears of an answer what its parts tell
pub heard_same : (heard : code_heard.Heard (List ℕ)) → heard_of cluster_version heard ≡ heard_as (device_answer heard)
heard_same (code_answer.Booted boot) = refl
heard_same code_answer.Done = refl
heard_same (code_answer.Told row) = refl
heard_same (code_answer.Fault fault) = refl

none_is : (o : Option Doing) → is_none o ≡ true → o ≡ None
none_is None is = refl
none_is (Some doing) is = absurd (cc)

nothing_is : (k : Beside) → is_nothing k ≡ true → k ≡ beside.Nothing
nothing_is beside.Nothing is = refl
nothing_is (beside.Look notes) is = absurd (cc)
nothing_is (beside.Beat notes) is = absurd (cc)
nothing_is (beside.Mark notes) is = absurd (cc)

-- nothing is under way
pub record Idles (k : Kept) : Type 0 where
  pub learner : learners.is_idle k.learner ≡ true
  pub alone : k.beside ≡ beside.Nothing

pub idles : (k : Kept) → is_idle k ≡ true → Idles k
idles k idle = (let both = and_parts (learners.is_idle k.learner) (is_nothing k.beside) idle in record { learner = both.0; alone = nothing_is k.beside both.1 })

pub idle_doing : (c : Shape) (h : ℕ) (m : Memory) (k : Kept) → LeadsTo c h m k → is_idle k ≡ true → m.doing ≡ None
idle_doing c h m k leads idle = none_is m.doing (sym (idle_is c h m k leads) ∙ idle)

-- what is kept in the fields
abbrev pub kept_in : Inside → Kept
kept_in p = record { learner = p.learner; prefix = p.prefix.items; said = p.said; beside = p.beside; readings = p.readings }

-- the learner of a host that has no attempt under way knows the same once the host has none again
pub learner_still : (c : Shape) (h : ℕ) (m n : Memory) (k : learners.Kept) → learners.LeadsTo cluster_version c h (values_with k.said m) k → attempt_in m.doing ≡ None → attempt_in n.doing ≡ None → n.learned ≡ m.learned → n.floor ≡ m.floor → learners.LeadsTo cluster_version c h (values_with k.said n) k
learner_still c h m n k leads was is learned floor =
    let same : values_with k.said m ≡ values_with k.said n = (λ i. record { learned = map spelling (sym learned i); floor = sym floor i; doing = (was ∙ sym is) i; said = k.said }) in
    subst (λ (l : log.Memory). learners.LeadsTo cluster_version c h l k) same leads
