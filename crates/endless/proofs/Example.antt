-- Two epochs, computed: each is a run, and hosts keep to them.
use Rattle.std.specs.Prelude.{not, map, take, slice_get, if◌then◌else◌}
use Rattle.std.proofs.Common.{ℕ, zero, suc, ◌+◌, ◌≡◌, ◌==◌, ◌≤◌, ◌<◌, ◌&&◌, Bool, true, false, cond, Option, Some, List, [], ◌∷◌, ◌++◌, length, refl, sym, ◌∙◌, ap, subst, ◌⊎◌, inl, inr, arith, append-nil}
use Rattle.std.proofs.lemmas.List.{length-map}
use Rattle.std.proofs.lemmas.Bool.{cases_lt, eqb-true, eq-eqb, ne_eqb}
use Rattle.disk.specs.Simulated.{fresh_disk}
use Rattle.torn_block.specs.Block.{sequence_of, body_of, number_bytes, tail_with}
use Rattle.torn_block.specs.Place.{copy_in}
use Rattle.paxos_block.specs.Row.{decoded_row}
use Rattle.paxos_block.specs.Saying.{zeros, heading, body_saying, number_at, claim_of, is_said}
use Rattle.lock_command.specs.declared.command.Command.{Command}
use Rattle.lock_command.specs.Command.{number, is_carried, is_submittable}
use Rattle.lock_command.specs.Locks.{settled}
use Rattle.lock_command.specs.Reading.{lock_at, request_at, mode_of, name_at, value_at, enqueue_at, answer_at, told_at, carried_client_at, action_at, command_at}
use Rattle.lock_table.specs.Apply.{applied, granted, table_after}
use Rattle.lock_table.specs.Carrying.{carried_over}
use Rattle.lock_table.specs.Picture.{Shown, IsPictureOf, pictured}
use Rattle.lock_table.proofs.Unique.{one_shown}
use Rattle.host.specs.declared.answer.HostAnswer.TheVariants.{Ack}
use Rattle.host.specs.declared.task.Task.TheVariants.{Submit}
use Rattle.host.specs.Host.{Operation, Submitting, Recovering, Attempt, Doing, Attempts, Memory, Host, Stopped, Running, learned_of, said_of}
use Rattle.world.specs.Entry as entries
use Rattle.world.specs.Entry.{Filled, Called, is_of, of_host, host_step, host_after}
use Rattle.world.specs.World.{IsRun}
use Rattle.world.specs.Chosen.{at, migrated, IsAcknowledgedAt}
use Rattle.world.specs.Headline.{prefix_at}
use Rattle.world.specs.Happens.{Event, run}
use Rattle.world.specs.Examples.{one_disk, takes_db}
use Rattle.world.proofs.Runs.{run_is_run}
use Rattle.world.proofs.ShortRuns.{operation_in, operation_of, busy_with}
use Rattle.world_safety.specs.Tracks.{IsTrue, IsTrueOf, IsTrueDoing}
use Rattle.world_safety.proofs.Claims.Renewing.{full_logs_are_final}
use Rattle.world_safety.proofs.Runs.Tracks.{all_true}
use Rattle.endless.specs.Epochs.{IsCallAt}
use Rattle.endless.specs.Examples.{releases_db, takes_db_again, carries_client, submitting_both, first_epoch, second_epoch, two_epochs}
use Rattle.endless.specs.Headline.{IsIn, learned_in, CarriesInto, IsAcknowledgedIn, IsDue, SubmitsWhatIsDue, KeepsToEpochs}
use Rattle.endless.specs.Lived.{Lived, In, Crash, Loss, part, now, RunsIn, IsWholeBy}
use Rattle.endless.proofs.Going.{has_picture}
use Rattle.endless.proofs.Lists.{prefix_own, prefix_get, get_at, item_below}

-- WHAT IS COMPUTED

-- the commands that are begun in a list
abbrev command_in : Filled → List Command
command_in (entries.Begin h (Submit command tries)) = command ∷ []
command_in other = []

abbrev commands_in : List Filled → List Command
commands_in [] = []
commands_in (e ∷ es) = command_in e ++ commands_in es

-- all is done by host 0
abbrev all_own : List Filled → Bool
all_own [] = true
all_own (e ∷ es) = is_of 0 e && all_own es

-- what carries a table over is submitted where nothing is learned yet, and nowhere else
abbrev operation_in_order : ℕ → Operation → Bool
operation_in_order n (Submitting command) = if is_carried command.action then n == 0 else not (n == 0)
operation_in_order n Recovering = true

abbrev doing_in_order : ℕ → Option Doing → Bool
doing_in_order n (Some (Attempts t)) = operation_in_order n t.operation
doing_in_order n other = true

abbrev in_order : Host → Bool
in_order Stopped = true
in_order (Running m) = doing_in_order (length m.learned) m.doing

-- so it is at each place
abbrev all_in_order : Host → List Filled → Bool
all_in_order host [] = in_order host
all_in_order host (e ∷ es) = in_order host && all_in_order (if is_of 0 e then host_step one_disk 0 host e else host) es

many_first : length first_epoch ≡ 37
unfolding first_epoch fresh_disk sequence_of body_of number_bytes tail_with copy_in decoded_row zeros heading body_saying number_at claim_of is_said number lock_at request_at mode_of name_at value_at enqueue_at action_at command_at applied settled
many_first = refl

learned_first : prefix_at one_disk first_epoch 37 0 ≡ takes_db ∷ releases_db ∷ []
unfolding first_epoch fresh_disk sequence_of body_of number_bytes tail_with copy_in decoded_row zeros heading body_saying number_at claim_of is_said number lock_at request_at mode_of name_at value_at enqueue_at action_at command_at applied settled
learned_first = refl

commands_first : commands_in first_epoch ≡ takes_db ∷ releases_db ∷ []
unfolding first_epoch fresh_disk sequence_of body_of number_bytes tail_with copy_in decoded_row zeros heading body_saying number_at claim_of is_said number lock_at request_at mode_of name_at value_at enqueue_at action_at command_at applied settled
commands_first = refl

learned_second : prefix_at one_disk second_epoch 37 0 ≡ carries_client ∷ takes_db_again ∷ []
unfolding second_epoch fresh_disk sequence_of body_of number_bytes tail_with copy_in decoded_row zeros heading body_saying number_at claim_of is_said number lock_at request_at mode_of name_at enqueue_at answer_at told_at carried_client_at action_at command_at applied
learned_second = refl

commands_second : commands_in second_epoch ≡ carries_client ∷ takes_db_again ∷ []
unfolding second_epoch fresh_disk sequence_of body_of number_bytes tail_with copy_in decoded_row zeros heading body_saying number_at claim_of is_said number lock_at request_at mode_of name_at enqueue_at answer_at told_at carried_client_at action_at command_at applied
commands_second = refl

own_second : all_own second_epoch ≡ true
unfolding second_epoch fresh_disk sequence_of body_of number_bytes tail_with copy_in decoded_row zeros heading body_saying number_at claim_of is_said number lock_at request_at mode_of name_at enqueue_at answer_at told_at carried_client_at action_at command_at applied
own_second = refl

order_second : all_in_order Stopped second_epoch ≡ true
unfolding second_epoch fresh_disk sequence_of body_of number_bytes tail_with copy_in decoded_row zeros heading body_saying number_at claim_of is_said number lock_at request_at mode_of name_at enqueue_at answer_at told_at carried_client_at action_at command_at applied
order_second = refl

own_first : all_own first_epoch ≡ true
unfolding first_epoch fresh_disk sequence_of body_of number_bytes tail_with copy_in decoded_row zeros heading body_saying number_at claim_of is_said number lock_at request_at mode_of name_at value_at enqueue_at action_at command_at applied settled
own_first = refl

many_second : length second_epoch ≡ 37
unfolding second_epoch fresh_disk sequence_of body_of number_bytes tail_with copy_in decoded_row zeros heading body_saying number_at claim_of is_said number lock_at request_at mode_of name_at enqueue_at answer_at told_at carried_client_at action_at command_at applied
many_second = refl

-- with entry 18 of the first epoch its first command is acknowledged, and with the last entry of the second one its last command
said_first : said_of ((at one_disk first_epoch 19).host 0) ≡ Some (Ack 0 granted)
unfolding first_epoch fresh_disk sequence_of body_of number_bytes tail_with copy_in decoded_row zeros heading body_saying number_at claim_of is_said number lock_at request_at mode_of name_at value_at enqueue_at action_at command_at applied settled
said_first = refl

submits_first : operation_of ((at one_disk first_epoch 18).host 0) ≡ Some (Submitting takes_db)
unfolding operation_in first_epoch fresh_disk sequence_of body_of number_bytes tail_with copy_in decoded_row zeros heading body_saying number_at claim_of is_said number lock_at request_at mode_of name_at value_at enqueue_at action_at command_at applied settled
submits_first = refl

said_second : said_of ((at one_disk second_epoch 37).host 0) ≡ Some (Ack 1 granted)
unfolding second_epoch fresh_disk sequence_of body_of number_bytes tail_with copy_in decoded_row zeros heading body_saying number_at claim_of is_said number lock_at request_at mode_of name_at enqueue_at answer_at told_at carried_client_at action_at command_at applied
said_second = refl

submits_second : operation_of ((at one_disk second_epoch 36).host 0) ≡ Some (Submitting takes_db_again)
unfolding operation_in second_epoch fresh_disk sequence_of body_of number_bytes tail_with copy_in decoded_row zeros heading body_saying number_at claim_of is_said number lock_at request_at mode_of name_at enqueue_at answer_at told_at carried_client_at action_at command_at applied
submits_second = refl

over_first : carried_over (pictured (table_after (takes_db ∷ releases_db ∷ []))) ≡ carries_client ∷ []
unfolding pictured applied settled
over_first = refl

over_second : length (carried_over (pictured (table_after (carries_client ∷ takes_db_again ∷ [])))) ≡ 2
unfolding pictured applied
over_second = refl

-- what events make is a run
record IsMade (log : List Filled) : Type 0 where
  is : IsRun one_disk log

made_by : (events : List Event) → IsMade (run one_disk events)
made_by events = record { is = run_is_run one_disk events }

first_made : IsMade first_epoch
unfolding first_epoch
first_made = made_by (submitting_both takes_db releases_db)

second_made : IsMade second_epoch
unfolding second_epoch
second_made = made_by (submitting_both carries_client takes_db_again)

-- EACH EPOCH

part_append : (e : ℕ) (a b : List Lived) → part e (a ++ b) ≡ part e a ++ part e b
part_append e [] b = refl
part_append e (Crash disk left ∷ a) b = ap (λ (l : List Filled). entries.Crashed disk (left e) ∷ l) (part_append e a b)
part_append e (Loss disk ∷ a) b = ap (λ (l : List Filled). entries.Lost disk ∷ l) (part_append e a b)
part_append e (In epoch entry ∷ a) b = either (epoch == e) (part_append e a b)
  where
    either : (t : Bool) → part e (a ++ b) ≡ part e a ++ part e b → cond t (entry ∷ part e (a ++ b)) (part e (a ++ b)) ≡ cond t (entry ∷ part e a) (part e a) ++ part e b
    either true rest = ap (λ (l : List Filled). entry ∷ l) rest
    either false rest = rest

part_all : (e : ℕ) (log : List Filled) → part e (map (In e) log) ≡ log
part_all e [] = refl
part_all e (x ∷ log) = ap (λ (t : Bool). cond t (x ∷ part e (map (In e) log)) (part e (map (In e) log))) (eq-eqb e e refl) ∙ ap (λ (l : List Filled). x ∷ l) (part_all e log)

part_none : (d e : ℕ) → (e == d) ≡ false → (log : List Filled) → part d (map (In e) log) ≡ []
part_none d e other [] = refl
part_none d e other (x ∷ log) = ap (λ (t : Bool). cond t (x ∷ part d (map (In e) log)) (part d (map (In e) log))) other ∙ part_none d e other log

first_is : part 0 two_epochs ≡ first_epoch
first_is =
    part_append 0 (map (In 0) first_epoch) (map (In 1) second_epoch)
    ∙ ap (λ (l : List Filled). part 0 (map (In 0) first_epoch) ++ l) (part_none 0 1 refl second_epoch) ∙ append-nil (part 0 (map (In 0) first_epoch)) ∙ part_all 0 first_epoch

second_is : part 1 two_epochs ≡ second_epoch
second_is =
    part_append 1 (map (In 0) first_epoch) (map (In 1) second_epoch)
    ∙ ap (λ (l : List Filled). l ++ part 1 (map (In 1) second_epoch)) (part_none 1 0 refl first_epoch) ∙ part_all 1 second_epoch

none_is : (e : ℕ) → 1 < e → part e two_epochs ≡ []
none_is e later =
    part_append e (map (In 0) first_epoch) (map (In 1) second_epoch)
    ∙ ap (λ (l : List Filled). l ++ part e (map (In 1) second_epoch)) (part_none e 0 (ne_eqb 0 e (λ same. omega (arith, later, same))) first_epoch)
    ∙ part_none e 1 (ne_eqb 1 e (λ same. omega (arith, later, same))) second_epoch

-- before the second epoch nothing of it is done, and all of the first
now_second : (log : List Filled) (more : List Lived) (i : ℕ) → i ≤ length log → now 1 i (map (In 0) log ++ more) ≡ 0
now_second log more zero within = refl
now_second [] more (suc i) within = absurd (omega (arith, within))
now_second (x ∷ log) more (suc i) within = now_second log more i (omega (arith, within))

now_first : (log : List Filled) (more : List Lived) (i : ℕ) → i ≤ length log → now 0 i (map (In 0) log ++ more) ≡ i
now_first log more zero within = refl
now_first [] more (suc i) within = absurd (omega (arith, within))
now_first (x ∷ log) more (suc i) within = ap suc (now_first log more i (omega (arith, within)))

pub runs : (e : ℕ) → IsRun one_disk (part e two_epochs)
runs zero = subst (IsRun one_disk) (sym first_is) first_made.is
runs (suc zero) = subst (IsRun one_disk) (sym second_is) second_made.is
runs (suc (suc e)) = subst (IsRun one_disk) (sym (none_is (suc (suc e)) (omega arith))) tt

-- a list that begins with a start begins with no migration
begins_first : migrated first_epoch ≡ []
unfolding first_epoch fresh_disk sequence_of body_of number_bytes tail_with copy_in decoded_row zeros heading body_saying number_at claim_of is_said number lock_at request_at mode_of name_at value_at enqueue_at action_at command_at applied settled
begins_first = refl

begins_second : migrated second_epoch ≡ []
unfolding second_epoch fresh_disk sequence_of body_of number_bytes tail_with copy_in decoded_row zeros heading body_saying number_at claim_of is_said number lock_at request_at mode_of name_at enqueue_at answer_at told_at carried_client_at action_at command_at applied
begins_second = refl

pub fresh : (e : ℕ) → migrated (part e two_epochs) ≡ []
fresh zero = ap migrated first_is ∙ begins_first
fresh (suc zero) = ap migrated second_is ∙ begins_second
fresh (suc (suc e)) = ap migrated (none_is (suc (suc e)) (omega arith))

-- WHO RUNS

nobody_at_first : (log : List Filled) (h : ℕ) → (at one_disk log 0).host h ≡ Stopped
nobody_at_first log h = refl

nobody_in_none : (i h : ℕ) → (at one_disk [] i).host h ≡ Stopped
nobody_in_none zero h = refl
nobody_in_none (suc i) h = refl

none_runs : (e i h : ℕ) (memory : Memory) → 1 < e → RunsIn one_disk two_epochs i e h memory → ⊥
none_runs e i h memory later running =
    let stopped : Running memory ≡ Stopped = sym running ∙ ap (λ (l : List Filled). (at one_disk l (now e i two_epochs)).host h) (none_is e later) ∙ nobody_in_none (now e i two_epochs) h in
    cc

second_behind : (i h : ℕ) (memory : Memory) → RunsIn one_disk two_epochs i 1 h memory → 37 < i
second_behind i h memory running = elim (cases_lt 37 i) [
  | inl behind ↦ behind
  | inr not_behind ↦
      (let many = many_first in
      let early = now_second first_epoch (map (In 1) second_epoch) i (omega (arith, many, not_behind)) in
      let stopped : Running memory ≡ Stopped = sym running ∙ ap (λ (n : ℕ). (at one_disk (part 1 two_epochs) n).host h) early ∙ nobody_at_first (part 1 two_epochs) h in
      absurd (cc))
]

-- whoever has learned something is running
runs_who_learned : (host : Host) (first : Command) (rest : List Command) → learned_of host ≡ first ∷ rest → (m : Memory) × (host ≡ Running m) × (m.learned ≡ first ∷ rest)
runs_who_learned Stopped first rest is = absurd (cc)
runs_who_learned (Running m) first rest is = (m, refl, is)

-- host 0 has learned the first epoch whole before the second begins
learned_there : (i h : ℕ) → i ≤ 37 → learned_in one_disk two_epochs i 0 h ≡ prefix_at one_disk first_epoch i h
learned_there i h within =
    let many = many_first in
    ap (λ (l : List Filled). prefix_at one_disk l (now 0 i two_epochs) h) first_is ∙ ap (λ (n : ℕ). prefix_at one_disk first_epoch n h) (now_first first_epoch (map (In 1) second_epoch) i (omega (arith, many, within)))

first_whole : (i : ℕ) → 37 < i → IsWholeBy one_disk two_epochs 0 i
first_whole i behind =
    let learned = learned_there 37 0 (omega arith) ∙ learned_first in
    let who = runs_who_learned ((at one_disk (part 0 two_epochs) (now 0 37 two_epochs)).host 0) takes_db (releases_db ∷ []) learned in
    record { place = 37; by = omega (arith, behind); host = 0; memory = who.0; runs = who.1; whole = ap (λ (l : List Command). length l) who.2 }

in_turn : (i e h : ℕ) (memory : Memory) → RunsIn one_disk two_epochs i (suc e) h memory → IsWholeBy one_disk two_epochs e i
in_turn i zero h memory running = first_whole i (second_behind i h memory running)
in_turn i (suc e) h memory running = absurd (none_runs (suc (suc e)) i h memory (omega arith) running)

-- WHAT CARRIES TABLES OVER

-- whoever has learned both commands of an epoch carries over what they left
over_is : (log : List Filled) (commands over : List Command) (i h : ℕ) (shown : Shown) → IsRun one_disk log → prefix_at one_disk log 37 0 ≡ commands → length commands ≡ 2 → length (prefix_at one_disk log i h) ≡ 2
    → IsPictureOf shown (table_after (prefix_at one_disk log i h)) → over ≡ carried_over shown → over ≡ carried_over (pictured (table_after commands))
over_is log commands over i h shown is_run learned many full is carried_is =
    let same : prefix_at one_disk log i h ≡ commands = full_logs_are_final one_disk log is_run i 37 h 0 full (ap (λ (l : List Command). length l) learned ∙ many) ∙ learned in
    let there : IsPictureOf shown (table_after commands) = subst (λ (l : List Command). IsPictureOf shown (table_after l)) same is in
    carried_is ∙ ap carried_over (one_shown (table_after commands) shown (pictured (table_after commands)) there (has_picture commands))

over_one : (over : List Command) → CarriesInto one_disk two_epochs 1 over → over ≡ carries_client ∷ []
over_one over (i, h, shown, full, is, carried_is) =
    let there = ap (λ (l : List Filled). prefix_at one_disk l (now 0 i two_epochs) h) first_is in
    over_is first_epoch (takes_db ∷ releases_db ∷ []) over (now 0 i two_epochs) h shown first_made.is learned_first refl
    (ap (λ (l : List Command). length l) (sym there) ∙ full) (subst (λ (l : List Command). IsPictureOf shown (table_after l)) there is) carried_is ∙ over_first

over_two : (over : List Command) → CarriesInto one_disk two_epochs 2 over → length over ≡ 2
over_two over (i, h, shown, full, is, carried_is) =
    let there = ap (λ (l : List Filled). prefix_at one_disk l (now 1 i two_epochs) h) second_is in
    ap (λ (l : List Command). length l)
    (over_is second_epoch (carries_client ∷ takes_db_again ∷ []) over (now 1 i two_epochs) h shown second_made.is learned_second refl
    (ap (λ (l : List Command). length l) (sym there) ∙ full) (subst (λ (l : List Command). IsPictureOf shown (table_after l)) there is) carried_is) ∙ over_second

-- nobody has learned a later epoch whole
over_none : (e : ℕ) (over : List Command) → CarriesInto one_disk two_epochs (suc (suc (suc e))) over → ⊥
over_none e over (i, h, shown, full, is, carried_is) =
    let d = suc (suc e) in
    let nothing : learned_in one_disk two_epochs i d h ≡ [] =
    ap (λ (l : List Filled). prefix_at one_disk l (now d i two_epochs) h) (none_is d (omega arith)) ∙ ap learned_of (nobody_in_none (now d i two_epochs) h) in
    let both : 0 ≡ 2 = sym (ap (λ (l : List Command). length l) nothing) ∙ full in
    omega (arith, both)

fits : (e : ℕ) (over : List Command) → CarriesInto one_disk two_epochs e over → length over ≤ 2
fits zero over is = let many = ap (λ (l : List Command). length l) is in omega (arith, many)
fits (suc zero) over is = let many = ap (λ (l : List Command). length l) (over_one over is) in omega (arith, many)
fits (suc (suc zero)) over is = let many = over_two over is in omega (arith, many)
fits (suc (suc (suc e))) over is = absurd (over_none e over is)

-- WHAT IS SUBMITTED

further : (a b : List Command) (k : ℕ) (x : Command) → slice_get b k ≡ Some x → (j : ℕ) × (slice_get (a ++ b) j ≡ Some x)
further [] b k x found = (k, found)
further (y ∷ a) b k x found = let rest = further a b k x found in (suc rest.0, rest.1)

-- what a host begins to submit is among the commands that are begun
among : (log : List Filled) (k h tries : ℕ) (command : Command) → slice_get log k ≡ Some (entries.Begin h (Submit command tries)) → (j : ℕ) × (slice_get (commands_in log) j ≡ Some command)
among [] k h tries command found = absurd (cc)
among (x ∷ log) zero h tries command found =
    let same : x ≡ entries.Begin h (Submit command tries) = cc in
    (0, ap (λ (y : Filled). slice_get (command_in y ++ commands_in log) 0) same)
among (x ∷ log) (suc k) h tries command found = let rest = among log k h tries command found in further (command_in x) (commands_in log) rest.0 command rest.1

-- what is submitted was begun
module _ (log : List Filled) (is_run : IsRun one_disk log) (i h : ℕ) (memory : Memory) (doing : Attempt) (command : Command) (running : (at one_disk log i).host h ≡ Running memory) (does : memory.doing ≡ Some (Attempts doing)) (submits : doing.operation ≡ Submitting command) where
  submitted : (j : ℕ) × (slice_get (commands_in log) j ≡ Some command)
  submitted =
      let known : IsTrue one_disk log i h memory = subst (IsTrueOf one_disk log i h) running (all_true one_disk log is_run i h) in
      let under_way : IsTrueDoing one_disk log i h (length memory.learned) (Some (Attempts doing)) = subst (IsTrueDoing one_disk log i h (length memory.learned)) does known.doing in
      let begun = under_way.0 command submits in
      among log begun.place h begun.tries command begun.entry

one_of_two : (a b x : Command) (j : ℕ) → slice_get (a ∷ b ∷ []) j ≡ Some x → (a ≡ x) ⊎ (b ≡ x)
one_of_two a b x zero is = inl (cc)
one_of_two a b x (suc zero) is = inr (cc)
one_of_two a b x (suc (suc j)) is = absurd (cc)

due_first : SubmitsWhatIsDue one_disk first_epoch []
due_first i h memory doing command called running does submits =
    let found = submitted first_epoch first_made.is i h memory doing command running does submits in
    elim (one_of_two takes_db releases_db command found.0 (ap (λ (l : List Command). slice_get l found.0) (sym commands_first) ∙ found.1)) [
      | inl same ↦ subst (λ (x : Command). is_submittable x ≡ true) same refl
      | inr same ↦ subst (λ (x : Command). is_submittable x ≡ true) same refl
    ]

both_true : (a b : Bool) → (a && b) ≡ true → (a ≡ true) × (b ≡ true)
both_true true b is = (refl, is)
both_true false b is = absurd (cc)

-- in the second epoch it is host 0 that calls
caller : (log : List Filled) (i h : ℕ) → all_own log ≡ true → IsCallAt log i h → h ≡ 0
caller [] i h own called = absurd (let none = called.4 in cc)
caller (x ∷ log) zero h own called =
    let here : x ≡ Called h called.0 called.1 called.2 called.3 = (let some = called.4 in cc) in
    eqb-true h 0 (ap (is_of 0) (sym here) ∙ (both_true (is_of 0 x) (all_own log) own).0)
caller (x ∷ log) (suc i) h own called = caller log i h (both_true (is_of 0 x) (all_own log) own).1 called

-- it submits in order at each place
order_at : (host : Host) (log : List Filled) (i : ℕ) → all_in_order host log ≡ true → in_order (host_after one_disk 0 host (of_host 0 (take i log))) ≡ true
order_at host [] zero is = is
order_at host [] (suc i) is = is
order_at host (x ∷ log) zero is = (both_true (in_order host) (all_in_order (if is_of 0 x then host_step one_disk 0 host x else host) log) is).0
order_at host (x ∷ log) (suc i) is =
    either (is_of 0 x) (λ next. order_at next log i) (both_true (in_order host) (all_in_order (if is_of 0 x then host_step one_disk 0 host x else host) log) is).1
  where
    either : (t : Bool) → ((next : Host) → all_in_order next log ≡ true → in_order (host_after one_disk 0 next (of_host 0 (take i log))) ≡ true) → all_in_order (cond t (host_step one_disk 0 host x) host) log ≡ true
        → in_order (host_after one_disk 0 host (cond t (x ∷ of_host 0 (take i log)) (of_host 0 (take i log)))) ≡ true
    either true rest same = rest (host_step one_disk 0 host x) same
    either false rest same = rest host same

due_by : (n : ℕ) (command : Command) → (carries_client ≡ command) ⊎ (takes_db_again ≡ command) → operation_in_order n (Submitting command) ≡ true → IsDue (slice_get (carries_client ∷ []) n) command
due_by zero command (inl same) order = sym same
due_by (suc n) command (inl same) order =
    let other : (suc n == 0) ≡ true = subst (λ (x : Command). operation_in_order (suc n) (Submitting x) ≡ true) (sym same) order in
    let none = eqb-true (suc n) 0 other in
    absurd (omega (arith, none))
due_by zero command (inr same) order = absurd (let other : operation_in_order 0 (Submitting takes_db_again) ≡ true = subst (λ (x : Command). operation_in_order 0 (Submitting x) ≡ true) (sym same) order in cc)
due_by (suc n) command (inr same) order = subst (λ (x : Command). is_submittable x ≡ true) same refl

due_second : SubmitsWhatIsDue one_disk second_epoch (carries_client ∷ [])
due_second i h memory doing command called running does submits =
    let found = submitted second_epoch second_made.is i h memory doing command running does submits in
    let is_zero = caller second_epoch i h own_second called in
    let running_zero : (at one_disk second_epoch i).host 0 ≡ Running memory = subst (λ (g : ℕ). (at one_disk second_epoch i).host g ≡ Running memory) is_zero running in
    let order : operation_in_order (length memory.learned) (Submitting command) ≡ true =
    ap (operation_in_order (length memory.learned)) (sym submits) ∙ ap (doing_in_order (length memory.learned)) (sym does) ∙ ap in_order (sym running_zero) ∙ order_at Stopped second_epoch i order_second in
    due_by (length memory.learned) command (one_of_two carries_client takes_db_again command found.0 (ap (λ (l : List Command). slice_get l found.0) (sym commands_second) ∙ found.1)) order

due_none : (over : List Command) → SubmitsWhatIsDue one_disk [] over
due_none over i h memory doing command called running does submits = absurd (let none = called.4 in cc)

carries : (e : ℕ) (over : List Command) → CarriesInto one_disk two_epochs e over → SubmitsWhatIsDue one_disk (part e two_epochs) over
carries zero over is = subst (λ (l : List Filled). SubmitsWhatIsDue one_disk l over) (sym first_is) (subst (SubmitsWhatIsDue one_disk first_epoch) (sym is) due_first)
carries (suc zero) over is = subst (λ (l : List Filled). SubmitsWhatIsDue one_disk l over) (sym second_is) (subst (SubmitsWhatIsDue one_disk second_epoch) (sym (over_one over is)) due_second)
carries (suc (suc e)) over is = subst (λ (l : List Filled). SubmitsWhatIsDue one_disk l over) (sym (none_is (suc (suc e)) (omega arith))) (due_none over)

pub keeps : KeepsToEpochs one_disk two_epochs
keeps =
    record {
      in_turn = in_turn;
      carries = carries;
      fits = fits;
    }

-- WHAT IS ACKNOWLEDGED

own_at : (log : List Filled) (i : ℕ) (x : Filled) → all_own log ≡ true → slice_get log i ≡ Some x → is_of 0 x ≡ true
own_at [] i x own found = absurd (cc)
own_at (y ∷ log) zero x own found = let same : y ≡ x = cc in ap (is_of 0) (sym same) ∙ (both_true (is_of 0 y) (all_own log) own).0
own_at (y ∷ log) (suc i) x own found = own_at log i x (both_true (is_of 0 y) (all_own log) own).1 found

-- host 0 acknowledges at a place what it submits there
acks_at : (log : List Filled) (i j slot : ℕ) (command : Command) → all_own log ≡ true → i < length log → j ≡ i + 1 → said_of ((at one_disk log j).host 0) ≡ Some (Ack slot granted) → operation_of ((at one_disk log i).host 0) ≡ Some (Submitting command)
    → IsAcknowledgedAt one_disk log i 0 slot command granted
acks_at log i j slot command own within next said submits =
    let entry = item_below log i within in
    let busy = busy_with ((at one_disk log i).host 0) (Submitting command) submits in
    record {
      says = record { entry = entry.0; is = entry.1; of_host = own_at log i entry.0 own entry.1; says = ap (λ (n : ℕ). said_of ((at one_disk log n).host 0)) (sym next) ∙ said };
      memory = busy.memory;
      running = busy.running;
      doing = busy.doing;
      does = busy.does;
      submitting = busy.is;
    }

in_epoch : (e : ℕ) (log : List Filled) (i : ℕ) (x : Filled) → slice_get log i ≡ Some x → slice_get (map (In e) log) i ≡ Some (In e x)
in_epoch e [] i x found = absurd (cc)
in_epoch e (y ∷ log) zero x found = let same : y ≡ x = cc in ap (λ (z : Filled). Some (In e z)) same
in_epoch e (y ∷ log) (suc i) x found = in_epoch e log i x found

many_in : (e : ℕ) (log : List Filled) → length (map (In e) log) ≡ length log
many_in e log = length-map log (In e)

now_behind : (log : List Filled) (more : List Lived) (k i : ℕ) → i ≡ length log + k → now 1 i (map (In 0) log ++ more) ≡ now 1 k more
now_behind [] more k i is = let same : i ≡ k = omega (arith, is) in ap (λ (n : ℕ). now 1 n more) same
now_behind (x ∷ log) more k zero is = absurd (omega (arith, is))
now_behind (x ∷ log) more k (suc i) is = now_behind log more k i (omega (arith, is))

now_own : (log : List Filled) (i : ℕ) → i ≤ length log → now 1 i (map (In 1) log) ≡ i
now_own log zero within = refl
now_own [] (suc i) within = absurd (omega (arith, within))
now_own (x ∷ log) (suc i) within = ap suc (now_own log i (omega (arith, within)))

first_has : (n : ℕ) → n < 37 → n < length first_epoch
first_has n less = let many = many_first in omega (arith, many, less)

second_has : (n : ℕ) → n < 37 → n < length second_epoch
second_has n less = let many = many_second in omega (arith, many, less)

below_is_upto : (n m : ℕ) → n < m → n ≤ m
below_is_upto n m less = omega (arith, less)

behind_first : (n : ℕ) → 37 + n ≡ length first_epoch + n
behind_first n = let many = many_first in omega (arith, many)

behind_first_in : (n : ℕ) → 37 + n ≡ length (map (In 0) first_epoch) + n
behind_first_in n = let many = many_first in let long = many_in 0 first_epoch in omega (arith, many, long)

place_first : (n : ℕ) → n < 37 → now 0 n two_epochs ≡ n
place_first n less = now_first first_epoch (map (In 1) second_epoch) n (below_is_upto n (length first_epoch) (first_has n less))

place_second : (n : ℕ) → n < 37 → now 1 (37 + n) two_epochs ≡ n
place_second n less = now_behind first_epoch (map (In 1) second_epoch) n (37 + n) (behind_first n) ∙ now_own second_epoch n (below_is_upto n (length second_epoch) (second_has n less))

in_first : (n : ℕ) → n < 37 → IsIn two_epochs n 0
in_first n less =
    let entry = item_below first_epoch n (first_has n less) in
    (entry.0, prefix_get (map (In 0) first_epoch) two_epochs n (In 0 entry.0) (prefix_own (map (In 0) first_epoch) (map (In 1) second_epoch)) (in_epoch 0 first_epoch n entry.0 entry.1))

in_second : (n : ℕ) → n < 37 → IsIn two_epochs (37 + n) 1
in_second n less =
    let entry = item_below second_epoch n (second_has n less) in
    (entry.0, get_at (map (In 0) first_epoch) (map (In 1) second_epoch) n (In 1 entry.0) (37 + n) (in_epoch 1 second_epoch n entry.0 entry.1) (behind_first_in n))

-- an acknowledgement of one epoch is one of all
acks_in_first : (i slot : ℕ) (command : Command) → i < 37 → IsAcknowledgedAt one_disk first_epoch i 0 slot command granted → IsAcknowledgedIn one_disk two_epochs i 0 0 slot command granted
acks_in_first i slot command less is =
    record {
      here = in_first i less;
      is =
          subst (λ (l : List Filled). IsAcknowledgedAt one_disk l (now 0 i two_epochs) 0 slot command granted) (sym first_is)
          (subst (λ (n : ℕ). IsAcknowledgedAt one_disk first_epoch n 0 slot command granted) (sym (place_first i less)) is);
    }

acks_in_second : (i slot : ℕ) (command : Command) → i < 37 → IsAcknowledgedAt one_disk second_epoch i 0 slot command granted → IsAcknowledgedIn one_disk two_epochs (37 + i) 1 0 slot command granted
acks_in_second i slot command less is =
    record {
      here = in_second i less;
      is =
          subst (λ (l : List Filled). IsAcknowledgedAt one_disk l (now 1 (37 + i) two_epochs) 0 slot command granted) (sym second_is)
          (subst (λ (n : ℕ). IsAcknowledgedAt one_disk second_epoch n 0 slot command granted) (sym (place_second i less)) is);
    }

early : 18 < 37
early = omega arith

late : 36 < 37
late = omega arith

pub acknowledged_first : IsAcknowledgedIn one_disk two_epochs 18 0 0 0 takes_db granted
acknowledged_first = acks_in_first 18 0 takes_db early (acks_at first_epoch 18 19 0 takes_db own_first (first_has 18 early) refl said_first submits_first)

pub acknowledged_second : IsAcknowledgedIn one_disk two_epochs 73 1 0 1 takes_db_again granted
acknowledged_second = acks_in_second 36 1 takes_db_again late (acks_at second_epoch 36 37 1 takes_db_again own_second (second_has 36 late) refl said_second submits_second)
