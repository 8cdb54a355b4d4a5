-- What is said in two short runs, computed: that what the definitions speak of is there, and nowhere beside.
use Rattle.std.specs.Prelude.{drop}
use Rattle.std.proofs.Common.{ℕ, zero, suc, ◌<◌, ◌≡◌, Bool, true, false, cond, Option, Some, None, List, [], ◌∷◌, ◌++◌, slice_get, refl, sym, subst, ap, ◌∙◌, arith}
use Rattle.std.proofs.lemmas.Bool.{eqb-true}
use Rattle.disk.specs.Simulated.{fresh_disk}
use Rattle.torn_block.specs.Block.{sequence_of, body_of, number_bytes, tail_with}
use Rattle.torn_block.specs.Place.{copy_in}
use Rattle.paxos_block.specs.Row.{decoded_row}
use Rattle.paxos_block.specs.Saying.{zeros, heading, body_saying, number_at, claim_of, is_said}
use Rattle.lock_command.specs.declared.command.Command.{Command}
use Rattle.lock_command.specs.Command.{number, spelling}
use Rattle.lock_command.specs.Reading.{lock_at, request_at, mode_of, name_at, enqueue_at, action_at, command_at}
use Rattle.lock_command.specs.declared.reply.Reply.{Reply}
use Rattle.lock_table.specs.Apply.{applied, granted}
use Rattle.paxos_block.specs.Shape.{Shape}
use Rattle.host.specs.declared.answer.HostAnswer.{HostAnswer}
use Rattle.host.specs.declared.answer.HostAnswer.TheVariants.{Ack, Recovered}
use Rattle.host.specs.declared.task.Task.TheVariants.{Submit, Recover}
use Rattle.host.specs.Host.{Operation, Submitting, Attempt, Doing, Attempts, Memory, Host, Stopped, Running}
use Rattle.world.specs.Entry as entries
use Rattle.world.specs.Entry.{Filled, Called, is_of}
use Rattle.world.specs.Happens.{Event, Line, run, answers}
use Rattle.world.specs.Chosen.{at, Submits, IsSubmittedBefore, SaysAt, IsAcknowledgedAt, IsCallOf, IsRecovery}
use Rattle.world.specs.Headline.{IsAcknowledgedBefore}
use Rattle.world.specs.Lines.{place_of}
use Rattle.world.specs.Examples.{one_disk, takes_db, submitting, submission, recovering, recovery}
use Rattle.world.proofs.Saying.{lines_are_said}

-- ONE LINE

-- where events have one answer, it is said at its entry
said_once : (c : Shape) (events : List Event) (place host i : ℕ) (said : HostAnswer) → answers c events ≡ record { place = place; host = host; said = said } ∷ [] → place_of c events place ≡ i → SaysAt c (run c events) i host said
said_once c events place host i said lines there =
    subst (λ (n : ℕ). SaysAt c (run c events) n host said) there ((lines_are_said c events).said 0 (record { place = place; host = host; said = said }) (ap (λ (l : List Line). slice_get l 0) lines))

-- and nothing else is
pub record IsThat (i host : ℕ) (said : HostAnswer) (j other : ℕ) (told : HostAnswer) : Type 0 where
  pub place : j ≡ i
  pub by : other ≡ host
  pub same : told ≡ said

one_line : (x y : Line) (k : ℕ) → slice_get (x ∷ []) k ≡ Some y → x ≡ y
one_line x y zero at = cc
one_line x y (suc k) at = absurd (cc)

only_once : (c : Shape) (events : List Event) (place host i : ℕ) (said : HostAnswer) → answers c events ≡ record { place = place; host = host; said = said } ∷ [] → place_of c events place ≡ i
    → (j other : ℕ) (told : HostAnswer) → SaysAt c (run c events) j other told → IsThat i host said j other told
only_once c events place host i said lines there j other told says =
    let (k, n, at, placed) = (lines_are_said c events).told j other told says in
    let line : Line = record { place = place; host = host; said = said } in
    let found : Line = record { place = n; host = other; said = told } in
    let one : line ≡ found = one_line line found k (sym (ap (λ (l : List Line). slice_get l k) lines) ∙ at) in
    record {
      place = sym placed ∙ ap (λ (x : Line). place_of c events x.place) (sym one) ∙ there;
      by = ap (λ (x : Line). x.host) (sym one);
      same = ap (λ (x : Line). x.said) (sym one);
    }

-- THE FIRST SUBMISSION

lines_of_submission : answers one_disk submitting ≡ record { place = 18; host = 0; said = Ack 0 granted } ∷ []
unfolding fresh_disk sequence_of body_of number_bytes tail_with copy_in decoded_row zeros heading body_saying number_at claim_of is_said number lock_at request_at mode_of name_at enqueue_at action_at command_at applied
lines_of_submission = refl

place_of_submission : place_of one_disk submitting 18 ≡ 18
unfolding fresh_disk sequence_of body_of number_bytes tail_with copy_in decoded_row zeros heading body_saying number_at claim_of is_said number lock_at request_at mode_of name_at enqueue_at action_at command_at applied
place_of_submission = refl

says_granted : SaysAt one_disk submission 18 0 (Ack 0 granted)
unfolding submission
says_granted = said_once one_disk submitting 18 0 18 (Ack 0 granted) lines_of_submission place_of_submission

only_granted : (j other : ℕ) (told : HostAnswer) → SaysAt one_disk submission j other told → IsThat 18 0 (Ack 0 granted) j other told
unfolding submission
only_granted j other told says = only_once one_disk submitting 18 0 18 (Ack 0 granted) lines_of_submission place_of_submission j other told says

-- what a host carries out
unfoldable pub operation_in : Option Doing → Option Operation
operation_in (Some (Attempts t)) = Some t.operation
operation_in other = None

abbrev pub operation_of : Host → Option Operation
operation_of Stopped = None
operation_of (Running m) = operation_in m.doing

-- before the last answer host 0 carries out that submission
operation_then : operation_of ((at one_disk submission 18).host 0) ≡ Some (Submitting takes_db)
unfolding submission operation_in fresh_disk sequence_of body_of number_bytes tail_with copy_in decoded_row zeros heading body_saying number_at claim_of is_said number lock_at request_at mode_of name_at enqueue_at action_at command_at applied
operation_then = refl

-- so it is running, and busy with that
pub record IsBusyWith (host : Host) (operation : Operation) : Type 0 where
  pub memory : Memory
  pub running : host ≡ Running memory
  pub doing : Attempt
  pub does : memory.doing ≡ Some (Attempts doing)
  pub is : doing.operation ≡ operation

pub busy_with : (host : Host) (operation : Operation) → operation_of host ≡ Some operation → IsBusyWith host operation
unfolding operation_in
busy_with Stopped operation is = absurd (cc)
busy_with (Running m) operation is = go m.doing refl is
  where
    go : (o : Option Doing) → m.doing ≡ o → operation_in o ≡ Some operation → IsBusyWith (Running m) operation
    go None doing is' = absurd (cc)
    go (Some (Attempts t)) doing is' = record { memory = m; running = refl; doing = t; does = doing; is = cc }
    go (Some other) doing is' = absurd (cc)

pub acknowledged : IsAcknowledgedAt one_disk submission 18 0 0 takes_db granted
acknowledged =
    let busy = busy_with ((at one_disk submission 18).host 0) (Submitting takes_db) operation_then in
    record { says = says_granted; memory = busy.memory; running = busy.running; doing = busy.doing; does = busy.does; submitting = busy.is }

pub before : IsAcknowledgedBefore one_disk submission 19 0 takes_db
before = record { place = 18; host = 0; reply = granted; before = omega arith; is = acknowledged }

pub operation_told : (host : Host) (m : Memory) (t : Attempt) (operation : Operation) → host ≡ Running m → m.doing ≡ Some (Attempts t) → t.operation ≡ operation → operation_of host ≡ Some operation
unfolding operation_in
operation_told host m t operation running doing is = ap operation_of running ∙ ap operation_in doing ∙ ap Some is

slot_in : HostAnswer → ℕ
slot_in (Ack slot reply) = slot
slot_in other = 0

reply_in : HostAnswer → Reply
reply_in (Ack slot reply) = reply
reply_in other = granted

pub only_acknowledged : (i host slot : ℕ) (command : Command) (reply : Reply) → IsAcknowledgedAt one_disk submission i host slot command reply
    → (i ≡ 18) × (host ≡ 0) × (slot ≡ 0) × (command ≡ takes_db) × (reply ≡ granted)
unfolding slot_in reply_in
only_acknowledged i host slot command reply is =
    let that = only_granted i host (Ack slot reply) is.says in
    let then = operation_told ((at one_disk submission i).host host) is.memory is.doing (Submitting command) is.running is.does is.submitting in
    let there : operation_of ((at one_disk submission 18).host 0) ≡ Some (Submitting command) =
    sym (ap (λ (j : ℕ). operation_of ((at one_disk submission j).host host)) that.place ∙ ap (λ (g : ℕ). operation_of ((at one_disk submission 18).host g)) that.by) ∙ then in
    let both : Some (Submitting command) ≡ Some (Submitting takes_db) = sym there ∙ operation_then in
    (that.place, that.by, ap slot_in that.same, (cc), ap reply_in that.same)

-- WHAT WAS SUBMITTED

abbrev command_in : Filled → List Command
command_in (entries.Begin h (Submit command tries)) = command ∷ []
command_in (entries.Migrated disks log) = log
command_in other = []

abbrev commands_in : List Filled → List Command
commands_in [] = []
commands_in (e ∷ es) = command_in e ++ commands_in es

further : (a b : List Command) (k : ℕ) (x : Command) → slice_get b k ≡ Some x → (j : ℕ) × (slice_get (a ++ b) j ≡ Some x)
further [] b k x at = (k, at)
further (y ∷ a) b k x at = let rest = further a b k x at in (suc rest.0, rest.1)

-- whatever an entry submits is among its own
of_entry : (e : Filled) (command : Command) → Submits e command → (j : ℕ) × (slice_get (command_in e) j ≡ Some command)
of_entry (entries.Begin h (Submit given tries)) command is = (0, ap Some is)
of_entry (entries.Migrated disks log) command is = is
of_entry other command is = absurd is

nearer : (a b : List Command) (j : ℕ) (x : Command) → slice_get a j ≡ Some x → slice_get (a ++ b) j ≡ Some x
nearer [] b j x at = absurd (cc)
nearer (y ∷ a) b zero x at = at
nearer (y ∷ a) b (suc j) x at = nearer a b j x at

-- and among these
among : (log : List Filled) (k : ℕ) (e : Filled) (command : Command) → slice_get log k ≡ Some e → Submits e command → (j : ℕ) × (slice_get (commands_in log) j ≡ Some command)
among [] k e command at is = absurd (cc)
among (x ∷ es) zero e command at is =
    let same : e ≡ x = (let one : x ≡ e = cc in sym one) in
    let own = of_entry x command (subst (λ (y : Filled). Submits y command) same is) in
    (own.0, nearer (command_in x) (commands_in es) own.0 command own.1)
among (x ∷ es) (suc k) e command at is = let rest = among es k e command at is in further (command_in x) (commands_in es) rest.0 command rest.1

commands_of_submission : commands_in submission ≡ takes_db ∷ []
unfolding submission fresh_disk sequence_of body_of number_bytes tail_with copy_in decoded_row zeros heading body_saying number_at claim_of is_said number lock_at request_at mode_of name_at enqueue_at action_at command_at applied
commands_of_submission = refl

second_entry : slice_get submission 1 ≡ Some (entries.Begin 0 (Submit takes_db 1))
unfolding submission fresh_disk sequence_of body_of number_bytes tail_with copy_in decoded_row zeros heading body_saying number_at claim_of is_said number lock_at request_at mode_of name_at enqueue_at action_at command_at applied
second_entry = refl

first_entry : slice_get submission 0 ≡ Some (entries.Start 0)
unfolding submission fresh_disk sequence_of body_of number_bytes tail_with copy_in decoded_row zeros heading body_saying number_at claim_of is_said number lock_at request_at mode_of name_at enqueue_at action_at command_at applied
first_entry = refl

pub submitted : IsSubmittedBefore submission 2 (spelling takes_db)
submitted = record { place = 1; entry = entries.Begin 0 (Submit takes_db 1); command = takes_db; before = omega arith; is = second_entry; submits = refl; spelled = refl }

pub not_submitted : (value : List ℕ) → IsSubmittedBefore submission 1 value → ⊥
not_submitted value is = go is.place is.before is.is
  where
    go : (place : ℕ) → place < 1 → slice_get submission place ≡ Some is.entry → ⊥
    go zero before at = let both : Some is.entry ≡ Some (entries.Start 0) = sym at ∙ first_entry in let same : is.entry ≡ entries.Start 0 = cc in subst (λ (e : Filled). Submits e is.command) same is.submits
    go (suc place) before at = omega arith

one_command : (x y : Command) (k : ℕ) → slice_get (x ∷ []) k ≡ Some y → x ≡ y
one_command x y zero at = cc
one_command x y (suc k) at = absurd (cc)

pub only_submitted : (i : ℕ) (value : List ℕ) → IsSubmittedBefore submission i value → value ≡ spelling takes_db
only_submitted i value is =
    let found = among submission is.place is.entry is.command is.is is.submits in
    let one : takes_db ≡ is.command = one_command takes_db is.command found.0 (sym (ap (λ (l : List Command). slice_get l found.0) commands_of_submission) ∙ found.1) in
    is.spelled ∙ ap spelling (sym one)

-- A RECOVERY

lines_of_recovery : answers one_disk recovering ≡ record { place = 11; host = 0; said = Recovered 0 } ∷ []
unfolding fresh_disk sequence_of body_of number_bytes tail_with copy_in decoded_row zeros heading body_saying number_at claim_of is_said
lines_of_recovery = refl

place_of_recovery : place_of one_disk recovering 11 ≡ 11
unfolding fresh_disk sequence_of body_of number_bytes tail_with copy_in decoded_row zeros heading body_saying number_at claim_of is_said
place_of_recovery = refl

says_recovered : SaysAt one_disk recovery 11 0 (Recovered 0)
unfolding recovery
says_recovered = said_once one_disk recovering 11 0 11 (Recovered 0) lines_of_recovery place_of_recovery

only_recovered : (j other : ℕ) (told : HostAnswer) → SaysAt one_disk recovery j other told → IsThat 11 0 (Recovered 0) j other told
unfolding recovery
only_recovered j other told says = only_once one_disk recovering 11 0 11 (Recovered 0) lines_of_recovery place_of_recovery j other told says

recovery_begins : slice_get recovery 1 ≡ Some (entries.Begin 0 (Recover 1))
unfolding recovery fresh_disk sequence_of body_of number_bytes tail_with copy_in decoded_row zeros heading body_saying number_at claim_of is_said
recovery_begins = refl

-- each entry is a device call
abbrev is_call : Filled → Bool
is_call (Called h d call answer left) = true
is_call other = false

abbrev are_calls : List Filled → Bool
are_calls [] = true
are_calls (e ∷ es) = cond (is_call e) (are_calls es) false

calls_behind : are_calls (drop 2 recovery) ≡ true
unfolding recovery fresh_disk sequence_of body_of number_bytes tail_with copy_in decoded_row zeros heading body_saying number_at claim_of is_said
calls_behind = refl

both_pass : (s t : Bool) → cond s t false ≡ true → (s ≡ true) × (t ≡ true)
both_pass true t is = (refl, is)
both_pass false t is = absurd (cc)

each_call : (es : List Filled) (k : ℕ) (e : Filled) → are_calls es ≡ true → slice_get es k ≡ Some e → is_call e ≡ true
each_call [] k e all at = absurd (cc)
each_call (x ∷ es) zero e all at = let same : x ≡ e = cc in subst (λ (y : Filled). is_call y ≡ true) same (both_pass (is_call x) (are_calls es) all).0
each_call (x ∷ es) (suc k) e all at = each_call es k e (both_pass (is_call x) (are_calls es) all).1 at

behind_two : (es : List Filled) (k : ℕ) (e : Filled) → slice_get es (suc (suc k)) ≡ Some e → slice_get (drop 2 es) k ≡ Some e
behind_two [] k e at = absurd (cc)
behind_two (x ∷ []) k e at = absurd (cc)
behind_two (x ∷ y ∷ es) k e at = at

call_of : (e : Filled) → is_call e ≡ true → is_of 0 e ≡ true → IsCallOf 0 e
call_of (Called h d call answer left) is of = record { disk = d; call = call; answer = answer; left = left; is = ap (λ (g : ℕ). Called g d call answer left) (eqb-true h 0 of) }
call_of other is of = absurd (cc)

pub recovered : IsRecovery one_disk recovery 1 11 0 0
recovered = record {
  tries = 1;
  begins = recovery_begins;
  order = omega arith;
  calls = λ k e behind upto. calls k e behind;
  says = says_recovered;
}
  where
    calls : (k : ℕ) (e : Filled) → 1 < k → slice_get recovery k ≡ Some e → is_of 0 e ≡ true → IsCallOf 0 e
    calls zero e behind there of = absurd (omega arith)
    calls (suc zero) e behind there of = absurd (omega arith)
    calls (suc (suc k)) e behind there of = call_of e (each_call (drop 2 recovery) k e calls_behind (behind_two recovery k e there)) of

count_in : HostAnswer → ℕ
count_in (Recovered n) = n
count_in other = 0

pub only_recovery : (i j host n : ℕ) → IsRecovery one_disk recovery i j host n → (j ≡ 11) × (host ≡ 0) × (n ≡ 0)
unfolding count_in
only_recovery i j host n is = let that = only_recovered j host (Recovered n) is.says in (that.place, that.by, ap count_in that.same)
