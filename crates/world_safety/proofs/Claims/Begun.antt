-- Whoever answers that it has recovered began to, and has made device calls alone since then.
use Rattle.std.specs.Prelude.{IsTrue, nat_lt, nat_le, ◌-◌, slice_get, cond, if◌then◌else◌}
use Rattle.std.proofs.Common.{ℕ, suc, ◌<◌, ◌≡◌, inl, inr, Bool, true, false, Option, Some, None, List, [], ◌∷◌, ◌++◌, length, refl, sym, subst, ap, ◌∙◌, arith}
use Rattle.std.proofs.lemmas.Bool.{eqb-true, both_ways, cases_eq}
use Rattle.disk.specs.Disk.{Call, Answer}
use Rattle.attempt.specs.Answers.{Answered, on, heard_as}
use Rattle.attempt.specs.Proposal.{best, or_else}
use Rattle.attempt.specs.Status as attempt
use Rattle.attempt.specs.Status.{Status, Due, Ended, status, taken}
use Rattle.attempt.proofs.Statuses.{HasNone, told_by}
use Rattle.lock_command.specs.declared.command.Command.{Command}
use Rattle.lock_command.specs.Command.{spelling}
use Rattle.lock_command.specs.Reading.{decoded}
use Rattle.paxos_block.specs.Shape.{Shape}
use Rattle.attempt.specs.declared.refusal.Refusal.TheVariants as refusal
use Rattle.host.specs.declared.answer.HostAnswer.TheVariants.{Recovered, Refused}
use Rattle.host.specs.declared.task.Task.{Task}
use Rattle.host.specs.declared.task.Task.TheVariants.{Submit, Recover}
use Rattle.host.specs.Host.{Operation, Submitting, Recovering, Attempt, Doing, Attempts, Memory, Host, Stopped, Running, setup_of, says, begins, full_answer, goes_on, with_floor, learns, is_submitted, after_learning, takes, tries_again, by_status, with_heard, starts, hears_from, is_stopped}
use Rattle.world.specs.Entry.{Filled, Start, Stop, Begin, Called, Torn, Crashed, Lost, Migrated, is_of, started, begins_on, host_step}
use Rattle.world.specs.World.{MayBegin, IsRun}
use Rattle.world.specs.Chosen.{at, SaysAt, IsCallOf, IsRecovery}
use Rattle.world_safety.specs.Claims.{AllBegun}
use Rattle.world_safety.proofs.Moves.Beside.{IsNoAttempt, starts_none, stays_none}
use Rattle.world_safety.proofs.Runs.Places.{by_place}
use Rattle.world_safety.proofs.Runs.Saying.{full_recovers, status_recovers, beginning_of, AtItsBeginning, AtACall, memory_at, heard_at, whence}

-- AN OPERATION STAYS WHAT IT IS

-- the operation under way is this one
abbrev Does : Memory → Operation → Type 0
Does m operation = (t : Attempt) → m.doing ≡ Some (Attempts t) → t.operation ≡ operation

goes_on_does : (c : Shape) (m : Memory) (operation : Operation) (tries : ℕ) → Does (goes_on c m operation tries) operation
goes_on_does c m operation tries = go (nat_lt (length m.learned) c.slots)
  where
    go : (b : Bool) → Does (if b then begins m operation tries else says m (full_answer operation (length m.learned))) operation
    go true t is = let same : record { operation = operation; tries = tries; heard = [] } ≡ t = cc in ap (λ (d : Attempt). d.operation) (sym same)
    go false t is = absurd (cc)

module _ (c : Shape) (m : Memory) (t : Attempt) (b : ℕ) where
  learned_does : (command : Command) (own : Bool) → Does (after_learning c m t command own) t.operation
  learned_does command true d is = absurd (cc)
  learned_does command false d is = goes_on_does c (learns m command) t.operation t.tries d is

  taken_does : (value : List ℕ) (o : Option Command) → Does (takes c m t b value o) t.operation
  taken_does value None d is = absurd (cc)
  taken_does value (Some command) d is = learned_does command (is_submitted t.operation value) d is

  tries_does : (k : Memory) → Does (tries_again k t.operation t.tries) t.operation
  tries_does k = go (nat_le t.tries 1)
    where
      go : (last : Bool) → Does (if last then says k (Refused refusal.Outrun) else begins k t.operation (t.tries - 1)) t.operation
      go true d is = absurd (cc)
      go false d is = let same : record { operation = t.operation; tries = t.tries - 1; heard = [] } ≡ d = cc in ap (λ (x : Attempt). x.operation) (sym same)

  status_does : (st : Status) → Does (by_status c m t b st) t.operation
  status_does (Due p k) d is = let same : t ≡ d = cc in ap (λ (x : Attempt). x.operation) (sym same)
  status_does (Ended (attempt.Committed value)) d is = taken_does value (decoded value) d is
  status_does (Ended (attempt.Decided value)) d is = taken_does value (decoded value) d is
  status_does (Ended attempt.Empty) d is = absurd (cc)
  status_does (Ended (attempt.Outrun mbal)) d is = tries_does (with_floor (with_floor m b) mbal) d is
  status_does (Ended attempt.NoMajority) d is = absurd (cc)
  status_does (Ended attempt.BallotsSpent) d is = absurd (cc)

-- an attempt with an input does not end empty
some_proposed : (found : Option (List ℕ)) (value : List ℕ) → or_else found (Some value) ≡ None → ⊥
some_proposed None value is = absurd (cc)
some_proposed (Some found) value is = absurd (cc)

pub empty_recovers : (c : Shape) (h : ℕ) (m : Memory) (operation : Operation) (heard : List Answered) → status (setup_of c h m operation) (on heard) ≡ Ended attempt.Empty → operation ≡ Recovering
empty_recovers c h m (Submitting command) heard is =
    let s = setup_of c h m (Submitting command) in
    let none : HasNone s (on heard) = told_by s (on heard) (Ended attempt.Empty) is in
    absurd (some_proposed (best s (on heard)).inp (spelling command) none.none)
empty_recovers c h m Recovering heard is = refl

-- A RECOVERY UNDER WAY

-- behind the entry with which it begins the host has made device calls alone
record IsRecovering (log : List Filled) (i h : ℕ) : Type 0 where
  place : ℕ
  tries : ℕ
  before : place < i
  entry : slice_get log place ≡ Some (Begin h (Recover tries))
  calls : (k : ℕ) (e : Filled) → place < k → k < i → slice_get log k ≡ Some e → is_of h e ≡ true → IsCallOf h e

-- so has each host that recovers
abbrev HasBegun : List Filled → ℕ → ℕ → Host → Type 0
HasBegun log i h Stopped = Unit {0}
HasBegun log i h (Running m) = (t : Attempt) → m.doing ≡ Some (Attempts t) → t.operation ≡ Recovering → IsRecovering log i h

module _ (c : Shape) (log : List Filled) (h : ℕ) where
  -- the entries so far, and one more
  calls_more : (i place : ℕ) → ((k : ℕ) (e : Filled) → place < k → k < i → slice_get log k ≡ Some e → is_of h e ≡ true → IsCallOf h e) → ((e : Filled) → slice_get log i ≡ Some e → is_of h e ≡ true → IsCallOf h e)
      → (k : ℕ) (e : Filled) → place < k → k < suc i → slice_get log k ≡ Some e → is_of h e ≡ true → IsCallOf h e
  calls_more i place before now k e above below found of = elim (cases_eq k i) [
    | inl same ↦ now e (subst (λ (j : ℕ). slice_get log j ≡ Some e) same found) of
    | inr off ↦ before k e above (omega (arith, below, off)) found of
  ]

  later : (i : ℕ) → ((e : Filled) → slice_get log i ≡ Some e → is_of h e ≡ true → IsCallOf h e) → (host : Host) → HasBegun log i h host → HasBegun log (suc i) h host
  later i now Stopped is = tt
  later i now (Running m) is = λ t does recovers.
      let by = is t does recovers in
      record { place = by.place; tries = by.tries; before = (let b = by.before in omega arith); entry = by.entry; calls = calls_more i by.place by.calls now }

  -- the entry is none of the host's
  not_own : (i : ℕ) (e : Filled) → slice_get log i ≡ Some e → is_of h e ≡ false → (other : Filled) → slice_get log i ≡ Some other → is_of h other ≡ true → IsCallOf h other
  not_own i e is off other found of =
      let both : Some e ≡ Some other = sym is ∙ found in
      let same : e ≡ other = cc in
      absurd (both_ways (is_of h e) off (subst (λ (x : Filled). is_of h x ≡ true) (sym same) of))

  -- or a device call
  own_call : (i k : ℕ) (call : Call) (answer : Answer) (left : List ℕ) → slice_get log i ≡ Some (Called h k call answer left) → (other : Filled) → slice_get log i ≡ Some other → is_of h other ≡ true → IsCallOf h other
  own_call i k call answer left is other found of =
      let both : Some (Called h k call answer left) ≡ Some other = sym is ∙ found in
      let same : Called h k call answer left ≡ other = cc in
      record { disk = k; call = call; answer = answer; left = left; is = sym same }

  -- where no attempt is under way, nothing is recovered
  none_begun : (i : ℕ) (m : Memory) → IsNoAttempt m.doing → HasBegun log (suc i) h (Running m)
  none_begun i m none = λ t does recovers. absurd (subst IsNoAttempt does none)

  hears_begun : (i k : ℕ) (call : Call) (answer : Answer) (left : List ℕ) → slice_get log i ≡ Some (Called h k call answer left) → (m : Memory) (o : Option Doing) → m.doing ≡ o → HasBegun log i h (Running m)
      → HasBegun log (suc i) h (Running (hears_from c h m o k answer))
  hears_begun i k call answer left is m (Some (Attempts t)) does known = λ d now recovers.
      let s = setup_of c h m t.operation in
      let x : Answered = record { disk = k; heard = heard_as answer } in
      let same : d.operation ≡ t.operation = status_does c m (with_heard t x) (taken s (on (t.heard ++ x ∷ []))) (status s (on (t.heard ++ x ∷ []))) d now in
      later i (own_call i k call answer left is) (Running m) known t does (sym same ∙ recovers)
  hears_begun i k call answer left is m other does known = none_begun i (hears_from c h m other k answer) (stays_none c h m other k answer does tt)

  called_begun : (i k : ℕ) (call : Call) (answer : Answer) (left : List ℕ) → slice_get log i ≡ Some (Called h k call answer left) → (host : Host) → HasBegun log i h host
      → HasBegun log (suc i) h (host_step c h host (Called h k call answer left))
  called_begun i k call answer left is Stopped known = tt
  called_begun i k call answer left is (Running m) known = hears_begun i k call answer left is m m.doing refl known

  task_begun : (i : ℕ) (task : Task) → slice_get log i ≡ Some (Begin h task) → (m : Memory) → HasBegun log (suc i) h (Running (starts c m task))
  task_begun i (Submit command tries) is m = λ t does recovers. absurd (let same = goes_on_does c m (Submitting command) tries t does in cc)
  task_begun i (Recover tries) is m = λ t does recovers.
      record { place = i; tries = tries; before = omega arith; entry = is; calls = λ k e above below found of. absurd (omega arith) }
  task_begun i other is m = none_begun i (starts c m other) (starts_none c m other tt).0

  begins_begun : (i : ℕ) (task : Task) → slice_get log i ≡ Some (Begin h task) → (host : Host) → HasBegun log (suc i) h (begins_on c host task)
  begins_begun i task is Stopped = tt
  begins_begun i task is (Running m) = task_begun i task is m

  started_begun : (i : ℕ) (host : Host) → IsTrue (is_stopped host) → HasBegun log (suc i) h (started host)
  started_begun i Stopped stopped = λ t does recovers. absurd (cc)
  started_begun i (Running m) stopped = absurd (cc)

  step_begun : (i : ℕ) (e : Filled) → slice_get log i ≡ Some e → MayBegin c (at c log i) e → is_of h e ≡ true → HasBegun log i h ((at c log i).host h) → HasBegun log (suc i) h (host_step c h ((at c log i).host h) e)
  step_begun i (Start g) is may of known = started_begun i ((at c log i).host h) (subst (λ (j : ℕ). IsTrue (is_stopped ((at c log i).host j))) (eqb-true g h of) may.1)
  step_begun i (Stop g) is may of known = tt
  step_begun i (Begin g task) is may of known = begins_begun i task (is ∙ ap (λ (j : ℕ). Some (Begin j task)) (eqb-true g h of)) ((at c log i).host h)
  step_begun i (Called g k call answer left) is may of known = called_begun i k call answer left (is ∙ ap (λ (j : ℕ). Some (Called j k call answer left)) (eqb-true g h of)) ((at c log i).host h) known
  step_begun i (Torn g k call left) is may of known = tt
  step_begun i (Crashed k left) is may of known = absurd (cc)
  step_begun i (Lost k) is may of known = absurd (cc)
  step_begun i (Migrated disks commands) is may of known = absurd (cc)

  by_own : (i : ℕ) (e : Filled) → slice_get log i ≡ Some e → MayBegin c (at c log i) e → HasBegun log i h ((at c log i).host h) → HasBegun log (suc i) h (cond (is_of h e) (host_step c h ((at c log i).host h) e) ((at c log i).host h))
  by_own i e is may known = go (is_of h e) refl
    where
      go : (b : Bool) → is_of h e ≡ b → HasBegun log (suc i) h (cond b (host_step c h ((at c log i).host h) e) ((at c log i).host h))
      go true of = step_begun i e is may of known
      go false off = later i (not_own i e is off) ((at c log i).host h) known

  -- at each place of a run
  has_begun : IsRun c log → (i : ℕ) → HasBegun log i h ((at c log i).host h)
  has_begun run i =
      by_place c log run (λ j w. HasBegun log j h (w.host h)) tt
      (λ j e is may before. by_own j e is may before)
      (λ j ended before. later j (λ e found of. absurd (let both : None ≡ Some e = sym ended ∙ found in cc)) ((at c log j).host h) before)
      i

-- SO IT BEGAN

module _ (c : Shape) (log : List Filled) (run : IsRun c log) (j h n : ℕ) (says : SaysAt c log j h (Recovered n)) where
  recover_entry : (operation : Operation) (tries : ℕ) → operation ≡ Recovering → slice_get log j ≡ Some (beginning_of h operation tries) → slice_get log j ≡ Some (Begin h (Recover tries))
  recover_entry (Submitting command) tries is entry = absurd (cc)
  recover_entry Recovering tries is entry = entry

  -- it is answered where it begins
  at_once : AtItsBeginning c log j h (Recovered n) → (i : ℕ) × IsRecovery c log i j h n
  at_once first =
      let is = full_recovers first.operation (length first.memory.learned) n first.says.0 in (
        j,
        record { tries = first.tries; begins = recover_entry first.operation first.tries is.0 first.entry; order = omega arith; calls = λ k e above below found of. absurd (omega arith); says = says },
      )

  -- or behind a call
  at_a_call : (call : AtACall c log j h (Recovered n)) → (memory_at c log j h (Recovered n) call).said ≡ Some (Recovered n) → (i : ℕ) × IsRecovery c log i j h n
  at_a_call call said =
      let m = call.memory in
      let s = setup_of c h m call.doing.operation in
      let heard = heard_at c log j h (Recovered n) call in
      let over = status_recovers c m (with_heard call.doing (record { disk = call.disk; heard = heard_as call.answer })) (taken s (on heard)) (status s (on heard)) n said in
      let recovers : call.doing.operation ≡ Recovering = elim over.ended [ inl empty ↦ empty_recovers c h m call.doing.operation heard empty | inr committed ↦ committed.2 ] in
      let known : HasBegun log j h (Running m) = subst (HasBegun log j h) call.running (has_begun c log h run j) in
      let by = known call.doing call.does recovers in
      let before = by.before in (
        by.place,
        record {
          tries = by.tries;
          begins = by.entry;
          order = omega arith;
          calls = λ k e above below. calls_more c log h j by.place by.calls (own_call c log h j call.disk call.call call.answer call.left call.entry) k e above (omega arith);
          says = says;
        },
      )

pub all_begun : (c : Shape) (log : List Filled) → IsRun c log → AllBegun c log
all_begun c log run j h n says = elim (whence c log j h (Recovered n) (λ none. none) run says).is [
  | inl first ↦ at_once c log run j h n says first
  | inr later ↦ at_a_call c log run j h n says later.0 later.1
]
