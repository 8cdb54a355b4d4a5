-- What a seat keeps behind the beginning of a task.
use Rattle.std.specs.Prelude.{nat_lt, is_none, ◌==◌}
use Rattle.std.proofs.Common.{◌≡◌, ◌<◌, ◌≤◌, ℕ, true, false, List, [], ◌∷◌, ◌++◌, length, Option, Some, None, refl, sym, ap, ◌∙◌, arith}
use Rattle.std.proofs.lemmas.Bool.Decides.{nat_tests}
use Rattle.std.proofs.lemmas.List.{append-nil}
use Rattle.lock_command.specs.declared.command.Command.{Command}
use Rattle.torn_block.specs.declared.layout.TheConstants.{HOSTS}
use Rattle.paxos_block.specs.Shape.{Shape}
use Rattle.host.specs.declared.answer.HostAnswer.{HostAnswer}
use Rattle.host.specs.declared.task.Task.{Task}
use Rattle.host.specs.declared.task.Task.TheVariants.{Submit, Recover, Look, Beat, Mark}
use Rattle.host.specs.Host as hosts
use Rattle.host.specs.Host.{Host, Running, fresh, Operation, Submitting, Recovering, Memory, Doing, Looks, Marks, does, says, goes_on, idles, is_stopped, said_of}
use Rattle.host.specs.Kept.{Kept, LeadsTo, MayBegin}
use Rattle.attempt.specs.declared.refusal.Refusal.TheVariants as refusal
use Rattle.host.specs.declared.answer.HostAnswer.TheVariants.{Looked, Refused}
use Rattle.host.proofs.Hosts.{learned-goes_on}
use Rattle.world.specs.Entry.{Filled, Start, Stop, Begin, host_step, is_of}
use Rattle.world.specs.World.{world, MayBeGiven, IsFreshRun}
use Rattle.world.proofs.Enduring.{on_either}
use Rattle.world.proofs.Runs as runs
use Rattle.world.proofs.Projections.{host_here}
use Rattle.cluster_tie.specs.Parts.{Own, own_of, adds, of_host}
use Rattle.cluster.specs.Receipts.{receipt_by, receipts_at, receipts_of}
use Rattle.cluster.specs.Seat.{host_in, submitted_by, IsKeptFor, IsDoing, IsRunning}
use Rattle.cluster.proofs.Adding.{host_adds, receipts_adds}
use Rattle.cluster.proofs.Heard.{going}
use Rattle.cluster.proofs.Parts.{host_is}

-- A TASK BEGINS

kept_on : (c : Shape) (operation : Operation) (tries : ℕ) (sub : Option Command) → IsKeptFor operation sub → (m : Memory) → let new = goes_on c m operation tries in IsDoing c new new.doing sub
kept_on c operation tries sub kept m = (going c 0 0 sub (record { operation = operation; tries = tries; heard = [] }) kept 0 m tries (omega arith)).0

-- its command is kept
kept : (c : Shape) (m : Memory) (task : Task) → let new = hosts.starts c m task in IsDoing c new new.doing (submitted_by task)
kept c m (Submit command tries) = kept_on c (Submitting command) tries (Some command) refl m
kept c m (Recover tries) = kept_on c Recovering tries None refl m
kept c m Look = on_either (nat_lt (length m.learned) c.slots) (does m (Looks (record { first = 0; heard = [] }))) (says m (Looked (length m.learned))) (λ (n : Memory). IsDoing c n n.doing None) (λ is. (refl, tt)) (λ is. tt)
kept c m Beat = (refl, tt)
kept c m (Mark slot) = on_either (nat_lt slot (length m.learned)) (does m (Marks (record { slot = slot; heard = [] }))) (says m (Refused refusal.NotLearned)) (λ (n : Memory). IsDoing c n n.doing None) (λ is. (refl, tt)) (λ is. tt)

-- and it teaches nothing
teaches_none : (c : Shape) (m : Memory) (task : Task) → (hosts.starts c m task).learned ≡ m.learned
teaches_none c m (Submit command tries) = learned-goes_on c m (Submitting command) tries
teaches_none c m (Recover tries) = learned-goes_on c m Recovering tries
teaches_none c m Look = on_either (nat_lt (length m.learned) c.slots) (does m (Looks (record { first = 0; heard = [] }))) (says m (Looked (length m.learned))) (λ (n : Memory). n.learned ≡ m.learned) (λ is. refl) (λ is. refl)
teaches_none c m Beat = refl
teaches_none c m (Mark slot) = on_either (nat_lt slot (length m.learned)) (does m (Marks (record { slot = slot; heard = [] }))) (says m (Refused refusal.NotLearned)) (λ (n : Memory). n.learned ≡ m.learned) (λ is. refl) (λ is. refl)

none_by : (h place : ℕ) (o : Option Doing) (said : Option HostAnswer) → is_none o ≡ true → receipt_by h place o said ≡ []
none_by h place None said idle = refl
none_by h place (Some doing) said idle = absurd (cc idle)

-- what its host has to be given
pub may_begin : (c : Shape) (h : ℕ) (k : Kept) (task : Task) → k.learner.host ≡ h → MayBeGiven c h task → MayBegin k task
may_begin c h k (Submit command tries) is may = omega (arith, may.1)
may_begin c h k (Recover tries) is may = omega (arith, may)
may_begin c h k other is may = tt

-- what a seat keeps behind it
pub record Begins (c : Shape) (old new : Own) (core after : Kept) (sub : Option Command) : Type 0 where
  pub running : IsRunning c new after sub
  pub acks : receipts_of c old ≡ receipts_of c new
  pub few : (acks : ℕ) → acks ≤ length core.prefix → acks ≤ length after.prefix

module _ (c : Shape) (own : Own) (core after : Kept) (before : Option Command) (at : ℕ) (task : Task) (r : IsRunning c own core before) (idle : idles (host_in c own) ≡ true)
    (next : (m : Memory) → LeadsTo c own.number m core → LeadsTo c own.number (hosts.starts c m task) after) where
  abbrev e : Filled
  e = Begin own.number task

  none_at : receipts_at c own.number (host_in c own) at e ≡ []
  none_at =
      ap (λ (s : Host). receipts_at c own.number s at e) r.is
      ∙ none_by own.number at r.memory.doing (said_of (host_step c own.number (Running r.memory) e)) (sym (ap idles r.is) ∙ idle)

  pub begun : Begins c own (adds own at e) core after (submitted_by task)
  begun = record {
    running = record {
      memory = hosts.starts c r.memory task;
      is = host_adds c own at e ∙ ap (λ (s : Host). host_step c own.number s e) r.is;
      leads = next r.memory r.leads;
      doing = kept c r.memory task;
    };
    acks = sym (receipts_adds c own at e ∙ (λ i. receipts_of c own ++ none_at i) ∙ append-nil (receipts_of c own));
    few = λ acks less.
        let was = ap (λ (l : List Command). length l) r.leads.prefix in
        let now = ap (λ (l : List Command). length l) (next r.memory r.leads).prefix in
        let same = ap (λ (l : List Command). length l) (teaches_none c r.memory task) in
        omega (arith, less, was, now, same);
  }

-- RUNS

-- a host that is idle by its own entries is so in the world
pub idle_there : (c : Shape) (log : List Filled) (seat : Own) → idles (host_in c seat) ≡ true → seat.entries ≡ of_host seat.number log → idles ((world c log).host seat.number) ≡ true
idle_there c log seat idle of_seat = ap idles (host_is c log seat of_seat) ∙ idle

-- a run goes on by the start of a host that has no entry
pub starts : (c : Shape) (log : List Filled) (h : ℕ) → IsFreshRun c log → [] ≡ of_host h log → h < HOSTS → IsFreshRun c (log ++ Start h ∷ [])
starts c log h run none is_host =
    runs.fresh_more c log (Start h) run (is_host, ap is_stopped (host_is c log (own_of h []) none))

pub is_itself : (n : ℕ) → (n == n) ≡ true
is_itself n = grind (arith, nat_tests)

-- and by a restart
pub restarts : (c : Shape) (log : List Filled) (seat : Own) → IsFreshRun c log → seat.entries ≡ of_host seat.number log → is_stopped (host_in c seat) ≡ false → seat.number < HOSTS → IsFreshRun c ((log ++ Stop seat.number ∷ []) ++ Start seat.number ∷ [])
restarts c log seat run of_seat up is_host =
    let stopped = runs.fresh_more c log (Stop seat.number) run (ap is_stopped (host_is c log seat of_seat) ∙ up) in
    let own : is_of seat.number (Stop seat.number) ≡ true = is_itself seat.number in
    runs.fresh_more c (log ++ Stop seat.number ∷ []) (Start seat.number) stopped (is_host, ap is_stopped (host_here c log (Stop seat.number) seat.number own))

-- the host then knows nothing
pub restarted : (c : Shape) (own : Own) (at next : ℕ) → host_in c (adds (adds own at (Stop own.number)) next (Start own.number)) ≡ Running fresh
restarted c own at next =
    host_adds c (adds own at (Stop own.number)) next (Start own.number) ∙ ap (λ (s : Host). host_step c own.number s (Start own.number)) (host_adds c own at (Stop own.number))

-- and has acknowledged nothing
pub none_restarted : (c : Shape) (own : Own) (at next : ℕ) → [] ≡ receipts_of c (adds (adds own at (Stop own.number)) next (Start own.number))
none_restarted c own at next =
    sym (receipts_adds c (adds own at (Stop own.number)) next (Start own.number) ∙ ap (λ (s : Host). receipts_at c own.number s next (Start own.number)) (host_adds c own at (Stop own.number)))
