-- What each event does to a simulated cluster.
use Rattle.std.specs.Prelude.{not, nat_lt}
use Rattle.std.proofs.Common.{ℕ, ◌<◌, ◌≡◌, ◌==◌, ◌&&◌, Bool, true, false, Option, Some, None, List, [], ◌∷◌, ◌++◌, get_or, refl, sym, ap, ◌∙◌, subst, arith}
use Rattle.std.proofs.Math.ListN.{set}
use Rattle.std.proofs.lemmas.List.{set-get_or}
use Rattle.std.proofs.lemmas.Bool.{eq-eqb, lt-ltb}
use Rattle.torn_block.specs.declared.layout.TheConstants.{HOSTS}
use Rattle.paxos_block.specs.Shape.{Shape}
use Rattle.lock_command.specs.declared.command.Command.{Command}
use Rattle.lock_command.specs.Command.{Fits as FitsCommand}
use Rattle.host.specs.declared.task.Task.{Task}
use Rattle.host.specs.declared.task.Task.TheVariants.{Submit, Recover, Look, Beat, Mark}
use Rattle.host.specs.Host.{Host, Stopped, Running, Memory, fresh, starts as starts_task, idles, is_stopped}
use Rattle.host.specs.Kept as hosts
use Rattle.host.proofs.Hosts.{idle_is}
use Rattle.world.specs.Entry as entries
use Rattle.world.specs.Entry.{Filled, host_step, started}
use Rattle.world.specs.World.{MayBeGiven, may_submit, world}
use Rattle.world.specs.Happens.{Start, Stop, Begin, brings_if, submitted, task_entry, entry_of}
use Rattle.world.proofs.Follow.{command_reads_back}
use Rattle.world.proofs.Runs.{follows}
use Rattle.host.specs.declared.answer.HostAnswer.{HostAnswer}
use Rattle.world.specs.Happens.{lines_after}
use Rattle.simulator.specs.Events.{lines_of}
use Rattle.simulator.specs.Kept.{Kept, is_free, IsHost, LeadsTo, Brings}
use Rattle.simulator.proofs.Changes.{nothing, something}
use Rattle.simulator.proofs.Shown.{stopped_by, running_by, saying, by_host, says_by, says_nothing_by}

brings_none : (b : Bool) → brings_if b None ≡ None
brings_none true = refl
brings_none false = refl

and_no : (b : Bool) → (b && false) ≡ false
and_no true = refl
and_no false = refl

pub self_eq : (h : ℕ) → (h == h) ≡ true
self_eq h = eq-eqb h h refl

-- an option that is kept of a host, put back, changes nothing
put_back : (k : Kept) (h : ℕ) (o : Option hosts.Kept) → get_or k.hosts h None ≡ o → (record k { hosts = set k.hosts h o }) ≡ k
put_back k h o is = ap (λ (hs : List (Option hosts.Kept)). record k { hosts = hs }) (ap (set k.hosts h) (sym is) ∙ set-get_or k.hosts h None)

both : (a b : Bool) (o : Option Filled) → brings_if a (brings_if b o) ≡ brings_if (a && b) o
both true b o = refl
both false b o = refl

-- a host may be given a command to submit where there is a try, and it may submit the command
pub submits_if : (c : Shape) (h : ℕ) (task : Task) (command : Command) (tries : ℕ) (may : Bool) → task ≡ Submit command tries → FitsCommand command
    → may ≡ (nat_lt 0 tries && may_submit h command) → task_entry c h task ≡ brings_if may (Some (entries.Begin h task))
submits_if c h task command tries may is fits passed =
    let asked = may_submit h command in
    let e : Filled = entries.Begin h (Submit command tries) in
    ap (task_entry c h) is
    ∙ ap (λ (o : Option Command). brings_if (nat_lt 0 tries) (submitted h tries o)) (command_reads_back command fits)
    ∙ both (nat_lt 0 tries) asked (Some e)
    ∙ ap (λ (b : Bool). brings_if b (Some e)) (sym passed)
    ∙ ap (λ (t : Task). brings_if may (Some (entries.Begin h t))) (sym is)

-- a task that a host may be given may be begun by what is kept of it
may_of : (c : Shape) (h : ℕ) (task : Task) (core : hosts.Kept) → core.learner.host ≡ h → MayBeGiven c h task → hosts.MayBegin core task
may_of c h (Submit command tries) core is m = omega (arith, m.1)
may_of c h (Recover tries) core is m = omega (arith, m)
may_of c h Look core is m = tt
may_of c h Beat core is m = tt
may_of c h (Mark slot) core is m = tt

module _ (log : List Filled) (old : Kept) (leads : LeadsTo log old) where
  -- what is kept of a host is its host of the world
  pub stopped_at : (h : ℕ) → get_or old.hosts h None ≡ None → (world old.shape log).host h ≡ Stopped
  stopped_at h is = stopped_by old.shape h _ (subst (IsHost old.shape h ((world old.shape log).host h)) is (leads.shows.hosts h))

  pub running_at : (h : ℕ) (k : hosts.Kept) → get_or old.hosts h None ≡ Some k → (m : Memory) × ((world old.shape log).host h ≡ Running m) × hosts.LeadsTo old.shape h m k
  running_at h k is = running_by old.shape h _ k (subst (IsHost old.shape h ((world old.shape log).host h)) is (leads.shows.hosts h))

  -- START

  pub starts : (h : ℕ) (core : hosts.Kept) → h < HOSTS → get_or old.hosts h None ≡ None → hosts.LeadsTo old.shape h fresh core
      → Brings log (Start h) old (record old { hosts = set old.hosts h (Some core) }) None
  starts h core within is fresh_core =
      let e : Filled = entries.Start h in
      let stopped = stopped_at h is in
      let applies : (nat_lt h HOSTS && is_stopped ((world old.shape log).host h)) ≡ true = ap (λ (b : Bool). b && is_stopped ((world old.shape log).host h))
      (lt-ltb h HOSTS within) ∙ ap is_stopped stopped in
      let steps : host_step old.shape h ((world old.shape log).host h) e ≡ Running fresh = ap started stopped in
      something log old leads (Start h) e (record old { hosts = set old.hosts h (Some core) }) None
      (ap (λ (b : Bool). brings_if b (Some e)) applies) refl
      (by_host log old leads e h (Some core) within (λ d. refl) (λ g. refl) (subst (λ (x : Host). IsHost old.shape h x (Some core)) (sym steps) fresh_core))
      leads.sized
      (λ place. subst (λ (o : Option HostAnswer). lines_of place (saying h o) ≡ lines_after (world old.shape (log ++ e ∷ [])) place (Some h)) fresh_core.said
      (says_by log old leads e h fresh core (self_eq h) steps fresh_core place))

  pub starts_not : (h : ℕ) (core : hosts.Kept) → get_or old.hosts h None ≡ Some core → Brings log (Start h) old old None
  starts_not h core is =
      let r = running_at h core is in
      nothing log old leads (Start h)
      (ap (λ (b : Bool). brings_if b (Some (entries.Start h))) (ap (λ (x : Host). nat_lt h HOSTS && is_stopped x) r.1 ∙ and_no (nat_lt h HOSTS)))

  -- STOP

  pub stops : (h : ℕ) (o : Option hosts.Kept) → h < HOSTS → get_or old.hosts h None ≡ o → Brings log (Stop h) old (record old { hosts = set old.hosts h None }) None
  stops h None within is =
      subst (λ (k : Kept). Brings log (Stop h) old k None) (sym (put_back old h None is))
      (nothing log old leads (Stop h) (ap (λ (x : Host). brings_if (not (is_stopped x)) (Some (entries.Stop h))) (stopped_at h is)))
  stops h (Some core) within is =
      let e : Filled = entries.Stop h in
      let r = running_at h core is in
      something log old leads (Stop h) e (record old { hosts = set old.hosts h None }) None
      (ap (λ (x : Host). brings_if (not (is_stopped x)) (Some e)) r.1) refl
      (by_host log old leads e h None within (λ d. refl) (λ g. refl) tt)
      leads.sized
      (λ place. says_nothing_by log old leads e h (self_eq h) refl place)

  -- A TASK BEGINS

  -- a host that may begin none is not idle
  not_idle : (h : ℕ) (o : Option hosts.Kept) → get_or old.hosts h None ≡ o → is_free o ≡ false → idles ((world old.shape log).host h) ≡ false
  not_idle h None is busy = ap idles (stopped_at h is)
  not_idle h (Some core) is busy = let r = running_at h core is in ap idles r.1 ∙ sym (idle_is old.shape h r.0 core r.2) ∙ busy

  pub begins_not : (h : ℕ) (task : Task) (o : Option hosts.Kept) → get_or old.hosts h None ≡ o → is_free o ≡ false → Brings log (Begin h task) old old None
  begins_not h task o is busy = nothing log old leads (Begin h task) (ap (λ (b : Bool). brings_if b (task_entry old.shape h task)) (not_idle h o is busy))

  -- nor one that it may not be given
  pub given_not : (h : ℕ) (task : Task) → task_entry old.shape h task ≡ None → Brings log (Begin h task) old old None
  given_not h task none =
      let idle = idles ((world old.shape log).host h) in
      nothing log old leads (Begin h task) (ap (brings_if idle) none ∙ brings_none idle)

  -- an idle host begins one that it may be given
  module _ (h : ℕ) (task : Task) (core : hosts.Kept) (given : task_entry old.shape h task ≡ Some (entries.Begin h task)) (is : get_or old.hosts h None ≡ Some core) (idle : hosts.is_idle core ≡ true) where
    brings : entry_of old.shape (world old.shape log) (Begin h task) ≡ Some (entries.Begin h task)
    brings =
        let r = running_at h core is in
        let may : idles ((world old.shape log).host h) ≡ true = ap idles r.1 ∙ sym (idle_is old.shape h r.0 core r.2) ∙ idle in
        ap (λ (b : Bool). brings_if b (task_entry old.shape h task)) may ∙ given

    pub may_begin : hosts.MayBegin core task
    may_begin =
        let r = running_at h core is in
        may_of old.shape h task core r.2.learner.is_host (follows old.shape log (Begin h task) (entries.Begin h task) leads.run brings).1

    pub begins : (new : hosts.Kept) → h < HOSTS
        → ((c : Shape) (g : ℕ) (m : Memory) → hosts.LeadsTo c g m core → hosts.LeadsTo c g (starts_task c m task) new)
        → Brings log (Begin h task) old (record old { hosts = set old.hosts h (Some new) }) (saying h new.said)
    begins new within goes =
        let e : Filled = entries.Begin h task in
        let r = running_at h core is in
        let m : Memory = starts_task old.shape r.0 task in
        let steps : host_step old.shape h ((world old.shape log).host h) e ≡ Running m = ap (λ (x : Host). host_step old.shape h x e) r.1 in
        let kept : hosts.LeadsTo old.shape h m new = goes old.shape h r.0 r.2 in
        something log old leads (Begin h task) e (record old { hosts = set old.hosts h (Some new) }) (saying h new.said)
        brings refl
        (by_host log old leads e h (Some new) within (λ d. refl) (λ g. refl) (subst (λ (x : Host). IsHost old.shape h x (Some new)) (sym steps) kept))
        leads.sized
        (λ place. says_by log old leads e h m new (self_eq h) steps kept place)
