-- What the code of a simulated cluster owes, in its own terms.
use Rattle.std.specs.Prelude.{replicate, not, is_some, is_none, IsSome}
use Rattle.std.specs.Option.{option_map}
use Rattle.std.proofs.Common.{arith, ℕ, ◌<◌, ◌≡◌, Bool, true, false, Option, Some, None, List, [], length, get_or, refl, sym, ap, ◌∙◌, subst, zero, suc}
use Rattle.std.proofs.Math.ListN.{set}
use Rattle.std.proofs.lemmas.List.{get_or_read, get_or-set_same, set-get_or, length-replicate, get_or-replicate}
use Rattle.disk.specs.declared.fault.DiskFault.{DiskFault}
use Rattle.disk.specs.declared.fault.DiskFault.TheVariants.{Failed}
use Rattle.disk.specs.Disk.{Call, Answer, Fault}
use Rattle.disk.specs.Simulated.{SimState, refusal_of, fresh_disk}
use Rattle.disk.proofs.StepLemmas.{shape_fresh}
use Rattle.torn_block.specs.Layout.{cluster_version}
use Rattle.paxos_block.specs.Places.{image_length}
use Rattle.torn_block.specs.declared.layout.TheConstants.{HOSTS}
use Rattle.paxos_block.specs.Shape.{Shape}
use Rattle.attempt.specs.declared.need.Need.{Need}
use Rattle.attempt.specs.declared.need.DeviceCall as code_call
use Rattle.attempt.specs.DeviceCalls.{call_of_need, device_call_of, IsWithin}
use Rattle.host.specs.declared.answer.HostAnswer.{HostAnswer}
use Rattle.host.specs.declared.task.Task.{Task}
use Rattle.host.specs.Host.{Stopped, Memory, fresh, starts as starts_task, hears_from, next_in}
use Rattle.host.specs.Kept as hosts
use Rattle.world.specs.Entry as entries
use Rattle.world.specs.Entry.{Filled, called_by}
use Rattle.world.specs.World.{world}
use Rattle.world.specs.Happens.{Event, Start, Stop, Begin, Step, Tear, FailCall, DiskCrash, DiskGone, answer_of, spread_over, task_entry}
use Rattle.simulator.specs.declared.simulated_cluster.Said.{Said}
use Rattle.simulator.specs.declared.simulated_cluster.SimulatedCluster.TheInside.{Inside}
use Rattle.simulator.specs.Calls.{is_write, may_crash, crashed_if, lost_if}
use Rattle.simulator.specs.Kept.{Kept, calm, is_busy, is_free, said_by, said_now, IsHost, LeadsTo, IsReached, Brings}
use Rattle.simulator.proofs.Shown.{named}
use Rattle.simulator.proofs.Events as events
use Rattle.simulator.proofs.Events.{running_at}
use Rattle.simulator.proofs.Calls as calls

-- what is kept in the fields
abbrev pub kept_in : Inside → Kept
kept_in p = record { shape = p.config; disks = p.disks.items; hosts = p.hosts.items }

-- what an option is, by its test
pub some_of : (A : Type 0) (P : Type 0) (o : Option A) → is_some o ≡ true → ((a : A) → o ≡ Some a → P) → P
some_of A P None is p = absurd (cc)
some_of A P (Some a) is p = p a refl

pub none_of : {A : Type 0} (o : Option A) → is_some o ≡ false → o ≡ None
none_of None is = refl
none_of (Some a) is = absurd (cc)

-- AT FIRST

-- all are stopped
none_at : (n h : ℕ) → let none : Option hosts.Kept = None in get_or (replicate n none) h none ≡ none
none_at zero h = refl
none_at (suc n) zero = refl
none_at (suc n) (suc h) = none_at n h

pub opens : (c : Shape) (disks : List SimState) (kept : List (Option hosts.Kept)) → disks ≡ replicate c.disks (calm (fresh_disk (image_length cluster_version c.slots)))
    → kept ≡ replicate HOSTS None
    → LeadsTo [] (record { shape = c; disks = disks; hosts = kept })
opens c disks kept are_fresh are_stopped =
    let x : SimState = calm (fresh_disk (image_length cluster_version c.slots)) in
    let stopped : Option hosts.Kept = None in
    let at : (d : ℕ) (other : SimState) → d < c.disks
    → get_or disks d other ≡ x = λ d other inside. ap (λ (l : List SimState). get_or l d other) are_fresh ∙ get_or-replicate c.disks d x other inside in
    record {
      run = tt;
      shows = record {
        disk_count = ap length are_fresh ∙ length-replicate c.disks x;
        host_count = ap length are_stopped ∙ length-replicate HOSTS stopped;
        disks = at;
        hosts = λ h. subst (λ (o : Option hosts.Kept). IsHost c h Stopped o) (sym (ap (λ (l : List (Option hosts.Kept)). get_or l h None) are_stopped ∙ none_at HOSTS h)) tt;
      };
      sized = λ d other inside. ap (λ (s : SimState). length s.disk.bytes) (at d other inside) ∙ (shape_fresh (image_length cluster_version c.slots)).1;
    }

-- THE PLACE OF A HOST

-- where its number leads in the list of hosts
pub record Place (old : Kept) (h : ℕ) : Type 0 where
  pub i : ℕ
  pub same : i ≡ h
  pub within : i < HOSTS
  pub here : i < length old.hosts

abbrev pub place_of : (old : Kept) → IsReached old → (h number i : ℕ) → number ≡ h → number < HOSTS → i ≡ number → Place old h
place_of old is h number i value range at =
    record { i = i; same = at ∙ value; within = omega (arith, at, range); here = omega (arith, at, range, is.leads.shows.host_count) }

module _ (old : Kept) (h : ℕ) (p : Place old h) (o : Option hosts.Kept) (value : o ≡ get_or old.hosts p.i o) where
  -- what an index read there, at the default of the definitions
  pub stood : get_or old.hosts p.i None ≡ o
  stood = sym (get_or_read old.hosts p.i o p.here value None)

  pub stands : get_or old.hosts h None ≡ o
  stands = ap (λ (i : ℕ). get_or old.hosts i None) (sym p.same) ∙ stood

-- a host that may begin an operation
pub record Idle (old : Kept) (h : ℕ) (p : Place old h) : Type 0 where
  pub core : hosts.Kept
  pub found : get_or old.hosts p.i None ≡ Some core
  pub idle : hosts.is_idle core ≡ true

abbrev pub idle_of : (old : Kept) (h : ℕ) (p : Place old h) (o : Option hosts.Kept) → o ≡ get_or old.hosts p.i o → is_free o ≡ true
    → (there : Option hosts.Kept) → there ≡ get_or old.hosts p.i there → (core : hosts.Kept) → there ≡ Some core → Idle old h p
idle_of old h p o value free there again core some =
    let found : get_or old.hosts p.i None ≡ Some core = stood old h p there again ∙ some in
    record { core = core; found = found; idle = ap is_free (sym found ∙ stood old h p o value) ∙ free }

-- WHAT IS KNOWN OF A HOST AND ITS CALL

module _ (old : Kept) (is : IsReached old) (i : ℕ) (core : hosts.Kept) (found : get_or old.hosts i None ≡ Some core) where
  pub own_shape : core.learner.shape ≡ old.shape
  own_shape = (running_at is.log old is.leads i core found).2.learner.shape

  -- its disk is one of the cluster's
  pub on_disk : (k : ℕ) → k < core.learner.shape.disks → k < old.shape.disks
  on_disk k within = subst (λ (c : Shape). k < c.disks) own_shape within

  -- and its call within that
  pub in_range : (j : ℕ) (x : SimState) (call : code_call.DeviceCall) → j < old.shape.disks → x ≡ get_or old.disks j x
      → IsWithin cluster_version (image_length cluster_version core.learner.shape.slots) call → IsWithin cluster_version (length x.disk.bytes) call
  in_range j x call inside value within =
      let long : length x.disk.bytes ≡ image_length cluster_version old.shape.slots = ap (λ (s : SimState). length s.disk.bytes) value ∙ is.leads.sized j x inside in
      subst (λ (n : ℕ). IsWithin cluster_version n call) (sym long) (subst (λ (c : Shape). IsWithin cluster_version (image_length cluster_version c.slots) call) own_shape within)

-- no failure was asked for of any disk
pub calm_at : (old : Kept) → IsReached old → (j : ℕ) (x : SimState) → j < old.shape.disks → x ≡ get_or old.disks j x → x.failing ≡ None
calm_at old is j x inside value = ap (λ (s : SimState). s.failing) (value ∙ is.leads.shows.disks j x inside)

module _ (old : Kept) (h : ℕ) (p : Place old h) where
  -- an event of the host at the place is one of this host
  here_is : (event : ℕ → Event) (new : Kept) → ((log : List Filled) → LeadsTo log old → Brings log (event p.i) old new None)
      → (log : List Filled) → LeadsTo log old → Brings log (event h) old new None
  here_is event new brings log leads = subst (λ (j : ℕ). Brings log (event j) old new None) p.same (brings log leads)

  -- of what an index read there
  module _ (o : Option hosts.Kept) (value : o ≡ get_or old.hosts p.i o) where
    is : get_or old.hosts p.i None ≡ o
    is = stood old h p o value

    pub starts : is_some o ≡ false → (core : hosts.Kept) → hosts.LeadsTo old.shape h fresh core
        → (log : List Filled) → LeadsTo log old → Brings log (Start h) old (record old { hosts = set old.hosts p.i (Some core) }) None
    starts none core kept =
        here_is Start (record old { hosts = set old.hosts p.i (Some core) })
        (λ log leads. events.starts log old leads p.i core p.within (is ∙ none_of o none) (subst (λ (j : ℕ). hosts.LeadsTo old.shape j fresh core) (sym p.same) kept))

    pub starts_not : is_some o ≡ true → (log : List Filled) → LeadsTo log old → Brings log (Start h) old old None
    starts_not some =
        here_is Start old
        (λ log leads. some_of hosts.Kept (Brings log (Start p.i) old old None) o some (λ core there. events.starts_not log old leads p.i core (is ∙ there)))

    -- nothing of a host that carries out no operation, or may begin none
    pub steps_idle : is_busy o ≡ false → (log : List Filled) → LeadsTo log old → Brings log (Step h) old old None
    steps_idle idle = here_is Step old (λ log leads. calls.steps_not log old leads p.i (calls.no_call log old leads p.i o is idle))

    pub fails_idle : (given : List ℕ) → 0 < length given → is_busy o ≡ false → (log : List Filled) → LeadsTo log old → Brings log (FailCall h given) old old None
    fails_idle given some idle = here_is (λ j. FailCall j given) old (λ log leads. calls.fails_not log old leads p.i given some (calls.no_call log old leads p.i o is idle))

    pub tears_idle : (given : List ℕ) → 0 < length given → is_busy o ≡ false → (log : List Filled) → LeadsTo log old → Brings log (Tear h given) old old None
    tears_idle given some idle = here_is (λ j. Tear j given) old (λ log leads. calls.tears_not log old leads p.i given some (calls.no_call log old leads p.i o is idle))

    pub begins_busy : (task : Task) → is_free o ≡ false → (log : List Filled) → LeadsTo log old → Brings log (Begin h task) old old None
    begins_busy task busy = here_is (λ j. Begin j task) old (λ log leads. events.begins_not log old leads p.i task o is busy)

    -- a call that is no write is not torn
    pub tears_no_write : IsReached old → (core : hosts.Kept) → o ≡ Some core → (need : Need)
        → ((c : Shape) (g : ℕ) (m : Memory) → hosts.LeadsTo c g m core → next_in c g m ≡ Some (call_of_need cluster_version need))
        → need.disk < core.learner.shape.disks → (given : List ℕ) → 0 < length given → is_write (device_call_of cluster_version need.call) ≡ false
        → (log : List Filled) → LeadsTo log old → Brings log (Tear h given) old old None
    tears_no_write reached core some need next on_its given some_given is_not =
        let found : get_or old.hosts p.i None ≡ Some core = is ∙ some in
        let inside : need.disk < old.shape.disks = on_disk old reached p.i core found need.disk on_its in
        here_is (λ j. Tear j given) old
        (λ log leads. calls.tears_no_write log old leads p.i core need.disk (device_call_of cluster_version need.call) (calm ((world old.shape log).disk need.disk)) p.within found next inside
        (leads.shows.disks need.disk (calm ((world old.shape log).disk need.disk)) inside) given some_given is_not)

  pub stops : (log : List Filled) → LeadsTo log old → Brings log (Stop h) old (record old { hosts = set old.hosts p.i None }) None
  stops = here_is Stop (record old { hosts = set old.hosts p.i None }) (λ log leads. events.stops log old leads p.i (get_or old.hosts p.i None) p.within refl)

  -- an idle host begins a task that it may be given
  module _ (d : Idle old h p) (task : Task) (given : task_entry old.shape h task ≡ Some (entries.Begin h task)) where
    given_here : task_entry old.shape p.i task ≡ Some (entries.Begin p.i task)
    given_here = subst (λ (j : ℕ). task_entry old.shape j task ≡ Some (entries.Begin j task)) (sym p.same) given

    pub may_begin : IsReached old → hosts.MayBegin d.core task
    may_begin is = events.may_begin is.log old is.leads p.i task d.core given_here d.found d.idle

    pub begins : (new : hosts.Kept) (said : Option Said) → said ≡ option_map (λ answer. record { host = h; answer = answer }) new.said
        → ((c : Shape) (g : ℕ) (m : Memory) → hosts.LeadsTo c g m d.core → hosts.LeadsTo c g (starts_task c m task) new)
        → (log : List Filled) → LeadsTo log old → Brings log (Begin h task) old (record old { hosts = set old.hosts p.i (Some new) }) said
    begins new said is_said goes log leads =
        named (λ j. Begin j task) log old (record old { hosts = set old.hosts p.i (Some new) }) p.i h new.said said p.same is_said
        (events.begins log old leads p.i task d.core given_here d.found d.idle new p.within goes)

-- A CALL

-- the next call of a host, and the disk that it is on
pub record Due (old : Kept) (h : ℕ) : Type 0 where
  pub at : Place old h
  pub core : hosts.Kept
  pub found : get_or old.hosts at.i None ≡ Some core
  pub need : Need
  pub next : (c : Shape) (g : ℕ) (m : Memory) → hosts.LeadsTo c g m core → next_in c g m ≡ Some (call_of_need cluster_version need)
  pub due : call_of_need cluster_version need ≡ hosts.due_call core
  pub j : ℕ
  pub on : j ≡ need.disk
  pub inside : j < old.shape.disks
  pub x : SimState
  pub value : x ≡ get_or old.disks j x

module _ (old : Kept) (is : IsReached old) (h : ℕ) (p : Place old h) (o : Option hosts.Kept) (value : o ≡ get_or old.hosts p.i o) (core : hosts.Kept) (some : o ≡ Some core)
    (need : Need) (on_its : need.disk < core.learner.shape.disks) (j : ℕ) (on : j ≡ need.disk) where
  pub found : get_or old.hosts p.i None ≡ Some core
  found = stood old h p o value ∙ some

  pub inside : j < old.shape.disks
  inside = subst (λ (k : ℕ). k < old.shape.disks) (sym on) (on_disk old is p.i core found need.disk on_its)

  -- the disk is there
  pub is_there : j < length old.disks
  is_there = omega (arith, inside, is.leads.shows.disk_count)

  abbrev pub due_of : ((c : Shape) (g : ℕ) (m : Memory) → hosts.LeadsTo c g m core → next_in c g m ≡ Some (call_of_need cluster_version need)) → call_of_need cluster_version need ≡ hosts.due_call core
      → (x : SimState) → x ≡ get_or old.disks j x → Due old h
  due_of next due x is_x = record { at = p; core = core; found = found; need = need; next = next; due = due; j = j; on = on; inside = inside; x = x; value = is_x }

-- what a host says, in the words of the contracts
abbrev said_as : ℕ → Option HostAnswer → Option Said
said_as h o = option_map (λ answer. record { host = h; answer = answer }) o

some_said : (h : ℕ) (o : Option HostAnswer) → not (is_none o) ≡ true → IsSome (said_as h o)
some_said h None is = absurd (cc)
some_said h (Some answer) is = refl

none_said : (h : ℕ) (o : Option HostAnswer) → not (is_none o) ≡ false → None ≡ said_as h o
none_said h None is = refl
none_said h (Some answer) is = absurd (cc)

module _ (old : Kept) (h : ℕ) (d : Due old h) where
  abbrev call : Call
  call = device_call_of cluster_version d.need.call

  next_at : (c : Shape) (g : ℕ) (m : Memory) → hosts.LeadsTo c g m d.core → next_in c g m ≡ Some (d.j, call)
  next_at c g m leads = d.next c g m leads ∙ ap (λ (k : ℕ). Some (k, call)) (sym d.on)

  -- the disk behind the call, and the host
  abbrev pub after : SimState → Option hosts.Kept → Kept
  after there host = record { shape = old.shape; disks = set old.disks d.j there; hosts = set old.hosts d.at.i host }

  -- no failure was asked for of the disk
  pub is_calm : IsReached old → d.x.failing ≡ None
  is_calm is = calm_at old is d.j d.x d.inside d.value

  -- and the call is within it
  pub is_within : IsReached old → IsWithin cluster_version (image_length cluster_version d.core.learner.shape.slots) d.need.call → IsWithin cluster_version (length d.x.disk.bytes) d.need.call
  is_within is within = in_range old is d.at.i d.core d.found d.j d.x d.need.call d.inside d.value within

  -- it hears on this disk
  hears_at : (heard other : Answer) (new : hosts.Kept) → heard ≡ other
      → ((c : Shape) (g : ℕ) (m : Memory) → hosts.LeadsTo c g m d.core → hosts.LeadsTo c g (hears_from c g m m.doing (hosts.due_call d.core).0 heard) new)
      → (c : Shape) (g : ℕ) (m : Memory) → hosts.LeadsTo c g m d.core → hosts.LeadsTo c g (hears_from c g m m.doing d.j other) new
  hears_at heard other new alike hears_then c g m leads =
      subst (λ (e : Answer). hosts.LeadsTo c g (hears_from c g m m.doing d.j e) new) alike
      (subst (λ (k : ℕ). hosts.LeadsTo c g (hears_from c g m m.doing k heard) new) (ap (λ (p : ℕ × Call). p.0) (sym d.due) ∙ sym d.on) (hears_then c g m leads))

  pub steps : (new : hosts.Kept) (there : SimState) (heard : Answer) (said : Option Said)
      → there ≡ record d.x { disk = called_by d.x.disk call (answer_of d.x.disk call) [] }
      → length there.disk.bytes ≡ length d.x.disk.bytes
      → heard ≡ answer_of d.x.disk call
      → ((c : Shape) (g : ℕ) (m : Memory) → hosts.LeadsTo c g m d.core → hosts.LeadsTo c g (hears_from c g m m.doing (hosts.due_call d.core).0 heard) new)
      → said ≡ option_map (λ answer. record { host = h; answer = answer }) new.said
      → (log : List Filled) → LeadsTo log old → Brings log (Step h) old (after there (Some new)) said
  steps new there heard said left as_long alike hears_then is_said log leads =
      named Step log old (after there (Some new)) d.at.i h new.said said d.at.same is_said
      (calls.steps log old leads d.at.i d.core d.j call d.x d.at.within d.found next_at d.inside (sym d.value) there new left as_long (hears_at heard _ new alike hears_then))

  -- what it says then
  pub says_now : IsReached old → (there : SimState) (new : hosts.Kept) → said_now h (after there (Some new)) ≡ said_as h new.said
  says_now is there new =
      let inside : d.at.i < length old.hosts = omega (arith, d.at.within, is.leads.shows.host_count) in
      ap (said_by h) (ap (λ (j : ℕ). get_or (set old.hosts d.at.i (Some new)) j None) (sym d.at.same) ∙ get_or-set_same old.hosts d.at.i (Some new) None inside)

  pub speaks_now : IsReached old → (there : SimState) (new : hosts.Kept) (silent : Bool) → silent ≡ is_none new.said → not silent ≡ true → IsSome (said_now h (after there (Some new)))
  speaks_now is there new silent test speaks =
      subst (λ (o : Option Said). IsSome o) (sym (says_now is there new)) (some_said h new.said (ap not (sym test) ∙ speaks))

  pub silent_now : (new : hosts.Kept) (silent : Bool) → silent ≡ is_none new.said → not silent ≡ false → None ≡ said_as h new.said
  silent_now new silent test speaks = none_said h new.said (ap not (sym test) ∙ speaks)

  pub fails : (given : List ℕ) (new : hosts.Kept) (there : SimState) (said : Option Said) → 0 < length given
      → refusal_of d.x.disk call ≡ None
      → there ≡ record d.x { disk = called_by d.x.disk call (Fault Failed) (spread_over call given) }
      → length there.disk.bytes ≡ length d.x.disk.bytes
      → ((c : Shape) (g : ℕ) (m : Memory) → hosts.LeadsTo c g m d.core
      → hosts.LeadsTo c g (hears_from c g m m.doing (hosts.due_call d.core).0 (Fault Failed)) new)
      → said ≡ option_map (λ answer. record { host = h; answer = answer }) new.said
      → (log : List Filled) → LeadsTo log old → Brings log (FailCall h given) old (after there (Some new)) said
  fails given new there said some clear left as_long hears_then is_said log leads =
      named (λ k. FailCall k given) log old (after there (Some new)) d.at.i h new.said said d.at.same is_said
      (calls.fails log old leads d.at.i d.core d.j call d.x d.at.within d.found next_at d.inside (sym d.value) given there new some clear left as_long
      (hears_at _ _ new refl hears_then))

  pub fails_refused : (given : List ℕ) (fault : DiskFault) → 0 < length given → refusal_of d.x.disk call ≡ Some fault
      → (log : List Filled) → LeadsTo log old → Brings log (FailCall h given) old old None
  fails_refused given fault some refused log leads =
      subst (λ (k : ℕ). Brings log (FailCall k given) old old None) d.at.same
      (calls.fails_refused log old leads d.at.i d.core d.j call d.x d.at.within d.found next_at d.inside (sym d.value) given fault some refused)

  pub tears_refused : (given : List ℕ) (fault : DiskFault) → 0 < length given → refusal_of d.x.disk call ≡ Some fault
      → (log : List Filled) → LeadsTo log old → Brings log (Tear h given) old old None
  tears_refused given fault some refused log leads =
      subst (λ (k : ℕ). Brings log (Tear k given) old old None) d.at.same
      (calls.tears_refused log old leads d.at.i d.core d.j call d.x d.at.within d.found next_at d.inside (sym d.value) given fault some refused)

  pub tears : (given : List ℕ) (there : SimState) → is_write call ≡ true → 0 < length given
      → refusal_of d.x.disk call ≡ None
      → there ≡ record d.x { disk = called_by d.x.disk call (Fault Failed) (spread_over call given) }
      → length there.disk.bytes ≡ length d.x.disk.bytes
      → (log : List Filled) → LeadsTo log old → Brings log (Tear h given) old (after there None) None
  tears given there is_one some clear left as_long log leads =
      subst (λ (k : ℕ). Brings log (Tear k given) old (after there None) None) d.at.same
      (calls.tears log old leads d.at.i d.core d.j call d.x d.at.within d.found next_at d.inside (sym d.value) given there is_one some clear left as_long)

-- WHAT WAS PUT BACK

module _ (old : Kept) (i j : ℕ) (o : Option hosts.Kept) (x there : SimState) (is : get_or old.hosts i None ≡ o) (same : there ≡ x) (value : x ≡ get_or old.disks j x) where
  disks_back : set old.disks j there ≡ old.disks
  disks_back = ap (set old.disks j) (same ∙ value) ∙ set-get_or old.disks j x

  hosts_back : set old.hosts i o ≡ old.hosts
  hosts_back = ap (set old.hosts i) (sym is) ∙ set-get_or old.hosts i None

  pub both_back : (event : Event) → ((log : List Filled) → LeadsTo log old → Brings log event old old None)
      → (log : List Filled) → LeadsTo log old → Brings log event old (record { shape = old.shape; disks = set old.disks j there; hosts = set old.hosts i o }) None
  both_back event brings log leads =
      subst (λ (ds : List SimState). Brings log event old (record { shape = old.shape; disks = ds; hosts = set old.hosts i o }) None) (sym disks_back)
      (subst (λ (hs : List (Option hosts.Kept)). Brings log event old (record { shape = old.shape; disks = old.disks; hosts = hs }) None) (sym hosts_back) (brings log leads))

  pub disk_only_back : (event : Event) → ((log : List Filled) → LeadsTo log old → Brings log event old old None)
      → (log : List Filled) → LeadsTo log old → Brings log event old (record { shape = old.shape; disks = set old.disks j there; hosts = old.hosts }) None
  disk_only_back event brings log leads =
      subst (λ (ds : List SimState). Brings log event old (record { shape = old.shape; disks = ds; hosts = old.hosts }) None) (sym disks_back) (brings log leads)

-- A DISK

-- a disk that is put back changes nothing
pub disk_back : (k : Kept) (j : ℕ) (x there : SimState) → there ≡ x → x ≡ get_or k.disks j x → (record k { disks = set k.disks j there }) ≡ k
disk_back k j x there same value = ap (λ (s : SimState). record k { disks = set k.disks j s }) (same ∙ value)
    ∙ ap (λ (ds : List SimState). record k { disks = ds }) (set-get_or k.disks j x)

module _ (old : Kept) (h i : ℕ) (same : i ≡ h) (inside : i < old.shape.disks) (x there : SimState) (value : x ≡ get_or old.disks i x) where
  pub crashes : (given : List ℕ) → 0 < length given → there ≡ crashed_if (may_crash x.disk) x given → length there.disk.bytes ≡ length x.disk.bytes
      → (log : List Filled) → LeadsTo log old → Brings log (DiskCrash h given) old (record old { disks = set old.disks i there }) None
  crashes given some left as_long log leads = subst (λ (k : ℕ). Brings log (DiskCrash k given) old (record old { disks = set old.disks i there }) None) same
      (go (may_crash x.disk) refl left)
    where
      go : (b : Bool) → may_crash x.disk ≡ b → there ≡ crashed_if b x given → Brings log (DiskCrash i given) old (record old { disks = set old.disks i there }) None
      go true e l = calls.crashes log old leads i x inside (sym value) given there some e l as_long
      go false e l = subst (λ (k : Kept). Brings log (DiskCrash i given) old k None) (sym (disk_back old i x there l value))
          (calls.crashes_not log old leads i x inside (sym value) given some e)

  pub is_lost : there ≡ lost_if x.disk.gone x → (log : List Filled) → LeadsTo log old → Brings log (DiskGone h) old (record old { disks = set old.disks i there }) None
  is_lost left log leads = subst (λ (k : ℕ). Brings log (DiskGone k) old (record old { disks = set old.disks i there }) None) same (go x.disk.gone refl left)
    where
      go : (b : Bool) → x.disk.gone ≡ b → there ≡ lost_if b x → Brings log (DiskGone i) old (record old { disks = set old.disks i there }) None
      go true e l = subst (λ (k : Kept). Brings log (DiskGone i) old k None) (sym (disk_back old i x there l value)) (calls.is_lost_gone log old leads i x inside (sym value) e)
      go false e l = calls.is_lost log old leads i x inside (sym value) there e l
