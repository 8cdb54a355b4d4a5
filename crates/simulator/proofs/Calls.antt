-- Device calls of hosts, and what events make of them.
use Rattle.std.specs.Prelude.{not, nat_lt, ◌^◌, is_none, option_map, option_and_then}
use Rattle.std.proofs.Common.{ℕ, ◌<◌, ◌≤◌, ◌≡◌, ◌&&◌, Bool, true, false, Option, Some, None, List, [], length, get_or, refl, sym, ap, ◌∙◌, subst, arith}
use Rattle.std.proofs.Math.ListN.{set}
use Rattle.std.proofs.lemmas.Bool.{ltb-true, lt-ltb}
use Rattle.disk.specs.declared.fault.DiskFault.{DiskFault}
use Rattle.disk.specs.declared.fault.DiskFault.TheVariants.{Failed}
use Rattle.disk.specs.Disk.{DiskState, Call, Attach, Read, Write, Sync, Fault, lost}
use Rattle.disk.specs.Filling.{filled}
use Rattle.disk.specs.Simulated.{SimState, refusal_of, crashed}
use Rattle.torn_block.specs.Layout.{cluster_version}
use Rattle.paxos_block.specs.Places.{image_length}
use Rattle.torn_block.specs.declared.layout.TheConstants.{HOSTS}
use Rattle.paxos_block.specs.Shape.{Shape}
use Rattle.host.specs.Host.{Host, Running, Memory, hears_from, Doing, next_in, next_of, next_doing}
use Rattle.host.specs.Kept as hosts
use Rattle.host.proofs.Hosts.{idle_is}
use Rattle.world.specs.Entry.{Filled, Called, Torn, Crashed, Lost, disk_step, host_step, called_by}
use Rattle.world.specs.World.{World, world}
use Rattle.world.specs.Happens.{Step, Tear, FailCall, DiskCrash, DiskGone, brings_if, are_some, has_disk, answer_of, spread_over, stepped, failed_entry, failed, torn_entry, torn, entry_of}
use Rattle.simulator.specs.Calls.{is_write}
use Rattle.simulator.specs.Kept.{Kept, calm, is_busy, IsHost, LeadsTo, Brings}
use Rattle.simulator.proofs.Changes.{nothing, something}
use Rattle.simulator.proofs.Shown.{saying, by_disk, by_both, says_by, says_nothing_by, sized_set}
use Rattle.simulator.proofs.Events.{self_eq, stopped_at, running_at}

-- one given byte is enough
some_given : (given : List ℕ) → 0 < length given → are_some given ≡ true
some_given given some = lt-ltb 0 (length given) some

module _ (log : List Filled) (old : Kept) (leads : LeadsTo log old) where
  -- an idle host has no call
  no_doing : (c : Shape) (h : ℕ) (m : Memory) (o : Option Doing) → is_none o ≡ true → next_doing c h m o ≡ None
  no_doing c h m None is = refl
  no_doing c h m (Some t) is = absurd (cc)

  not_true : (b : Bool) → not b ≡ false → b ≡ true
  not_true true e = refl
  not_true false e = absurd (cc)

  pub no_call : (h : ℕ) (o : Option hosts.Kept) → get_or old.hosts h None ≡ o → is_busy o ≡ false → next_of old.shape h ((world old.shape log).host h) ≡ None
  no_call h None is idle = ap (next_of old.shape h) (stopped_at log old leads h is)
  no_call h (Some core) is idle =
      let r = running_at log old leads h core is in
      ap (next_of old.shape h) r.1 ∙ no_doing old.shape h r.0 r.0.doing (sym (idle_is old.shape h r.0 core r.2) ∙ not_true (hosts.is_idle core) idle)

  -- WITHOUT A CALL

  pub steps_not : (h : ℕ) → next_of old.shape h ((world old.shape log).host h) ≡ None → Brings log (Step h) old old None
  steps_not h none = nothing log old leads (Step h) (ap (option_map (stepped (world old.shape log) h)) none)

  pub fails_not : (h : ℕ) (given : List ℕ) → 0 < length given → next_of old.shape h ((world old.shape log).host h) ≡ None → Brings log (FailCall h given) old old None
  fails_not h given some none =
      nothing log old leads (FailCall h given)
      (ap (λ (b : Bool). brings_if b (option_and_then (failed (world old.shape log) h given) (next_of old.shape h ((world old.shape log).host h)))) (some_given given some)
      ∙ ap (option_and_then (failed (world old.shape log) h given)) none)

  pub tears_not : (h : ℕ) (given : List ℕ) → 0 < length given → next_of old.shape h ((world old.shape log).host h) ≡ None → Brings log (Tear h given) old old None
  tears_not h given some none =
      nothing log old leads (Tear h given)
      (ap (λ (b : Bool). brings_if b (option_and_then (torn (world old.shape log) h given) (next_of old.shape h ((world old.shape log).host h)))) (some_given given some)
      ∙ ap (option_and_then (torn (world old.shape log) h given)) none)

  -- WITH A CALL

  module _ (h : ℕ) (core : hosts.Kept) (k : ℕ) (call : Call) (x : SimState)
      (within : h < HOSTS) (is : get_or old.hosts h None ≡ Some core)
      (next : (c : Shape) (g : ℕ) (m : Memory) → hosts.LeadsTo c g m core → next_in c g m ≡ Some (k, call))
      (inside : k < old.shape.disks) (x_is : get_or old.disks k x ≡ x) where
    due : next_of old.shape h ((world old.shape log).host h) ≡ Some (k, call)
    due = let r = running_at log old leads h core is in ap (next_of old.shape h) r.1 ∙ next old.shape h r.0 r.2

    same : x ≡ calm ((world old.shape log).disk k)
    same = sym x_is ∙ leads.shows.disks k x inside

    same_disk : x.disk ≡ (world old.shape log).disk k
    same_disk = ap (λ (s : SimState). s.disk) same

    -- it is as long as before
    sized : (there : SimState) → length there.disk.bytes ≡ length x.disk.bytes → (d : ℕ) (other : SimState) → d < old.shape.disks
        → length (get_or (set old.disks k there) d other).disk.bytes ≡ image_length cluster_version old.shape.slots
    sized there as_long =
        let long : length x.disk.bytes ≡ image_length cluster_version old.shape.slots = ap (λ (s : SimState). length s.disk.bytes) (sym x_is) ∙ leads.sized k x inside in
        sized_set old.disks old.shape.disks (image_length cluster_version old.shape.slots) k there leads.shows.disk_count inside (as_long ∙ long) leads.sized

    -- what the disk is then
    left_is : (there : SimState) (e : Filled) (f : DiskState → DiskState) → there ≡ record x { disk = f x.disk }
        → f ((world old.shape log).disk k) ≡ disk_step ((world old.shape log).disk k) e
        → there ≡ calm (disk_step ((world old.shape log).disk k) e)
    left_is there e f is_there steps = is_there ∙ ap (λ (s : SimState). record s { disk = f s.disk }) same ∙ ap calm steps

    pub steps : (there : SimState) (new : hosts.Kept)
        → there ≡ record x { disk = called_by x.disk call (answer_of x.disk call) [] }
        → length there.disk.bytes ≡ length x.disk.bytes
        → ((c : Shape) (g : ℕ) (m : Memory) → hosts.LeadsTo c g m core
        → hosts.LeadsTo c g (hears_from c g m m.doing k (answer_of x.disk call)) new)
        → Brings log (Step h) old (record { shape = old.shape; disks = set old.disks k there; hosts = set old.hosts h (Some new) }) (saying h new.said)
    steps there new is_there as_long hears_then =
        let w = world old.shape log in
        let a = answer_of (w.disk k) call in
        let e : Filled = Called h k call a [] in
        let r = running_at log old leads h core is in
        let m : Memory = hears_from old.shape h r.0 r.0.doing k a in
        let heard : hosts.LeadsTo old.shape h m new = subst
        (λ (d : DiskState). hosts.LeadsTo old.shape h (hears_from old.shape h r.0 r.0.doing k (answer_of d call)) new) same_disk
        (hears_then old.shape h r.0 r.2) in
        let host : host_step old.shape h (w.host h) e ≡ Running m = ap (λ (y : Host). host_step old.shape h y e) r.1 in
        something log old leads (Step h) e (record { shape = old.shape; disks = set old.disks k there; hosts = set old.hosts h (Some new) }) (saying h new.said)
        (ap (option_map (stepped w h)) due) refl
        (by_both log old leads e h (Some new) within (λ g. refl) (subst (λ (y : Host). IsHost old.shape h y (Some new)) (sym host) heard) k there inside (λ d. refl)
        (left_is there e (λ d. called_by d call (answer_of d call) []) is_there refl))
        (sized there as_long)
        (λ place. says_by log old leads e h m new (self_eq h) host heard place)

    -- a call that the disk refuses does not fail
    pub fails_refused : (given : List ℕ) (fault : DiskFault) → 0 < length given → refusal_of x.disk call ≡ Some fault → Brings log (FailCall h given) old old None
    fails_refused given fault some refused =
        let w = world old.shape log in
        nothing log old leads (FailCall h given)
        (ap (λ (b : Bool). brings_if b (option_and_then (failed w h given) (next_of old.shape h (w.host h)))) (some_given given some)
        ∙ ap (option_and_then (failed w h given)) due
        ∙ ap (failed_entry h given (k, call)) (ap (λ (d : DiskState). refusal_of d call) (sym same_disk) ∙ refused))

    pub fails : (given : List ℕ) (there : SimState) (new : hosts.Kept) → 0 < length given → refusal_of x.disk call ≡ None
        → there ≡ record x { disk = called_by x.disk call (Fault Failed) (spread_over call given) }
        → length there.disk.bytes ≡ length x.disk.bytes
        → ((c : Shape) (g : ℕ) (m : Memory) → hosts.LeadsTo c g m core → hosts.LeadsTo c g (hears_from c g m m.doing k (Fault Failed)) new)
        → Brings log (FailCall h given) old (record { shape = old.shape; disks = set old.disks k there; hosts = set old.hosts h (Some new) }) (saying h new.said)
    fails given there new some clear is_there as_long hears_then =
        let w = world old.shape log in
        let e : Filled = Called h k call (Fault Failed) (spread_over call given) in
        let r = running_at log old leads h core is in
        let m : Memory = hears_from old.shape h r.0 r.0.doing k (Fault Failed) in
        let heard : hosts.LeadsTo old.shape h m new = hears_then old.shape h r.0 r.2 in
        let host : host_step old.shape h (w.host h) e ≡ Running m = ap (λ (y : Host). host_step old.shape h y e) r.1 in
        something log old leads (FailCall h given) e (record { shape = old.shape; disks = set old.disks k there; hosts = set old.hosts h (Some new) }) (saying h new.said)
        (ap (λ (b : Bool). brings_if b (option_and_then (failed w h given) (next_of old.shape h (w.host h)))) (some_given given some)
        ∙ ap (option_and_then (failed w h given)) due
        ∙ ap (failed_entry h given (k, call)) (ap (λ (d : DiskState). refusal_of d call) (sym same_disk) ∙ clear)) refl
        (by_both log old leads e h (Some new) within (λ g. refl) (subst (λ (y : Host). IsHost old.shape h y (Some new)) (sym host) heard) k there inside (λ d. refl)
        (left_is there e (λ d. called_by d call (Fault Failed) (spread_over call given)) is_there refl))
        (sized there as_long)
        (λ place. says_by log old leads e h m new (self_eq h) host heard place)

    -- a call that is no write is not torn
    not_written : (w : World) (given : List ℕ) (y : Call) (r : Option DiskFault) → is_write y ≡ false → torn_entry h given k y r ≡ None
    not_written w given Attach r is_not = refl
    not_written w given (Read boot at len) r is_not = refl
    not_written w given (Sync boot) r is_not = refl
    not_written w given (Write boot at from) r is_not = absurd (cc)

    refused_one : (given : List ℕ) (y : Call) (fault : DiskFault) → torn_entry h given k y (Some fault) ≡ None
    refused_one given Attach fault = refl
    refused_one given (Read boot at len) fault = refl
    refused_one given (Sync boot) fault = refl
    refused_one given (Write boot at from) fault = refl

    untorn : (given : List ℕ) → 0 < length given → torn_entry h given k call (refusal_of ((world old.shape log).disk k) call) ≡ None → Brings log (Tear h given) old old None
    untorn given some none =
        let w = world old.shape log in
        nothing log old leads (Tear h given)
        (ap (λ (b : Bool). brings_if b (option_and_then (torn w h given) (next_of old.shape h (w.host h)))) (some_given given some)
        ∙ ap (option_and_then (torn w h given)) due
        ∙ none)

    pub tears_no_write : (given : List ℕ) → 0 < length given → is_write call ≡ false → Brings log (Tear h given) old old None
    tears_no_write given some is_not = untorn given some (not_written (world old.shape log) given call _ is_not)

    -- nor is one that the disk refuses
    pub tears_refused : (given : List ℕ) (fault : DiskFault) → 0 < length given → refusal_of x.disk call ≡ Some fault → Brings log (Tear h given) old old None
    tears_refused given fault some refused =
        untorn given some (ap (torn_entry h given k call) (ap (λ (d : DiskState). refusal_of d call) (sym same_disk) ∙ refused) ∙ refused_one given call fault)

    -- a write that the disk does not refuse is
    torn_write : (given : List ℕ) (y : Call) → is_write y ≡ true → torn_entry h given k y None ≡ Some (Torn h k y (spread_over y given))
    torn_write given Attach is_one = absurd (cc)
    torn_write given (Read boot at len) is_one = absurd (cc)
    torn_write given (Sync boot) is_one = absurd (cc)
    torn_write given (Write boot at from) is_one = refl

    pub tears : (given : List ℕ) (there : SimState) → is_write call ≡ true → 0 < length given → refusal_of x.disk call ≡ None
        → there ≡ record x { disk = called_by x.disk call (Fault Failed) (spread_over call given) }
        → length there.disk.bytes ≡ length x.disk.bytes
        → Brings log (Tear h given) old (record { shape = old.shape; disks = set old.disks k there; hosts = set old.hosts h None }) None
    tears given there is_one some clear is_there as_long =
        let w = world old.shape log in
        let e : Filled = Torn h k call (spread_over call given) in
        something log old leads (Tear h given) e (record { shape = old.shape; disks = set old.disks k there; hosts = set old.hosts h None }) None
        (ap (λ (b : Bool). brings_if b (option_and_then (torn w h given) (next_of old.shape h (w.host h)))) (some_given given some)
        ∙ ap (option_and_then (torn w h given)) due
        ∙ ap (torn_entry h given k call) (ap (λ (d : DiskState). refusal_of d call) (sym same_disk) ∙ clear)
        ∙ torn_write given call is_one) refl
        (by_both log old leads e h None within (λ g. refl) tt k there inside (λ d. refl)
        (left_is there e (λ d. called_by d call (Fault Failed) (spread_over call given)) is_there refl))
        (sized there as_long)
        (λ place. says_nothing_by log old leads e h (self_eq h) refl place)

  -- DISKS

  no_disk_there : (k : ℕ) → old.shape.disks ≤ k → has_disk old.shape (world old.shape log) k ≡ false
  no_disk_there k out = go (nat_lt k old.shape.disks) refl
    where
      go : (b : Bool) → nat_lt k old.shape.disks ≡ b → (b && not ((world old.shape log).disk k).gone) ≡ false
      go true e = let in_range : k < old.shape.disks = ltb-true k old.shape.disks e in absurd (omega arith)
      go false e = refl

  pub crashes_out : (k : ℕ) (given : List ℕ) → 0 < length given → old.shape.disks ≤ k → Brings log (DiskCrash k given) old old None
  crashes_out k given some out = nothing log old leads (DiskCrash k given) (none (no_disk_there k out))
    where
      d : DiskState
      d = (world old.shape log).disk k

      none : has_disk old.shape (world old.shape log) k ≡ false → entry_of old.shape (world old.shape log) (DiskCrash k given) ≡ None
      none off =
          ap (λ (b : Bool). brings_if (are_some given && b && nat_lt ((world old.shape log).disk k).boot (2 ^ 62))
          (Some (Crashed k (filled given 0 ((world old.shape log).disk k).unsynced ((world old.shape log).disk k).bytes)))) off
          ∙ ap (λ (b : Bool). brings_if (b && false && nat_lt ((world old.shape log).disk k).boot (2 ^ 62))
          (Some (Crashed k (filled given 0 ((world old.shape log).disk k).unsynced ((world old.shape log).disk k).bytes)))) (some_given given some)

  pub is_lost_out : (k : ℕ) → old.shape.disks ≤ k → Brings log (DiskGone k) old old None
  is_lost_out k out = nothing log old leads (DiskGone k) (ap (λ (b : Bool). brings_if b (Some (Lost k))) (no_disk_there k out))

  module _ (k : ℕ) (x : SimState) (inside : k < old.shape.disks) (x_is : get_or old.disks k x ≡ x) where
    kept_disk : x ≡ calm ((world old.shape log).disk k)
    kept_disk = sym x_is ∙ leads.shows.disks k x inside

    as_long_as : (there : SimState) → length there.disk.bytes ≡ length x.disk.bytes → (d : ℕ) (other : SimState) → d < old.shape.disks
        → length (get_or (set old.disks k there) d other).disk.bytes ≡ image_length cluster_version old.shape.slots
    as_long_as there as_long =
        let long : length x.disk.bytes ≡ image_length cluster_version old.shape.slots = ap (λ (s : SimState). length s.disk.bytes) (sym x_is) ∙ leads.sized k x inside in
        sized_set old.disks old.shape.disks (image_length cluster_version old.shape.slots) k there leads.shows.disk_count inside (as_long ∙ long) leads.sized

    tests : (gone : Bool) → x.disk.gone ≡ gone → has_disk old.shape (world old.shape log) k ≡ not gone
    tests gone is =
        ap (λ (b : Bool). b && not ((world old.shape log).disk k).gone) (lt-ltb k old.shape.disks inside)
        ∙ ap not (ap (λ (s : SimState). s.disk.gone) (sym kept_disk) ∙ is)

    pub is_lost_gone : x.disk.gone ≡ true → Brings log (DiskGone k) old old None
    is_lost_gone gone = nothing log old leads (DiskGone k) (ap (λ (b : Bool). brings_if b (Some (Lost k))) (tests true gone))

    pub is_lost : (there : SimState) → x.disk.gone ≡ false → there ≡ record x { disk = lost x.disk }
        → Brings log (DiskGone k) old (record old { disks = set old.disks k there }) None
    is_lost there here is_there =
        let e : Filled = Lost k in
        something log old leads (DiskGone k) e (record old { disks = set old.disks k there }) None
        (ap (λ (b : Bool). brings_if b (Some e)) (tests false here)) refl
        (by_disk log old leads e k there inside (λ d. refl) (λ g. refl) (is_there ∙ ap (λ (s : SimState). record s { disk = lost s.disk }) kept_disk))
        (as_long_as there (ap (λ (s : SimState). length s.disk.bytes) is_there))
        (λ place. refl)

    pub crashes_not : (given : List ℕ) → 0 < length given → (not x.disk.gone && nat_lt x.disk.boot (2 ^ 62)) ≡ false → Brings log (DiskCrash k given) old old None
    crashes_not given some denied =
        let w = world old.shape log in
        let e : Filled = Crashed k (filled given 0 (w.disk k).unsynced (w.disk k).bytes) in
        let test : (not (w.disk k).gone && nat_lt (w.disk k).boot (2 ^ 62)) ≡ false = ap (λ (s : SimState). not s.disk.gone && nat_lt s.disk.boot (2 ^ 62)) (sym kept_disk)
        ∙ denied in
        nothing log old leads (DiskCrash k given)
        (ap (λ (b : Bool). brings_if (b && has_disk old.shape w k && nat_lt (w.disk k).boot (2 ^ 62)) (Some e)) (some_given given some)
        ∙ ap (λ (b : Bool). brings_if (b && not (w.disk k).gone && nat_lt (w.disk k).boot (2 ^ 62)) (Some e)) (lt-ltb k old.shape.disks inside)
        ∙ ap (λ (b : Bool). brings_if b (Some e)) test)

    pub crashes : (given : List ℕ) (there : SimState) → 0 < length given → (not x.disk.gone && nat_lt x.disk.boot (2 ^ 62)) ≡ true
        → there ≡ record x { disk = crashed x.disk given }
        → length there.disk.bytes ≡ length x.disk.bytes
        → Brings log (DiskCrash k given) old (record old { disks = set old.disks k there }) None
    crashes given there some allowed is_there as_long =
        let w = world old.shape log in
        let e : Filled = Crashed k (filled given 0 (w.disk k).unsynced (w.disk k).bytes) in
        let test : (not (w.disk k).gone && nat_lt (w.disk k).boot (2 ^ 62)) ≡ true = ap (λ (s : SimState). not s.disk.gone && nat_lt s.disk.boot (2 ^ 62)) (sym kept_disk)
        ∙ allowed in
        something log old leads (DiskCrash k given) e (record old { disks = set old.disks k there }) None
        (ap (λ (b : Bool). brings_if (b && has_disk old.shape w k && nat_lt (w.disk k).boot (2 ^ 62)) (Some e)) (some_given given some)
        ∙ ap (λ (b : Bool). brings_if (b && not (w.disk k).gone && nat_lt (w.disk k).boot (2 ^ 62)) (Some e)) (lt-ltb k old.shape.disks inside)
        ∙ ap (λ (b : Bool). brings_if b (Some e)) test) refl
        (by_disk log old leads e k there inside (λ d. refl) (λ g. refl) (is_there ∙ ap (λ (s : SimState). record s { disk = crashed s.disk given }) kept_disk))
        (as_long_as there as_long)
        (λ place. refl)
