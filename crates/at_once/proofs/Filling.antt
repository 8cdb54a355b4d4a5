-- What is done at once is a run of the world, with the bytes that the disks show behind their faults.
use Rattle.std.specs.Prelude.{◌^◌, map, take}
use Rattle.std.proofs.Common.{ℕ, ◌≡◌, ◌==◌, ◌<◌, Bool, true, false, true≢false, cond, List, [], ◌∷◌, ◌++◌, refl, sym, subst, ap, ◌∙◌, inl, inr, arith}
use Rattle.std.proofs.lemmas.Bool.{cases_Bool, eqb-true}
use Rattle.std.proofs.lemmas.Bool.Decides.{nat_tests}
use Rattle.std.proofs.lemmas.List.{take-map}
use Rattle.disk.specs.declared.fault.DiskFault.TheVariants.{Reset, Failed, Gone}
use Rattle.disk.specs.Disk.{DiskState, Call, Attach, Read, Write, Sync, Answer, Booted, Told, Done, Fault, Step, Crashes, lost}
use Rattle.disk.proofs.StepLemmas.{shape_fresh}
use Rattle.torn_block.specs.Layout.{cluster_version}
use Rattle.paxos_block.specs.Places.{IsImage, image_length}
use Rattle.lock_command.specs.declared.command.Command.{Command}
use Rattle.paxos_block.specs.Shape.{Shape}
use Rattle.host.specs.Host.{Host, Stopped}
use Rattle.world.specs.Entry.{Filled, Start, Stop, Begin, Called, Torn, Crashed, Lost, Migrated, is_on, is_of, on_disk, of_host, torn_by, called_by, crashed_to, disk_step, host_step, host_after}
use Rattle.world.specs.World.{World, Tears, opening_disk, world, MayFollow, CanMigrate, IsRunFrom, IsRun}
use Rattle.world.proofs.Runs.{more, fresh_is_run}
use Rattle.world.proofs.Projections.{disk_here, disk_there, host_here, host_there}
use Rattle.world_safety.proofs.Blocks.Migrated.{image}
use Rattle.world_safety.proofs.Claims.Safety.{headline}
use Rattle.at_once.specs.Images.{used}
use Rattle.at_once.proofs.Headless.{IsThere, used_steps, there_after, used_tears, there_torn, used_crashes, there_crashed, there_begun}
use Rattle.at_once.proofs.Lying.{lies}
use Rattle.at_once.specs.AtOnce.{Does, Serves, IsDeed, AreDeeds, IsAtOnceFrom, IsAtOnce, IsAtOnceAfter, bare, IsRunOf}

is_itself : (n : ℕ) → (n == n) ≡ true
is_itself n = grind (arith, nat_tests)

-- THE BYTES LEFT

pub record Leaves (make : List ℕ → DiskState) (new : DiskState) : Type 0 where
  pub left : List ℕ
  pub is : make left ≡ new

left_by_call : (old new : DiskState) (call : Call) (answer : Answer) → Step old call answer new → Leaves (called_by old call answer) new
left_by_call old new call (Booted boot) s = record { left = []; is = sym s.2.1 }
left_by_call old new call (Told bytes) s = record { left = []; is = sym s.2.1 }
left_by_call old new call Done s = record { left = []; is = sym s.2.1 }
left_by_call old new call (Fault Reset) s = record { left = []; is = sym s.2 }
left_by_call old new call (Fault Gone) s = record { left = []; is = sym s.1 }
left_by_call old new Attach (Fault Failed) s = record { left = []; is = sym s.2 }
left_by_call old new (Read boot at len) (Fault Failed) s = record { left = []; is = sym s.2 }
left_by_call old new (Write boot at from) (Fault Failed) s = record { left = s.2.left; is = sym s.2.leaves }
left_by_call old new (Sync boot) (Fault Failed) s = record { left = []; is = sym s.2 }

left_by_tear : (old new : DiskState) (call : Call) → Tears call old new → Leaves (torn_by old call) new
left_by_tear old new Attach s = absurd s
left_by_tear old new (Read boot at len) s = absurd s
left_by_tear old new (Write boot at from) s = record { left = s.2.left; is = sym s.2.leaves }
left_by_tear old new (Sync boot) s = absurd s

left_by_crash : (old new : DiskState) → Crashes old new → crashed_to old new.bytes ≡ new
left_by_crash old new s = λ i. record { bytes = new.bytes; unsynced = sym s.unsynced i; boot = sym s.boot i; gone = sym s.gone i }

-- WHAT IS USED OF A DISK

-- an image of which hosts use this serves the rest
pub record IsUsedOf (c : Shape) (k : ℕ) (shows : DiskState) (es : List Filled) : Type 0 where
  pub image : DiskState
  pub there : IsThere c.slots image
  pub is : used c.slots image ≡ shows
  pub serves : Serves c k image es

-- ONE ENTRY

module _ (c : Shape) (before : List Filled) (e : Filled) (es : List Filled) where
  -- so far so good, and so on
  pub record Ahead : Type 0 where
    pub hosts : (h : ℕ) → Does c h ((world c before).host h) (of_host h (e ∷ es))
    pub disks : (k : ℕ) → IsUsedOf c k ((world c before).disk k) (on_disk k (e ∷ es))

  pub record Filling : Type 0 where
    pub entry : Filled
    pub same : bare entry ≡ bare e
    pub may : MayFollow c (world c before) entry
    pub hosts : (h : ℕ) → Does c h ((world c (before ++ entry ∷ [])).host h) (of_host h es)
    pub disks : (k : ℕ) → IsUsedOf c k ((world c (before ++ entry ∷ [])).disk k) (on_disk k es)

  module _ (ahead : Ahead) where
    of_here : (h : ℕ) → is_of h e ≡ true → Does c h ((world c before).host h) (e ∷ of_host h es)
    of_here h is = subst (λ (b : Bool). Does c h ((world c before).host h) (cond b (e ∷ of_host h es) (of_host h es))) is (ahead.hosts h)

    of_there : (h : ℕ) → is_of h e ≡ false → Does c h ((world c before).host h) (of_host h es)
    of_there h is = subst (λ (b : Bool). Does c h ((world c before).host h) (cond b (e ∷ of_host h es) (of_host h es))) is (ahead.hosts h)

    on_here : (k : ℕ) → is_on k e ≡ true → IsUsedOf c k ((world c before).disk k) (e ∷ on_disk k es)
    on_here k is = subst (λ (b : Bool). IsUsedOf c k ((world c before).disk k) (cond b (e ∷ on_disk k es) (on_disk k es))) is (ahead.disks k)

    on_there : (k : ℕ) → is_on k e ≡ false → IsUsedOf c k ((world c before).disk k) (on_disk k es)
    on_there k is = subst (λ (b : Bool). IsUsedOf c k ((world c before).disk k) (cond b (e ∷ on_disk k es) (on_disk k es))) is (ahead.disks k)

    -- an entry that differs in its filling alone
    module _ (x : Filled) (of : (h : ℕ) → is_of h x ≡ is_of h e) (on : (k : ℕ) → is_on k x ≡ is_on k e)
        (step : (h : ℕ) (old : Host) → host_step c h old x ≡ host_step c h old e)
        (serves : (k : ℕ) → is_on k e ≡ true → IsUsedOf c k (disk_step ((world c before).disk k) x) (on_disk k es)) where
      hosts_next : (h : ℕ) → Does c h ((world c (before ++ x ∷ [])).host h) (of_host h es)
      hosts_next h = elim (cases_Bool (is_of h e)) [
        | inl is ↦ subst (λ (old : Host). Does c h old (of_host h es)) (sym (host_here c before x h (of h ∙ is) ∙ step h ((world c before).host h))) (of_here h is).1
        | inr is ↦ subst (λ (old : Host). Does c h old (of_host h es)) (sym (host_there c before x h (of h ∙ is))) (of_there h is)
      ]

      disks_next : (k : ℕ) → IsUsedOf c k ((world c (before ++ x ∷ [])).disk k) (on_disk k es)
      disks_next k = elim (cases_Bool (is_on k e)) [
        | inl is ↦ subst (λ (old : DiskState). IsUsedOf c k old (on_disk k es)) (sym (disk_here c before x k (on k ∙ is))) (serves k is)
        | inr is ↦ subst (λ (old : DiskState). IsUsedOf c k old (on_disk k es)) (sym (disk_there c before x k (on k ∙ is))) (on_there k is)
      ]

      fills : bare x ≡ bare e → MayFollow c (world c before) x → Filling
      fills same may = record { entry = x; same = same; may = may; hosts = hosts_next; disks = disks_next }

    -- its own disk alone matters
    serves_on : (x : Filled) (d : ℕ) → IsUsedOf c d (disk_step ((world c before).disk d) x) (on_disk d es) → (k : ℕ) → (d == k) ≡ true → IsUsedOf c k (disk_step ((world c before).disk k) x) (on_disk k es)
    serves_on x d so k is = subst (λ (n : ℕ). IsUsedOf c n (disk_step ((world c before).disk n) x) (on_disk n es)) (eqb-true d k is) so

    -- an entry on no disk is its own filling
    quiet : ((k : ℕ) → is_on k e ≡ false) → MayFollow c (world c before) e → Filling
    quiet nowhere may = fills e (λ h. refl) (λ k. refl) (λ h old. refl) (λ k is. absurd (true≢false (sym is ∙ nowhere k))) refl may

module _ (c : Shape) (before : List Filled) (run : IsRun c before) where
  abbrev w : World
  w = world c before

  pub filling : (e : Filled) (es : List Filled) → IsDeed e → Ahead c before e es → Filling c before e es
  filling (Start h) es deed a = quiet c before (Start h) es a (λ k. refl) (of_here c before (Start h) es a h (is_itself h)).0
  filling (Stop h) es deed a = quiet c before (Stop h) es a (λ k. refl) (of_here c before (Stop h) es a h (is_itself h)).0
  filling (Begin h task) es deed a = quiet c before (Begin h task) es a (λ k. refl) (of_here c before (Begin h task) es a h (is_itself h)).0
  filling (Called h d call answer left) es deed a =
      let e = Called h d call answer left in
      let does = of_here c before e es a h (is_itself h) in
      let on = on_here c before e es a d (is_itself d) in
      let new = on.serves.0 in
      let inside = lies c before run h d call does.0 in
      let step : Step (w.disk d) call answer (used c.slots new) = subst (λ (old : DiskState). Step old call answer (used c.slots new)) on.is (used_steps c.slots on.image new call answer on.there inside on.serves.1) in
      let found = left_by_call (w.disk d) (used c.slots new) call answer step in
      let x = Called h d call answer found.left in
      fills c before e es a x (λ g. refl) (λ k. refl) (λ g old. refl)
      (serves_on c before e es a x d (record { image = new; there = there_after c.slots on.image new call answer on.there inside on.serves.1; is = sym found.is; serves = on.serves.2 })) refl
      (does.0, subst (λ (s : DiskState). Step (w.disk d) call answer s) (sym found.is) step)
  filling (Torn h d call left) es deed a =
      let e = Torn h d call left in
      let does = of_here c before e es a h (is_itself h) in
      let on = on_here c before e es a d (is_itself d) in
      let new = on.serves.0 in
      let inside = lies c before run h d call does.0 in
      let tears : Tears call (w.disk d) (used c.slots new) = subst (λ (old : DiskState). Tears call old (used c.slots new)) on.is (used_tears c.slots on.image new call on.there inside on.serves.1) in
      let found = left_by_tear (w.disk d) (used c.slots new) call tears in
      let x = Torn h d call found.left in
      fills c before e es a x (λ g. refl) (λ k. refl) (λ g old. refl)
      (serves_on c before e es a x d (record { image = new; there = there_torn c.slots on.image new call on.there inside on.serves.1; is = sym found.is; serves = on.serves.2 })) refl
      (does.0, subst (λ (s : DiskState). Tears call (w.disk d) s) (sym found.is) tears)
  filling (Crashed d left) es deed a =
      let e = Crashed d left in
      let on = on_here c before e es a d (is_itself d) in
      let new = on.serves.0 in
      let goes = on.serves.1 in
      let crashes : Crashes (w.disk d) (used c.slots new) = subst (λ (old : DiskState). Crashes old (used c.slots new)) on.is (used_crashes c.slots on.image new on.there goes.3) in
      let is = left_by_crash (w.disk d) (used c.slots new) crashes in
      let x = Crashed d (used c.slots new).bytes in
      fills c before e es a x (λ g. refl) (λ k. refl) (λ g old. refl)
      (serves_on c before e es a x d (record { image = new; there = there_crashed c.slots on.image new on.there goes.3; is = sym is; serves = on.serves.2 })) refl
      ((goes.0, ap (λ (s : DiskState). s.gone) (sym on.is) ∙ goes.1), subst (λ (s : DiskState). s.boot < 2 ^ 62) on.is goes.2, subst (λ (s : DiskState). Crashes (w.disk d) s) (sym is) crashes)
  filling (Lost d) es deed a =
      let e = Lost d in
      let on = on_here c before e es a d (is_itself d) in
      let goes = on.serves.1 in
      fills c before e es a e (λ g. refl) (λ k. refl) (λ g old. refl)
      (serves_on c before e es a e d (record { image = lost on.image; there = on.there; is = ap lost on.is; serves = subst (λ (s : DiskState). Serves c d s (on_disk d es)) goes.2 on.serves.2 })) refl
      (goes.0, ap (λ (s : DiskState). s.gone) (sym on.is) ∙ goes.1)
  filling (Migrated disks commands) es deed a = absurd deed

-- ALL ENTRIES

pub record Filled_all (c : Shape) (before es : List Filled) : Type 0 where
  pub run : List Filled
  pub same : map bare run ≡ map bare es
  pub is : IsRunFrom c before run

fill : (c : Shape) (before es : List Filled) → IsRun c before → AreDeeds es → ((h : ℕ) → Does c h ((world c before).host h) (of_host h es)) → ((k : ℕ) → IsUsedOf c k ((world c before).disk k) (on_disk k es)) → Filled_all c before es
fill c before [] run deeds hosts disks = record { run = []; same = refl; is = tt }
fill c before (e ∷ es) run deeds hosts disks =
    let f = filling c before run e es deeds.0 (record { hosts = hosts; disks = disks }) in
    let rest = fill c (before ++ f.entry ∷ []) es (more c before f.entry run f.may) deeds.1 f.hosts f.disks in
    record { run = f.entry ∷ rest.run; same = λ i. f.same i ∷ rest.same i; is = (f.may, rest.is) }

-- HOSTS OVERLOOK THE FILLING

module _ (c : Shape) (h : ℕ) where
  by_one : (b : Bool) (x : Filled) (xs : List Filled) (old : Host) → host_after c h old (cond b (x ∷ xs) xs) ≡ host_after c h (cond b (host_step c h old x) old) xs
  by_one true x xs old = refl
  by_one false x xs old = refl

  bare_step : (x : Filled) (old : Host) → cond (is_of h (bare x)) (host_step c h old (bare x)) old ≡ cond (is_of h x) (host_step c h old x) old
  bare_step (Called g k call answer left) old = refl
  bare_step other old = refl

  bare_host : (xs : List Filled) (old : Host) → host_after c h old (of_host h (map bare xs)) ≡ host_after c h old (of_host h xs)
  bare_host [] old = refl
  bare_host (x ∷ xs) old =
      by_one (is_of h (bare x)) (bare x) (of_host h (map bare xs)) old
      ∙ ap (λ (o : Host). host_after c h o (of_host h (map bare xs))) (bare_step x old)
      ∙ bare_host xs (cond (is_of h x) (host_step c h old x) old)
      ∙ sym (by_one (is_of h x) x (of_host h xs) old)

  same_host : (xs ys : List Filled) → map bare xs ≡ map bare ys → (i : ℕ) → host_after c h Stopped (of_host h (take i xs)) ≡ host_after c h Stopped (of_host h (take i ys))
  same_host xs ys same i =
      sym (bare_host (take i xs) Stopped)
      ∙ ap (λ (l : List Filled). host_after c h Stopped (of_host h l)) (sym (take-map bare i xs) ∙ ap (take i) same ∙ take-map bare i ys)
      ∙ bare_host (take i ys) Stopped

-- an image whose used part is what a list leaves serves what is done to it
begun_used : (c : Shape) (begun : List Filled) (images : ℕ → DiskState) (log : List Filled) → IsAtOnceFrom c begun images log → ((k : ℕ) → IsImage cluster_version c.slots ((world c begun).disk k)) → (k : ℕ) → IsUsedOf c k ((world c begun).disk k) (on_disk k log)
begun_used c begun images log a are k = record { image = images k; there = there_begun c.slots (images k) ((world c begun).disk k) (a.held k) (are k); is = a.held k; serves = a.disks k }

opening_image : (c : Shape) → IsImage cluster_version c.slots (opening_disk c)
opening_image c = let shape = shape_fresh (image_length cluster_version c.slots) in record { whole = shape.0; long = shape.1 }

pub at_once_makes_a_run : (c : Shape) (images : ℕ → DiskState) (log : List Filled) → IsAtOnce c images log → IsRunOf c log
at_once_makes_a_run c images log a =
    let f = fill c [] log tt a.deeds a.hosts (begun_used c [] images log a (λ k. opening_image c)) in
    let run = fresh_is_run c f.run f.is in
    record { run = f.run; same = f.same; is = run; hosts = λ i h. same_host c h f.run log f.same i; one = headline c f.run run }

-- AFTER A MIGRATION

begun_image : (c : Shape) (commands : List Command) → CanMigrate c commands → (k : ℕ) → IsImage cluster_version c.slots ((world c (Migrated c.disks commands ∷ [])).disk k)
begun_image c commands can k = elim (cases_Bool (is_on k (Migrated c.disks commands))) [
  | inl on ↦ subst (IsImage cluster_version c.slots) (sym (disk_here c [] (Migrated c.disks commands) k on)) (image c commands can)
  | inr off ↦ subst (IsImage cluster_version c.slots) (sym (disk_there c [] (Migrated c.disks commands) k off)) (opening_image c)
]

pub after_migration_makes_a_run : (c : Shape) (commands : List Command) (images : ℕ → DiskState) (log : List Filled) → CanMigrate c commands → IsAtOnceAfter c commands images log → IsRunOf c (Migrated c.disks commands ∷ log)
after_migration_makes_a_run c commands images log can a =
    let first = Migrated c.disks commands in
    let f = fill c (first ∷ []) log ((refl, can), tt) a.deeds a.hosts (begun_used c (first ∷ []) images log a (begun_image c commands can)) in
    let run : IsRun c (first ∷ f.run) = ((refl, can), f.is) in
    let same : map bare (first ∷ f.run) ≡ map bare (first ∷ log) = λ i. first ∷ f.same i in
    record { run = first ∷ f.run; same = same; is = run; hosts = λ i h. same_host c h (first ∷ f.run) (first ∷ log) same i; one = headline c (first ∷ f.run) run }
