-- The list that events make is a run, and the disks of a run keep a flag for each byte.
use Rattle.std.specs.Prelude.{take, drop, replicate, map, min, ◌<◌, ◌≤◌, ◌-◌}
use Rattle.std.proofs.Common.{ℕ, zero, suc, slice_get, ◌+◌, ◌≡◌, ◌⊎◌, true, false, Option, Some, None, List, [], ◌∷◌, ◌++◌, length, refl, sym, subst, ap, ◌∙◌, arith, length-append, length-drop, append_assoc, append-nil, inl, inr}
use Rattle.std.proofs.lemmas.List.{length-take, length-replicate}
use Rattle.std.proofs.lemmas.Bool.{cases_Bool, eqb-true}
use Rattle.disk.specs.declared.fault.DiskFault.TheVariants.{Reset, Failed, Gone}
use Rattle.disk.specs.Disk.{DiskState, Call, Attach, Read, Write, Sync, Answer, Booted, Told, Done, Fault, written, done_by, put_at}
use Rattle.disk.specs.Crash.{IsWhole}
use Rattle.disk.specs.Simulated.{fresh_disk}
use Rattle.torn_block.specs.Layout.{cluster_version}
use Rattle.paxos_block.specs.Places.{image_length, row_place}
use Rattle.paxos_block.specs.Image.{rows_for}
use Rattle.lock_command.specs.declared.command.Command.{Command}
use Rattle.lock_command.specs.Command.{spelling}
use Rattle.paxos_block.specs.Shape.{Shape}
use Rattle.host.specs.declared.task.Task.TheVariants.{Submit}
use Rattle.world.specs.Entry.{Filled, Start, Stop, Begin, Called, Torn, Crashed, Lost, Migrated, is_on, is_of, torn_by, called_by, disk_step}
use Rattle.world.specs.World.{World, world, ReadsBack, MayFollow, CanMigrate, MayBegin, IsRunFrom, IsFreshRun, IsRun}
use Rattle.world.specs.Happens.{Event, entry_of, with_entry, happens, happen, run, run_after, Line, lines_at, answers_from, answers}
use Rattle.world.specs.Chosen.{migrated, IsMigrated, Submits}
use Rattle.world.proofs.Projections.{disk_here, disk_there}
use Rattle.world.proofs.Follow.{may_follow}

-- A FLAG FOR EACH BYTE

length_put : {X : Type 0} (old : List X) (at n : ℕ) (items : List X) → length items ≡ n → length (put_at old at items) ≡ min at (length old) + n + (length old - (at + n))
length_put old at n items e =
    let a = length-append (take at old ++ items) (drop (at + length items) old) in
    let b = length-append (take at old) items in
    omega (arith, a, b, length-take at old, length-drop (at + length items) old, e)

put_whole : (old : DiskState) (at : ℕ) (from : List ℕ) → IsWhole old → IsWhole (written old at from)
put_whole old at from is =
    let a = length_put old.unsynced at (length from) (replicate (length from) true) (length-replicate (length from) true) in
    let b = length_put old.bytes at (length from) from refl in
    omega (arith, a, b, is)

torn_whole : (old : DiskState) (call : Call) (left : List ℕ) → IsWhole old → IsWhole (torn_by old call left)
torn_whole old Attach left is = is
torn_whole old (Read boot at len) left is = is
torn_whole old (Write boot at from) left is = put_whole old at left is
torn_whole old (Sync boot) left is = is

done_whole : (old : DiskState) (call : Call) → IsWhole old → IsWhole (done_by old call)
done_whole old Attach is = is
done_whole old (Read boot at len) is = is
done_whole old (Write boot at from) is = put_whole old at from is
done_whole old (Sync boot) is = length-replicate (length old.bytes) false

called_whole : (old : DiskState) (call : Call) (answer : Answer) (left : List ℕ) → IsWhole old → IsWhole (called_by old call answer left)
called_whole old call (Fault Failed) left is = torn_whole old call left is
called_whole old call (Fault Reset) left is = is
called_whole old call (Fault Gone) left is = is
called_whole old call (Booted boot) left is = done_whole old call is
called_whole old call (Told bytes) left is = done_whole old call is
called_whole old call Done left is = done_whole old call is

step_whole : (c : Shape) (w : World) (k : ℕ) (e : Filled) → is_on k e ≡ true → MayBegin c w e → ((j : ℕ) → IsWhole (w.disk j)) → IsWhole (disk_step (w.disk k) e)
step_whole c w k (Start h) on m is = absurd (cc)
step_whole c w k (Stop h) on m is = absurd (cc)
step_whole c w k (Begin h task) on m is = absurd (cc)
step_whole c w k (Called h d call answer left) on m is = called_whole (w.disk k) call answer left (is k)
step_whole c w k (Torn h d call left) on m is = torn_whole (w.disk k) call left (is k)
step_whole c w k (Crashed d left) on m is =
    let same : d ≡ k = eqb-true d k on in
    let long : length left ≡ length (w.disk d).bytes = m.2.bytes.as_many in
    length-replicate (length (w.disk k).bytes) false ∙ sym (long ∙ ap (λ j. length (w.disk j).bytes) same)
step_whole c w k (Lost d) on m is = is k
step_whole c w k (Migrated disks log) on m is = length-replicate (length (written (w.disk k) (row_place cluster_version 0) (rows_for (map spelling log))).bytes) false

-- each disk of the world has a flag for each byte
abbrev pub AreWhole : Shape → List Filled → Type 0
AreWhole c log = (k : ℕ) → IsWhole ((world c log).disk k)

whole_first : (c : Shape) → AreWhole c []
unfolding fresh_disk
whole_first c k = length-replicate (image_length cluster_version c.slots) false ∙ sym (length-replicate (image_length cluster_version c.slots) 0)

whole_next : (c : Shape) (log : List Filled) (e : Filled) → MayBegin c (world c log) e → AreWhole c log → AreWhole c (log ++ e ∷ [])
whole_next c log e m is k = elim (cases_Bool (is_on k e)) [
  | inl on ↦ subst IsWhole (sym (disk_here c log e k on)) (step_whole c (world c log) k e on m is)
  | inr off ↦ subst IsWhole (sym (disk_there c log e k off)) (is k)
]

-- whatever may follow may be the first
pub may_begin : (c : Shape) (w : World) (e : Filled) → MayFollow c w e → MayBegin c w e
may_begin c w (Migrated disks log) m = absurd m
may_begin c w other m = m

-- the entry is a migration of a log on all disks
pub record IsMigration (c : Shape) (e : Filled) : Type 0 where
  pub commands : List Command
  pub is : e ≡ Migrated c.disks commands
  pub can : CanMigrate c commands

-- what may be the first is a migration, or may follow
pub follows_or : (c : Shape) (w : World) (e : Filled) → MayBegin c w e → MayFollow c w e ⊎ IsMigration c e
follows_or c w (Migrated disks log) m = inr (record { commands = log; is = ap (λ (n : ℕ). Migrated n log) m.0; can = m.1 })
follows_or c w other m = inl m

-- an entry of a host is none
pub follows_of : (c : Shape) (w : World) (h : ℕ) (e : Filled) → is_of h e ≡ true → MayBegin c w e → MayFollow c w e
follows_of c w h (Migrated disks log) of m = absurd (cc)
follows_of c w h other of m = m

-- what was migrated is the first entry
pub migrated_is : (log : List Filled) (disks : ℕ) (commands : List Command) → slice_get log 0 ≡ Some (Migrated disks commands) → migrated log ≡ commands
migrated_is [] disks commands at = absurd (cc)
migrated_is (e ∷ es) disks commands at = let same : e ≡ Migrated disks commands = cc in ap (λ (x : Filled). migrated (x ∷ es)) same

pub record BeginsMigrated (log : List Filled) (slot : ℕ) (value : List ℕ) : Type 0 where
  pub disks : ℕ
  pub commands : List Command
  pub first : slice_get log 0 ≡ Some (Migrated disks commands)
  pub there : slice_get (map spelling commands) slot ≡ Some value

pub begins_migrated : (log : List Filled) (slot : ℕ) (value : List ℕ) → IsMigrated log slot value → BeginsMigrated log slot value
begins_migrated [] slot value is = absurd (cc)
begins_migrated (Migrated disks log ∷ es) slot value is = record { disks = disks; commands = log; first = refl; there = is }
begins_migrated (other ∷ es) slot value is = absurd (cc)

-- what was migrated has a slot for each command, and each reads back
pub migrated_fits : (c : Shape) (log : List Filled) → IsRun c log → length (migrated log) ≤ c.slots
migrated_fits c [] r = omega arith
migrated_fits c (Migrated disks log ∷ es) r = r.0.1.slots
migrated_fits c (other ∷ es) r = omega arith

pub migrated_reads : (c : Shape) (log : List Filled) → IsRun c log → (k : ℕ) (command : Command) → slice_get (migrated log) k ≡ Some command → ReadsBack command
migrated_reads c [] r k command is = absurd (cc)
migrated_reads c (Migrated disks log ∷ es) r k command is = r.0.1.reads k command is
migrated_reads c (other ∷ es) r k command is = absurd (cc)

-- what is submitted reads back
pub submits_reads : (c : Shape) (w : World) (e : Filled) (command : Command) → MayBegin c w e → Submits e command → ReadsBack command
submits_reads c w (Begin h (Submit given tries)) command m is = subst ReadsBack is m.1.0
submits_reads c w (Migrated disks log) command m is = m.1.reads is.0 command is.1
submits_reads c w other command m is = absurd is

-- what holds before, and with each entry that may follow, holds behind the entries
pub by_run_from : (c : Shape) (P : List Filled → Type 0) → ((log : List Filled) (e : Filled) → MayFollow c (world c log) e → P log → P (log ++ e ∷ [])) → (before log : List Filled) → P before → IsRunFrom c before log → P (before ++ log)
by_run_from c P next before [] is r = subst P (sym (append-nil before)) is
by_run_from c P next before (x ∷ log) is r = subst P (append_assoc before (x ∷ []) log) (by_run_from c P next (before ++ x ∷ []) log (next before x r.0 is) r.1)

-- what holds at first, and with each entry that may be the first, holds after every run
pub by_run : (c : Shape) (P : List Filled → Type 0) → P [] → ((log : List Filled) (e : Filled) → MayBegin c (world c log) e → P log → P (log ++ e ∷ [])) → (log : List Filled) → IsRun c log → P log
by_run c P first next [] r = first
by_run c P first next (e ∷ es) r = by_run_from c P (λ log x m. next log x (may_begin c (world c log) x m)) (e ∷ []) es (next [] e r.0 first) r.1

pub run_whole : (c : Shape) (log : List Filled) → IsRun c log → AreWhole c log
run_whole c log r = by_run c (AreWhole c) (whole_first c) (whole_next c) log r

-- ONE ENTRY MORE

run_more : (c : Shape) (before log : List Filled) (e : Filled) → IsRunFrom c before log → MayFollow c (world c (before ++ log)) e → IsRunFrom c before (log ++ e ∷ [])
run_more c before [] e is m = (subst (λ l. MayFollow c (world c l) e) (append-nil before) m, tt)
run_more c before (x ∷ log) e is m = (is.0, run_more c (before ++ x ∷ []) log e is.1 (subst (λ l. MayFollow c (world c l) e) (sym (append_assoc before (x ∷ []) log)) m))

pub more : (c : Shape) (log : List Filled) (e : Filled) → IsRun c log → MayFollow c (world c log) e → IsRun c (log ++ e ∷ [])
more c [] e is m = (may_begin c (world c []) e m, tt)
more c (x ∷ log) e is m = (is.0, run_more c (x ∷ []) log e is.1 m)

-- a run over disks of zeros is one
pub fresh_is_run : (c : Shape) (log : List Filled) → IsFreshRun c log → IsRun c log
fresh_is_run c [] r = tt
fresh_is_run c (e ∷ es) r = (may_begin c (world c []) e r.0, r.1)

pub fresh_more : (c : Shape) (log : List Filled) (e : Filled) → IsFreshRun c log → MayFollow c (world c log) e → IsFreshRun c (log ++ e ∷ [])
fresh_more c log e is m = run_more c [] log e is m

-- every beginning of a run is one
take_from : (c : Shape) (before log : List Filled) (i : ℕ) → IsRunFrom c before log → IsRunFrom c before (take i log)
take_from c before [] zero r = tt
take_from c before [] (suc i) r = tt
take_from c before (x ∷ log) zero r = tt
take_from c before (x ∷ log) (suc i) r = (r.0, take_from c (before ++ x ∷ []) log i r.1)

pub beginning : (c : Shape) (log : List Filled) (i : ℕ) → IsRun c log → IsRun c (take i log)
beginning c [] zero r = tt
beginning c [] (suc i) r = tt
beginning c (x ∷ log) zero r = tt
beginning c (x ∷ log) (suc i) r = (r.0, take_from c (x ∷ []) log i r.1)

-- each entry of a run may follow those before it
each_from : (c : Shape) (before log : List Filled) (i : ℕ) (e : Filled) → IsRunFrom c before log → slice_get log i ≡ Some e → MayFollow c (world c (before ++ take i log)) e
each_from c before [] i e r at = absurd (cc)
each_from c before (x ∷ log) zero e r at = let same : x ≡ e = cc in subst (MayFollow c (world c (before ++ []))) same (subst (λ l. MayFollow c (world c l) x) (sym (append-nil before)) r.0)
each_from c before (x ∷ log) (suc i) e r at =
    subst (λ l. MayFollow c (world c l) e) (append_assoc before (x ∷ []) (take i log)) (each_from c (before ++ x ∷ []) log i e r.1 at)

pub each : (c : Shape) (log : List Filled) (i : ℕ) (e : Filled) → IsRun c log → slice_get log i ≡ Some e → MayBegin c (world c (take i log)) e
each c [] i e r at = absurd (cc)
each c (x ∷ log) zero e r at = let same : x ≡ e = cc in subst (MayBegin c (world c [])) same r.0
each c (x ∷ log) (suc i) e r at = may_begin c (world c (x ∷ take i log)) e (each_from c (x ∷ []) log i e r.1 at)

-- and only the first need not
pub each_behind : (c : Shape) (log : List Filled) (i : ℕ) (e : Filled) → IsRun c log → 0 < i → slice_get log i ≡ Some e → MayFollow c (world c (take i log)) e
each_behind c [] i e r behind at = absurd (cc)
each_behind c (x ∷ log) zero e r behind at = absurd (omega arith)
each_behind c (x ∷ log) (suc i) e r behind at = each_from c (x ∷ []) log i e r.1 at

-- so a migration is the first
pub migrated_first : (c : Shape) (log : List Filled) (i disks : ℕ) (commands : List Command) → IsRun c log → slice_get log i ≡ Some (Migrated disks commands) → i ≡ 0
migrated_first c log zero disks commands r at = refl
migrated_first c log (suc i) disks commands r at = absurd (each_behind c log (suc i) (Migrated disks commands) r (omega arith) at)

-- EVENTS

pub follows : (c : Shape) (log : List Filled) (event : Event) (e : Filled) → IsRun c log → entry_of c (world c log) event ≡ Some e → MayFollow c (world c log) e
follows c log event e r is = may_follow c (world c log) (run_whole c log r) event e is

happens_run : (c : Shape) (log : List Filled) (event : Event) → IsRun c log → IsRun c (happens c log event)
happens_run c log event r = go (entry_of c (world c log) event) refl
  where
    go : (o : Option Filled) → entry_of c (world c log) event ≡ o → IsRun c (with_entry log o)
    go None e = r
    go (Some x) e = more c log x r (follows c log event x r e)

pub happen_run : (c : Shape) (log : List Filled) (events : List Event) → IsRun c log → IsRun c (happen c log events)
happen_run c log [] r = r
happen_run c log (e ∷ es) r = happen_run c (happens c log e) es (happens_run c log e r)

pub run_is_run : (c : Shape) (events : List Event) → IsRun c (run c events)
run_is_run c events = happen_run c [] events tt

happens_fresh : (c : Shape) (log : List Filled) (event : Event) → IsFreshRun c log → IsFreshRun c (happens c log event)
happens_fresh c log event r = go (entry_of c (world c log) event) refl
  where
    go : (o : Option Filled) → entry_of c (world c log) event ≡ o → IsFreshRun c (with_entry log o)
    go None e = r
    go (Some x) e = fresh_more c log x r (follows c log event x (fresh_is_run c log r) e)

happen_fresh : (c : Shape) (log : List Filled) (events : List Event) → IsFreshRun c log → IsFreshRun c (happen c log events)
happen_fresh c log [] r = r
happen_fresh c log (e ∷ es) r = happen_fresh c (happens c log e) es (happens_fresh c log e r)

-- the disks of which begin as zeros
pub run_is_fresh : (c : Shape) (events : List Event) → IsFreshRun c (run c events)
run_is_fresh c events = happen_fresh c [] events tt

pub run_after_is_run : (c : Shape) (log : List Command) (events : List Event) → CanMigrate c log → IsRun c (run_after c log events)
run_after_is_run c log events can = happen_run c (Migrated c.disks log ∷ []) events ((refl, can), tt)

pub happen_more : (c : Shape) (log : List Filled) (events : List Event) (event : Event) → happen c log (events ++ event ∷ []) ≡ happens c (happen c log events) event
happen_more c log [] event = refl
happen_more c log (e ∷ es) event = happen_more c (happens c log e) es event

pub one_more : (c : Shape) (events : List Event) (event : Event) → run c (events ++ event ∷ []) ≡ happens c (run c events) event
one_more c events event = happen_more c [] events event

answers_more : (c : Shape) (log : List Filled) (place : ℕ) (events : List Event) (event : Event)
    → answers_from c log place (events ++ event ∷ []) ≡ answers_from c log place events ++ lines_at c (happen c log events) (place + length events) (entry_of c (world c (happen c log events)) event)
answers_more c log place [] event =
    let none : place ≡ place + 0 = omega arith in
    append-nil _ ∙ ap (λ (n : ℕ). lines_at c log n (entry_of c (world c log) event)) none
answers_more c log place (e ∷ es) event =
    let here = lines_at c log place (entry_of c (world c log) e) in
    let last = entry_of c (world c (happen c log (e ∷ es))) event in
    let far : (place + 1) + length es ≡ place + suc (length es) = omega arith in
    ap (λ (l : List Line). here ++ l) (answers_more c (happens c log e) (place + 1) es event)
    ∙ sym (append_assoc here (answers_from c (happens c log e) (place + 1) es) _)
    ∙ ap (λ (n : ℕ). (here ++ answers_from c (happens c log e) (place + 1) es) ++ lines_at c (happen c log (e ∷ es)) n last) far

pub one_answer_more : (c : Shape) (events : List Event) (event : Event) → answers c (events ++ event ∷ []) ≡ answers c events ++ lines_at c (run c events) (length events) (entry_of c (world c (run c events)) event)
one_answer_more c events event =
    let none : 0 + length events ≡ length events = omega arith in
    answers_more c [] 0 events event ∙ ap (λ (n : ℕ). answers c events ++ lines_at c (run c events) n (entry_of c (world c (run c events)) event)) none
