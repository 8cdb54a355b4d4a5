-- Nobody is in an epoch before somebody has learned the one before it whole: numbers on disks rise towards epochs that are open alone.
use Rattle.std.specs.Prelude.{◌⊎◌, ◌%◌, drop, map, replicate, Option}
use Rattle.std.proofs.Common.{ℕ, zero, suc, ◌≡◌, ◌==◌, ◌+◌, ◌≤◌, ◌<◌, Bool, true, false, cond, true≢false, Some, None, List, [], ◌∷◌, ◌++◌, length, get_or, refl, sym, ◌∙◌, ap, subst, inl, inr, arith}
use Rattle.std.proofs.lemmas.Bool.{cases_Bool, cases_eq, eqb-true}
use Rattle.std.proofs.lemmas.List.{append-nil, append_assoc, ext_get_or, get_or-replicate}
use Rattle.disk.specs.declared.fault.DiskFault.TheVariants.{Failed}
use Rattle.disk.specs.Disk.{DiskState, Call, Attach, Read, Write, Sync, Answer, Booted, Told, Done, Fault, Step, KeepsSynced, lost}
use Rattle.disk.specs.Crash.{MayLeave}
use Rattle.disk.specs.Simulated.{fresh_disk}
use Rattle.disk.proofs.CrashLemmas.{may_leave_now}
use Rattle.lock_command.specs.declared.command.Command.{Command}
use Rattle.paxos_block.specs.Shape.{Shape}
use Rattle.torn_block.specs.Stage.{call_of}
use Rattle.standings.specs.Epochs.{epoch_of, epoch_by, base_of, number_at, number_of, number_place, standings_place, whole_length}
use Rattle.standings.specs.Reading.{moved, numbers_in}
use Rattle.standings.specs.Past.{Made, Past, made, reading, calls_before, number_write, WritesNumber, MayCall, MayCallIn}
use Rattle.host.specs.Host.{Memory, Host, Stopped, Running, fresh, is_stopped}
use Rattle.world.specs.World.{Tears}
use Rattle.epochs.specs.Pasts as served
use Rattle.epochs.proofs.Deeds.{Known, known_first, one}
use Rattle.epochs.proofs.Blocks.{lies_on}
use Rattle.epochs.proofs.Numbers.{zeros_are_none}
use Rattle.epochs.proofs.Pasts.{Lives, read_number}
use Rattle.endless.specs.Lived.{IsWholeBy, RunsIn}
use Rattle.epoch_deeds.specs.Deeds.{Deed, Deeds, Calls, CallsIn, Starts, Begins, Stops, past_on, core_in, core_step, hearing, begun}
use Rattle.epoch_deeds.specs.Knowing.{image_of, IsOpen, IsHeard, RisesInTurn, MayDo}
use Rattle.epoch_runs.specs.World.{Entry, Does, Breaks, BreaksIn, Ends, Crashes, Loses, Replaces, World, opening, no_deeds, with_disk, disks_after, deeds_after, after, Crashing, MayFollow, GoesFrom, Goes}
use Rattle.epoch_runs.specs.Living.{Showing, showing_next, lived_of, place_of, deeds_from, shown_to}
use Rattle.epoch_runs.specs.Laws.{KeepsOrder}
use Rattle.epoch_runs.proofs.Disks.{deeds_on}
use Rattle.epoch_runs.proofs.Lists.{core_more, past_more, deeds_here, same_self, last_same}
use Rattle.epoch_runs.proofs.Numbers.{IsAlways, always_as, always_same, always_elsewhere, always_lost, Settles, always_crashed, IsHarmless, read_harmless, call_kind, in_harmless, number_kept, AllRead, all_read_more}
use Rattle.epoch_runs.proofs.Order.{order_is_kept}
use Rattle.epoch_runs.proofs.Pending.{is_by, deeds_of_others}
use Rattle.epoch_runs.proofs.Places.{split_last, nothing_before, core_place}
use Rattle.epoch_runs.proofs.Served.{IsSound, served_entry}

-- CORES

hearing_stays : (c : Shape) (h : ℕ) (core : Host) (d : ℕ) (heard : Answer) → is_stopped (hearing c h core d heard) ≡ is_stopped core
hearing_stays c h Stopped d heard = refl
hearing_stays c h (Running m) d heard = refl

-- a core that a deed leaves running ran before, or the deed starts it
runs_by : (c : Shape) (h e : ℕ) (core : Host) (deed : Deed) → is_stopped (core_step c h e core deed) ≡ false → (is_stopped core ≡ false) ⊎ (deed ≡ Starts e)
runs_by c h e core (Calls d now) goes = inl goes
runs_by c h e core (CallsIn epoch d now call heard) goes = inl (either (epoch == e) goes)
  where
    either : (b : Bool) → is_stopped (cond b (hearing c h core d heard) core) ≡ false → is_stopped core ≡ false
    either true was = sym (hearing_stays c h core d heard) ∙ was
    either false was = was
runs_by c h e core (Starts epoch) goes = either (epoch == e) refl goes
  where
    either : (b : Bool) → (epoch == e) ≡ b → is_stopped (cond b (Running fresh) core) ≡ false → (is_stopped core ≡ false) ⊎ (Starts epoch ≡ Starts e)
    either true here was = inr (ap Starts (eqb-true epoch e here))
    either false there was = inl was
runs_by c h e core (Begins epoch task) goes = inl (either (epoch == e) core goes)
  where
    either : (b : Bool) (old : Host) → is_stopped (cond b (begun c old task) old) ≡ false → is_stopped old ≡ false
    either true Stopped was = was
    either true (Running m) was = was
    either false old was = was
runs_by c h e core (Stops epoch) goes = inl (either (epoch == e) goes)
  where
    either : (b : Bool) → is_stopped (cond b Stopped core) ≡ false → is_stopped core ≡ false
    either true was = absurd (true≢false was)
    either false was = was

not_stopped : (core : Host) (m : Memory) → core ≡ Running m → is_stopped core ≡ false
not_stopped core m is = ap is_stopped is

shown_stays : (c : Shape) (h e : ℕ) (core : Host) (next : Option Showing) → is_stopped (shown_to c h e core next) ≡ is_stopped core
shown_stays c h e core None = refl
shown_stays c h e core (Some s) = either (s.epoch == e)
  where
    either : (b : Bool) → is_stopped (cond b (hearing c h core s.disk s.heard) core) ≡ is_stopped core
    either true = hearing_stays c h core s.disk s.heard
    either false = refl

-- PASTS

known_as : (n : ℕ) (whole : DiskState) (pasts other : served.Pasts) → ((g : ℕ) → pasts g ≡ other g) → Known n whole pasts → Known n whole other
known_as n whole pasts other same known =
    record {
      room = known.room;
      marked = known.marked;
      tied = known.tied;
      lives = λ host is_host. subst (λ (past : Past). (first : DiskState) × Lives n host first past whole) (same host) (known.lives host is_host);
    }

-- what is synced a crash leaves
only_synced : (disk : DiskState) → disk.unsynced ≡ replicate (length disk.bytes) false → (bytes : List ℕ) → MayLeave disk bytes → bytes ≡ disk.bytes
only_synced disk synced bytes may =
    let many = may.as_many in
    ext_get_or 0 bytes disk.bytes many (λ q within.
    may.same q (ap (λ (l : List Bool). get_or l q false) synced ∙ get_or-replicate (length disk.bytes) q false false (omega (arith, within, many))))

not_nil : {A : Type 0} (xs : List A) (x : A) (ys : List A) → [] ≡ xs ++ x ∷ ys → ⊥
not_nil [] x ys same = absurd (cc)
not_nil (y ∷ xs) x ys same = absurd (cc)

-- ENTRIES ONE AFTER ANOTHER

drop_next : (i : ℕ) (all : List Entry) (entry : Entry) (entries : List Entry) → drop i all ≡ entry ∷ entries → drop (suc i) all ≡ entries
drop_next zero [] entry entries is = absurd (cc)
drop_next zero (x ∷ all) entry entries is = cc
drop_next (suc i) [] entry entries is = absurd (cc)
drop_next (suc i) (x ∷ all) entry entries is = drop_next i all entry entries is

deeds_next : (deeds : ℕ → Deeds) (i : ℕ) (all : List Entry) (entry : Entry) (entries : List Entry) → drop i all ≡ entry ∷ entries → deeds_from deeds (suc i) all ≡ deeds_after (deeds_from deeds i all) entry
deeds_next deeds zero [] entry entries is = absurd (cc)
deeds_next deeds zero (x ∷ all) entry entries is = ap (deeds_after deeds) (let same : x ≡ entry = cc in same)
deeds_next deeds (suc i) [] entry entries is = absurd (cc)
deeds_next deeds (suc i) (x ∷ all) entry entries is = deeds_next (deeds_after deeds x) i all entry entries is

-- ALL OF IT

module _ (crashing : Crashing) (sound : IsSound crashing)
    (leaves : (old new : DiskState) → crashing.IsCrash old new → KeepsSynced old.unsynced old.bytes new.bytes × (new.unsynced ≡ replicate (length old.bytes) false) × ((new.boot ≡ old.boot + 1) ⊎ (new.boot ≡ old.boot)))
    (settles : Settles crashing.IsCrash) (c : Shape) (all : List Entry) (goes_all : Goes crashing c all) where
  row_fits : 4096 ≤ image_of c
  row_fits = omega arith

  rows : image_of c % 4096 ≡ 0
  rows = omega arith

  keeps : KeepsOrder c all
  keeps = order_is_kept crashing c all goes_all

  -- WHAT IS OPEN

  -- by a place of what is lived each epoch before this one was learned whole
  abbrev AreWhole : (p e : ℕ) → Type 0
  AreWhole p e = (d : ℕ) → suc d ≤ e → IsWholeBy c (lived_of c all) d p

  whole_later : (p q e : ℕ) → p ≤ q → AreWhole p e → AreWhole q e
  whole_later p q e order is d before =
      let was = is d before in
      record { place = was.place; by = (let low = was.by in omega (arith, low, order)); host = was.host; memory = was.memory; runs = was.runs; whole = was.whole }

  whole_below : (p later earlier : ℕ) → earlier ≤ later → AreWhole p later → AreWhole p earlier
  whole_below p later earlier order is d before = is d (omega (arith, order, before))

  -- the number belongs to such an epoch, if it belongs to one
  abbrev IsFor : (p area number : ℕ) → Type 0
  IsFor p area number = (order : ℕ) → epoch_by area number ≡ Some order → AreWhole p order

  for_later : (p q area number : ℕ) → p ≤ q → IsFor p area number → IsFor q area number
  for_later p q area number order is e belongs = whole_later p q e order (is e belongs)

  -- number 0 belongs to the first epoch, or to none
  none_for : (p area number : ℕ) → area < 2 → number ≡ 0 → IsFor p area number
  none_for p zero number is_area none order belongs d before =
      absurd
      (let first : Some 0 ≡ Some order = sym (ap (epoch_by zero) none) ∙ belongs in
      let same : 0 ≡ order = cc in
      omega (arith, same, before))
  none_for p (suc zero) number is_area none order belongs d before = absurd (let other : None ≡ Some order = sym (ap (epoch_by 1) none) ∙ belongs in cc)
  none_for p (suc (suc area)) number is_area none order belongs d before = absurd (omega (arith, is_area))

  -- What is known before an entry, at its place.
  record Holds (i : ℕ) (w : World) : Type 0 where
    deeds : w.deeds ≡ deeds_from no_deeds i all
    known : (k : ℕ) → Known (image_of c) (w.disk k) (λ g. past_on k (w.deeds g))
    good : (k area g : ℕ) → area < 2 → g < 16 → IsAlways (number_place (image_of c) area g) (IsFor (place_of c all i) area) (w.disk k)
    read : (h k : ℕ) → AllRead (image_of c) (IsFor (place_of c all i)) (past_on k (w.deeds h))
    runs : (h e : ℕ) (before behind : Deeds) → w.deeds h ≡ before ++ behind → is_stopped (core_in c h e before) ≡ false → AreWhole (place_of c all i) e

  -- so each epoch that is open has those before it learned whole
  open_is : (i : ℕ) (w : World) → Holds i w → (h e : ℕ) → IsOpen c h e (w.deeds h) → AreWhole (place_of c all i) e
  open_is i w holds h zero is d before = absurd (omega (arith, before))
  open_is i w holds h (suc e) (inl (learned, has)) d before =
      elim (cases_eq d e) [
        | inr differ ↦ holds.runs h e has.before has.behind has.is (not_stopped (core_in c h e has.before) has.memory has.runs) d (omega (arith, before, differ))
        | inl same ↦
            let there = core_place crashing c all goes_all i h has.before has.behind (sym (ap (λ (f : ℕ → Deeds). f h) holds.deeds) ∙ has.is) in
            subst (λ (x : ℕ). IsWholeBy c (lived_of c all) x (place_of c all i)) (sym same)
            (record { place = place_of c all there.0; by = keeps.rises there.0 i there.1; host = h; memory = has.memory; runs = there.2 e ∙ has.runs; whole = ap (λ (l : List Command). length l) (sym has.told) ∙ has.whole })
      ]
  open_is i w holds h (suc e) (inr seen) d before =
      let order_is = seen.as_new in
      holds.read h seen.disk seen.area seen.boot seen.row seen.early seen.later seen.is_area seen.is seen.host seen.is_host seen.order seen.belongs d (omega (arith, before, order_is))

  -- the number that a host may write next
  rises_is : (i : ℕ) (w : World) → Holds i w → (h d : ℕ) (call : Call) → RisesInTurn c h (w.deeds h) d call → (writes : WritesNumber (image_of c) h (past_on d (w.deeds h)) call) → IsFor (place_of c all i) writes.area (numbers_in writes.row h + 1)
  rises_is i w holds h d call rises writes order belongs =
      open_is i w holds h order (rises writes order (ap (epoch_by writes.area) (let next : suc (numbers_in writes.row h) ≡ numbers_in writes.row h + 1 = omega arith in next) ∙ belongs))

  -- and the one that it read
  read_is : (i : ℕ) (w : World) → Holds i w → (h d : ℕ) (call : Call) → h < 16 → (writes : WritesNumber (image_of c) h (past_on d (w.deeds h)) call) → IsFor (place_of c all i) writes.area (numbers_in writes.row h)
  read_is i w holds h d call is_host writes =
      let begun_by : Past = made Attach (Booted writes.boot) ∷ made (Sync writes.boot) Done ∷ [] in
      let calls : Past = map (λ due. made (call_of due (number_write (image_of c) writes.area h writes.row) writes.boot) Done) (calls_before writes.due) in
      holds.read h d writes.area writes.boot writes.row (writes.beats.before ++ begun_by) calls writes.is_area
      (writes.beats.is ∙ sym (append_assoc writes.beats.before begun_by (reading (image_of c) writes.area writes.boot writes.row ∷ calls))) h is_host

  -- ONE ENTRY

  module _ (i : ℕ) (w : World) (holds : Holds i w) where
    abbrev p : ℕ
    p = place_of c all i

    -- a call that a host makes on a disk
    MadeOn : (h d : ℕ) → Call → Type 0
    MadeOn h d call = IsHarmless (image_of c) (w.disk d) call ⊎ ((writes : WritesNumber (image_of c) h (past_on d (w.deeds h)) call) × IsFor p writes.area (numbers_in writes.row h) × IsFor p writes.area (numbers_in writes.row h + 1))

    made_beside : (h d : ℕ) (call : Call) → h < 16 → MayCall (image_of c) h (past_on d (w.deeds h)) call → RisesInTurn c h (w.deeds h) d call → MadeOn h d call
    unfolding MadeOn
    made_beside h d call is_host may rises =
        elim (call_kind (image_of c) (w.disk d) (holds.known d).room h is_host (past_on d (w.deeds h)) call may) [
          | inl harmless ↦ inl harmless
          | inr writes ↦ inr (writes, read_is i w holds h d call is_host writes, rises_is i w holds h d call rises writes)
        ]

    harmless_as : (h d : ℕ) (now other : Made) → now ≡ other → IsHarmless (image_of c) (w.disk d) other.call → MadeOn h d now.call
    unfolding MadeOn
    harmless_as h d now other same harmless = inl (subst (λ (m : Made). IsHarmless (image_of c) (w.disk d) m.call) (sym same) harmless)

    made_in : (h epoch d : ℕ) (now : Made) (call : Call) (heard : Answer) → h < 16 → MayCallIn (image_of c) (epoch_of epoch) h (past_on d (w.deeds h)) call → IsHeard c h epoch d (w.deeds h) now call heard → MadeOn h d now.call
    made_in h epoch d now Attach heard is_host may is =
        harmless_as h d now (made Attach heard) (last_same (past_on d (w.deeds h)) is.0 now (made Attach heard) is.1)
        (in_harmless (image_of c) (w.disk d) (holds.known d).room h is_host (past_on d (w.deeds h)) (epoch_of epoch) Attach (omega arith) may)
    made_in h epoch d now (Sync boot) heard is_host may is =
        harmless_as h d now (made (Sync boot) heard) (last_same (past_on d (w.deeds h)) is.0 now (made (Sync boot) heard) is.1)
        (in_harmless (image_of c) (w.disk d) (holds.known d).room h is_host (past_on d (w.deeds h)) (epoch_of epoch) (Sync boot) (omega arith) may)
    made_in h epoch d now (Write boot at from) heard is_host may is =
        let moved_call = moved (base_of (image_of c) (epoch_of epoch).area) (Write boot at from) in
        harmless_as h d now (made moved_call heard) (last_same (past_on d (w.deeds h)) is.0 now (made moved_call heard) is.1)
        (in_harmless (image_of c) (w.disk d) (holds.known d).room h is_host (past_on d (w.deeds h)) (epoch_of epoch) (Write boot at from) (omega arith) may)
    made_in h epoch d now (Read boot at len) heard is_host may (inr unseen) =
        harmless_as h d now (made (Read boot unseen.at unseen.len) unseen.last) (last_same (past_on d (w.deeds h)) unseen.before now (made (Read boot unseen.at unseen.len) unseen.last) unseen.is)
        (read_harmless (image_of c) (w.disk d) boot unseen.at unseen.len)
    made_in h epoch d now (Read boot at len) heard is_host may (inl shows) =
        let behind = reading (image_of c) (epoch_of epoch).area boot shows.shown.second in
        harmless_as h d now behind
        (last_same (past_on d (w.deeds h))
        ((shows.shown.early ++ reading (image_of c) (epoch_of epoch).area boot shows.shown.first ∷ shows.shown.before) ++ made (Read boot (base_of (image_of c) (epoch_of epoch).area + at) 4096) (Told shows.shown.row) ∷ shows.shown.between) now behind shows.shown.is)
        (read_harmless (image_of c) (w.disk d) boot (standings_place (image_of c) (epoch_of epoch).area) 4096)

    torn_step : (old new : DiskState) (call : Call) → Tears call old new → Step old call (Fault Failed) new
    torn_step old new Attach tears = absurd tears
    torn_step old new (Read boot at len) tears = absurd tears
    torn_step old new (Write boot at from) tears = (tears.0, tears.1, tears.2)
    torn_step old new (Sync boot) tears = absurd tears

    module _ (entry : Entry) (entries : List Entry) (left : DiskState) (may : MayFollow crashing c w entry left) (goes : GoesFrom crashing c (after w entry left) entries) where
      -- THE DISKS

      known_next : (k : ℕ) → Known (image_of c) (disks_after w.disk entry left k) (λ g. past_on k (deeds_after w.deeds entry g))
      known_next k =
          elim (served_entry crashing sound c k entries entry w left (λ g. past_on k (w.deeds g)) (λ g. refl) may goes) [
            | inl none ↦
                known_as (image_of c) (disks_after w.disk entry left k) (λ g. past_on k (w.deeds g)) (λ g. past_on k (deeds_after w.deeds entry g)) none.2
                (subst (λ (d : DiskState). Known (image_of c) d (λ g. past_on k (w.deeds g))) (sym none.1) (holds.known k))
            | inr touched ↦
                known_as (image_of c) (disks_after w.disk entry left k) (served.pasts_after (w.disk k) (disks_after w.disk entry left k) (λ g. past_on k (w.deeds g)) touched.0) (λ g. past_on k (deeds_after w.deeds entry g)) touched.3
                (one crashing.IsCrash leaves c k (image_of c) row_fits rows touched.0 (deeds_on k entries) (w.disk k) (disks_after w.disk entry left k) (λ g. past_on k (w.deeds g)) (holds.known k) touched.2).known_then
          ]

      -- what is so of each number on the disks
      abbrev Good : (ℕ → DiskState) → Type 0
      Good disk = (k area g : ℕ) → area < 2 → g < 16 → IsAlways (number_place (image_of c) area g) (IsFor p area) (disk k)

      -- one disk changes
      good_with : (d : ℕ) → ((area g : ℕ) → area < 2 → g < 16 → IsAlways (number_place (image_of c) area g) (IsFor p area) left) → Good (with_disk w.disk d left)
      good_with d now k area g is_area is_g =
          elim (cases_Bool (k == d)) [
            | inl same ↦ subst (λ (b : Bool). IsAlways (number_place (image_of c) area g) (IsFor p area) (cond b left (w.disk k))) (sym same) (now area g is_area is_g)
            | inr differ ↦ subst (λ (b : Bool). IsAlways (number_place (image_of c) area g) (IsFor p area) (cond b left (w.disk k))) (sym differ) (holds.good k area g is_area is_g)
          ]

      good_call : (h d : ℕ) (call : Call) (answer : Answer) → h < 16 → Step (w.disk d) call answer left → MadeOn h d call → disks_after w.disk entry left d ≡ left → (area g : ℕ) → area < 2 → g < 16 → IsAlways (number_place (image_of c) area g) (IsFor p area) left
      unfolding MadeOn
      good_call h d call answer is_host step (inl harmless) here area g is_area is_g =
          always_elsewhere (number_place (image_of c) area g) (IsFor p area) (w.disk d) left (holds.known d).marked (lies_on (image_of c) area g (w.disk d) is_area is_g row_fits (holds.known d).room) (holds.good d area g is_area is_g) call answer harmless.writes
          (harmless.leaves area g is_area is_g) step
      good_call h d call answer is_host step (inr (writes, now, next)) here area g is_area is_g =
          let then = subst (λ (x : DiskState). Known (image_of c) x (λ y. past_on d (deeds_after w.deeds entry y))) here (known_next d) in
          number_kept (image_of c) row_fits rows h is_host (past_on d (w.deeds h)) (w.disk d) left (holds.known d).room (holds.known d).marked then.room then.marked ((holds.known d).lives h is_host) (IsFor p) call answer step writes now next area g is_area
          is_g (holds.good d area g is_area is_g)

    disk_here : (d : ℕ) (left : DiskState) → with_disk w.disk d left d ≡ left
    disk_here d left = ap (λ (b : Bool). cond b left (w.disk d)) (same_self d)

    good_next : (entry : Entry) (entries : List Entry) (left : DiskState) → MayFollow crashing c w entry left → GoesFrom crashing c (after w entry left) entries →
        (k area g : ℕ) → area < 2 → g < 16 → IsAlways (number_place (image_of c) area g) (IsFor p area) (disks_after w.disk entry left k)
    good_next (Does h (Calls d now)) entries left may goes =
        good_with (Does h (Calls d now)) entries left may goes d (good_call (Does h (Calls d now)) entries left may goes h d now.call now.answer may.0 may.2 (made_beside h d now.call may.0 may.1.1 may.1.2) (disk_here d left))
    good_next (Does h (CallsIn epoch d now call heard)) entries left may goes =
        good_with (Does h (CallsIn epoch d now call heard)) entries left may goes d
        (good_call (Does h (CallsIn epoch d now call heard)) entries left may goes h d now.call now.answer may.0 may.2 (made_in h epoch d now call heard may.0 may.1.1 may.1.2) (disk_here d left))
    good_next (Does h (Starts epoch)) entries left may goes = holds.good
    good_next (Does h (Begins epoch task)) entries left may goes = holds.good
    good_next (Does h (Stops epoch)) entries left may goes = holds.good
    good_next (Breaks h d call) entries left may goes =
        good_with (Breaks h d call) entries left may goes d
        (good_call (Breaks h d call) entries left may goes h d call (Fault Failed) may.0 (torn_step (w.disk d) left call may.4) (made_beside h d call may.0 may.2 may.3) (disk_here d left))
    good_next (BreaksIn epoch h d call) entries left may goes =
        let moved_call = moved (base_of (image_of c) (epoch_of epoch).area) call in
        good_with (BreaksIn epoch h d call) entries left may goes d
        (good_call (BreaksIn epoch h d call) entries left may goes h d moved_call (Fault Failed) may.0 (torn_step (w.disk d) left moved_call may.3)
        (harmless_as h d (made moved_call (Fault Failed)) (made moved_call (Fault Failed)) refl
        (in_harmless (image_of c) (w.disk d) (holds.known d).room h may.0 (past_on d (w.deeds h)) (epoch_of epoch) call (omega arith) may.2))
        (disk_here d left))
    good_next (Ends h) entries left may goes = holds.good
    good_next (Crashes d) entries left may goes =
        good_with (Crashes d) entries left may goes d (λ area g is_area is_g. always_crashed crashing.IsCrash settles (number_place (image_of c) area g) (IsFor p area) (w.disk d) left may.2 (holds.good d area g is_area is_g))
    good_next (Loses d) entries left may goes =
        good_with (Loses d) entries left may goes d
        (λ area g is_area is_g. always_same (number_place (image_of c) area g) (IsFor p area) (lost (w.disk d)) left may.2 (always_lost (number_place (image_of c) area g) (IsFor p area) (w.disk d) (holds.good d area g is_area is_g)))
    good_next (Replaces d first newest) entries left may goes =
        good_with (Replaces d first newest) entries left may goes d
        (λ area g is_area is_g bytes now order belongs.
        let same : number_at (number_place (image_of c) area g) bytes ≡ number_of (image_of c) area g left.bytes = ap (number_at (number_place (image_of c) area g)) (only_synced left may.2.synced bytes now) in
        let most = may.2.none area g order is_area is_g (ap (epoch_by area) (sym same) ∙ belongs) in
        let open_to = may.1.known in
        whole_below (place_of c all i) newest order most (open_is i w holds open_to.0 newest open_to.1))

    -- WHAT WAS READ

    -- a reading shows numbers that are on the disk
    reads_good : (d : ℕ) (m : Made) (left : DiskState) → Step (w.disk d) m.call m.answer left → (area boot : ℕ) (row : List ℕ) → area < 2 → m ≡ reading (image_of c) area boot row → (g : ℕ) → g < 16 → IsFor p area (numbers_in row g)
    reads_good d m left step area boot row is_area is g is_g =
        let read = subst (λ (x : Made). Step (w.disk d) x.call x.answer left) is step in
        subst (IsFor p area) (sym (read_number (image_of c) row_fits rows area boot row (w.disk d) left is_area (holds.known d).room read g is_g)) (holds.good d area g is_area is_g (w.disk d).bytes (may_leave_now (w.disk d)))

    -- of a deed of the host more
    read_more : (h k : ℕ) (deed : Deed) → ((m : Made) → past_on k (deed ∷ []) ≡ m ∷ [] → (left : DiskState) × Step (w.disk k) m.call m.answer left) → ((past_on k (deed ∷ []) ≡ []) ⊎ ((m : Made) × (past_on k (deed ∷ []) ≡ m ∷ []))) →
        AllRead (image_of c) (IsFor p) (past_on k (w.deeds h ++ deed ∷ []))
    read_more h k deed steps (inl none) =
        subst (AllRead (image_of c) (IsFor p)) (sym (past_more k (w.deeds h) deed ∙ ap (λ (l : Past). past_on k (w.deeds h) ++ l) none ∙ append-nil (past_on k (w.deeds h)))) (holds.read h k)
    read_more h k deed steps (inr (m, is)) =
        let step = steps m is in
        subst (AllRead (image_of c) (IsFor p)) (sym (past_more k (w.deeds h) deed ∙ ap (λ (l : Past). past_on k (w.deeds h) ++ l) is))
        (all_read_more (image_of c) (IsFor p) (past_on k (w.deeds h)) m (holds.read h k) (reads_good k m step.0 step.1))

    read_call : (h k d : ℕ) (deed : Deed) (now : Made) (left : DiskState) → past_on k (deed ∷ []) ≡ cond (d == k) (now ∷ []) [] → Step (w.disk d) now.call now.answer left → AllRead (image_of c) (IsFor p) (past_on k (w.deeds h ++ deed ∷ []))
    read_call h k d deed now left is step =
        elim (cases_Bool (d == k)) [
          | inl here ↦
              let made_it : past_on k (deed ∷ []) ≡ now ∷ [] = is ∙ ap (λ (b : Bool). cond b (now ∷ []) []) here in
              read_more h k deed
              (λ m other. (left, (let same : now ≡ m = last_same [] [] now m (sym made_it ∙ other) in subst (λ (x : Made). Step (w.disk k) x.call x.answer left) same (subst (λ (x : ℕ). Step (w.disk x) now.call now.answer left) (eqb-true d k here) step))))
              (inr (now, made_it))
          | inr there ↦
              let none : past_on k (deed ∷ []) ≡ [] = is ∙ ap (λ (b : Bool). cond b (now ∷ []) []) there in
              read_more h k deed (λ m other. absurd (let clash : [] ≡ m ∷ [] = sym none ∙ other in cc)) (inl none)
        ]

    read_does : (h k : ℕ) (deed : Deed) (left : DiskState) → MayFollow crashing c w (Does h deed) left → AllRead (image_of c) (IsFor p) (past_on k (w.deeds h ++ deed ∷ []))
    read_does h k (Calls d now) left may = read_call h k d (Calls d now) now left refl may.2
    read_does h k (CallsIn epoch d now call heard) left may = read_call h k d (CallsIn epoch d now call heard) now left refl may.2
    read_does h k (Starts epoch) left may = read_more h k (Starts epoch) (λ m other. absurd (cc)) (inl refl)
    read_does h k (Begins epoch task) left may = read_more h k (Begins epoch task) (λ m other. absurd (cc)) (inl refl)
    read_does h k (Stops epoch) left may = read_more h k (Stops epoch) (λ m other. absurd (cc)) (inl refl)

    none_read : (k : ℕ) → AllRead (image_of c) (IsFor p) (past_on k [])
    none_read k area boot row early later is_area is g is_g = absurd (not_nil early (reading (image_of c) area boot row) later is)

    -- WHO RUNS

    runs_does : (h e : ℕ) (deed : Deed) (left : DiskState) → MayFollow crashing c w (Does h deed) left → (before behind : Deeds) → w.deeds h ++ deed ∷ [] ≡ before ++ behind → is_stopped (core_in c h e before) ≡ false → AreWhole p e
    runs_does h e deed left may before behind is goes =
        elim (split_last before behind (w.deeds h) deed is) [
          | inr less ↦ holds.runs h e before less.0 less.1 goes
          | inl whole ↦
              elim (runs_by c h e (core_in c h e (w.deeds h)) deed (ap is_stopped (sym (ap (core_in c h e) whole ∙ core_more c h e Stopped (w.deeds h) deed)) ∙ goes)) [
                | inl was ↦ holds.runs h e (w.deeds h) [] (sym (append-nil (w.deeds h))) was
                | inr starts ↦ open_is i w holds h e (started (subst (λ (x : Deed). MayDo c h (w.deeds h) x) starts may.1))
              ]
        ]
      where
        started : MayDo c h (w.deeds h) (Starts e) → IsOpen c h e (w.deeds h)
        started it = it.1

    -- of each host
    host_next : (entry : Entry) (left : DiskState) → MayFollow crashing c w entry left → (h : ℕ) →
        ((k : ℕ) → AllRead (image_of c) (IsFor p) (past_on k (deeds_after w.deeds entry h)))
        × ((e : ℕ) (before behind : Deeds) → deeds_after w.deeds entry h ≡ before ++ behind → is_stopped (core_in c h e before) ≡ false → AreWhole p e)
    host_next entry left may h =
        elim (cases_Bool (is_by h entry)) [
          | inr other ↦ as_it_was (deeds_after w.deeds entry h) (deeds_of_others h w.deeds entry other)
          | inl own ↦ own_entry entry may own
        ]
      where
        Both : Deeds → Type 0
        Both deeds = ((k : ℕ) → AllRead (image_of c) (IsFor p) (past_on k deeds)) × ((e : ℕ) (before behind : Deeds) → deeds ≡ before ++ behind → is_stopped (core_in c h e before) ≡ false → AreWhole p e)

        as_it_was : (deeds : Deeds) → deeds ≡ w.deeds h → Both deeds
        as_it_was deeds same = subst Both (sym same) (holds.read h, holds.runs h)

        nothing : (deeds : Deeds) → deeds ≡ [] → Both deeds
        nothing deeds none =
            subst Both (sym none) (none_read, λ e before behind is goes. absurd (true≢false (ap (λ (l : Deeds). is_stopped (core_in c h e l)) (sym (nothing_before before behind is)) ∙ goes)))

        does : (g : ℕ) (deed : Deed) → g ≡ h → MayFollow crashing c w (Does g deed) left → Both (deeds_after w.deeds (Does g deed) h)
        does g deed same it =
            subst Both (sym (subst (λ (x : ℕ). deeds_after w.deeds (Does x deed) h ≡ w.deeds h ++ deed ∷ []) (sym same) (deeds_here w.deeds h (w.deeds h ++ deed ∷ []))))
            (let own = subst (λ (x : ℕ). MayFollow crashing c w (Does x deed) left) same it in
            (λ k. read_does h k deed left own, λ e before behind is goes. runs_does h e deed left own before behind is goes))

        own_entry : (x : Entry) → MayFollow crashing c w x left → is_by h x ≡ true → Both (deeds_after w.deeds x h)
        own_entry (Does g deed) it own = does g deed (eqb-true g h own) it
        own_entry (Breaks g k call) it own = nothing (deeds_after w.deeds (Breaks g k call) h) (subst (λ (x : ℕ). deeds_after w.deeds (Breaks x k call) h ≡ []) (sym (eqb-true g h own)) (deeds_here w.deeds h []))
        own_entry (BreaksIn epoch g k call) it own =
            nothing (deeds_after w.deeds (BreaksIn epoch g k call) h) (subst (λ (x : ℕ). deeds_after w.deeds (BreaksIn epoch x k call) h ≡ []) (sym (eqb-true g h own)) (deeds_here w.deeds h []))
        own_entry (Ends g) it own = nothing (deeds_after w.deeds (Ends g) h) (subst (λ (x : ℕ). deeds_after w.deeds (Ends x) h ≡ []) (sym (eqb-true g h own)) (deeds_here w.deeds h []))
        own_entry (Crashes k) it own = absurd (true≢false (sym own))
        own_entry (Loses k) it own = absurd (true≢false (sym own))
        own_entry (Replaces k first newest) it own = absurd (true≢false (sym own))

  -- THE NEXT PLACE

  holds_next : (i : ℕ) (w : World) (entry : Entry) (entries : List Entry) (goes : GoesFrom crashing c w (entry ∷ entries)) → drop i all ≡ entry ∷ entries → Holds i w → Holds (suc i) (after w entry goes.0)
  holds_next i w entry entries goes at_i holds =
      let on = keeps.rises i (suc i) (omega arith) in
      let a = place_of c all i in
      let b = place_of c all (suc i) in
      record {
        deeds = ap (λ (f : ℕ → Deeds). deeds_after f entry) holds.deeds ∙ sym (deeds_next no_deeds i all entry entries at_i);
        known = known_next i w holds entry entries goes.0 goes.1 goes.2;
        good = λ k area g is_area is_g. always_as (number_place (image_of c) area g) (IsFor a area) (IsFor b area) (disks_after w.disk entry goes.0 k) (λ number. for_later a b area number on)
            (good_next i w holds entry entries goes.0 goes.1 goes.2 k area g is_area is_g);
        read = λ h k area boot row early later is_area is g is_g. for_later a b area (numbers_in row g) on ((host_next i w holds entry goes.0 goes.1 h).0 k area boot row early later is_area is g is_g);
        runs = λ h e before behind is runs. whole_later a b e on ((host_next i w holds entry goes.0 goes.1 h).1 e before behind is runs);
      }

  -- so who runs in an epoch by an entry does so once those before are whole
  walk : (entries : List Entry) (i : ℕ) (w : World) → GoesFrom crashing c w entries → drop i all ≡ entries → Holds i w → (j : ℕ) (h e : ℕ) → is_stopped (core_in c h e (deeds_from w.deeds j entries h)) ≡ false → AreWhole (place_of c all (i + j)) e
  walk entries i w goes at_i holds zero h e runs = whole_later (place_of c all i) (place_of c all (i + 0)) e (keeps.rises i (i + 0) (omega arith)) (holds.runs h e (w.deeds h) [] (sym (append-nil (w.deeds h))) runs)
  walk [] i w goes at_i holds (suc j) h e runs = whole_later (place_of c all i) (place_of c all (i + suc j)) e (keeps.rises i (i + suc j) (omega arith)) (holds.runs h e (w.deeds h) [] (sym (append-nil (w.deeds h))) runs)
  walk (entry ∷ entries) i w goes at_i holds (suc j) h e runs =
      whole_later (place_of c all (suc i + j)) (place_of c all (i + suc j)) e (keeps.rises (suc i + j) (i + suc j) (omega arith))
      (walk entries (suc i) (after w entry goes.0) goes.2 (drop_next i all entry entries at_i) (holds_next i w entry entries goes at_i holds) j h e runs)

  holds_first : Holds 0 (opening c)
  holds_first =
      record {
        deeds = refl;
        known = λ k. known_first (image_of c) (whole_length (image_of c)) row_fits (omega arith);
        good = λ k area g is_area is_g. always_as (number_place (image_of c) area g) (λ number. number ≡ 0) (IsFor (place_of c all 0) area) ((opening c).disk k) (λ number none. none_for (place_of c all 0) area number is_area none)
            (λ bytes may. zero_left area g (whole_length (image_of c)) bytes may);
        read = λ h k area boot row early later is_area is g is_g. absurd (not_nil early (reading (image_of c) area boot row) later is);
        runs = λ h e before behind is runs. absurd (true≢false (ap (λ (l : Deeds). is_stopped (core_in c h e l)) (sym (nothing_before before behind is)) ∙ runs));
      }
    where
      zero_left : (area g size : ℕ) (bytes : List ℕ) → MayLeave (fresh_disk size) bytes → number_at (number_place (image_of c) area g) bytes ≡ 0
      zero_left area g size bytes may =
          elim ((zeros_are_none (number_place (image_of c) area g) size).left bytes may) [
            | inl sure ↦ sure
            | inr (inl seen) ↦ seen
            | inr (inr writing) ↦ absurd (true≢false (sym writing.1))
          ]

  -- where a host runs in an epoch, each before it was learned whole
  pub before_whole : (j h e : ℕ) → is_stopped (core_in c h e (deeds_from no_deeds j all h)) ≡ false → (d : ℕ) → suc d ≤ e → (p : ℕ) × IsWholeBy c (lived_of c all) d p
  before_whole j h e runs d before = (place_of c all (0 + j), walk all 0 (opening c) goes_all refl holds_first j h e runs d before)

  -- NOBODY IS EARLY

  pub in_turn : (i e h : ℕ) (memory : Memory) → RunsIn c (lived_of c all) i (suc e) h memory → IsWholeBy c (lived_of c all) e i
  in_turn i e h memory runs =
      let by = keeps.runs i (suc e) h memory runs in
      let core = core_in c h (suc e) (deeds_from no_deeds by.0 all h) in
      let goes : is_stopped core ≡ false = sym (shown_stays c h (suc e) core (showing_next h (drop by.0 all))) ∙ ap is_stopped by.2 in
      let whole = walk all 0 (opening c) goes_all refl holds_first by.0 h (suc e) goes in
      whole_later (place_of c all (0 + by.0)) i (suc e) (let low = by.1 in let same = ap (place_of c all) (let zero_more : 0 + by.0 ≡ by.0 = omega arith in zero_more) in omega (arith, low, same)) whole e (omega arith)
