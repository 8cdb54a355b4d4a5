-- A device whose syncs come late does what one does whose syncs take effect where they were asked for: both have the same sectors, and what a restart may give back on the first one
-- it may on the second one, unless a sync owes the sector.
use Rattle.std.specs.Prelude.{◌==◌, Contains, Option, None, Some, nat_lt, if◌then◌else◌}
use Rattle.std.proofs.Common.{ℕ, zero, suc, ◌≡◌, Bool, true, false, List, [], ◌∷◌, ◌++◌, length, refl, sym, subst, ap, ◌∙◌, inl, inr, arith}
use Rattle.std.proofs.lemmas.Bool.{or_parts, ltb-false}
use Rattle.disk.specs.Disk.{DiskState}
use Rattle.paxos_block.specs.Shape.{Shape}
use Rattle.world.specs.Entry.{Filled, Start, Stop, Begin, Called, Torn, Crashed, Lost, Migrated}
use Rattle.world.specs.Entry as world
use Rattle.sectors.specs.declared.geometry.Geometry.{Geometry}
use Rattle.sectors.specs.Moments as touches
use Rattle.sectors.specs.Moments.{Touch, Sees, Puts, Tries}
use Rattle.sector_runs.specs.Device.{Device, GoesBy, Reads, Effect, effects, noted}
use Rattle.sector_runs.specs.Device as sector
use Rattle.sector_runs.specs.OverDevices as ending
use Rattle.sector_runs.specs.Touches.{TakesEffect, Happens, GoesThrough}
use Rattle.sector_runs.proofs.OneLog.{devices_have_one_log}
use Rattle.sector_runs.proofs.Seeing.{none_in}
use Rattle.epoch_runs.specs.World.{Entry}
use Rattle.epochs_at_once.specs.AtOnce.{on_disk}
use Rattle.sector_epochs.specs.World.{all_told}
use Rattle.sector_epochs.specs.OverDevices as endless
use Rattle.sector_epochs.proofs.Over as endless_law
use Rattle.late_syncs.specs.Late.{Moment, Takes, Keeps, entries_of}
use Rattle.late_syncs.specs.LateDevice.{LateDevice, at_first, is_unsynced, IsAskedFor, GoesByLate, TakesEffectLate, HappensLate, WritesBack, GoesThroughLate, LateDevicesServe, DevicesMayBeLate}
use Rattle.late_syncs.specs.Devices.{IsOverLateDevices, LateDevicesHaveOneLog, IsOverLateDevicesOn, LateDevicesHaveOneLogOn}

-- what each sector has had since some sync
abbrev pub Since : Type 0
Since = ℕ → List (List ℕ)

abbrev with_since : Device → Since → Device
with_since device since = record { now = device.now; since = since; gone = device.gone }

-- what a sector of the one device has had the other one's has had
abbrev pub Has : Since → Since → ℕ → Type 0
Has one other s = (had : List ℕ) → Contains (one s) had → Contains (other s) had

record Shows (since : Since) (late : LateDevice) : Type 0 where
  kept : (s : ℕ) → late.owes s ≡ false → Has late.device.since since s

-- the device that has had this goes on alike, and then has had something else
record Follows (new : LateDevice) (To : Device → Type 0) : Type 0 where
  since : Since
  to : To (with_since new.device since)
  shows : Shows since new

-- nothing else
abbrev nothing : Since
nothing = λ s. []

-- of something that was had a place is above zero
has_some : (had : List ℕ) (l : List (List ℕ)) → nat_lt 0 (length l) ≡ false → Contains l had → Contains [] had
has_some had l none (i, below, is) = absurd (omega (arith, ltb-false 0 (length l) none, below))

-- with two more both have them
two_more : (a b : List ℕ) (one other : List (List ℕ)) → ((had : List ℕ) → Contains one had → Contains other had) → (had : List ℕ) → Contains (a ∷ b ∷ one) had → Contains (a ∷ b ∷ other) had
two_more a b one other has had (zero, below, is) = (zero, omega arith, is)
two_more a b one other has had (suc zero, below, is) = (suc zero, omega arith, is)
two_more a b one other has had (suc (suc i), below, is) =
    let rest = has had (i, omega (arith, below), is) in
    (suc (suc rest.0), let there = rest.1 in omega (arith, there), rest.2)

if_noted : (b : Bool) (was bytes : List ℕ) (one other : List (List ℕ)) → ((had : List ℕ) → Contains one had → Contains other had) → (had : List ℕ) →
    Contains (if b then was ∷ bytes ∷ one else one) had → Contains (if b then was ∷ bytes ∷ other else other) had
if_noted true was bytes one other has had in_it = two_more was bytes one other has had in_it
if_noted false was bytes one other has had in_it = has had in_it

made_of : (new : LateDevice) (device : Device) (owes : ℕ → Bool) → new.device ≡ device → new.owes ≡ owes → record { device = device; owes = owes } ≡ new
made_of new device owes is owed = sym (λ i. record { device = is i; owes = owed i })

module _ (since : Since) (old new : LateDevice) (shows : Shows since old) where
  -- nothing is written
  stays : new.device.since ≡ old.device.since → new.owes ≡ old.owes → Shows since new
  stays is owed =
      record {
        kept = λ s none had in_it. shows.kept s (ap (λ (f : ℕ → Bool). f s) (sym owed) ∙ none) had (subst (λ (f : Since). Contains (f s) had) is in_it);
      }

  -- a sector is, or was to be
  noted_so : (s : ℕ) (bytes : List ℕ) → new.device.since ≡ noted s bytes old.device → new.owes ≡ old.owes → Shows (noted s bytes (with_since old.device since)) new
  noted_so s bytes is owed =
      record {
        kept = λ t none had in_it.
            if_noted (t == s) (old.device.now t) bytes (old.device.since t) (since t) (shows.kept t (ap (λ (f : ℕ → Bool). f t) (sym owed) ∙ none)) had
            (subst (λ (f : Since). Contains (f t) had) is in_it);
      }

  -- a sync is asked for: the one device has it at once, and the other one owes it
  asked : IsAskedFor old new → Shows nothing new
  asked is =
      record {
        kept = λ s none had in_it.
            has_some had (old.device.since s) (or_parts (old.owes s) (is_unsynced old.device s) (sym (is.owes s) ∙ none)).1
            (subst (λ (d : Device). Contains (d.since s) had) is.same in_it);
      }

  -- something is written back
  back : WritesBack old new → Shows since new
  back is =
      record {
        kept = λ s none had in_it. elim (is.each s) [
          | inl stays ↦ shows.kept s (sym stays.1 ∙ none) had (subst (λ (l : List (List ℕ)). Contains l had) stays.0 in_it)
          | inr lasts ↦ absurd (none_in had (subst (λ (l : List (List ℕ)). Contains l had) lasts.0 in_it))
        ];
      }

  same_device : WritesBack old new → with_since new.device since ≡ with_since old.device since
  same_device is = λ i. record { now = is.now i; since = since; gone = is.gone i }

  touched : (by : Option Touch) → GoesByLate by old new → Follows new (GoesBy by (with_since old.device since))
  touched None is =
      record { since = since; to = ap (λ (d : Device). with_since d since) is.0; shows = stays (ap (λ (d : Device). d.since) is.0) is.1 }
  touched (Some (Sees s bytes)) is = record { since = since; to = (is.0.0, refl, is.0.2); shows = stays is.0.1 is.1 }
  touched (Some (Puts s bytes)) is =
      record { since = noted s bytes (with_since old.device since); to = (is.0.0, refl, is.0.2); shows = noted_so s bytes is.0.1 is.1 }
  touched (Some (Tries s bytes)) is =
      record { since = noted s bytes (with_since old.device since); to = (is.0.0, refl, is.0.2); shows = noted_so s bytes is.0.1 is.1 }
  touched (Some touches.Keeps) is =
      record {
        since = nothing;
        to = (ap (λ (d : Device). d.now) is.same, refl, ap (λ (d : Device). d.gone) is.same);
        shows = asked is;
      }

  module _ (c : Shape) (k : ℕ) (geometry : Geometry) (past future : List sector.Moment) where
    effect : (e : Filled) (by : Option Touch) → TakesEffectLate c k geometry past future old e by new → Follows new (TakesEffect c k geometry past future (with_since old.device since) e by)
    effect (Called h d call answer left) by is =
        let one = touched by is.1 in
        record { since = one.since; to = (is.0, one.to); shows = one.shows }
    effect (Torn h d call left) by is =
        let one = touched by is.1 in
        record { since = one.since; to = (is.0, one.to); shows = one.shows }
    effect (Crashed d left) by is =
        let restarts = is.1.3 in
        record {
          since = nothing;
          to = (
            is.1.0,
            is.1.1,
            is.1.2,
            record {
              kept = λ s. elim (restarts.kept s) [
                | inl same ↦ inl same
                | inr had ↦ inr (shows.kept s (is.0 s) (new.device.now s) had)
              ];
              since = refl;
              gone = restarts.gone;
            },
          );
          shows = record { kept = λ s none had in_it. subst (λ (f : Since). Contains (f s) had) restarts.since in_it };
        }
    effect (Lost d) by is =
        record {
          since = since;
          to = (is.0.0, is.0.1, is.0.2, ap (λ (device : Device). with_since device since) is.0.3);
          shows = stays (ap (λ (device : Device). device.since) is.0.3) is.1;
        }
    effect (Start h) by is = absurd is.0
    effect (Stop h) by is = absurd is.0
    effect (Begin h task) by is = absurd is.0
    effect (Migrated disks commands) by is = absurd is.0

    moment_next : (m : sector.Moment) → HappensLate c k geometry past future old m new → Follows new (λ device. Happens c k geometry past future (with_since old.device since) m device)
    moment_next (Reads s bytes) is = touched (Some (Sees s bytes)) is
    moment_next (Effect e by) is = effect e by is

module _ (c : Shape) (k : ℕ) (geometry : Geometry) where
  goes_through : (history : List (Moment sector.Moment)) (past : List sector.Moment) (since : Since) (old : LateDevice) → Shows since old → GoesThroughLate c k geometry past old history →
      GoesThrough c k geometry past (with_since old.device since) (entries_of history)
  goes_through [] past since old shows goes = tt
  goes_through (Takes m ∷ history) past since old shows goes =
      let one = moment_next since old goes.0 shows c k geometry past (entries_of history) m goes.1 in
      (with_since goes.0.device one.since, one.to, goes_through history (m ∷ past) one.since goes.0 one.shows goes.2)
  goes_through (Keeps ∷ history) past since old shows goes =
      subst (λ (device : Device). GoesThrough c k geometry past device (entries_of history)) (same_device since old goes.0 shows goes.1)
      (goes_through history past since goes.0 (back since old goes.0 shows goes.1) goes.2)

pub late_devices_serve : LateDevicesServe
late_devices_serve c k geometry device calls late =
    record {
      history = entries_of late.history;
      same = late.same;
      goes = goes_through c k geometry late.history [] device.since (at_first device) (record { kept = λ s none had in_it. in_it }) late.goes;
    }

-- WITHOUT LATENESS

module _ (c : Shape) (k : ℕ) (geometry : Geometry) where
  -- one moment, and what is written back for it
  record Late (past : List sector.Moment) (old : Device) (m : sector.Moment) (new : Device) (future : List sector.Moment) : Type 0 where
    moments : List (Moment sector.Moment)
    same : (later : List (Moment sector.Moment)) → entries_of (moments ++ later) ≡ (m ∷ entries_of later)
    goes : (later : List (Moment sector.Moment)) → entries_of later ≡ future → GoesThroughLate c k geometry (m ∷ past) (at_first new) later → GoesThroughLate c k geometry past (at_first old) (moments ++ later)

  module _ (past future : List sector.Moment) (old new : Device) where
    at_its_moment : (m : sector.Moment) → HappensLate c k geometry past future (at_first old) m (at_first new) → Late past old m new future
    at_its_moment m is =
        record {
          moments = Takes m ∷ [];
          same = λ later. refl;
          goes = λ later rest goes. (at_first new, subst (λ (l : List sector.Moment). HappensLate c k geometry past l (at_first old) m (at_first new)) (sym rest) is, goes);
        }

    -- a call that takes effect by this touch
    called : (by : Option Touch) (e : Filled) → GoesBy by old new →
        ((middle : LateDevice) → GoesByLate by (at_first old) middle → HappensLate c k geometry past future (at_first old) (Effect e by) middle) → Late past old (Effect e by) new future
    called None e is so = at_its_moment (Effect e None) (so (at_first new) (is, refl))
    called (Some (Sees s bytes)) e is so = at_its_moment (Effect e (Some (Sees s bytes))) (so (at_first new) (is, refl))
    called (Some (Puts s bytes)) e is so = at_its_moment (Effect e (Some (Puts s bytes))) (so (at_first new) (is, refl))
    called (Some (Tries s bytes)) e is so = at_its_moment (Effect e (Some (Tries s bytes))) (so (at_first new) (is, refl))
    called (Some touches.Keeps) e is so =
        let middle : LateDevice = record { device = old; owes = is_unsynced old } in
        let m = Effect e (Some touches.Keeps) in
        record {
          moments = Takes m ∷ Keeps ∷ [];
          same = λ later. refl;
          goes = λ later rest goes. (
            middle,
            subst (λ (l : List sector.Moment). HappensLate c k geometry past l (at_first old) m middle) (sym rest) (so middle (record { same = refl; owes = λ s. refl })),
            (at_first new, record { now = is.0; each = λ s. inr (ap (λ (f : Since). f s) is.1, refl); gone = is.2 }, goes),
          );
        }

    late : (m : sector.Moment) → Happens c k geometry past future old m new → Late past old m new future
    late (Reads s bytes) is = at_its_moment (Reads s bytes) (is, refl)
    late (Effect (Called h d call answer left) by) is = called by (Called h d call answer left) is.1 (λ middle goes. (is.0, goes))
    late (Effect (Torn h d call left) by) is = called by (Torn h d call left) is.1 (λ middle goes. (is.0, goes))
    late (Effect (Crashed d left) by) is = at_its_moment (Effect (Crashed d left) by) (λ s. refl, is, refl)
    late (Effect (Lost d) by) is = at_its_moment (Effect (Lost d) by) (is, refl)
    late (Effect (Start h) by) is = absurd is
    late (Effect (Stop h) by) is = absurd is
    late (Effect (Begin h task) by) is = absurd is
    late (Effect (Migrated disks commands) by) is = absurd is

  -- a history in which each sync is written back at once
  record LateThrough (past : List sector.Moment) (first : Device) (moments : List sector.Moment) : Type 0 where
    history : List (Moment sector.Moment)
    same : moments ≡ entries_of history
    goes : GoesThroughLate c k geometry past (at_first first) history

  through_late : (moments past : List sector.Moment) (old : Device) → GoesThrough c k geometry past old moments → LateThrough past old moments
  through_late [] past old goes = record { history = []; same = refl; goes = tt }
  through_late (m ∷ moments) past old goes =
      let one = late past moments old goes.0 m goes.1 in
      let rest = through_late moments (m ∷ past) goes.0 goes.2 in
      record {
        history = one.moments ++ rest.history;
        same = ap (λ (l : List sector.Moment). m ∷ l) rest.same ∙ sym (one.same rest.history);
        goes = one.goes rest.history (sym rest.same) rest.goes;
      }

pub devices_may_be_late : DevicesMayBeLate
devices_may_be_late c k geometry device calls serves =
    let late = through_late c k geometry serves.history [] device serves.goes in
    record { history = late.history; same = serves.same ∙ ap effects late.same; goes = late.goes }

-- HOSTS

over_devices : (c : Shape) (geometry : ℕ → Geometry) (images : ℕ → DiskState) (devices : ℕ → Device) (log : List Filled) → IsOverLateDevices c geometry images devices log →
    ending.IsOverDevices c geometry images devices log
over_devices c geometry images devices log over =
    record {
      hosts = over.hosts;
      deeds = over.deeds;
      is = over.is;
      held = over.held;
      shows = over.shows;
      serves = λ k. late_devices_serve c k (geometry k) (devices k) (world.on_disk k log) (over.serves k);
      dark = over.dark;
      few = over.few;
    }

pub late_devices_have_one_log : LateDevicesHaveOneLog
late_devices_have_one_log c geometry images devices log over = devices_have_one_log c geometry images devices log (over_devices c geometry images devices log over)

over_devices_on : (c : Shape) (geometry : ℕ → Geometry) (images : ℕ → DiskState) (devices : ℕ → Device) (entries : List Entry) → IsOverLateDevicesOn c geometry images devices entries →
    endless.IsOverDevices c geometry images devices entries
over_devices_on c geometry images devices entries over =
    record {
      hosts = over.hosts;
      reads = over.reads;
      writes = over.writes;
      is = over.is;
      blank = over.blank;
      shows = over.shows;
      serves = λ k. late_devices_serve c k (geometry k) (devices k) (all_told c (on_disk k entries)) (over.serves k);
      taking = over.taking;
      dark = over.dark;
    }

pub late_devices_have_one_log_on : LateDevicesHaveOneLogOn
late_devices_have_one_log_on c geometry images devices entries long over few =
    endless_law.devices_have_one_log c geometry images devices entries long (over_devices_on c geometry images devices entries over) few
