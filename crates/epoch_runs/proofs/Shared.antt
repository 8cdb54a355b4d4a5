-- All that is lived is shared: each disk served what is done there, each host did what it may, and the parts of an epoch are the same.
use Rattle.std.specs.Prelude.{◌<◌, ◌^◌, ◌||◌, length}
use Rattle.std.proofs.Common.{ℕ, zero, suc, ◌==◌, Bool, true, false, cond, Option, Some, None, List, [], ◌∷◌, ◌++◌, refl, sym, ◌∙◌, subst, inl, inr, arith}
use Rattle.disk.specs.Simulated.{fresh_disk}
use Rattle.paxos_block.specs.Shape.{Shape}
use Rattle.standings.specs.Epochs.{whole_length}
use Rattle.world.specs.Entry.{Filled, Start, Stop, Begin, Called, Torn}
use Rattle.at_once.specs.AtOnce.{IsDeed, AreDeeds}
use Rattle.epochs.specs.Acts.{IsModelCrash}
use Rattle.at_once.specs.Power.{LosesPower}
use Rattle.epochs.specs.OneLog.{IsSharedByPasts, IsSharedByPastsOverLosses}
use Rattle.epochs.specs.Pasts.{no_pasts, ServesPasts}
use Rattle.epochs.proofs.OneLog.{pasts_are_shared, pasts_are_shared_over_losses}
use Rattle.endless.specs.Lived.{Lived, In, Crash, Loss}
use Rattle.endless.specs.Lived as living
use Rattle.epoch_deeds.specs.Deeds.{Deeds, Calls, CallsIn, Starts, Begins, Stops}
use Rattle.epoch_deeds.specs.Knowing.{image_of}
use Rattle.epoch_runs.specs.World.{Entry, Does, Breaks, BreaksIn, Ends, Crashes, Loses, Replaces, opening, deeds_after, model_crashes, power_losses, Goes}
use Rattle.epoch_runs.specs.Living.{is_row, Showing, showing_next, shows_row, below, stops_below, has_stopped, others_stop, lived_at, lived_from, lived_of}
use Rattle.epoch_runs.specs.Laws.{DeedsAreShared, DeedsAreSharedOverLosses}
use Rattle.epoch_runs.proofs.Dark.{all_dark}
use Rattle.epoch_runs.proofs.Disks.{deeds_on, done_on}
use Rattle.epoch_runs.proofs.Hosts.{hosts_do}
use Rattle.epoch_runs.proofs.Lists.{part_both}
use Rattle.epoch_runs.proofs.Served.{IsSound, all_served}
use Rattle.epoch_runs.proofs.Taking.{for_later}

-- NOTHING IS MIGRATED

deeds_both : (one more : List Filled) → AreDeeds one → AreDeeds more → AreDeeds (one ++ more)
deeds_both [] more first then = then
deeds_both (x ∷ one) more first then = (first.0, deeds_both one more first.1 then)

deed_in : (e epoch : ℕ) (entry : Filled) (rest : List Lived) → IsDeed entry → AreDeeds (living.part e rest) → AreDeeds (living.part e (In epoch entry ∷ rest))
deed_in e epoch entry rest is then = either (epoch == e)
  where
    either : (b : Bool) → AreDeeds (cond b (entry ∷ living.part e rest) (living.part e rest))
    either true = (is, then)
    either false = then

stops_are : (e h : ℕ) (stopped : ℕ → Bool) (n : ℕ) → AreDeeds (living.part e (stops_below h stopped n))
stops_are e h stopped zero = tt
stops_are e h stopped (suc n) = either (stopped n) (stops_are e h stopped n)
  where
    either : (b : Bool) → AreDeeds (living.part e (stops_below h stopped n)) → AreDeeds (living.part e (cond b (stops_below h stopped n) (In n (Stop h) ∷ stops_below h stopped n)))
    either true rest = rest
    either false rest = deed_in e n (Stop h) (stops_below h stopped n) tt rest

lived_are : (c : Shape) (e : ℕ) (deeds : ℕ → Deeds) (entry : Entry) (entries : List Entry) → AreDeeds (living.part e (lived_at c deeds entry entries))
lived_are c e deeds (Does h (Calls k made)) entries = either (showing_next h entries)
  where
    either : (next : Option Showing) → AreDeeds (living.part e (shows_row h k next))
    either None = tt
    either (Some s) = deed_in e s.epoch (Called h k s.call s.heard []) [] tt tt
lived_are c e deeds (Does h (CallsIn epoch k made call heard)) entries = either (is_row call heard)
  where
    either : (b : Bool) → AreDeeds (living.part e (cond b [] (In epoch (Called h k call heard []) ∷ [])))
    either true = tt
    either false = deed_in e epoch (Called h k call heard []) [] tt tt
lived_are c e deeds (Does h (Starts epoch)) entries = deed_in e epoch (Start h) [] tt tt
lived_are c e deeds (Does h (Begins epoch task)) entries = deed_in e epoch (Begin h task) [] tt tt
lived_are c e deeds (Does h (Stops epoch)) entries = deed_in e epoch (Stop h) [] tt tt
lived_are c e deeds (Breaks h k call) entries = stops_are e h (has_stopped c h (deeds h)) (below (deeds h))
lived_are c e deeds (BreaksIn epoch h k call) entries = deed_in e epoch (Torn h k call []) (others_stop c h epoch (deeds h)) tt (stops_are e h (λ d. epoch == d || has_stopped c h (deeds h) d) (below (deeds h)))
lived_are c e deeds (Ends h) entries = stops_are e h (has_stopped c h (deeds h)) (below (deeds h))
lived_are c e deeds (Crashes k) entries = (tt, tt)
lived_are c e deeds (Loses k) entries = (tt, tt)
lived_are c e deeds (Replaces k first newest) entries = tt

are_deeds : (c : Shape) (e : ℕ) (deeds : ℕ → Deeds) (entries : List Entry) → AreDeeds (living.part e (lived_from c deeds entries))
are_deeds c e deeds [] = tt
are_deeds c e deeds (entry ∷ entries) =
    subst AreDeeds (sym (part_both e (lived_at c deeds entry entries) (lived_from c (deeds_after deeds entry) entries)))
    (deeds_both (living.part e (lived_at c deeds entry entries)) (living.part e (lived_from c (deeds_after deeds entry) entries)) (lived_are c e deeds entry entries) (are_deeds c e (deeds_after deeds entry) entries))

-- CRASHES

pub model_sound : IsSound model_crashes
model_sound w old new crash may = inl crash.1.boot

pub power_sound : IsSound power_losses
power_sound w old new crash may = inr (crash.after ∙ sym crash.before, may)

-- SHARED

module _ (c : Shape) (entries : List Entry) (goes : Goes model_crashes c entries) where
  served : (k : ℕ) → ServesPasts IsModelCrash c k (image_of c) (fresh_disk (whole_length (image_of c))) no_pasts (deeds_on k entries)
  served k = all_served model_crashes model_sound c k entries (opening c) no_pasts (λ g. refl) goes

  by_pasts : IsSharedByPasts c (whole_length (image_of c)) (λ k. deeds_on k entries) (λ e. living.part e (lived_of c entries))
  by_pasts =
      record {
        room = omega arith;
        disks = served;
        later = λ k. for_later model_crashes c k entries (opening c) goes;
        hosts = hosts_do model_crashes c entries goes;
        entries = λ e. are_deeds c e (λ h. []) entries;
        parts = λ e k. done_on c k e (λ h. []) entries;
      }

pub deeds_are_shared : DeedsAreShared
deeds_are_shared c entries goes = pasts_are_shared c (whole_length (image_of c)) (λ k. deeds_on k entries) (λ e. living.part e (lived_of c entries)) (by_pasts c entries goes)

-- over losses of power
module _ (c : Shape) (entries : List Entry) (goes : Goes power_losses c entries) (few : (e : ℕ) → length (living.part e (lived_of c entries)) < 2 ^ 62) where
  served_on : (k : ℕ) → ServesPasts LosesPower c k (image_of c) (fresh_disk (whole_length (image_of c))) no_pasts (deeds_on k entries)
  served_on k = all_served power_losses power_sound c k entries (opening c) no_pasts (λ g. refl) goes

  by_pasts_on : IsSharedByPastsOverLosses c (whole_length (image_of c)) (λ k. deeds_on k entries) (λ e. living.part e (lived_of c entries))
  by_pasts_on =
      record {
        room = omega arith;
        disks = served_on;
        later = λ k. for_later power_losses c k entries (opening c) goes;
        hosts = hosts_do power_losses c entries goes;
        entries = λ e. are_deeds c e (λ h. []) entries;
        parts = λ e k. done_on c k e (λ h. []) entries;
        dark = λ e i k h left is. all_dark c entries goes e h i k left is;
        few = few;
      }

pub deeds_are_shared_over_losses : DeedsAreSharedOverLosses
deeds_are_shared_over_losses c entries goes few =
    pasts_are_shared_over_losses c (whole_length (image_of c)) (λ k. deeds_on k entries) (λ e. living.part e (lived_of c entries)) (by_pasts_on c entries goes few)
