-- The same of hosts of all epochs.
use Rattle.std.proofs.Common.{ℕ, false, Bool, List, [], ◌∷◌, length, sym, subst, ap, ◌∙◌}
use Rattle.std.proofs.lemmas.List.{length-replicate}
use Rattle.disk.specs.Disk.{DiskState, lost}
use Rattle.disk.specs.Crash.{IsWhole}
use Rattle.paxos_block.specs.Shape.{Shape}
use Rattle.standings.specs.Epochs.{epoch_of, base_of}
use Rattle.standings.specs.Reading.{moved}
use Rattle.at_once.specs.Power.{LosesPower}
use Rattle.epoch_deeds.specs.Deeds.{Calls, CallsIn, Starts, Begins, Stops}
use Rattle.epoch_deeds.specs.Knowing.{image_of}
use Rattle.epoch_runs.specs.World.{Entry, Does, Breaks, BreaksIn, Ends, Crashes, Loses, Replaces}
use Rattle.epochs_at_once.specs.AtOnce.{on_disk, GoesTo, Serves}
use Rattle.epochs_at_once.proofs.Images.{images_have_one_log_over_losses}
use Rattle.late_syncs.specs.Late.{LateDisk, at_first, Moment, Takes, Keeps, entries_of, GoesThrough, ServesLate}
use Rattle.late_syncs.specs.Epochs.{GoesLate, LateSyncsAreLossesOn, LateSyncsHaveOneLogOn}
use Rattle.late_syncs.proofs.Late.{with_flags, Shows, shows_first, Follows, stays, back, same_disk, answers, tears, loses}

module _ (c : Shape) (k : ℕ) where
  follows : (flags : List Bool) (old new : LateDisk) (e : Entry) → Shows flags old → GoesLate c k old e new → Follows new (GoesTo LosesPower c k (with_flags old.disk flags) e)
  follows flags old new (Does h (Calls d now)) shows is = answers flags old new shows now.call now.answer is
  follows flags old new (Does h (CallsIn epoch d now call heard)) shows is = answers flags old new shows now.call now.answer is
  follows flags old new (Does h (Starts epoch)) shows is = absurd is.0
  follows flags old new (Does h (Begins epoch task)) shows is = absurd is.0
  follows flags old new (Does h (Stops epoch)) shows is = absurd is.0
  follows flags old new (Breaks h d call) shows is = tears flags old new shows call is.0 is.1
  follows flags old new (BreaksIn epoch h d call) shows is = tears flags old new shows (moved (base_of (image_of c) (epoch_of epoch).area) call) is.0 is.1
  follows flags old new (Ends h) shows is = absurd is.0
  follows flags old new (Crashes d) shows is =
      let after = loses flags old new shows is.0 is.1.2 is.2 in
      record { flags = after.flags; to = (is.1.0, is.1.1, after.to); shows = after.shows }
  follows flags old new (Loses d) shows is =
      record {
        flags = flags;
        to = (is.0.0, is.0.1, ap (λ (disk : DiskState). with_flags disk flags) is.0.2);
        shows = stays flags (record { disk = lost old.disk; owes = old.owes }) new (record { long = shows.long; whole = shows.whole; kept = shows.kept }) is.0.2 is.1;
      }
  follows flags old new (Replaces d first newest) shows is =
      let put = is.0.1 in
      let whole : IsWhole new.disk = ap (λ (l : List Bool). length l) put.synced ∙ length-replicate (length new.disk.bytes) false in
      record {
        flags = new.disk.unsynced;
        to = (is.0.0, record { there = put.there; gone = put.gone; boot = put.boot; room = put.room; synced = put.synced; none = put.none });
        shows = record { long = whole; whole = whole; kept = λ p none claimed. claimed };
      }

  serves : (history : List (Moment Entry)) (flags : List Bool) (old : LateDisk) → Shows flags old → GoesThrough (GoesLate c k) old history → Serves LosesPower c k (with_flags old.disk flags) (entries_of history)
  serves [] flags old shows goes = tt
  serves (Takes e ∷ history) flags old shows goes =
      let one = follows flags old goes.0 e shows goes.1 in
      (with_flags goes.0.disk one.flags, one.to, serves history one.flags goes.0 one.shows goes.2)
  serves (Keeps ∷ history) flags old shows goes =
      subst (λ (disk : DiskState). Serves LosesPower c k disk (entries_of history)) (same_disk flags old goes.0 shows goes.1)
      (serves history flags goes.0 (back flags old goes.0 shows goes.1) goes.2)

pub late_syncs_are_losses_on : LateSyncsAreLossesOn
late_syncs_are_losses_on c images entries over =
    record {
      hosts = over.hosts;
      reads = over.reads;
      blank = over.blank;
      disks = λ k. served k (over.disks k);
      taking = over.taking;
      dark = over.dark;
    }
  where
    served : (k : ℕ) → ServesLate (GoesLate c k) (images k) (on_disk k entries) → Serves LosesPower c k (images k) (on_disk k entries)
    served k late =
        subst (Serves LosesPower c k (images k)) (sym late.same)
        (serves c k late.history (images k).unsynced (at_first (images k)) (shows_first (images k) (over.whole k)) late.goes)

pub late_syncs_have_one_log_on : LateSyncsHaveOneLogOn
late_syncs_have_one_log_on c images entries long over few = images_have_one_log_over_losses c images entries long (late_syncs_are_losses_on c images entries over) few
