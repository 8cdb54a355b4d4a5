-- Hosts of all epochs over the same images, where syncs come late.
use Rattle.std.specs.Prelude.{◌≡◌, ◌+◌, ◌≤◌, ◌<◌, ◌^◌, ℕ, List, [], length, take, slice_get, Some}
use Rattle.disk.specs.Disk.{DiskState}
use Rattle.disk.specs.Crash.{IsWhole}
use Rattle.paxos_block.specs.Shape.{Shape}
use Rattle.lock_command.specs.declared.record.TheConstants.{LOCKS}
use Rattle.lock_table.specs.declared.clients.TheConstants.{CLIENTS}
use Rattle.at_once.specs.Power.{LosesPower}
use Rattle.epoch_deeds.specs.Deeds.{Calls, CallsIn}
use Rattle.epoch_runs.specs.World.{Entry, Does, Crashes, Replaces}
use Rattle.epochs_at_once.specs.AtOnce.{of_host, on_disk, deeds_since, DoesAlone, GoesTo, AllTakePart}
use Rattle.epochs_at_once.specs.Images.{IsBlank, AllReadBehind, IsOverLossesOn}
use Rattle.epochs_at_once.specs.Joined.{HasOneLog}
use Rattle.late_syncs.specs.Late.{LateDisk, OwesNothing, AnswersLate, ServesLate}

-- disk k may go from old to new by this; one that is put in its place owes nothing
abbrev pub GoesLate : Shape → ℕ → LateDisk → Entry → LateDisk → Type 0
GoesLate c k old (Does h (Calls d now)) new = AnswersLate old now.call now.answer new
GoesLate c k old (Does h (CallsIn epoch d now call heard)) new = AnswersLate old now.call now.answer new
GoesLate c k old (Crashes d) new = OwesNothing old × GoesTo LosesPower c k old.disk (Crashes d) new.disk × (new.owes ≡ old.owes)
GoesLate c k old (Replaces d first newest) new = GoesTo LosesPower c k old.disk (Replaces d first newest) new.disk × OwesNothing new
GoesLate c k old other new = GoesTo LosesPower c k old.disk other new.disk × (new.owes ≡ old.owes)

-- In this order, in which a sync stands where it was asked for, each host did by itself what it may, and each image by itself served late what was done to it.
-- Otherwise as in `IsOverLossesOn`.
pub record IsOverLateSyncsOn (c : Shape) (images : ℕ → DiskState) (entries : List Entry) : Type 0 where
  pub hosts : (h : ℕ) → DoesAlone c h [] (of_host h entries)
  pub reads : AllReadBehind c entries
  pub blank : (k : ℕ) → IsBlank c (images k)
  pub whole : (k : ℕ) → IsWhole (images k)
  pub disks : (k : ℕ) → ServesLate (GoesLate c k) (images k) (on_disk k entries)
  pub taking : AllTakePart c entries
  pub dark : (i k h : ℕ) → slice_get entries i ≡ Some (Crashes k) → deeds_since (of_host h (take i entries)) ≡ []

-- So all that holds over losses of power holds over late syncs,
abbrev pub LateSyncsAreLossesOn : Type 0
LateSyncsAreLossesOn = (c : Shape) (images : ℕ → DiskState) (entries : List Entry) → IsOverLateSyncsOn c images entries → IsOverLossesOn c images entries

-- and all that hosts tell goes by one log.
abbrev pub LateSyncsHaveOneLogOn : Type 0
LateSyncsHaveOneLogOn =
    (c : Shape) (images : ℕ → DiskState) (entries : List Entry) → LOCKS + CLIENTS ≤ c.slots → IsOverLateSyncsOn c images entries → length entries < 2 ^ 62 → HasOneLog c entries
