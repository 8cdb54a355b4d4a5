-- Hosts over the same images, where syncs come late: several are under way together, or one was given up and comes all the same.
use Rattle.std.specs.Prelude.{◌≡◌, ◌<◌, ◌^◌, ℕ, List, [], length, take, slice_get, Some}
use Rattle.disk.specs.Disk.{DiskState}
use Rattle.disk.specs.Crash.{IsWhole}
use Rattle.paxos_block.specs.Shape.{Shape}
use Rattle.host.specs.Host.{Stopped}
use Rattle.world.specs.Entry.{Filled, Called, Crashed, on_disk, of_host, host_after}
use Rattle.world.specs.World.{world}
use Rattle.at_once.specs.AtOnce.{Does, AreDeeds}
use Rattle.at_once.specs.Images.{used}
use Rattle.at_once.specs.Power.{GoesOn, ServesOn, IsOverLossesFrom}
use Rattle.sector_runs.specs.OneLog.{HasOneLog}
use Rattle.late_syncs.specs.Late.{LateDisk, OwesNothing, AnswersLate, ServesLate}

-- Disk k may go from old to new by this. No power is lost while a sync that is answered well is owed: its host lives until it hears the answer.
abbrev pub GoesLate : Shape → ℕ → LateDisk → Filled → LateDisk → Type 0
GoesLate c k old (Called h d call answer left) new = AnswersLate old call answer new
GoesLate c k old (Crashed d left) new = OwesNothing old × GoesOn c k old.disk (Crashed d left) new.disk × (new.owes ≡ old.owes)
GoesLate c k old other new = GoesOn c k old.disk other new.disk × (new.owes ≡ old.owes)

-- An image that served calls so, late syncs and all, has served them as one whose syncs take effect where they were asked for.
abbrev pub LateSyncsServe : Type 0
LateSyncsServe =
    (c : Shape) (k : ℕ) (image : DiskState) (calls : List Filled) → IsWhole image → ServesLate (GoesLate c k) image calls → ServesOn c k image calls

-- None of those is left out.
abbrev pub SyncsMayBeLate : Type 0
SyncsMayBeLate = (c : Shape) (k : ℕ) (image : DiskState) (calls : List Filled) → ServesOn c k image calls → ServesLate (GoesLate c k) image calls

-- In this order, in which a sync stands where it was asked for, each host did by itself what it may, and each image by itself served late what was done to it.
-- Otherwise as in `IsOverLossesFrom`.
pub record IsOverLateSyncsFrom (c : Shape) (begun : List Filled) (images : ℕ → DiskState) (log : List Filled) : Type 0 where
  pub hosts : (h : ℕ) → Does c h Stopped (of_host h log)
  pub deeds : AreDeeds log
  pub held : (k : ℕ) → used c.slots (images k) ≡ (world c begun).disk k
  pub whole : (k : ℕ) → IsWhole (images k)
  pub disks : (k : ℕ) → ServesLate (GoesLate c k) (images k) (on_disk k log)
  pub dark : (i k h : ℕ) (left : List ℕ) → slice_get log i ≡ Some (Crashed k left) → host_after c h Stopped (of_host h (take i log)) ≡ Stopped
  pub few : length log < 2 ^ 62

-- At first no image held a block.
abbrev pub IsOverLateSyncs : Shape → (ℕ → DiskState) → List Filled → Type 0
IsOverLateSyncs c images log = IsOverLateSyncsFrom c [] images log

-- So all that holds over losses of power holds over late syncs.
abbrev pub LateSyncsAreLosses : Type 0
LateSyncsAreLosses =
    (c : Shape) (begun : List Filled) (images : ℕ → DiskState) (log : List Filled) → IsOverLateSyncsFrom c begun images log → IsOverLossesFrom c begun images log

-- What hosts do is a run with one log, by which all goes that they acknowledge and recover.
abbrev pub LateSyncsHaveOneLog : Type 0
LateSyncsHaveOneLog = (c : Shape) (images : ℕ → DiskState) (log : List Filled) → IsOverLateSyncs c images log → HasOneLog c log
