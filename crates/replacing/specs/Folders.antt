-- Images that have headers, of which disks are replaced by the tool alone: what hosts of all epochs do over them, and that what they tell goes by one log.
use Rattle.std.specs.Prelude.{◌+◌, ◌≤◌, ◌<◌, ◌^◌, ℕ, false, List, [], ◌∷◌, ◌++◌, length}
use Rattle.disk.specs.Disk.{DiskState}
use Rattle.lock_command.specs.declared.record.TheConstants.{LOCKS}
use Rattle.lock_table.specs.declared.clients.TheConstants.{CLIENTS}
use Rattle.paxos_block.specs.Shape.{Shape}
use Rattle.at_once.specs.Images.{used}
use Rattle.epoch_runs.specs.World.{Entry, World, no_deeds, with_disk, with_first, after, Crashing, model_crashes, power_losses, MayFollow}
use Rattle.epochs_at_once.specs.Images.{slots_of, IsBlank, AllReadBehind}
use Rattle.epochs_at_once.specs.Joined.{HasOneLog}
use Rattle.in_place.specs.declared.replace_epoch.EpochsTold.{EpochsTold}
use Rattle.in_place.specs.declared.replace_image.NewImage.{NewImage}
use Rattle.replacing.specs.ByTool.{IsReplacedByTool, IsReadFrom, entries_of}
use Rattle.replacing.specs.Laws.{IsOther}

-- at first, over these images
abbrev pub opening_on : (ℕ → DiskState) → World
opening_on images = record { disk = images; deeds = no_deeds; first = λ k. 0; called = λ k e. false }

-- what hosts use of the images
abbrev pub used_world : Shape → World → World
used_world c v = record { disk = λ k. used (slots_of c) (v.disk k); deeds = v.deeds; first = v.first; called = v.called }

-- the new image in its place, and nobody works
abbrev pub put_world : World → (lost first : ℕ) → DiskState → World
put_world v lost first new = record { disk = with_disk v.disk lost new; deeds = no_deeds; first = with_first v.first lost first; called = v.called }

-- From blank images hosts come there by entries of which each may follow, with reads behind headers alone, and in which images are replaced by the tool alone.
pub data ComesOn (crashing : Crashing) (c : Shape) (images : ℕ → DiskState) : List Entry → World → Type 0 where
  opens : ((k : ℕ) → IsBlank c (images k)) → ComesOn crashing c images [] (opening_on images)
  goes : (entries : List Entry) (v : World) → ComesOn crashing c images entries v → (entry : Entry) (left : DiskState) → IsOther entry → AllReadBehind c (entry ∷ []) → MayFollow crashing c v entry left →
      ComesOn crashing c images (entries ++ entry ∷ []) (after v entry left)
  puts : (entries : List Entry) (v : World) → ComesOn crashing c images entries v → (lost : ℕ) (image : NewImage) (new : DiskState) (did : IsReplacedByTool c (used_world c v) lost image new) (read : ℕ) (best : EpochsTold) → IsReadFrom did read best →
      ComesOn crashing c images (entries ++ entries_of c 0 read (v.disk read).boot best.rows lost image.header.first_epoch best.newest) (put_world v lost image.header.first_epoch new)

-- All that hosts tell by that goes by one log.
abbrev pub FoldersHaveOneLog : Type 0
FoldersHaveOneLog = (c : Shape) (images : ℕ → DiskState) (entries : List Entry) (v : World) → LOCKS + CLIENTS ≤ c.slots → ComesOn model_crashes c images entries v → HasOneLog c entries

-- So it is over losses of power, if not too much is done.
abbrev pub FoldersHaveOneLogOverLosses : Type 0
FoldersHaveOneLogOverLosses =
    (c : Shape) (images : ℕ → DiskState) (entries : List Entry) (v : World) → LOCKS + CLIENTS ≤ c.slots → ComesOn power_losses c images entries v → length entries < 2 ^ 62 → HasOneLog c entries
