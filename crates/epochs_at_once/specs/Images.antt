-- Images as a format of a log without an end leaves them, as the disks of hosts of all epochs: what hosts use of an image is neither its header nor anything behind its second area.
use Rattle.std.specs.Prelude.{◌≡◌, ◌+◌, ◌<◌, ◌≤◌, ◌^◌, ℕ, false, List, [], ◌∷◌, length, take, slice_get, Some}
use Rattle.disk.specs.Disk.{DiskState, Call, Read}
use Rattle.torn_block.specs.declared.layout.TheConstants.{HEADER_LENGTH}
use Rattle.paxos_block.specs.Shape.{Shape}
use Rattle.lock_command.specs.declared.record.TheConstants.{LOCKS}
use Rattle.lock_table.specs.declared.clients.TheConstants.{CLIENTS}
use Rattle.standings.specs.Epochs.{whole_length}
use Rattle.at_once.specs.Images.{HoldsNothing}
use Rattle.at_once.specs.Power.{LosesPower}
use Rattle.epochs.specs.Acts.{IsModelCrash}
use Rattle.endless_image.specs.declared.kind.Kind.TheVariants.{Endless}
use Rattle.epoch_deeds.specs.Deeds.{Calls, CallsIn}
use Rattle.epoch_deeds.specs.Knowing.{image_of}
use Rattle.epoch_runs.specs.World.{Entry, Does, Crashes}
use Rattle.log_folders.specs.Beginnings.{HoldsSurely, image_for}
use Rattle.epochs_at_once.specs.AtOnce.{of_host, on_disk, deeds_since, DoesAlone, Serves, AllTakePart, IsAtOnce, IsOverLosses}
use Rattle.epochs_at_once.specs.Joined.{HasOneLog}

-- the slots of the image of one log that is as long as two areas with the rows of standings between them
abbrev pub slots_of : Shape → ℕ
slots_of c = c.slots + c.slots + 3

-- behind its header all that hosts use is zero and synced
abbrev pub IsBlank : Shape → DiskState → Type 0
IsBlank c disk = HoldsNothing (slots_of c) disk

-- a read is behind the header, and within both areas
abbrev pub ReadsBehind : Shape → Call → Type 0
ReadsBehind c (Read boot at len) = (HEADER_LENGTH ≤ at) × (at + len ≤ whole_length (image_of c))
ReadsBehind c other = Unit {0}

-- so is each that a host makes
abbrev pub AllReadBehind : Shape → List Entry → Type 0
AllReadBehind c [] = Unit {0}
AllReadBehind c (Does h (Calls k now) ∷ entries) = ReadsBehind c now.call × AllReadBehind c entries
AllReadBehind c (Does h (CallsIn e k now call heard) ∷ entries) = ReadsBehind c now.call × AllReadBehind c entries
AllReadBehind c (other ∷ entries) = AllReadBehind c entries

-- In this order, each host did by itself what it may, with reads behind headers alone, and each image by itself served what was done to it. At first all images were blank.
pub record IsAtOnceOn (c : Shape) (images : ℕ → DiskState) (entries : List Entry) : Type 0 where
  pub hosts : (h : ℕ) → DoesAlone c h [] (of_host h entries)
  pub reads : AllReadBehind c entries
  pub blank : (k : ℕ) → IsBlank c (images k)
  pub disks : (k : ℕ) → Serves IsModelCrash c k (images k) (on_disk k entries)
  pub taking : AllTakePart c entries

-- So it is where images lose power, which finds every host stopped.
pub record IsOverLossesOn (c : Shape) (images : ℕ → DiskState) (entries : List Entry) : Type 0 where
  pub hosts : (h : ℕ) → DoesAlone c h [] (of_host h entries)
  pub reads : AllReadBehind c entries
  pub blank : (k : ℕ) → IsBlank c (images k)
  pub disks : (k : ℕ) → Serves LosesPower c k (images k) (on_disk k entries)
  pub taking : AllTakePart c entries
  pub dark : (i k h : ℕ) → slice_get entries i ≡ Some (Crashes k) → deeds_since (of_host h (take i entries)) ≡ []

-- What is done to images so is done at once to disks of zeros: to what hosts use of the images.
abbrev pub ImagesAreAtOnce : Type 0
ImagesAreAtOnce = (c : Shape) (images : ℕ → DiskState) (entries : List Entry) → IsAtOnceOn c images entries → IsAtOnce c entries

abbrev pub ImagesAreOverLosses : Type 0
ImagesAreOverLosses = (c : Shape) (images : ℕ → DiskState) (entries : List Entry) → IsOverLossesOn c images entries → IsOverLosses c entries

-- So all that hosts tell over such images goes by one log,
abbrev pub ImagesHaveOneLog : Type 0
ImagesHaveOneLog = (c : Shape) (images : ℕ → DiskState) (entries : List Entry) → LOCKS + CLIENTS ≤ c.slots → IsAtOnceOn c images entries → HasOneLog c entries

-- over losses of power, too.
abbrev pub ImagesHaveOneLogOverLosses : Type 0
ImagesHaveOneLogOverLosses =
    (c : Shape) (images : ℕ → DiskState) (entries : List Entry) → LOCKS + CLIENTS ≤ c.slots → IsOverLossesOn c images entries → length entries < 2 ^ 62 → HasOneLog c entries

-- An image that was laid out is blank.
abbrev pub LaidOutIsBlank : Type 0
LaidOutIsBlank = (c : Shape) (cluster disk : ℕ) (image : DiskState) → HoldsSurely (image_for (record { kind = Endless; config = c; cluster = cluster }) disk) image → image.boot ≡ 1 → image.gone ≡ false → IsBlank c image
