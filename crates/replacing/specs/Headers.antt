-- The header of each image of a folder says from which epoch on it takes part, whatever hosts and the tool did.
use Rattle.std.specs.Prelude.{◌≡◌, ◌≤◌, ◌<◌, ◌^◌, ℕ, false, List, replicate, take}
use Rattle.disk.specs.Disk.{DiskState, Read, Told, Step}
use Rattle.torn_block.specs.declared.layout.TheConstants.{DISKS, HEADER_LENGTH}
use Rattle.paxos_block.specs.Shape.{Shape}
use Rattle.standings.specs.declared.epoch.TheConstants.{LAST_EPOCH}
use Rattle.endless_image.specs.Headers.{IsRight, header_saying}
use Rattle.endless_image.specs.Sizes.{IsSlotCount, size_of}
use Rattle.endless_image.specs.declared.header.EndlessHeader.{EndlessHeader}
use Rattle.epoch_runs.specs.World.{Entry, World, Crashing}
use Rattle.in_place.specs.Replacing.{new_header}
use Rattle.replacing.specs.Folders.{ComesOn, opens, goes, puts}

-- The image begins with this header, and all of that is synced.
pub record HasHeader (header : EndlessHeader) (image : DiskState) : Type 0 where
  pub bytes : take HEADER_LENGTH image.bytes ≡ header_saying header
  pub synced : take HEADER_LENGTH image.unsynced ≡ replicate HEADER_LENGTH false

-- each image of a set says its number, and its first epoch
abbrev pub AllSay : Shape → (cluster : ℕ) → World → Type 0
AllSay c cluster v = (k : ℕ) → k < c.disks → HasHeader (new_header k c cluster (v.first k)) (v.disk k)

-- each image that the tool put is of this set
abbrev pub AreOfSet : {crashing : Crashing} {c : Shape} {images : ℕ → DiskState} {entries : List Entry} {v : World} → (cluster : ℕ) → ComesOn crashing c images entries v → Type 0
AreOfSet cluster (opens blank) = Unit {0}
AreOfSet cluster (goes entries v on entry left other reads may) = AreOfSet cluster on
AreOfSet cluster (puts entries v on lost image new did read best from) = (did.cluster ≡ cluster) × AreOfSet cluster on

-- If the images said so at first, they do.
abbrev pub HeadersSay : Crashing → Type 0
HeadersSay crashing =
    (c : Shape) (images : ℕ → DiskState) (cluster : ℕ) (entries : List Entry) (v : World) → (on : ComesOn crashing c images entries v) → AreOfSet cluster on →
    ((k : ℕ) → k < c.disks → HasHeader (new_header k c cluster 0) (images k)) → AllSay c cluster v

-- Where they do, whoever reads a right header of an image is told from which epoch on it takes part.
abbrev pub HeadersTell : Type 0
HeadersTell =
    (c : Shape) (cluster : ℕ) (v : World) (k boot : ℕ) (bytes : List ℕ) (left : DiskState) (header : EndlessHeader) → AllSay c cluster v → k < c.disks → c.disks ≤ DISKS → IsSlotCount c.slots → cluster < 2 ^ 64 → v.first k ≤ LAST_EPOCH →
    Step (v.disk k) (Read boot 0 HEADER_LENGTH) (Told bytes) left → IsRight k (size_of c.slots) bytes header → header.first_epoch ≡ v.first k
