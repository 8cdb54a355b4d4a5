-- A disk's book as contracts see it.
use Rattle.std.specs.Prelude.{◌≡◌, ◌<◌, ◌≤◌, ℕ, IsTrue, List, Option, Some, None}
use Rattle.disk.specs.Disk.{DiskState, Device, Answer, Call, Step}
use Rattle.disk.specs.Disk as device
use Rattle.disk.specs.Cut.{cut}
use Rattle.disk.specs.Steps.{WritesOn}
use Rattle.torn_block.specs.Layout.{cluster_version}
use Rattle.paxos_block.specs.Places.{image_length}
use Rattle.paxos_block.specs.Shape.{Shape}
use Rattle.world.specs.Entry.{disk_after}
use Rattle.world.specs.World.{opening_disk}
use Rattle.cluster_tie.specs.Parts.{Own, entries}
use Rattle.cluster.specs.Seat.{due_in, IsDueOn}
use Rattle.cluster.specs.declared.touched.CallOutcome.{CallOutcome}
use Rattle.cluster.specs.declared.touched.CallOutcome.TheVariants.{Booted, Done, Told, Fault}

-- an image on a disk, which may be larger
abbrev pub image_on : Shape → DiskState → DiskState
image_on c disk = cut (image_length cluster_version c.slots) disk

-- the disk's number and its entries, the disk as its own kind tells it and as every disk does, the image on it, the call that is open, and the row that was read last
pub record BookState (D : Type 0) : Type 0 where
  pub own : Own
  pub medium : D
  pub device : Device
  pub disk : DiskState
  pub open_call : Option CallOutcome
  pub row : List ℕ

-- what the disk's entries make of an opening one
abbrev pub disk_in : Shape → Own → DiskState
disk_in c own = disk_after (opening_disk c) (entries own.entries)

abbrev pub answer_in : CallOutcome → List ℕ → Answer
answer_in (Booted boot) row = device.Booted boot.number
answer_in Done row = device.Done
answer_in Told row = device.Told row
answer_in (Fault fault) row = device.Fault fault

-- with this answer, some call takes the one disk into the other
pub record Follows (answer : Answer) (old new : DiskState) : Type 0 where
  pub call : Call
  pub fits : WritesOn old call
  pub step : Step old call answer new

-- the disk is as its entries leave it, or the open call followed
abbrev pub IsFollowedBy : Option CallOutcome → List ℕ → DiskState → DiskState → Type 0
IsFollowedBy None row left disk = disk ≡ left
IsFollowedBy (Some outcome) row left disk = Follows (answer_in outcome row) left disk

pub record IsBook {D : Type 0} (c : Shape) (b : BookState D) : Type 0 where
  pub number : b.own.number < c.disks
  pub tells : IsTrue b.device.tells
  pub size : image_length cluster_version c.slots ≤ b.device.size
  pub disk : IsFollowedBy b.open_call b.row (disk_in c b.own) b.disk

-- with this answer, the seat's next call, which is on disk k, takes the one disk into the other
pub record Makes (c : Shape) (seat : Own) (k : ℕ) (answer : Answer) (old new : DiskState) : Type 0 where
  pub due : IsDueOn c seat k
  pub fits : WritesOn old (due_in c seat).1
  pub step : Step old (due_in c seat).1 answer new
