-- The tool may replace a disk, so what is said of that is not said of nothing.
use Rattle.std.specs.Prelude.{◌≡◌, ℕ}
use Rattle.disk.specs.Disk.{DiskState}
use Rattle.paxos_block.specs.Shape.{Shape}
use Rattle.epoch_runs.specs.World.{opening}
use Rattle.in_place.specs.declared.replace_image.NewImage.{NewImage}
use Rattle.replacing.specs.ByTool.{IsReplacedByTool}

abbrev pub two_disks : ℕ → Shape
two_disks slots = record { disks = 2; slots = slots }

-- At first the second of two disks is replaced, and takes part from epoch 2 on.
pub record IsReplacedAtFirst (slots : ℕ) : Type 0 where
  pub image : NewImage
  pub new : DiskState
  pub did : IsReplacedByTool (two_disks slots) (opening (two_disks slots)) 1 image new
  pub first : image.header.first_epoch ≡ 2

abbrev pub MayBeReplacedAtFirst : Type 0
MayBeReplacedAtFirst = (slots : ℕ) → IsReplacedAtFirst slots
