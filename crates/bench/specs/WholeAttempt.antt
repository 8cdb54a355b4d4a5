-- When an attempt is made on the images of the benchmark.
use Rattle.std.specs.Prelude.{◌≡◌, ◌<◌}
use Rattle.torn_block.specs.declared.layout.TheConstants.{DISKS, SLOTS}
use Rattle.phases.specs.Notes.{Notes}

-- it is over all seven of them, on a slot that they have a row for
pub record IsOnImages (n : Notes) : Type 0 where
  pub disks : n.of.disks ≡ DISKS
  pub slot : n.of.slot < SLOTS
