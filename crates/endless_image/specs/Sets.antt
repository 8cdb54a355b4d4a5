-- Images of one set.
use Rattle.std.specs.Prelude.{◌≡◌}
use Rattle.endless_image.specs.declared.header.EndlessHeader.{EndlessHeader}

-- What is the same of all images of a set. Each may take part from an epoch of its own.
pub record IsSameSet (one other : EndlessHeader) : Type 0 where
  pub cluster : one.cluster ≡ other.cluster
  pub disks : one.disks ≡ other.disks
  pub slots : one.slots ≡ other.slots
