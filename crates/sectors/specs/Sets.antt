-- Devices of one set.
use Rattle.std.specs.Prelude.{◌≡◌}
use Rattle.sectors.specs.declared.header.DeviceHeader.{DeviceHeader}

-- What is the same of all devices of a set. Their sectors may have different sizes, and writes may be made in either way.
pub record IsSameSet (one other : DeviceHeader) : Type 0 where
  pub cluster : one.cluster ≡ other.cluster
  pub disks : one.disks ≡ other.disks
  pub kind : one.geometry.kind ≡ other.geometry.kind
  pub slots : one.geometry.slots ≡ other.geometry.slots
  pub hosts : one.geometry.hosts ≡ other.geometry.hosts
