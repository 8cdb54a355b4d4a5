-- An attempt on disks of the cluster's layout.
use Rattle.std.specs.Prelude.{◌≡◌, ◌<◌}
use Rattle.torn_block.specs.Layout.{cluster_version, hosts_in}
use Rattle.attempt.specs.Setup.{Setup}

-- it is of a host there
pub record IsOfCluster (s : Setup) : Type 0 where
  pub version : s.version ≡ cluster_version
  pub is_host : s.host < hosts_in s.version
