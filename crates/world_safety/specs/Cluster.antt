-- An attempt on disks of the cluster's layout.
use Rattle.torn_block.specs.Layout.{cluster_version}
use Rattle.attempt.specs.Setup.{Setup}

-- the same attempt there
abbrev pub at_cluster : Setup → Setup
at_cluster s = record s { version = cluster_version }
