use Rattle.torn_block.specs.Layout.{cluster_version}
use Rattle.torn_block.proofs.DamagedRows.{Looked}
use Rattle.paxos_block.specs.Row.{is_sound}
use Rattle.paxos_block.proofs.row.damaged_hosts.Given as goal

abbrev pub invariant-loop-host : goal.invariant-loop-host
invariant-loop-host l = Looked cluster_version (is_sound cluster_version) l.bytes l.damaged l.host
