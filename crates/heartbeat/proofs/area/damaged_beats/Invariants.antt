use Rattle.torn_block.specs.Layout.{cluster_version}
use Rattle.torn_block.proofs.DamagedRows.{Looked}
use Rattle.heartbeat.specs.Beat.{is_beat}
use Rattle.heartbeat.proofs.area.damaged_beats.Given as goal

abbrev pub invariant-loop-host : goal.invariant-loop-host
invariant-loop-host l = Looked cluster_version (λ host. is_beat) l.bytes l.damaged l.host
