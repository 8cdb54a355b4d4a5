use Rattle.std.specs.Prelude.{replicate, take}
use Rattle.std.proofs.Common.{◌≡◌, None}
use Rattle.simulator.proofs.simulated_cluster.stop_all.Given as goal

abbrev pub invariant-loop-host : goal.invariant-loop-host
invariant-loop-host l = take l.host-index l.hosts ≡ replicate l.host-index None
