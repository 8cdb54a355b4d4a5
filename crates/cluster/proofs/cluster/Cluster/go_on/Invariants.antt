use Rattle.cluster.specs.Cluster.{GoesOn}
use Rattle.cluster.proofs.cluster.Cluster.go_on.Given as goal

abbrev pub invariant-loop-turn : goal.invariant-loop-turn
invariant-loop-turn g l = GoesOn g.N.ClusterName.shape l.initial.seat l.seat
