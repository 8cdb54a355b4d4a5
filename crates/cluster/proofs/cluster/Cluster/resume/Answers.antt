use Rattle.cluster.proofs.Operating.{goes_on_so}
use Rattle.cluster.proofs.cluster.Cluster.resume.Goals as goal

pub go_on-requires : goal.go_on-requires
go_on-requires g c = c.carries_one.ensures

pub outcome-requires-clause-carried : goal.outcome-requires-clause-carried
outcome-requires-clause-carried g c =
    let it = c.carries_one.ensures in
    (it.0, goes_on_so g.N.ClusterName.shape it.0 c.args.seat.now c.go_on.new.seat it.1 c.in_ok-go_on.ensures.steps)
