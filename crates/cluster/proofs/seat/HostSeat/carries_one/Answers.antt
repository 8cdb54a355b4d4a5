use Rattle.std.proofs.Common.{ap, subst, ◌∙◌}
use Rattle.cluster_tie.specs.Parts.{Own}
use Rattle.host.specs.Host.{idles}
use Rattle.cluster.specs.Operations.{CarriesOne}
use Rattle.cluster.specs.Seat.{host_in}
use Rattle.cluster.proofs.Operating.{carries_one}
use Rattle.cluster.proofs.seat.HostSeat.carries_one.Goals as goal

pub returns : goal.returns
returns g c =
    let shape = g.N.ClusterName.shape in
    let r = c.self.invariant.running in
    let busy = ap (λ (o : Own). idles (host_in shape o)) c.self.view_is ∙ c.requires in
    subst (CarriesOne shape) c.self.view_is (carries_one shape c.self.inside.tie r.memory c.self.inside.submitting r.is r.doing busy)
