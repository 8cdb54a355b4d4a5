use Rattle.std.proofs.Common.{ap, arith}
use Rattle.paxos_block.specs.Shape.{Shape}
use Rattle.host.specs.Kept.{Kept}
use Rattle.host.proofs.host_core.HostCore.look.Goals as goal

pub look_on-requires-clause-first : goal.look_on-requires-clause-first
look_on-requires-clause-first c =
    let same = ap (λ (v : Kept). v.learner.shape.disks) c.self.view_is in
    let config = ap (λ (s : Shape). s.disks) c.self.invariant.config in
    let some = c.disks-disks.ensures in
    omega arith
