use Rattle.std.proofs.Common.{arith}
use Rattle.host.proofs.host_core.HostCore.suggested.Goals as goal

pub shared_ref_as_front-suggest : goal.shared_ref_as_front-suggest
shared_ref_as_front-suggest c = (let few = c.self.invariant.few in omega arith)
