use Rattle.std.proofs.Common.{sym, ◌∙◌}
use Rattle.fault_sweep.proofs.Replaying.{begins_so}
use Rattle.fault_sweep.proofs.replay.Replay.restart.Goals as goal

pub invariant_of-self-2 : goal.invariant_of-self-2
invariant_of-self-2 c =
    let e = c.in_ok-restart.ensures in
    (c.self.invariant.0 ∙ sym e.shape, begins_so (record { shape = c.self.inside.cluster.shape; moved = c.args.log.now }) _ _ e.can e.shape e.leads c.clear.ensures.items)
