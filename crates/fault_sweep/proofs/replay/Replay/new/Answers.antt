use Rattle.std.proofs.Common.{sym}
use Rattle.fault_sweep.proofs.Replaying.{begins_so}
use Rattle.fault_sweep.proofs.replay.Replay.new.Goals as goal

pub invariant_of-result : goal.invariant_of-result
invariant_of-result c =
    let e = c.in_ok-cluster.ensures in
    (sym e.shape, begins_so (record { shape = c.args.config; moved = c.args.log.now }) _ _ e.can e.shape e.leads c.new-answers.ensures.items)
