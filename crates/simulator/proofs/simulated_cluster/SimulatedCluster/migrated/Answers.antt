use Rattle.simulator.proofs.Moved.{opens_with}
use Rattle.simulator.proofs.simulated_cluster.SimulatedCluster.migrated.Goals as goal

pub invariant_of-result : goal.invariant_of-result
invariant_of-result c =
    record { log = _; leads = opens_with c.args.config c.args.log.now _ _ c.in_ok-disks.ensures.can c.in_ok-disks.ensures.disks c.in_ok-hosts.ensures }

pub returns-clause-leads : goal.returns-clause-leads
returns-clause-leads c =
    opens_with c.args.config c.args.log.now _ _ c.in_ok-disks.ensures.can c.in_ok-disks.ensures.disks c.in_ok-hosts.ensures
