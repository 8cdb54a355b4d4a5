use Rattle.std.proofs.Common.{[]}
use Rattle.simulator.proofs.Owed as owed
use Rattle.simulator.proofs.Owed.{kept_in}
use Rattle.simulator.proofs.simulated_cluster.SimulatedCluster.new.Goals as goal

pub invariant_of-result : goal.invariant_of-result
invariant_of-result c =
    record { log = []; leads = owed.opens c.args.config _ _ c.in_ok-disks.ensures c.in_ok-hosts.ensures }

pub returns-clause-leads : goal.returns-clause-leads
returns-clause-leads c =
    owed.opens c.args.config _ _ c.in_ok-disks.ensures c.in_ok-hosts.ensures
