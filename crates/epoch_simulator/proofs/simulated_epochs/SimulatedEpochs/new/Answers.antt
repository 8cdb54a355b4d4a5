use Rattle.std.proofs.Common.{[]}
use Rattle.epoch_simulator.proofs.Owed as owed
use Rattle.epoch_simulator.proofs.simulated_epochs.SimulatedEpochs.new.Goals as goal

pub invariant_of-result : goal.invariant_of-result
invariant_of-result c = record { entries = []; leads = owed.opens c.args.config _ _ c.in_ok-disks.ensures c.in_ok-hosts.ensures }

pub returns-clause-leads : goal.returns-clause-leads
returns-clause-leads c = owed.opens c.args.config _ _ c.in_ok-disks.ensures c.in_ok-hosts.ensures
