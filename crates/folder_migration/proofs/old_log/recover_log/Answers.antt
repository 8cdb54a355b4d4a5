use Rattle.std.proofs.Common.{sym, subst}
use Rattle.torn_block.specs.Layout.{Version1}
use Rattle.paxos_block.specs.Shape.{Shape}
use Rattle.slot_log.specs.Kept.{LeadsTo}
use Rattle.slot_log.specs.Learning.{fresh, goes_on}
use Rattle.slot_log.specs.declared.operation.Operation.TheVariants.{Recovering}
use Rattle.folder_migration.proofs.old_log.recover_log.Goals as goal

pub drive-requires-clause-begun : goal.drive-requires-clause-begun
drive-requires-clause-begun g c =
    let leads = c.recover.ensures.leads c.args.config 0 fresh c.in_ok-learner.ensures in
    subst (λ (s : Shape). LeadsTo Version1 s 0 (goes_on s fresh Recovering 8) c.recover.new.self) (sym leads.shape) leads
