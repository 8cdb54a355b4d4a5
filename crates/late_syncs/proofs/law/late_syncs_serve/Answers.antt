use Rattle.late_syncs.proofs.Files.{late_syncs_serve, syncs_may_be_late}
use Rattle.late_syncs.proofs.law.late_syncs_serve.Goals as goal

pub returns : goal.returns
returns c = record { serves = late_syncs_serve; all = syncs_may_be_late }
