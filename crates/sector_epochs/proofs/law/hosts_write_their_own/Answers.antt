use Rattle.sector_epochs.proofs.Owning.{hosts_write_their_own}
use Rattle.sector_epochs.proofs.law.hosts_write_their_own.Goals as goal

pub returns : goal.returns
returns c = hosts_write_their_own
