use Rattle.world.proofs.Accounting.{accounts_for, gives_up}
use Rattle.world.proofs.law.hosts_account_for_themselves.Goals as goal

pub returns-clause-account : goal.returns-clause-account
returns-clause-account c = accounts_for

pub returns-clause-outrun : goal.returns-clause-outrun
returns-clause-outrun c = gives_up
