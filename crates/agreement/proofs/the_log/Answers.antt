use Rattle.agreement.proofs.Logging.{log_reached, log_grows, learns_log}
use Rattle.agreement.proofs.the_log.Goals as goal

pub returns-clause-exists : goal.returns-clause-exists
returns-clause-exists g c = log_reached

pub returns-clause-grows : goal.returns-clause-grows
returns-clause-grows g c = log_grows

pub returns-clause-learned : goal.returns-clause-learned
returns-clause-learned g c = learns_log
