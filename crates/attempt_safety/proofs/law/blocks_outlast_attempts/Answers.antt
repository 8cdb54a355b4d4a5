use Rattle.attempt_safety.proofs.Leaving.{blocks_stopping, blocks_starting}
use Rattle.attempt_safety.proofs.law.blocks_outlast_attempts.Goals as goal

pub returns-clause-stopping : goal.returns-clause-stopping
returns-clause-stopping c = blocks_stopping

pub returns-clause-starting : goal.returns-clause-starting
returns-clause-starting c = blocks_starting
