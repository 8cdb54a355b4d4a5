use Rattle.world.proofs.Saying as saying
use Rattle.world.proofs.law.lines_are_said.Goals as goal

pub returns-clause-events : goal.returns-clause-events
returns-clause-events c = saying.lines_are_said

pub returns-clause-migrated : goal.returns-clause-migrated
returns-clause-migrated c = saying.lines_are_said_after
