use Rattle.world.proofs.Reaching.{events_reach_each, events_reach_all}
use Rattle.world.proofs.law.events_reach_all.Goals as goal

pub returns-clause-each : goal.returns-clause-each
returns-clause-each c = events_reach_each

pub returns-clause-all : goal.returns-clause-all
returns-clause-all c = events_reach_all
