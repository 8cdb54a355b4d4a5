use Rattle.world_safety.proofs.Claims.Majorities.{acknowledges_by_majority, recovers_by_majority}
use Rattle.world_safety.proofs.law.majorities_answer.Goals as goal

pub returns-clause-acknowledged : goal.returns-clause-acknowledged
returns-clause-acknowledged c = acknowledges_by_majority

pub returns-clause-recovered : goal.returns-clause-recovered
returns-clause-recovered c = recovers_by_majority
