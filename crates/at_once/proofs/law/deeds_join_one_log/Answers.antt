use Rattle.at_once.proofs.Joined.{deeds_are_joined}
use Rattle.at_once.proofs.law.deeds_join_one_log.Goals as goal

pub returns : goal.returns
returns c = deeds_are_joined
