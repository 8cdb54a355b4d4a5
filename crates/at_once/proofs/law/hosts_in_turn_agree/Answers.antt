use Rattle.at_once.proofs.InTurn.{turns_agree}
use Rattle.at_once.proofs.law.hosts_in_turn_agree.Goals as goal

pub returns : goal.returns
returns c = turns_agree
