use Rattle.race.proofs.Following.{first_bid, third_bid}
use Rattle.race.proofs.laws.bids_are_spelled.Goals as goal

pub returns-clause-first : goal.returns-clause-first
returns-clause-first c = first_bid

pub returns-clause-third : goal.returns-clause-third
returns-clause-third c = third_bid
