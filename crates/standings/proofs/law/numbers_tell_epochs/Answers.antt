use Rattle.standings.proofs.EpochLaws.{belongs, is_found, are_rising}
use Rattle.standings.proofs.law.numbers_tell_epochs.Goals as goal

pub returns-clause-belongs : goal.returns-clause-belongs
returns-clause-belongs c = belongs

pub returns-clause-found : goal.returns-clause-found
returns-clause-found c = is_found

pub returns-clause-rise : goal.returns-clause-rise
returns-clause-rise c = are_rising
