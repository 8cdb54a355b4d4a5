use Rattle.sectors.proofs.RowLaws.{vote_read, beat_read, block_back, one_row}
use Rattle.sectors.proofs.law.rows_come_back.Goals as goal

pub returns-clause-votes : goal.returns-clause-votes
returns-clause-votes c = λ geometry device bytes slot host is below gathers. vote_read geometry is device bytes slot host below gathers

pub returns-clause-beats : goal.returns-clause-beats
returns-clause-beats c = λ geometry device bytes host is below gathers. beat_read geometry is device bytes host below gathers

pub returns-clause-written : goal.returns-clause-written
returns-clause-written c = λ geometry sectors old new block host is long below size gathers gathers_new. block_back geometry is sectors old new block host long below size gathers gathers_new

pub returns-clause-one : goal.returns-clause-one
returns-clause-one c = one_row
