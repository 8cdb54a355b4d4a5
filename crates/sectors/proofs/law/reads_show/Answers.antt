use Rattle.sectors.proofs.RowLaws.{vote_row, beat_row}
use Rattle.sectors.proofs.law.reads_show.Goals as goal

pub returns-clause-votes : goal.returns-clause-votes
returns-clause-votes c = λ geometry device image bytes slot is among as_long shows gathers. vote_row geometry is device image bytes as_long shows slot among gathers

pub returns-clause-beats : goal.returns-clause-beats
returns-clause-beats c = λ geometry device image bytes is as_long shows gathers. beat_row geometry is device image bytes as_long shows gathers
