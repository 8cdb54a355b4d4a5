use Rattle.paxos_block.proofs.RowLemmas.{damaged_row, unsaid_row, sound_row, said_sees, said_is_said}
use Rattle.paxos_block.proofs.law.rows_say.Goals as goal

pub returns-clause-damaged : goal.returns-clause-damaged
returns-clause-damaged c = λ v row long fits. (unsaid_row v row long, damaged_row v row long fits)

pub returns-clause-sound : goal.returns-clause-sound
returns-clause-sound c = sound_row

pub returns-clause-seen : goal.returns-clause-seen
returns-clause-seen c = said_sees

pub returns-clause-said : goal.returns-clause-said
returns-clause-said c = said_is_said
