use Rattle.paxos_block.proofs.WriteLemmas.{sound_while_due, sound_when_failed, sound_when_done}
use Rattle.paxos_block.proofs.law.writes_stay_sound.Goals as goal

pub returns-clause-due : goal.returns-clause-due
returns-clause-due c = λ host w says disk call placed is due. sound_while_due host w says disk placed is call due

pub returns-clause-failed : goal.returns-clause-failed
returns-clause-failed c =
    λ host w says disk new call boot placed is due left. sound_when_failed host w says disk placed is call boot new due left

pub returns-clause-done : goal.returns-clause-done
returns-clause-done c = λ host w says disk placed is done. sound_when_done host w says disk placed is done
