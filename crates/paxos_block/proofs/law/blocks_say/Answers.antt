use Rattle.paxos_block.proofs.SayingLemmas.{claims_back}
use Rattle.paxos_block.proofs.RowLemmas.{sound_says}
use Rattle.torn_block.proofs.DamageLaws.{sound_is_not_damaged}
use Rattle.paxos_block.proofs.law.blocks_say.Goals as goal

pub returns-clause-written : goal.returns-clause-written
returns-clause-written c = λ v host sequence says may. claims_back v says host may

pub returns-clause-sound : goal.returns-clause-sound
returns-clause-sound c = λ v host block long sound. sound_says v host block long sound

pub returns-clause-not_both : goal.returns-clause-not_both
returns-clause-not_both c = λ v host block sound damaged. sound_is_not_damaged block sound damaged
