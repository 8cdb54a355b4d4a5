use Rattle.torn_block.specs.Place.{block_in}
use Rattle.torn_block.specs.Block.{value_of}
use Rattle.torn_block.specs.Register.{at_rest}
use Rattle.torn_block.proofs.RegisterLaws.{settles, stands_elsewhere, rests_elsewhere, rests_crashed, stands_at_rest, reads_crashed, after_sync, known_synced, fresh_rests}
use Rattle.torn_block.proofs.StageLaws.{read_settles}
use Rattle.torn_block.proofs.law.registers.Goals as goal

pub returns-clause-reads : goal.returns-clause-reads
returns-clause-reads c = λ v place r disk bytes read stands left is. (stands bytes left, is.number)

pub returns-clause-elsewhere : goal.returns-clause-elsewhere
returns-clause-elsewhere c =
    λ v place r disk new call answer whole lies fits leaves step stands. stands_elsewhere v place disk whole lies call answer new fits leaves step r stands

pub returns-clause-crash : goal.returns-clause-crash
returns-clause-crash c =
    λ v place r disk new stands crash.
    let rests = rests_crashed v place disk new crash in
    let value = value_of v (block_in v place new.bytes) in
    (at_rest value, settles r value (reads_crashed v place r disk new stands crash), stands_at_rest v place new rests, rests)

pub returns-clause-sync : goal.returns-clause-sync
returns-clause-sync c = λ v place r disk new boot stands step. after_sync v place r disk new boot stands step

pub returns-clause-rests : goal.returns-clause-rests
returns-clause-rests c =
    λ v place disk new call answer whole lies fits leaves step rests. rests_elsewhere v place disk whole lies call answer new fits leaves step rests

pub returns-clause-settled : goal.returns-clause-settled
returns-clause-settled c = read_settles

pub returns-clause-fresh : goal.returns-clause-fresh
returns-clause-fresh c = fresh_rests

pub returns-clause-opened : goal.returns-clause-opened
returns-clause-opened c = known_synced
