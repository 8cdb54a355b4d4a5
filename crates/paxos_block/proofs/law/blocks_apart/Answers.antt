use Rattle.paxos_block.proofs.PlaceLemmas as lemmas
use Rattle.paxos_block.proofs.law.blocks_apart.Goals as goal

pub returns-clause-others : goal.returns-clause-others
returns-clause-others c =
    λ v slots mine other disk new call answer r is_mine is_other differ image within step holds.
    lemmas.others_hold v slots mine is_mine disk image other is_other differ call answer new r within step holds

pub returns-clause-outcomes : goal.returns-clause-outcomes
returns-clause-outcomes c =
    λ v slots mine other disk new call answer bytes is_mine is_other differ image within step left.
    lemmas.others_outcomes v slots mine is_mine disk image other is_other differ call answer new within step bytes left

pub returns-clause-image : goal.returns-clause-image
returns-clause-image c =
    λ v slots mine disk new call answer is_mine image within step.
    lemmas.stays_image v slots mine is_mine disk image call answer new within step

pub returns-clause-shown : goal.returns-clause-shown
returns-clause-shown c = λ v spelled disk slot host r row below holds is. lemmas.shown v spelled disk slot host r row below holds is

pub returns-clause-due : goal.returns-clause-due
returns-clause-due c =
    λ v slots mine other w due_call disk new call answer is_mine is_other differ by at_other image placed within step due.
    lemmas.others_stay_due v slots mine is_mine disk image other is_other differ w due_call call answer new by at_other placed within step due

pub returns-clause-told : goal.returns-clause-told
returns-clause-told c = lemmas.told

pub returns-clause-row : goal.returns-clause-row
returns-clause-row c = λ v bytes slot host below. lemmas.block_of-row_of v slot host bytes below

pub returns-clause-area : goal.returns-clause-area
returns-clause-area c = λ v bytes host below. lemmas.block_of-area_of v host bytes below
