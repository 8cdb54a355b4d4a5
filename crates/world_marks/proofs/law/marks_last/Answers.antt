use Rattle.world_marks.proofs.Counting.{counts}
use Rattle.world_marks.proofs.Places.{stays_marked}
use Rattle.world_marks.proofs.law.marks_last.Goals as goal

pub returns-clause-last : goal.returns-clause-last
returns-clause-last c = λ shape log run i j slot host d later slot_below below before. stays_marked shape log run i j slot host d later slot_below below before

pub returns-clause-counted : goal.returns-clause-counted
returns-clause-counted c = counts
