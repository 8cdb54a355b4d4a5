use Rattle.mg_words.proofs.Adding.{only}
use Rattle.mg_words.proofs.object.put_count.Goals as goal

pub returns-in-Some : goal.returns-in-Some
returns-in-Some c = rw c.in-Some.is (only c.u64.result _ _ _ c.u64.ensures)

pub returns-in-None : goal.returns-in-None
returns-in-None c = rw c.in-None.is (only c.null.result _ _ _ c.null.ensures)
