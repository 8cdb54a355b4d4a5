use Rattle.mg_words.proofs.Adding.{only}
use Rattle.mg_words.proofs.object.put_value.Goals as goal

pub returns-in-Text : goal.returns-in-Text
returns-in-Text c = rw c.in-Text.is (only c.string.result _ _ _ c.string.ensures)

pub returns-in-Quoted : goal.returns-in-Quoted
returns-in-Quoted c = rw c.in-Quoted.is (only c.quoted_u64.result _ _ _ c.quoted_u64.ensures)

pub returns-in-Number : goal.returns-in-Number
returns-in-Number c = rw c.in-Number.is (only c.u64.result _ _ _ c.u64.ensures)

pub returns-in-Count : goal.returns-in-Count
returns-in-Count c = rw c.in-Count.is c.put_count.ensures

pub returns-in-Flag : goal.returns-in-Flag
returns-in-Flag c = rw c.in-Flag.is (only c.boolean.result _ _ _ c.boolean.ensures)

pub returns-in-Lines : goal.returns-in-Lines
returns-in-Lines c = rw c.in-Lines.is c.put_list.ensures
