use Rattle.mg_words.proofs.Adding.{both, last, one}
use Rattle.mg_words.proofs.object.put_list.Goals as goal

pub returns : goal.returns
returns c = last c.end_array.result _ _ _ _ _ (both _ _ _ _ _ (one _ _ _ _ c.in_ok-begin_array.ensures) c.in_ok-put_lines.ensures) c.end_array.ensures
