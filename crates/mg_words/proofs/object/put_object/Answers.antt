use Rattle.mg_words.proofs.Adding.{both, last, one}
use Rattle.mg_words.proofs.object.put_object.Goals as goal

pub returns : goal.returns
returns c = last c.end_object.result _ _ _ _ _ (both _ _ _ _ _ (one _ _ _ _ c.in_ok-begin_object.ensures) c.in_ok-put_members.ensures) c.end_object.ensures
