use Rattle.std.proofs.lemmas.Result.{on_ok_weaker}
use Rattle.mg_words.proofs.Adding.{both, one}
use Rattle.mg_words.proofs.object.put_member.Goals as goal

pub returns : goal.returns
returns c = on_ok_weaker c.put_value.result (λ more. both _ _ _ _ _ (one _ _ _ _ c.in_ok-key.ensures) more) c.put_value.ensures
