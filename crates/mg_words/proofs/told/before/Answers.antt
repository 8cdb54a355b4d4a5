use Rattle.mg_words.proofs.Cutting.{before_is}
use Rattle.mg_words.proofs.told.before.Goals as goal

pub returns : goal.returns
returns c = before_is c.args.text.now c.args.end.now c.strip_suffix.result c.strip_suffix.ensures.cases
