use Rattle.mg_words.proofs.Cutting.{behind_is}
use Rattle.mg_words.proofs.told.behind.Goals as goal

pub returns : goal.returns
returns c = behind_is c.args.text.now c.args.word.now c.strip_prefix.result c.strip_prefix.ensures.cases
