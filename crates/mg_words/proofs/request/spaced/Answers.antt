use Rattle.std.proofs.Common.{◌∙◌}
use Rattle.mg_words.proofs.Lines.{join_texts}
use Rattle.mg_words.proofs.request.spaced.Goals as goal

pub returns : goal.returns
returns c = c.in_ok-text.ensures.ok ∙ join_texts c.args.words.now
