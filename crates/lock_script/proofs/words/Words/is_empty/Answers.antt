use Rattle.std.proofs.Common.{sym}
use Rattle.lock_script.proofs.WordLemmas.{nothing_left}
use Rattle.lock_script.proofs.words.Words.is_empty.Goals as goal

pub returns : goal.returns
returns c = nothing_left c.self.inside.rest c.args.self.now c.is_none.result (sym c.self.view_is) c.is_none.ensures
