use Rattle.endless.proofs.First.{carried_comes_first}
use Rattle.endless.proofs.Going.{tables_go_on, epochs_go_on}
use Rattle.endless.proofs.law.epochs_go_on.Goals as goal

pub returns : goal.returns
returns c = record { first = carried_comes_first; tables = tables_go_on; all = epochs_go_on }
