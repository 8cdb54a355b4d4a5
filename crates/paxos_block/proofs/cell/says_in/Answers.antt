use Rattle.std.proofs.Common.{◌∙◌, ap}
use Rattle.paxos_block.specs.Saying.{said_as}
use Rattle.paxos_block.proofs.RowLemmas.{blank_says, current_says}
use Rattle.paxos_block.proofs.cell.says_in.Goals as goal

pub returns-in-None : goal.returns-in-None
returns-in-None g c = λ bytes is first second. ap (said_as g.L.Layout.spelled) c.blank.ensures ∙ blank_says g.L.Layout.version bytes c.args.block.now is c.in-None.is

pub returns-in-Some : goal.returns-in-Some
returns-in-Some g c = λ bytes is first second. c.half_says.ensures bytes first second ∙ current_says g.L.Layout.version bytes c.args.block.now is c.in-Some.half c.in-Some.is
