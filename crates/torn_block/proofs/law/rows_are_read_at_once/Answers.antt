use Rattle.torn_block.proofs.LayoutLaws.{short_row}
use Rattle.torn_block.proofs.law.rows_are_read_at_once.Goals as goal

pub returns-clause-rows : goal.returns-clause-rows
returns-clause-rows c = short_row
