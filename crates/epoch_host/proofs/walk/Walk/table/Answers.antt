use Rattle.epoch_host.proofs.Ending.{knows_table}
use Rattle.epoch_host.proofs.Knowing.{is_there, table_is}
use Rattle.epoch_host.proofs.walk.Walk.table.Goals as goal

pub returns-clause-is : goal.returns-clause-is
returns-clause-is c = table_is c.args.self.now c.in_ok-at_work.field-0.now c.table.result.now c.in_ok-at_work.ensures.at_work c.table.ensures.table

pub returns-clause-only : goal.returns-clause-only
returns-clause-only c = λ some. is_there c.args.self.now c.in_ok-at_work.field-0.now c.in_ok-at_work.ensures.at_work

pub returns-clause-known : goal.returns-clause-known
returns-clause-known c = knows_table c.args.self.now c.in_ok-at_work.field-0.now c.in_ok-at_work.ensures.at_work c.table.result.now c.table.ensures.table
