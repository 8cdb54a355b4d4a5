use Rattle.lock_table.proofs.Sought.{value_there, value_absent}
use Rattle.lock_table.proofs.values.value_in.Goals as goal

pub returns-in-Ok : goal.returns-in-Ok
returns-in-Ok c = value_there c.args.name c.args.entries.now c.in-Ok.at c.index-entries-at.result c.requires c.in-Ok.ensures.bound c.in-Ok.ensures.place

pub returns-in-Err : goal.returns-in-Err
returns-in-Err c = value_absent c.args.name c.args.entries.now c.in-Err.field-0 c.in-Err.ensures.place
