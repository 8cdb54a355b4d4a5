use Rattle.lock_table.proofs.Carrying.{carried_pictured, pictured_later, replied_later, carried_few}
use Rattle.lock_table.proofs.laws.carried_tables_are_the_same.Goals as goal

pub returns : goal.returns
returns c = record { table = carried_pictured; later = pictured_later; reply = replied_later; few = carried_few }
