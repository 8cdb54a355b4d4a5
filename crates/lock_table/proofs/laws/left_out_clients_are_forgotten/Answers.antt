use Rattle.lock_table.proofs.Carrying.{forgotten_later, forgotten_replied, left_out_few, left_out_pictured}
use Rattle.lock_table.proofs.laws.left_out_clients_are_forgotten.Goals as goal

pub returns : goal.returns
returns c = record { table = left_out_pictured; later = forgotten_later; reply = forgotten_replied; few = left_out_few }
