use Rattle.lock_table.proofs.History.{stored_stays, zeros_stay, value_read}
use Rattle.lock_table.proofs.laws.values_are_stored_last.Goals as goal

pub returns : goal.returns
returns c = record { stored = stored_stays; first = zeros_stay; read = value_read }
