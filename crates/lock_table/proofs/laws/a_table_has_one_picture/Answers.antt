use Rattle.lock_table.proofs.Unique.{one_shown}
use Rattle.lock_table.proofs.laws.a_table_has_one_picture.Goals as goal

pub returns : goal.returns
returns c = record { one = one_shown }
