use Rattle.lock_table.proofs.Moved.{table_again, reply_again}
use Rattle.lock_table.proofs.laws.moved_logs_give_the_same.Goals as goal

pub returns : goal.returns
returns c = record { table = table_again; reply = reply_again }
