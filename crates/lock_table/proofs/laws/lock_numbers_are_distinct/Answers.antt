use Rattle.lock_table.proofs.Behave.{reachable_distinct}
use Rattle.lock_table.proofs.laws.lock_numbers_are_distinct.Goals as goal

pub returns : goal.returns
returns c = record { distinct = reachable_distinct }
