use Rattle.lock_table.proofs.Known.{old_request, known_stays}
use Rattle.lock_table.proofs.laws.old_requests_change_nothing.Goals as goal

pub returns : goal.returns
returns c = record { unchanged = old_request; known = known_stays }
