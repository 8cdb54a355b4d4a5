use Rattle.attempt_safety.proofs.Beginning.{write_begins}
use Rattle.attempt_safety.proofs.law.torn_writes_begin.Goals as goal

pub returns : goal.returns
returns c = write_begins
