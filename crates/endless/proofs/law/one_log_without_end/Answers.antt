use Rattle.endless.proofs.WithoutEnd.{one_log_without_end}
use Rattle.endless.proofs.law.one_log_without_end.Goals as goal

pub returns : goal.returns
returns c = one_log_without_end
