use Rattle.attempt_safety.proofs.Agreeing.{one_value, none_missed}
use Rattle.attempt_safety.proofs.law.attempts_agree.Goals as goal

pub returns-clause-one : goal.returns-clause-one
returns-clause-one c = one_value

pub returns-clause-none_missed : goal.returns-clause-none_missed
returns-clause-none_missed c = none_missed
