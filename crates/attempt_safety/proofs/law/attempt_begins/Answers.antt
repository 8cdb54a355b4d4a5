use Rattle.attempt_safety.proofs.Beginning.{one_more, follows_first}
use Rattle.attempt_safety.proofs.law.attempt_begins.Goals as goal
use Rattle.agreement.specs.Event.Event.{Starts}

pub returns-clause-runs : goal.returns-clause-runs
returns-clause-runs c = λ s early is_run. one_more s.disks early (Starts s.host) is_run tt

pub returns-clause-follows : goal.returns-clause-follows
returns-clause-follows c = follows_first
