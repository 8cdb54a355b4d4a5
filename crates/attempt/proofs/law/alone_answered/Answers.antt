use Rattle.attempt.proofs.Ends.{served}
use Rattle.attempt.proofs.Possible.{possible}
use Rattle.attempt.proofs.law.alone_answered.Goals as goal

pub returns-clause-served : goal.returns-clause-served
returns-clause-served c = served

pub returns-clause-possible : goal.returns-clause-possible
returns-clause-possible c = possible
