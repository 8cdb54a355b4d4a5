use Rattle.session.specs.Evidence.{IsRequest, NoneBetween}
use Rattle.session.proofs.evidence.first_of.Given as goal

-- none so far is the request
abbrev pub invariant-loop-place : goal.invariant-loop-place
invariant-loop-place l = NoneBetween (IsRequest l.client l.request) l.learned l.from l.place
