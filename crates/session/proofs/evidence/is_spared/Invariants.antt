use Rattle.session.specs.Evidence.{NoneBetween, Purges}
use Rattle.session.proofs.evidence.is_spared.Given as goal

-- none so far purges the host
abbrev pub invariant-loop-place : goal.invariant-loop-place
invariant-loop-place l = NoneBetween (Purges l.host) l.learned l.from l.place
