use Rattle.std.proofs.Common.{inr, refl}
use Rattle.c_claims.proofs.cleanups.next_left.Goals as goal

pub returns-in-None : goal.returns-in-None
returns-in-None c = inr (refl, c.in-None.ensures.none refl, refl)
