use Rattle.std.proofs.Common.{inl, inr, refl}
use Rattle.c_claims.proofs.cleanups.next_purge.Goals as goal

pub returns-in-Submit : goal.returns-in-Submit
returns-in-Submit c = inr (inl (refl, refl, (c.in-Submit.field-0, c.in-Submit.ensures.submits c.in-Submit.field-0 refl)))
