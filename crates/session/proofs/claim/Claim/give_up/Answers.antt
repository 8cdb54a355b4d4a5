use Rattle.std.proofs.Common.{inr, refl}
use Rattle.session.proofs.claim.Claim.give_up.Goals as goal

-- a give that failed leaves no value
pub returns-in-Give-default-clause-value : goal.returns-in-Give-default-clause-value
returns-in-Give-default-clause-value c = inr (refl, inr (c.args.why, refl))
