use Rattle.session.proofs.Outcomes.{release_is_borne_out}
use Rattle.session.proofs.claim.Claim.release_replied.Goals as goal

pub returns-in-Some-clause-borne_out : goal.returns-in-Some-clause-borne_out
returns-in-Some-clause-borne_out c =
    release_is_borne_out _ _ _ c.in-Some.slot c.then_given.result c.in-Some.ensures c.then_given.ensures.without c.drop_sign.ensures.then c.drop_sign.ensures.rest c.drop_sign.ensures.sign
