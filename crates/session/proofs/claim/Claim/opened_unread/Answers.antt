use Rattle.std.proofs.Common.{◌∙◌, ap, sym}
use Rattle.session.specs.declared.claim.Claim.{Claim}
use Rattle.session.proofs.claim.Claim.opened_unread.Goals as goal

-- the claim is to end for the same reason, once the images are noted
pub returns-in-Opening-clause-told : goal.returns-in-Opening-clause-told
returns-in-Opening-clause-told c = λ why opens over stays.
    c.talk.ensures.told why (ap (λ (x : Claim). x.over) c.reach.ensures ∙ over) (λ leaving. stays (sym (ap (λ (x : Claim). x.standing) c.reach.ensures) ∙ leaving))

pub returns-in-OpeningToLook-clause-told : goal.returns-in-OpeningToLook-clause-told
returns-in-OpeningToLook-clause-told c = λ why opens over stays. c.look.ensures.told why (ap (λ (x : Claim). x.over) c.reach.ensures ∙ over)
