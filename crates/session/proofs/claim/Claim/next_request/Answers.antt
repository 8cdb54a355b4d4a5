use Rattle.session.proofs.Next.{is_next}
use Rattle.session.proofs.claim.Claim.next_request.Goals as goal

pub returns : goal.returns
returns c = is_next c.args.learned.now c.args.self.now.host c.args.self.now.request c.last_request.result c.new.result
    c.last_request.ensures.last c.last_request.ensures.known c.new.ensures.request
