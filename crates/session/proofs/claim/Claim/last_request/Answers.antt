use Rattle.std.proofs.Common.{rules, ◌≡◌, ℕ, subst, sym}
use Rattle.session.specs.Evidence.{Knows}
use Rattle.session.proofs.claim.Claim.last_request.Goals as goal

-- what the table knows of the client is what was read of it
pub returns-clause-known : goal.returns-clause-known
returns-clause-known c = λ known is.
    let told : known.request ≡ c.last_request.result
    = c.last_request.ensures.last known (subst (λ (client : ℕ). Knows c.args.learned.now.table.now client known) (sym c.client_of.ensures) is)
    in search rules
