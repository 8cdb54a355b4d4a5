use Rattle.std.proofs.Common.{◌≡◌, ◌⊎◌, ℕ, subst}
use Rattle.lock_table.specs.declared.known_client.KnownClient.{KnownClient}
use Rattle.session.specs.Evidence.{Knows}
use Rattle.cleanup.proofs.Requests.{last_of}
use Rattle.cleanup.proofs.purging.Purging.last_request.Goals as goal

pub returns : goal.returns
returns c =
    let Reads : ℕ → Type 0 = λ client. (known : KnownClient) → Knows c.args.table.now client known → known.request ≡ c.last_request.result in
    let Has : ℕ → Type 0 = λ client. (c.last_request.result ≡ 0) ⊎ ((known : KnownClient) × Knows c.args.table.now client known × (known.request ≡ c.last_request.result)) in
    last_of c.args.self.now c.args.table.now c.last_request.result c.max.result
    (subst Reads c.client_of.ensures c.last_request.ensures.last) (subst Has c.client_of.ensures c.last_request.ensures.none) c.max.ensures
