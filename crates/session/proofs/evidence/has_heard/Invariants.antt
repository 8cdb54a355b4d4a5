use Rattle.std.proofs.Common.{◌<◌, ◌≡◌, ◌≤◌, ℕ, Some}
use Rattle.std.specs.Prelude.{slice_get}
use Rattle.lock_table.specs.declared.known_client.KnownClient.{KnownClient}
use Rattle.session.proofs.evidence.has_heard.Given as goal

-- none below the place is the client with this request or a later one
abbrev pub invariant-loop-at : goal.invariant-loop-at
invariant-loop-at l = (at : ℕ) (known : KnownClient) → at < l.at → slice_get l.clients at ≡ Some known → known.client ≡ l.client → l.request ≤ known.request → ⊥
