-- The next request of a session is above all that are known.
use Rattle.std.proofs.Common.{◌≡◌, ◌+◌, ◌<◌, ◌≤◌, ◌^◌, ◌⊎◌, ℕ, Option, None, Some, IfSome, SomeIff, arith, inl, inr}
use Rattle.lock_table.specs.declared.known_client.KnownClient.{KnownClient}
use Rattle.session.specs.Choosing.{IsNext}
use Rattle.session.specs.Evidence.{Knows}
use Rattle.session.specs.Numbers.{client_of}
use Rattle.session.specs.declared.learned.Learned.{Learned}

-- one more than the last one is above it, if there is such a request
above_last : (session last : ℕ) → (session ≤ last) ⊎ (last ≡ 2 ^ 62) → last + 1 ≤ 2 ^ 62 → session < last + 1
above_last session last (inl below) within = omega arith
above_last session last (inr top) within = absurd (omega arith)

pub is_next : (l : Learned) (host session last : ℕ) (request : Option ℕ) → (session ≤ last) ⊎ (last ≡ 2 ^ 62)
    → ((known : KnownClient) → Knows l.table.now (client_of host) known → known.request ≤ last)
    → SomeIff request ((1 ≤ last + 1) × (last + 1 ≤ 2 ^ 62)) (last + 1) → IfSome request (IsNext l host session)
is_next l host session last None above known is = tt
is_next l host session last (Some request) above known is =
    let next : request ≡ last + 1 = is.1 in
    let over : session < last + 1 = above_last session last above is.0.1 in
    record {
      above = omega arith;
      later = λ other knows. let told : other.request ≤ last = known other knows in omega arith;
    }
