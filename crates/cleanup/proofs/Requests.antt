-- The last request of a session's client that is known.
use Rattle.std.specs.Prelude.{max}
use Rattle.std.proofs.Common.{◌≡◌, ◌⊎◌, ℕ, inl, inr, arith}
use Rattle.std.proofs.lemmas.Bool.{cases_lt}
use Rattle.lock_table.specs.declared.known_client.KnownClient.{KnownClient}
use Rattle.lock_table.specs.Picture.{Shown}
use Rattle.session.specs.Evidence.{Knows}
use Rattle.session.specs.Numbers.{client_of}
use Rattle.cleanup.specs.Purges.{IsLastRequest}
use Rattle.cleanup.specs.declared.purging.Purging.{Purging}

-- it is the higher one of the session's and of that which was read of the table
pub last_of : (p : Purging) (table : Shown) (read last : ℕ)
    → ((known : KnownClient) → Knows table (client_of p.host) known → known.request ≡ read)
    → (read ≡ 0) ⊎ ((known : KnownClient) × Knows table (client_of p.host) known × (known.request ≡ read))
    → last ≡ max read p.request → IsLastRequest p table last
last_of p table read last knows none is = record {
  own = omega (arith, is);
  known = λ known has. let same = knows known has in omega (arith, is, same);
  used =
      elim none [
        | inl nothing ↦ inl (omega (arith, is, nothing))
        | inr some ↦ elim (cases_lt read p.request) [
          | inl low ↦ inl (omega (arith, is, low))
          | inr high ↦ inr (some.0, some.1, omega (arith, is, high, some.2))
        ]
      ];
}
