-- The known clients: by rising number, and where one stands.
use Rattle.std.specs.Prelude.{◌≡◌, ◌≤◌, ℕ, true, false, List, filter, length, nat_lt}
use Rattle.std.specs.List.Sorted.{IsSorted, IsPartitionPoint}
use Rattle.lock_table.specs.declared.known_client.KnownClient.{KnownClient}
use Rattle.lock_table.specs.Apply.{is_client}
use Rattle.lock_table.specs.Picture.{client_cmp}

-- the known clients stand by rising number, each once
pub record AreKnown (clients : List KnownClient) : Type 0 where
  pub rising : IsSorted client_cmp clients
  pub distinct : (client : ℕ) → length (filter (is_client client) clients) ≤ 1

-- the clients before this place have lower numbers, and no others
pub record IsPlaceOf (client : ℕ) (clients : List KnownClient) (place : ℕ) : Type 0 where
  pub bound : place ≤ length clients
  pub point : IsPartitionPoint (λ k. nat_lt k.client client ≡ true) (λ k. nat_lt k.client client ≡ false) clients place
