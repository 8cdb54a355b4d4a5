use Rattle.std.proofs.Common.{nat_lt, rules}
use Rattle.std.proofs.lemmas.Fn.{always_returns_same}
use Rattle.lock_index.proofs.Keyed.{key_partitioned}
use Rattle.lock_table.proofs.KnownPlaces.{client_of}
use Rattle.lock_table.proofs.clients.lower_clients.Goals as goal

pub returns : goal.returns
returns c = record {
  bound = c.partition_point.ensures.bound;
  point =
      c.partition_point.ensures.partitioned (λ k. nat_lt k.client c.args.client) (always_returns_same _ _ _ (λ a r f k. search rules))
      (key_partitioned client_of c.args.client c.args.known.now c.requires);
}
