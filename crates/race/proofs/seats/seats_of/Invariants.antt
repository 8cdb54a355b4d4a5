use Rattle.std.proofs.Common.{◌≡◌, ◌≤◌, true, vec_len, vec_capacity}
use Rattle.std.specs.Prelude.{All}
use Rattle.host.specs.Host.{idles}
use Rattle.cluster.specs.Seat.{host_in}
use Rattle.race.specs.Race.{AreByHost}
use Rattle.race.proofs.seats.seats_of.Given as goal

abbrev pub invariant-loop-number : goal.invariant-loop-number
invariant-loop-number g l = record {
  len : vec_len l.seats ≡ l.number;
  room : l.hosts ≤ vec_capacity l.seats;
  hosts : AreByHost l.seats.items;
  idle : All (λ seat. idles (host_in g.N.ClusterName.shape seat) ≡ true) l.seats.items;
}
