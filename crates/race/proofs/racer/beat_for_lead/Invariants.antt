use Rattle.std.proofs.Common.{◌≡◌, ◌<◌, true}
use Rattle.host.specs.Host.{idles}
use Rattle.cluster_tie.specs.Parts.{entries}
use Rattle.cluster.specs.Seat.{host_in}
use Rattle.race.specs.Bids.{HasBeaten}
use Rattle.race.proofs.racer.beat_for_lead.Given as goal

abbrev pub invariant-loop : goal.invariant-loop
invariant-loop g l = record {
  idle : idles (host_in g.N.ClusterName.shape l.seat) ≡ true;
  host : l.seat.number ≡ l.initial.seat.number;
  beaten : 0 < l.counter → HasBeaten l.seat.number (entries l.seat.entries);
}
