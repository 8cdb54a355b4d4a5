use Rattle.std.proofs.Common.{◌≡◌, ◌≢◌, ◌<◌, ℕ, []}
use Rattle.cluster_tie.specs.Parts.{of_host}
use Rattle.cluster.specs.Record.{HasSeat}
use Rattle.cluster.proofs.journal.Journal.is_covered.Given as goal

abbrev pub invariant-loop-host : goal.invariant-loop-host
invariant-loop-host g l = record {
  same : l.self ≡ l.initial.self;
  covered : (h : ℕ) → h < l.host → of_host h l.initial.self.log ≢ [] → HasSeat l.seats h;
}
