use Rattle.std.proofs.Common.{◌<◌, ℕ, slice_index_or}
use Rattle.cluster_tie.specs.Parts.{Own}
use Rattle.race.specs.Agreement.{Agree, prefix_of}
use Rattle.race.proofs.prefixes.agrees_with.Given as goal

abbrev pub invariant-loop-seat : goal.invariant-loop-seat
invariant-loop-seat g l = (j : ℕ) (d : Own) → j < l.seat-index → Agree l.one (prefix_of g.N.ClusterName.shape (slice_index_or l.seats j d))
