use Rattle.std.proofs.Common.{◌<◌, ℕ, slice_index_or}
use Rattle.cluster_tie.specs.Parts.{Own}
use Rattle.race.specs.Agreement.{AgreesWith, prefix_of}
use Rattle.race.proofs.prefixes.all_agree.Given as goal

abbrev pub invariant-loop-seat : goal.invariant-loop-seat
invariant-loop-seat g l = (i : ℕ) (d : Own) → i < l.seat-index → AgreesWith g.N.ClusterName.shape (prefix_of g.N.ClusterName.shape (slice_index_or l.seats i d)) l.seats
