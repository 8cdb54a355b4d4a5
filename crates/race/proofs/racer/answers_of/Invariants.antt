use Rattle.std.proofs.Common.{◌≡◌, ◌≤◌, ◌<◌, ℕ, length, slice_index_or, vec_len, vec_capacity}
use Rattle.race.specs.Answers.{IsTold}
use Rattle.race.proofs.racer.answers_of.Given as goal

abbrev pub invariant-loop-racer : goal.invariant-loop-racer
invariant-loop-racer g l = record {
  len : vec_len l.answers ≡ l.racer-index;
  room : length l.racers ≤ vec_capacity l.answers;
  told : (i : ℕ) (d : _) (e : _) → i < l.racer-index → IsTold g.N.ClusterName.shape (slice_index_or l.racers i d).seat (slice_index_or l.answers.items i e);
}
