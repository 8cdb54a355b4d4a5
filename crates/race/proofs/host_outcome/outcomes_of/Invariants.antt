use Rattle.std.proofs.Common.{◌≤◌, vec_len, vec_capacity}
use Rattle.race.proofs.host_outcome.outcomes_of.Given as goal

abbrev pub invariant-loop : goal.invariant-loop
invariant-loop g l = (vec_len l.came ≤ l.counter) × (l.most ≤ vec_capacity l.came)
