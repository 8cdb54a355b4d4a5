use Rattle.std.proofs.Common.{◌<◌, ◌≢◌, ℕ, slice_index_or}
use Rattle.race.specs.declared.host_outcome.HostOutcome.{HostOutcome}
use Rattle.race.proofs.host_outcome.answer_of.Given as goal

abbrev pub invariant-loop-outcome : goal.invariant-loop-outcome
invariant-loop-outcome l = (k : ℕ) (d : HostOutcome) → k < l.outcome-index → slice_index_or l.came k d ≢ l.given
