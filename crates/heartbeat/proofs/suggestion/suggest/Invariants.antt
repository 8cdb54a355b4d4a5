use Rattle.std.proofs.Common.{◌≡◌, ◌<◌, ℕ, false}
use Rattle.heartbeat.specs.Suggesting.{moves_on_most}
use Rattle.heartbeat.proofs.suggestion.suggest.Given as goal

-- no host so far
abbrev pub invariant-loop-host : goal.invariant-loop-host
invariant-loop-host l = (k : ℕ) → k < l.host → moves_on_most l.before l.after k ≡ false
