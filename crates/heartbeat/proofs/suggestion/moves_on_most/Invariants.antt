use Rattle.std.proofs.Common.{◌≡◌, ◌≤◌, ℕ, take}
use Rattle.std.specs.List.{count_by, zip}
use Rattle.heartbeat.specs.Suggesting.{Readings, moves_in}
use Rattle.heartbeat.proofs.suggestion.moves_on_most.Given as goal

-- on so many of the disks seen
pub record Counted (host : ℕ) (before after : Readings) (moves disk : ℕ) : Type 0 where
  pub is : moves ≡ count_by (moves_in host) (take disk (zip before after))
  pub few : moves ≤ disk

abbrev pub invariant-loop-disk : goal.invariant-loop-disk
invariant-loop-disk l = Counted l.host l.before l.after l.moves l.disk
