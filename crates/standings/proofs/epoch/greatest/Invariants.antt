use Rattle.std.specs.Prelude.{slice_index}
use Rattle.std.proofs.Common.{ℕ, ◌≡◌, ◌<◌, ◌≤◌}
use Rattle.torn_block.specs.declared.layout.TheConstants.{HOSTS}
use Rattle.standings.proofs.epoch.greatest.Given as goal

abbrev pub invariant-loop-host : goal.invariant-loop-host
invariant-loop-host l =
    ((host : ℕ) × (host < HOSTS) × (slice_index l.numbers host ≡ l.greatest)) × ((host : ℕ) → host < l.host → slice_index l.numbers host ≤ l.greatest)
