use Rattle.std.proofs.Common.{◌≡◌, ◌<◌, ℕ}
use Rattle.sectors.specs.Row.{sector_in}
use Rattle.sectors.specs.Sector.{stamped_of}
use Rattle.sectors.proofs.row.agree.Given as goal

abbrev pub invariant-loop-host : goal.invariant-loop-host
invariant-loop-host l =
    (host : ℕ) → host < l.host → stamped_of (sector_in l.geometry host l.one) ≡ stamped_of (sector_in l.geometry host l.other)
