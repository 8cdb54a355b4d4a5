use Rattle.std.proofs.Common.{◌≡◌}
use Rattle.in_place.specs.Replacing.{newest_told}
use Rattle.in_place.proofs.replace_epoch.newest_told.Given as goal

abbrev pub invariant-loop-disk : goal.invariant-loop-disk
invariant-loop-disk l = l.newest ≡ newest_told l.told l.disk
