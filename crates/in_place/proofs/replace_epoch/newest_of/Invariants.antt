use Rattle.in_place.specs.Replacing.{IsNewestTold}
use Rattle.in_place.proofs.replace_epoch.newest_of.Given as goal

abbrev pub invariant-loop-disk : goal.invariant-loop-disk
invariant-loop-disk l = IsNewestTold l.told l.disk l.newest
