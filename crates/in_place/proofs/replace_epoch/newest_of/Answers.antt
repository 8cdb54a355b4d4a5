use Rattle.std.proofs.Common.{◌+◌, Option, subst, sym}
use Rattle.in_place.specs.Replacing.{IsNewestTold}
use Rattle.in_place.specs.declared.replace_epoch.EpochsTold.{EpochsTold}
use Rattle.in_place.proofs.Newest.{none_yet, one_more}
use Rattle.in_place.proofs.replace_epoch.newest_of.Goals as goal

pub loop-disk-init : goal.loop-disk-init
loop-disk-init c = none_yet c.args.told.now

pub loop-disk-preserved : goal.loop-disk-preserved
loop-disk-preserved c =
    let at = c.loop-disk in
    subst (λ (best : Option EpochsTold). IsNewestTold c.args.told.now (at.disk + 1) best) (sym c.later-newest.ensures) (one_more c.args.told.now at.disk at.newest c.told_at.result c.told_at.ensures at.invariant)
