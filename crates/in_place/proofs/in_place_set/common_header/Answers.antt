use Rattle.std.proofs.Common.{◌<◌, arith, length}
use Rattle.std.proofs.lemmas.Option.{slice_get-get_or}
use Rattle.in_place.proofs.InPlaceFiles.{none_so, one_more_in_set}
use Rattle.in_place.proofs.in_place_set.common_header.Goals as goal

pub loop-disk-init : goal.loop-disk-init
loop-disk-init c = λ k image below at. absurd (omega (arith, below))

pub loop-disk-preserved : goal.loop-disk-preserved
loop-disk-preserved c =
    let found = c.args.found.now in
    let disk = c.loop-disk.disk in
    let within : disk < length found = omega (arith, c.loop-disk-test.true) in
    one_more_in_set found _ disk _ (slice_get-get_or found disk _ within) (none_so _ c.fault_in_set.result c.in_default.not-Some c.fault_in_set.ensures.none) c.loop-disk.invariant
