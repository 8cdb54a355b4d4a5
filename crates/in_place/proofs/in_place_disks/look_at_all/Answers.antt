use Rattle.std.proofs.Common.{◌≡◌, ◌<◌, ◌∙◌, Some, arith, get_or, length, refl, slice_get, slice_set, subst, sym}
use Rattle.std.proofs.lemmas.List.{length-set}
use Rattle.std.proofs.lemmas.Option.{slice_get-get_or}
use Rattle.disk.specs.Disk.{Device}
use Rattle.endless_image.specs.Sizes.{size_of}
use Rattle.folders.proofs.Laying.{all_became, devices_stay, none_became}
use Rattle.in_place.specs.InPlaceImages.{BecameBy, IsFound, IsNotFound, StopsLooking}
use Rattle.in_place.specs.declared.in_place_disk.MakeFault.TheVariants.{Refused}
use Rattle.in_place.proofs.InPlaceDisks.{err_is, one_more_due, stops_at}
use Rattle.in_place.proofs.in_place_disks.look_at_all.Goals as goal

pub loop-disk-init : goal.loop-disk-init
loop-disk-init g c = record { due = refl; found = none_became _ c.args.devices.now; sizes = c.requires.sizes }

pub look_at-requires : goal.look_at-requires
look_at-requires g c =
    let devices = c.loop-disk.devices in
    let disk = c.loop-disk.disk in
    let within : disk < length devices = omega (arith, c.loop-disk-test.true, c.loop-disk.invariant.found.as_many) in
    c.loop-disk.invariant.sizes disk (get_or devices disk c.index-devices-disk.result) (slice_get-get_or devices disk c.index-devices-disk.result within)

pub returns-in_err-one-clause-stopped : goal.returns-in_err-one-clause-stopped
returns-in_err-one-clause-stopped g c =
    let devices = c.loop-disk.devices in
    let disk = c.loop-disk.disk in
    let before = get_or devices disk c.index-devices-disk.result in
    let after = c.look_at.new.device in
    let set = c.args.set.now in
    let within : disk < length devices = omega (arith, c.loop-disk-test.true, c.loop-disk.invariant.found.as_many) in
    let at : slice_get devices disk ≡ Some before = slice_get-get_or devices disk c.index-devices-disk.result within in
    let refused = c.in_err-one.ensures.refused in
    let stops = stops_at (BecameBy (λ disk of old new. IsFound g.D.Disk.gives set disk of old new) c.loop-disk.due) (λ old new. IsNotFound g.D.Disk.gives set disk old new refused.0) disk c.args.devices.now devices before after within at refused.2 c.loop-disk.invariant.found in
    let is : StopsLooking g.D.Disk.gives set c.args.devices.now (slice_set devices disk after) (Refused disk refused.0) = (c.loop-disk.due, stops) in
    err_is (StopsLooking g.D.Disk.gives set c.args.devices.now (slice_set devices disk after)) c.in_err-one.field-0.0 (subst (StopsLooking g.D.Disk.gives set c.args.devices.now (slice_set devices disk after)) (sym refused.1) is)
    c.from_residual.result c.from_residual.ensures.1

pub loop-disk-preserved : goal.loop-disk-preserved
loop-disk-preserved g c =
    let devices = c.loop-disk.devices in
    let disk = c.loop-disk.disk in
    let before = get_or devices disk c.index-devices-disk.result in
    let after = c.look_at.new.device in
    let set = c.args.set.now in
    let within : disk < length devices = omega (arith, c.loop-disk-test.true, c.loop-disk.invariant.found.as_many) in
    let at : slice_get devices disk ≡ Some before = slice_get-get_or devices disk c.index-devices-disk.result within in
    let few : disk < length c.loop-disk.due = omega (arith, c.loop-disk-test.true, c.requires.few, c.loop-disk.invariant.due) in
    record {
      due = length-set c.loop-disk.due disk c.in_ok-one.one ∙ c.loop-disk.invariant.due;
      found = one_more_due (λ disk of old new. IsFound g.D.Disk.gives set disk of old new) c.loop-disk.due disk c.args.devices.now devices before after c.in_ok-one.one at few c.in_ok-one.ensures.found c.loop-disk.invariant.found;
      sizes = devices_stay g.D.Disk.device (λ (d : Device). d.size ≡ size_of set.slots) disk devices before after at c.look_at.ensures.device c.loop-disk.invariant.sizes;
    }

pub returns-clause-found : goal.returns-clause-found
returns-clause-found g c =
    let all : length c.args.devices.now ≡ c.loop-disk.disk = omega (arith, c.loop-disk-test.false, c.loop-disk.invariant.found.as_many) in
    all_became (BecameBy (λ disk of old new. IsFound g.D.Disk.gives c.args.set.now disk of old new) c.loop-disk.due) c.loop-disk.disk c.args.devices.now c.loop-disk.devices all c.loop-disk.invariant.found
