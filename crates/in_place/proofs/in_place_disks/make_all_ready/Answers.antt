use Rattle.std.proofs.Common.{◌≡◌, ◌<◌, Some, arith, get_or, length, slice_get, slice_set, subst, sym}
use Rattle.std.proofs.lemmas.Option.{slice_get-get_or}
use Rattle.disk.specs.Disk.{Device}
use Rattle.endless_image.specs.Sizes.{size_of}
use Rattle.folders.proofs.Laying.{all_became, devices_stay, none_became}
use Rattle.in_place.specs.InPlaceImages.{BecameBy, IsMadeReady, IsNotReady, StopsReadying}
use Rattle.in_place.specs.declared.in_place_disk.MakeFault.TheVariants.{NotReady}
use Rattle.in_place.proofs.InPlaceDisks.{err_is, one_more_by, stops_by}
use Rattle.in_place.proofs.in_place_disks.make_all_ready.Goals as goal

pub loop-disk-init : goal.loop-disk-init
loop-disk-init g c = record { done = none_became _ c.args.devices.now; sizes = c.requires.sizes }

pub make_ready-requires : goal.make_ready-requires
make_ready-requires g c =
    let devices = c.loop-disk.devices in
    let disk = c.loop-disk.disk in
    let before = get_or devices disk c.index-devices-disk.result in
    let within : disk < length devices = omega (arith, c.loop-disk-test.true, c.loop-disk.invariant.done.as_many) in
    let long : (g.D.Disk.device before).size ≡ size_of c.args.slots = c.loop-disk.invariant.sizes disk before (slice_get-get_or devices disk c.index-devices-disk.result within) in
    omega (arith, long)

pub returns-in_err-make_ready-clause-stopped : goal.returns-in_err-make_ready-clause-stopped
returns-in_err-make_ready-clause-stopped g c =
    let devices = c.loop-disk.devices in
    let disk = c.loop-disk.disk in
    let before = get_or devices disk c.index-devices-disk.result in
    let within : disk < length devices = omega (arith, c.loop-disk-test.true, c.loop-disk.invariant.done.as_many) in
    let after = c.make_ready.new.device in
    let at : slice_get devices disk ≡ Some before = slice_get-get_or devices disk c.index-devices-disk.result within in
    let few : disk < length c.args.due.now = omega (arith, c.loop-disk-test.true, c.requires.few, c.told-due) in
    let stops = stops_by (λ disk of old new. IsMadeReady g.D.Disk.gives c.args.slots of old new) (λ disk of old new. IsNotReady g.D.Disk.gives c.args.slots of old new) c.args.due.now disk c.args.devices.now devices before after _ within at few c.in_err-make_ready.ensures.failed c.loop-disk.invariant.done in
    let is : StopsReadying g.D.Disk.gives c.args.slots c.args.due.now c.args.devices.now (slice_set devices disk after) (NotReady disk) = stops in
    err_is (StopsReadying g.D.Disk.gives c.args.slots c.args.due.now c.args.devices.now (slice_set devices disk after)) c.in_err-make_ready.field-0.0 (subst (StopsReadying g.D.Disk.gives c.args.slots c.args.due.now c.args.devices.now (slice_set devices disk after)) (sym c.in_err-make_ready.ensures.fault) is) c.from_residual.result c.from_residual.ensures.1

pub loop-disk-preserved : goal.loop-disk-preserved
loop-disk-preserved g c =
    let devices = c.loop-disk.devices in
    let disk = c.loop-disk.disk in
    let before = get_or devices disk c.index-devices-disk.result in
    let within : disk < length devices = omega (arith, c.loop-disk-test.true, c.loop-disk.invariant.done.as_many) in
    let after = c.make_ready.new.device in
    let at : slice_get devices disk ≡ Some before = slice_get-get_or devices disk c.index-devices-disk.result within in
    let few : disk < length c.args.due.now = omega (arith, c.loop-disk-test.true, c.requires.few, c.told-due) in
    record {
      done = one_more_by (λ disk of old new. IsMadeReady g.D.Disk.gives c.args.slots of old new) c.args.due.now disk c.args.devices.now devices before after _ at few c.in_ok-make_ready.ensures.ready c.loop-disk.invariant.done;
      sizes = devices_stay g.D.Disk.device (λ (d : Device). d.size ≡ size_of c.args.slots) disk devices before after at c.make_ready.ensures.device c.loop-disk.invariant.sizes;
    }

pub returns-clause-ready : goal.returns-clause-ready
returns-clause-ready g c =
    let all : length c.args.devices.now ≡ c.loop-disk.disk = omega (arith, c.loop-disk-test.false, c.loop-disk.invariant.done.as_many) in
    all_became (BecameBy (λ disk of old new. IsMadeReady g.D.Disk.gives c.args.slots of old new) c.args.due.now) c.loop-disk.disk c.args.devices.now c.loop-disk.devices all c.loop-disk.invariant.done
