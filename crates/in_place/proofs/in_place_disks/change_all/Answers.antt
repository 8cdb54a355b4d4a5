use Rattle.std.proofs.Common.{◌≡◌, ◌<◌, ◌≤◌, Some, arith, get_or, length, slice_get, slice_set, subst, sym}
use Rattle.std.proofs.lemmas.Option.{slice_get-get_or}
use Rattle.disk.specs.Disk.{Device}
use Rattle.disk.specs.declared.fault.DiskFault.{DiskFault}
use Rattle.torn_block.specs.declared.layout.TheConstants.{HEADER_LENGTH}
use Rattle.endless_image.specs.InPlace.{AllDone, StopsBy}
use Rattle.folders.proofs.Laying.{all_became, devices_stay, none_became}
use Rattle.in_place.specs.InPlaceImages.{BecameBy, StopsChanging, calls_of}
use Rattle.in_place.specs.declared.in_place_disk.MakeFault.TheVariants.{NotMade}
use Rattle.in_place.proofs.InPlaceDisks.{err_is, one_more_by, stops_by}
use Rattle.in_place.proofs.in_place_disks.change_all.Goals as goal

pub loop-disk-init : goal.loop-disk-init
loop-disk-init g c = record { done = none_became _ c.args.devices.now; large = c.requires.large }

pub change_header-requires : goal.change_header-requires
change_header-requires g c =
    let devices = c.loop-disk.devices in
    let disk = c.loop-disk.disk in
    let before = get_or devices disk c.index-devices-disk.result in
    let within : disk < length devices = omega (arith, c.loop-disk-test.true, c.loop-disk.invariant.done.as_many) in
    c.loop-disk.invariant.large disk before (slice_get-get_or devices disk c.index-devices-disk.result within)

pub returns-in_err-change_header-clause-stopped : goal.returns-in_err-change_header-clause-stopped
returns-in_err-change_header-clause-stopped g c =
    let devices = c.loop-disk.devices in
    let disk = c.loop-disk.disk in
    let before = get_or devices disk c.index-devices-disk.result in
    let within : disk < length devices = omega (arith, c.loop-disk-test.true, c.loop-disk.invariant.done.as_many) in
    let after = c.change_header.new.device in
    let at : slice_get devices disk ≡ Some before = slice_get-get_or devices disk c.index-devices-disk.result within in
    let few : disk < length c.args.due.now = omega (arith, c.loop-disk-test.true, c.requires.few, c.told-due) in
    let stops = stops_by (λ disk of old new. AllDone g.D.Disk.gives (calls_of of) old new) (λ disk of old new. (fault : DiskFault) × StopsBy g.D.Disk.gives (calls_of of) fault old new) c.args.due.now disk c.args.devices.now devices before after _ within at few c.in_err-change_header.ensures.failed c.loop-disk.invariant.done in
    let is : StopsChanging g.D.Disk.gives c.args.due.now c.args.devices.now (slice_set devices disk after) (NotMade disk) = stops in
    err_is (StopsChanging g.D.Disk.gives c.args.due.now c.args.devices.now (slice_set devices disk after)) c.in_err-change_header.field-0.0 (subst (StopsChanging g.D.Disk.gives c.args.due.now c.args.devices.now (slice_set devices disk after)) (sym c.in_err-change_header.ensures.fault) is) c.from_residual.result c.from_residual.ensures.1

pub loop-disk-preserved : goal.loop-disk-preserved
loop-disk-preserved g c =
    let devices = c.loop-disk.devices in
    let disk = c.loop-disk.disk in
    let before = get_or devices disk c.index-devices-disk.result in
    let within : disk < length devices = omega (arith, c.loop-disk-test.true, c.loop-disk.invariant.done.as_many) in
    let after = c.change_header.new.device in
    let at : slice_get devices disk ≡ Some before = slice_get-get_or devices disk c.index-devices-disk.result within in
    let few : disk < length c.args.due.now = omega (arith, c.loop-disk-test.true, c.requires.few, c.told-due) in
    record {
      done = one_more_by (λ disk of old new. AllDone g.D.Disk.gives (calls_of of) old new) c.args.due.now disk c.args.devices.now devices before after _ at few c.in_ok-change_header.ensures.changed c.loop-disk.invariant.done;
      large = devices_stay g.D.Disk.device (λ (d : Device). HEADER_LENGTH ≤ d.size) disk devices before after at c.change_header.ensures.device c.loop-disk.invariant.large;
    }

pub returns-clause-changed : goal.returns-clause-changed
returns-clause-changed g c =
    let all : length c.args.devices.now ≡ c.loop-disk.disk = omega (arith, c.loop-disk-test.false, c.loop-disk.invariant.done.as_many) in
    all_became (BecameBy (λ disk of old new. AllDone g.D.Disk.gives (calls_of of) old new) c.args.due.now) c.loop-disk.disk c.args.devices.now c.loop-disk.devices all c.loop-disk.invariant.done
