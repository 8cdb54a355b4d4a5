use Rattle.std.proofs.Common.{◌≡◌, ◌∙◌, ◌<◌, ◌≤◌, ◌+◌, ℕ, Some, get_or, length, slice_get, slice_set, arith, refl, sym, subst}
use Rattle.std.proofs.lemmas.List.{length-set}
use Rattle.disk.specs.Disk.{Device}
use Rattle.folders.specs.Formatting.{EachBecame, EndsInFault, HaveRoom, MakesOnly, OneBecame}
use Rattle.folders.proofs.Laying.{none_became, same_yet, called, devices_stay, one_became}
use Rattle.log_folders.specs.Formatting.{AreClosed, OpensNoGate}
use Rattle.log_folders.specs.NewSets.{header_for, size_for}
use Rattle.log_folders.proofs.Laying.{at_number, not_whole, one_more_closed}
use Rattle.log_folders.proofs.layout.write_images.Goals as goal

pub loop-disk-init : goal.loop-disk-init
loop-disk-init g c = record { boots = refl; closed = none_became _ c.args.devices.now; calls = same_yet g.D.Disk.gives (λ (k : ℕ). OpensNoGate (header_for c.args.set.now k)) c.args.devices.now; room = c.requires.large }

pub write_image-requires-clause-large : goal.write_image-requires-clause-large
write_image-requires-clause-large g c =
    let devices = c.loop-disk.devices in
    let within : c.from.result < length devices = omega (arith, c.from.ensures, c.loop-disk-test.true, c.disks-disk-end.ensures, c.requires.as_many, c.loop-disk.invariant.closed.as_many) in
    c.loop-disk.invariant.room c.loop-disk.disk (get_or devices c.from.result c.index-devices-from.result) (at_number devices c.from.result c.loop-disk.disk c.index-devices-from.result c.from.ensures within)

pub returns-in_err-boot-clause-stopped : goal.returns-in_err-boot-clause-stopped
returns-in_err-boot-clause-stopped g c =
    let devices = c.loop-disk.devices in
    let disk = c.loop-disk.disk in
    let before = get_or devices c.from.result c.index-devices-from.result in
    let within : c.from.result < length devices = omega (arith, c.from.ensures, c.loop-disk-test.true, c.disks-disk-end.ensures, c.requires.as_many, c.loop-disk.invariant.closed.as_many) in
    let at : slice_get devices disk ≡ Some before = at_number devices c.from.result disk c.index-devices-from.result c.from.ensures within in
    let after = c.write_image.new.device in
    let below : disk < c.args.set.now.config.disks = omega (arith, c.loop-disk-test.true, c.disks-disk-end.ensures) in
    let made = called g.D.Disk.gives (λ (k : ℕ). OpensNoGate (header_for c.args.set.now k)) disk c.args.devices.now devices before after at c.write_image.ensures.closed c.loop-disk.invariant.calls in
    let header = header_for c.args.set.now disk in
    let one = one_became _ (EndsInFault g.D.Disk.gives (OpensNoGate header)) disk c.args.devices.now devices before after at c.in_err-boot.ensures.failed c.loop-disk.invariant.closed in
    not_whole g.D.Disk.gives c.args.set.now c.args.devices.now (slice_set devices c.from.result after) disk below
    (subst (λ (n : ℕ). OneBecame (EndsInFault g.D.Disk.gives (OpensNoGate header)) disk c.args.devices.now (slice_set devices n after)) (sym c.from.ensures) one)
    (subst (λ (n : ℕ). EachBecame (λ disk old new. MakesOnly g.D.Disk.gives (OpensNoGate (header_for c.args.set.now disk)) old new) c.args.devices.now (slice_set devices n after)) (sym c.from.ensures) made)
    c.in_err-boot.field-0.0 c.in_err-boot.ensures.fault c.from_residual.result c.from_residual.ensures.1

pub loop-disk-preserved : goal.loop-disk-preserved
loop-disk-preserved g c =
    let devices = c.loop-disk.devices in
    let disk = c.loop-disk.disk in
    let before = get_or devices c.from.result c.index-devices-from.result in
    let within : c.from.result < length devices = omega (arith, c.from.ensures, c.loop-disk-test.true, c.disks-disk-end.ensures, c.requires.as_many, c.loop-disk.invariant.closed.as_many) in
    let at : slice_get devices disk ≡ Some before = at_number devices c.from.result disk c.index-devices-from.result c.from.ensures within in
    let boots = c.loop-disk.boots in
    let boot = c.in_ok-boot.boot in
    let after = c.write_image.new.device in
    let few : disk < length boots = omega (arith, c.from-in-loop-disk.ensures, c.loop-disk-test.true, c.disks-disk-end.ensures, c.loop-disk.invariant.boots) in
    let closed = one_more_closed g.D.Disk.gives c.args.set.now boots disk c.args.devices.now devices before after boot at few c.in_ok-boot.ensures.whole c.loop-disk.invariant.closed in
    let calls = called g.D.Disk.gives (λ (k : ℕ). OpensNoGate (header_for c.args.set.now k)) disk c.args.devices.now devices before after at c.write_image.ensures.closed c.loop-disk.invariant.calls in
    let room = devices_stay g.D.Disk.device (λ (d : Device). size_for c.args.set.now ≤ d.size) disk devices before after at c.write_image.ensures.device c.loop-disk.invariant.room in
    record {
      boots = length-set boots c.from-in-loop-disk.result boot ∙ c.loop-disk.invariant.boots;
      closed = subst (λ (m : ℕ). AreClosed g.D.Disk.gives c.args.set.now (slice_set boots m boot) (disk + 1) c.args.devices.now (slice_set devices c.from.result after)) (sym c.from-in-loop-disk.ensures)
          (subst (λ (n : ℕ). AreClosed g.D.Disk.gives c.args.set.now (slice_set boots disk boot) (disk + 1) c.args.devices.now (slice_set devices n after)) (sym c.from.ensures) closed);
      calls = subst (λ (n : ℕ). EachBecame (λ disk old new. MakesOnly g.D.Disk.gives (OpensNoGate (header_for c.args.set.now disk)) old new) c.args.devices.now (slice_set devices n after)) (sym c.from.ensures) calls;
      room = subst (λ (n : ℕ). HaveRoom g.D.Disk.device (size_for c.args.set.now) (slice_set devices n after)) (sym c.from.ensures) room;
    }
