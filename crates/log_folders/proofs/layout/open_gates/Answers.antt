use Rattle.std.proofs.Common.{◌≡◌, ◌<◌, ◌≤◌, ◌+◌, ℕ, Some, get_or, length, slice_get, slice_set, arith, sym, subst}
use Rattle.disk.specs.Disk.{Device}
use Rattle.folders.specs.Formatting.{AreOpened, EachBecame, EndsInFault, HaveRoom, MakesOnly, OneBecame, OpensGate}
use Rattle.folders.proofs.Laying.{one_more, none_became, same_yet, called, devices_stay, not_opened, one_became, opened_under}
use Rattle.log_folders.proofs.Laying.{at_number}
use Rattle.log_folders.proofs.layout.open_gates.Goals as goal

pub loop-disk-init : goal.loop-disk-init
loop-disk-init g c = record { opened = none_became _ c.args.devices.now; calls = same_yet g.D.Disk.gives (λ (k : ℕ). OpensGate) c.args.devices.now; room = c.requires.large }

pub open_gate-requires : goal.open_gate-requires
open_gate-requires g c =
    let devices = c.loop-disk.devices in
    let within : c.from-in-loop-disk.result < length devices = omega (arith, c.from-in-loop-disk.ensures, c.loop-disk-test.true, c.disks-disk-end.ensures, c.requires.as_many, c.loop-disk.invariant.opened.as_many) in
    c.loop-disk.invariant.room c.loop-disk.disk (get_or devices c.from-in-loop-disk.result c.index-devices-from.result) (at_number devices c.from-in-loop-disk.result c.loop-disk.disk c.index-devices-from.result c.from-in-loop-disk.ensures within)

pub returns-in_err-open_gate-clause-stopped : goal.returns-in_err-open_gate-clause-stopped
returns-in_err-open_gate-clause-stopped g c =
    let devices = c.loop-disk.devices in
    let disk = c.loop-disk.disk in
    let before = get_or devices c.from-in-loop-disk.result c.index-devices-from.result in
    let within : c.from-in-loop-disk.result < length devices = omega (arith, c.from-in-loop-disk.ensures, c.loop-disk-test.true, c.disks-disk-end.ensures, c.requires.as_many, c.loop-disk.invariant.opened.as_many) in
    let at : slice_get devices disk ≡ Some before = at_number devices c.from-in-loop-disk.result disk c.index-devices-from.result c.from-in-loop-disk.ensures within in
    let after = c.open_gate.new.device in
    let below : disk < c.args.set.now.config.disks = omega (arith, c.loop-disk-test.true, c.disks-disk-end.ensures) in
    let made = called g.D.Disk.gives (λ (k : ℕ). OpensGate) disk c.args.devices.now devices before after at c.open_gate.ensures.only c.loop-disk.invariant.calls in
    let one = one_became _ (EndsInFault g.D.Disk.gives OpensGate) disk c.args.devices.now devices before after at c.in_err-open_gate.ensures.failed c.loop-disk.invariant.opened in
    not_opened g.D.Disk.gives c.args.set.now.config c.args.devices.now (slice_set devices c.from-in-loop-disk.result after) disk below
    (subst (λ (n : ℕ). OneBecame (EndsInFault g.D.Disk.gives OpensGate) disk c.args.devices.now (slice_set devices n after)) (sym c.from-in-loop-disk.ensures) one)
    (subst (λ (n : ℕ). EachBecame (λ disk old new. MakesOnly g.D.Disk.gives OpensGate old new) c.args.devices.now (slice_set devices n after)) (sym c.from-in-loop-disk.ensures) made)
    c.in_err-open_gate.field-0.0 c.in_err-open_gate.ensures.fault c.from_residual.result c.from_residual.ensures.1

pub loop-disk-preserved : goal.loop-disk-preserved
loop-disk-preserved g c =
    let devices = c.loop-disk.devices in
    let disk = c.loop-disk.disk in
    let before = get_or devices c.from-in-loop-disk.result c.index-devices-from.result in
    let within : c.from-in-loop-disk.result < length devices = omega (arith, c.from-in-loop-disk.ensures, c.loop-disk-test.true, c.disks-disk-end.ensures, c.requires.as_many, c.loop-disk.invariant.opened.as_many) in
    let at : slice_get devices disk ≡ Some before = at_number devices c.from-in-loop-disk.result disk c.index-devices-from.result c.from-in-loop-disk.ensures within in
    let boots = c.args.boots.now in
    let after = c.open_gate.new.device in
    let few : c.from.result < length boots = omega (arith, c.from.ensures, c.loop-disk-test.true, c.disks-disk-end.ensures, c.told-boots) in
    let under = opened_under g.D.Disk.gives boots disk c.from.result _ before after few c.from.ensures c.in_ok-open_gate.ensures.opened in
    let opened = one_more _ disk c.args.devices.now devices before after at under c.loop-disk.invariant.opened in
    let calls = called g.D.Disk.gives (λ (k : ℕ). OpensGate) disk c.args.devices.now devices before after at c.open_gate.ensures.only c.loop-disk.invariant.calls in
    let room = devices_stay g.D.Disk.device (λ (d : Device). 1 ≤ d.size) disk devices before after at c.open_gate.ensures.device c.loop-disk.invariant.room in
    record {
      opened = subst (λ (n : ℕ). AreOpened g.D.Disk.gives boots (disk + 1) c.args.devices.now (slice_set devices n after)) (sym c.from-in-loop-disk.ensures) opened;
      calls = subst (λ (n : ℕ). EachBecame (λ disk old new. MakesOnly g.D.Disk.gives OpensGate old new) c.args.devices.now (slice_set devices n after)) (sym c.from-in-loop-disk.ensures) calls;
      room = subst (λ (n : ℕ). HaveRoom g.D.Disk.device 1 (slice_set devices n after)) (sym c.from-in-loop-disk.ensures) room;
    }
