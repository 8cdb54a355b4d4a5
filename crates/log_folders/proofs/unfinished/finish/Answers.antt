use Rattle.std.proofs.Common.{rules, ◌≡◌, ◌≤◌, ◌<◌, ◌+◌, ℕ, Some, arith, get_or, length, slice_get, slice_set, subst, sym}
use Rattle.disk.specs.Disk.{Device}
use Rattle.folders.specs.Finishing.{OpensFound, OpensFoundGate}
use Rattle.folders.specs.Formatting.{EachBecame, EndsInFault, FirstBecame, HaveRoom, MakesOnly, OneBecame}
use Rattle.folders.proofs.Finishing.{calls_until}
use Rattle.folders.proofs.Laying.{devices_stay, none_became, one_became, one_more}
use Rattle.log_folders.specs.NewSets.{size_for}
use Rattle.log_folders.proofs.Finishing.{finished, not_finished}
use Rattle.log_folders.proofs.Laying.{at_number}
use Rattle.log_folders.proofs.NewSets.{room_for_gate, sizes_are_room}
use Rattle.log_folders.proofs.unfinished.finish.Goals as goal

pub loop-disk-init : goal.loop-disk-init
loop-disk-init g c = record {
  opened = none_became _ c.are_left.new.devices;
  room = room_for_gate g.D.Disk.device c.args.set.now c.are_left.new.devices (sizes_are_room g.D.Disk.device (size_for c.args.set.now) c.are_left.new.devices c.are_left.ensures.sizes);
}

pub open_found_gate-requires : goal.open_found_gate-requires
open_found_gate-requires g c =
    let devices = c.loop-disk.devices in
    let within : c.from.result < length devices = omega (arith, c.from.ensures, c.loop-disk-test.true, c.disks-disk-end.ensures, c.requires.as_many, c.are_left.ensures.as_many, c.loop-disk.invariant.opened.as_many) in
    c.loop-disk.invariant.room c.loop-disk.disk (get_or devices c.from.result c.index-devices-from.result) (at_number devices c.from.result c.loop-disk.disk c.index-devices-from.result c.from.ensures within)

pub returns-in_err-open_found_gate-clause-stopped : goal.returns-in_err-open_found_gate-clause-stopped
returns-in_err-open_found_gate-clause-stopped g c =
    let devices = c.loop-disk.devices in
    let disk = c.loop-disk.disk in
    let before = get_or devices c.from.result c.index-devices-from.result in
    let within : c.from.result < length devices = omega (arith, c.from.ensures, c.loop-disk-test.true, c.disks-disk-end.ensures, c.requires.as_many, c.are_left.ensures.as_many, c.loop-disk.invariant.opened.as_many) in
    let at : slice_get devices disk ≡ Some before = at_number devices c.from.result disk c.index-devices-from.result c.from.ensures within in
    let after = c.open_found_gate.new.device in
    let below : disk < c.args.set.now.config.disks = omega (arith, c.loop-disk-test.true, c.disks-disk-end.ensures) in
    let failed = c.in_err-open_found_gate.ensures.failed in
    let one = one_became (λ (k : ℕ) old new. OpensFound g.D.Disk.gives old new) (EndsInFault g.D.Disk.gives OpensFoundGate) disk c.are_left.new.devices devices before after at failed c.loop-disk.invariant.opened in
    let made = calls_until g.D.Disk.gives disk c.are_left.new.devices devices before after at failed c.loop-disk.invariant.opened in
    not_finished g.D.Disk.gives c.args.set.now c.args.devices.now c.are_left.new.devices (slice_set devices c.from.result after) disk below (c.are_left.ensures.left (search rules))
    (subst (λ (n : ℕ). OneBecame (EndsInFault g.D.Disk.gives OpensFoundGate) disk c.are_left.new.devices (slice_set devices n after)) (sym c.from.ensures) one)
    (subst (λ (n : ℕ). EachBecame (λ disk old new. MakesOnly g.D.Disk.gives OpensFoundGate old new) c.are_left.new.devices (slice_set devices n after)) (sym c.from.ensures) made)
    c.in_err-open_found_gate.field-0.0 c.in_err-open_found_gate.ensures.fault c.from_residual.result c.from_residual.ensures.1

pub loop-disk-preserved : goal.loop-disk-preserved
loop-disk-preserved g c =
    let devices = c.loop-disk.devices in
    let disk = c.loop-disk.disk in
    let before = get_or devices c.from.result c.index-devices-from.result in
    let within : c.from.result < length devices = omega (arith, c.from.ensures, c.loop-disk-test.true, c.disks-disk-end.ensures, c.requires.as_many, c.are_left.ensures.as_many, c.loop-disk.invariant.opened.as_many) in
    let at : slice_get devices disk ≡ Some before = at_number devices c.from.result disk c.index-devices-from.result c.from.ensures within in
    let after = c.open_found_gate.new.device in
    let opened = one_more (λ (k : ℕ) old new. OpensFound g.D.Disk.gives old new) disk c.are_left.new.devices devices before after at c.in_ok-open_found_gate.ensures.opened c.loop-disk.invariant.opened in
    let room = devices_stay g.D.Disk.device (λ (d : Device). 1 ≤ d.size) disk devices before after at c.open_found_gate.ensures.device c.loop-disk.invariant.room in
    record {
      opened = subst (λ (n : ℕ). FirstBecame (λ disk old new. OpensFound g.D.Disk.gives old new) (disk + 1) c.are_left.new.devices (slice_set devices n after)) (sym c.from.ensures) opened;
      room = subst (λ (n : ℕ). HaveRoom g.D.Disk.device 1 (slice_set devices n after)) (sym c.from.ensures) room;
    }

pub returns-clause-finished : goal.returns-clause-finished
returns-clause-finished g c = λ done.
    let ended : c.loop-disk.disk ≡ c.args.set.now.config.disks = search rules in
    finished g.D.Disk.gives c.args.set.now c.args.devices.now c.are_left.new.devices c.loop-disk.devices c.requires.as_many (c.are_left.ensures.left (search rules))
    (subst (λ (n : ℕ). FirstBecame (λ disk old new. OpensFound g.D.Disk.gives old new) n c.are_left.new.devices c.loop-disk.devices) ended c.loop-disk.invariant.opened)
