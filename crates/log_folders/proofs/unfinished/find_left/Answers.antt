use Rattle.std.proofs.Common.{rules, ◌≡◌, ◌∙◌, ◌≤◌, arith, sym, slice_index, slice_set}
use Rattle.attempt.specs.Looking.{OnlyReads}
use Rattle.torn_block.specs.declared.block.TheConstants.{OPEN_GATE}
use Rattle.torn_block.specs.declared.layout.TheConstants.{HEADER_LENGTH}
use Rattle.folders.proofs.Laying.{opened_already, together}
use Rattle.folders.proofs.OnlyReading.{asked_first}
use Rattle.log_folders.specs.Finishing.{IsClosedHeader, in_use}
use Rattle.log_folders.specs.NewSets.{header_for, size_for}
use Rattle.log_folders.proofs.NewSets.{room_for_header}
use Rattle.log_folders.proofs.OnlyReading.{told_another, told_none}
use Rattle.log_folders.proofs.unfinished.find_left.Goals as goal

pub returns-in_default-clause-read : goal.returns-in_default-clause-read
returns-in_default-clause-read g c =
    let large : HEADER_LENGTH ≤ (g.D.Disk.device c.args.device.now).size = omega (arith, c.requires.size, room_for_header c.args.set.now) in
    asked_first g.D.Disk.gives c.args.device.now c.first_bytes.new.device _ _ large c.first_bytes.result c.first_bytes.ensures.told c.first_bytes.ensures.fault

pub returns-then-ne-clause-read : goal.returns-then-ne-clause-read
returns-then-ne-clause-read g c =
    let large : HEADER_LENGTH ≤ (g.D.Disk.device c.args.device.now).size = omega (arith, c.requires.size, room_for_header c.args.set.now) in
    asked_first g.D.Disk.gives c.args.device.now c.first_bytes.new.device _ _ large c.first_bytes.result c.first_bytes.ensures.told c.first_bytes.ensures.fault

pub returns-then-gate-clause-read : goal.returns-then-gate-clause-read
returns-then-gate-clause-read g c =
    let large : HEADER_LENGTH ≤ (g.D.Disk.device c.args.device.now).size = omega (arith, c.requires.size, room_for_header c.args.set.now) in
    asked_first g.D.Disk.gives c.args.device.now c.first_bytes.new.device _ _ large c.first_bytes.result c.first_bytes.ensures.told c.first_bytes.ensures.fault

pub returns-then-gate-clause-found : goal.returns-then-gate-clause-found
returns-then-gate-clause-found g c =
    let large : HEADER_LENGTH ≤ (g.D.Disk.device c.args.device.now).size = omega (arith, c.requires.size, room_for_header c.args.set.now) in
    let gate : slice_index c.in-Ok.bytes 0 ≡ OPEN_GATE = search rules in
    let right : slice_set c.in-Ok.bytes 0 OPEN_GATE ≡ header_for c.args.set.now c.args.disk = search rules in
    (c.in-Ok.bytes, c.in-Ok.ensures.told large, sym (opened_already c.in-Ok.bytes gate) ∙ right)

pub returns-in-Ok-true-clause-read : goal.returns-in-Ok-true-clause-read
returns-in-Ok-true-clause-read g c =
    let large : HEADER_LENGTH ≤ (g.D.Disk.device c.args.device.now).size = omega (arith, c.requires.size, room_for_header c.args.set.now) in
    let first = asked_first g.D.Disk.gives c.args.device.now c.first_bytes.new.device _ _ large c.first_bytes.result c.first_bytes.ensures.told c.first_bytes.ensures.fault in
    together g.D.Disk.gives OnlyReads c.args.device.now c.first_bytes.new.device c.holds_nothing.new.device first c.holds_nothing.ensures.read

pub returns-in_default-holds_nothing-clause-read : goal.returns-in_default-holds_nothing-clause-read
returns-in_default-holds_nothing-clause-read g c =
    let large : HEADER_LENGTH ≤ (g.D.Disk.device c.args.device.now).size = omega (arith, c.requires.size, room_for_header c.args.set.now) in
    let first = asked_first g.D.Disk.gives c.args.device.now c.first_bytes.new.device _ _ large c.first_bytes.result c.first_bytes.ensures.told c.first_bytes.ensures.fault in
    together g.D.Disk.gives OnlyReads c.args.device.now c.first_bytes.new.device c.holds_nothing.new.device first c.holds_nothing.ensures.read

pub returns-in_default-holds_nothing-2-clause-read : goal.returns-in_default-holds_nothing-2-clause-read
returns-in_default-holds_nothing-2-clause-read g c =
    let large : HEADER_LENGTH ≤ (g.D.Disk.device c.args.device.now).size = omega (arith, c.requires.size, room_for_header c.args.set.now) in
    let first = asked_first g.D.Disk.gives c.args.device.now c.first_bytes.new.device _ _ large c.first_bytes.result c.first_bytes.ensures.told c.first_bytes.ensures.fault in
    together g.D.Disk.gives OnlyReads c.args.device.now c.first_bytes.new.device c.holds_nothing.new.device first c.holds_nothing.ensures.read

pub returns-in_default-clause-found : goal.returns-in_default-clause-found
returns-in_default-clause-found g c =
    told_none g.D.Disk.gives (size_for c.args.set.now) (header_for c.args.set.now c.args.disk) c.args.device.now c.first_bytes.new.device
    (g.D.Disk.device c.args.device.now).size c.requires.size c.first_bytes.result c.in_default.not-Ok c.first_bytes.ensures.fault

pub returns-then-ne-clause-found : goal.returns-then-ne-clause-found
returns-then-ne-clause-found g c =
    let large : HEADER_LENGTH ≤ (g.D.Disk.device c.args.device.now).size = omega (arith, c.requires.size, room_for_header c.args.set.now) in
    told_another g.D.Disk.gives (size_for c.args.set.now) (header_for c.args.set.now c.args.disk) c.args.device.now c.first_bytes.new.device
    c.in-Ok.bytes c.first_bytes-2.result (c.in-Ok.ensures.told large) c.first_bytes-2.ensures (sym c.ne.ensures ∙ c.if-ne.true)

pub returns-in_default-holds_nothing-clause-found : goal.returns-in_default-holds_nothing-clause-found
returns-in_default-holds_nothing-clause-found g c =
    let large : HEADER_LENGTH ≤ (g.D.Disk.device c.args.device.now).size = omega (arith, c.requires.size, room_for_header c.args.set.now) in
    let closed : IsClosedHeader (header_for c.args.set.now c.args.disk) c.in-Ok.bytes = record { closed = search rules; right = search rules } in
    in_use c.in-Ok.bytes c.first_bytes.new.device (c.in-Ok.ensures.told large) closed (c.in_default-holds_nothing.ensures.more (search rules))

pub returns-in_default-holds_nothing-2-clause-found : goal.returns-in_default-holds_nothing-2-clause-found
returns-in_default-holds_nothing-2-clause-found g c =
    let large : HEADER_LENGTH ≤ (g.D.Disk.device c.args.device.now).size = omega (arith, c.requires.size, room_for_header c.args.set.now) in
    let closed : IsClosedHeader (header_for c.args.set.now c.args.disk) c.in-Ok.bytes = record { closed = search rules; right = search rules } in
    in_use c.in-Ok.bytes c.first_bytes.new.device (c.in-Ok.ensures.told large) closed c.in_default-holds_nothing.ensures.failed
