use Rattle.std.proofs.Common.{refl, inr}
use Rattle.disk.specs.Disk.{Attach, Sync}
use Rattle.folders.specs.Formatting.{nothing, and_then}
use Rattle.folders.proofs.Laying.{fails_after, fails_in, on_err, one_call, together}
use Rattle.log_folders.specs.Formatting.{OpensNoGate}
use Rattle.log_folders.specs.NewSets.{header_for}
use Rattle.log_folders.proofs.NewSets.{closing}
use Rattle.log_folders.proofs.layout.put_closed.Goals as goal

pub returns-in_err-boot-clause-closed : goal.returns-in_err-boot-clause-closed
returns-in_err-boot-clause-closed g c = one_call g.D.Disk.gives (OpensNoGate (header_for c.args.set.now c.args.disk)) c.args.device.now c.attach.new.self Attach tt _ c.in_err-boot.ensures.gives

pub returns-in_err-put_zeros-clause-closed : goal.returns-in_err-put_zeros-clause-closed
returns-in_err-put_zeros-clause-closed g c =
    let header = header_for c.args.set.now c.args.disk in
    let attached = one_call g.D.Disk.gives (OpensNoGate header) c.args.device.now c.attach.new.self Attach tt _ c.in_ok-boot.ensures.gives in
    together g.D.Disk.gives (OpensNoGate header) c.args.device.now c.attach.new.self c.put_zeros.new.device attached (c.put_zeros.ensures.closed header)

pub returns-in_err-sync-clause-closed : goal.returns-in_err-sync-clause-closed
returns-in_err-sync-clause-closed g c =
    let header = header_for c.args.set.now c.args.disk in
    let attached = one_call g.D.Disk.gives (OpensNoGate header) c.args.device.now c.attach.new.self Attach tt _ c.in_ok-boot.ensures.gives in
    let zeroed = together g.D.Disk.gives (OpensNoGate header) c.args.device.now c.attach.new.self c.put_zeros.new.device attached (c.put_zeros.ensures.closed header) in
    and_then c.args.device.now c.put_zeros.new.device c.sync.new.self zeroed (Sync c.in_ok-boot.boot.number) tt _ c.in_err-sync.ensures.gives

pub returns-in_err-write-clause-closed : goal.returns-in_err-write-clause-closed
returns-in_err-write-clause-closed g c =
    let header = header_for c.args.set.now c.args.disk in
    let attached = one_call g.D.Disk.gives (OpensNoGate header) c.args.device.now c.attach.new.self Attach tt _ c.in_ok-boot.ensures.gives in
    let zeroed = together g.D.Disk.gives (OpensNoGate header) c.args.device.now c.attach.new.self c.put_zeros.new.device attached (c.put_zeros.ensures.closed header) in
    let synced = and_then c.args.device.now c.put_zeros.new.device c.sync.new.self zeroed (Sync c.in_ok-boot.boot.number) tt _ c.in_ok-sync.ensures.gives in
    let says = closing c.args.set.now c.args.disk c.first_bytes-bytes.result c.first_bytes-bytes.ensures in
    and_then c.args.device.now c.sync.new.self c.write.new.self synced _ (inr (refl, says)) _ c.in_err-write.ensures.gives

pub returns-in_err-sync-2-clause-closed : goal.returns-in_err-sync-2-clause-closed
returns-in_err-sync-2-clause-closed g c =
    let header = header_for c.args.set.now c.args.disk in
    let attached = one_call g.D.Disk.gives (OpensNoGate header) c.args.device.now c.attach.new.self Attach tt _ c.in_ok-boot.ensures.gives in
    let zeroed = together g.D.Disk.gives (OpensNoGate header) c.args.device.now c.attach.new.self c.put_zeros.new.device attached (c.put_zeros.ensures.closed header) in
    let synced = and_then c.args.device.now c.put_zeros.new.device c.sync.new.self zeroed (Sync c.in_ok-boot.boot.number) tt _ c.in_ok-sync.ensures.gives in
    let says = closing c.args.set.now c.args.disk c.first_bytes-bytes.result c.first_bytes-bytes.ensures in
    let written = and_then c.args.device.now c.sync.new.self c.write.new.self synced _ (inr (refl, says)) _ c.in_ok-write.ensures.gives in
    and_then c.args.device.now c.write.new.self c.sync-2.new.self written (Sync c.in_ok-boot.boot.number) tt _ c.in_err-sync-2.ensures.gives

pub returns-clause-closed : goal.returns-clause-closed
returns-clause-closed g c =
    let header = header_for c.args.set.now c.args.disk in
    let attached = one_call g.D.Disk.gives (OpensNoGate header) c.args.device.now c.attach.new.self Attach tt _ c.in_ok-boot.ensures.gives in
    let zeroed = together g.D.Disk.gives (OpensNoGate header) c.args.device.now c.attach.new.self c.put_zeros.new.device attached (c.put_zeros.ensures.closed header) in
    let synced = and_then c.args.device.now c.put_zeros.new.device c.sync.new.self zeroed (Sync c.in_ok-boot.boot.number) tt _ c.in_ok-sync.ensures.gives in
    let says = closing c.args.set.now c.args.disk c.first_bytes-bytes.result c.first_bytes-bytes.ensures in
    let written = and_then c.args.device.now c.sync.new.self c.write.new.self synced _ (inr (refl, says)) _ c.in_ok-write.ensures.gives in
    and_then c.args.device.now c.write.new.self c.sync-2.new.self written (Sync c.in_ok-boot.boot.number) tt _ c.in_ok-sync-2.ensures.gives

pub returns-in_err-boot-clause-failed : goal.returns-in_err-boot-clause-failed
returns-in_err-boot-clause-failed g c =
    let header = header_for c.args.set.now c.args.disk in
    on_err _
    (fails_in g.D.Disk.gives (OpensNoGate header) c.args.device.now c.args.device.now c.attach.new.self (nothing c.args.device.now) Attach tt _ c.in_err-boot.ensures.gives)
    c.from_residual.result

pub returns-in_err-put_zeros-clause-failed : goal.returns-in_err-put_zeros-clause-failed
returns-in_err-put_zeros-clause-failed g c =
    let header = header_for c.args.set.now c.args.disk in
    let attached = one_call g.D.Disk.gives (OpensNoGate header) c.args.device.now c.attach.new.self Attach tt _ c.in_ok-boot.ensures.gives in
    on_err _
    (fails_after g.D.Disk.gives (OpensNoGate header) c.args.device.now c.attach.new.self c.put_zeros.new.device attached (c.in_err-put_zeros.ensures.failed header))
    c.from_residual-in_err-put_zeros.result

pub returns-in_err-sync-clause-failed : goal.returns-in_err-sync-clause-failed
returns-in_err-sync-clause-failed g c =
    let header = header_for c.args.set.now c.args.disk in
    let attached = one_call g.D.Disk.gives (OpensNoGate header) c.args.device.now c.attach.new.self Attach tt _ c.in_ok-boot.ensures.gives in
    let zeroed = together g.D.Disk.gives (OpensNoGate header) c.args.device.now c.attach.new.self c.put_zeros.new.device attached (c.put_zeros.ensures.closed header) in
    on_err _
    (fails_in g.D.Disk.gives (OpensNoGate header) c.args.device.now c.put_zeros.new.device c.sync.new.self zeroed (Sync c.in_ok-boot.boot.number) tt _ c.in_err-sync.ensures.gives)
    c.from_residual-in_err-sync.result

pub returns-in_err-write-clause-failed : goal.returns-in_err-write-clause-failed
returns-in_err-write-clause-failed g c =
    let header = header_for c.args.set.now c.args.disk in
    let attached = one_call g.D.Disk.gives (OpensNoGate header) c.args.device.now c.attach.new.self Attach tt _ c.in_ok-boot.ensures.gives in
    let zeroed = together g.D.Disk.gives (OpensNoGate header) c.args.device.now c.attach.new.self c.put_zeros.new.device attached (c.put_zeros.ensures.closed header) in
    let synced = and_then c.args.device.now c.put_zeros.new.device c.sync.new.self zeroed (Sync c.in_ok-boot.boot.number) tt _ c.in_ok-sync.ensures.gives in
    let says = closing c.args.set.now c.args.disk c.first_bytes-bytes.result c.first_bytes-bytes.ensures in
    on_err _
    (fails_in g.D.Disk.gives (OpensNoGate header) c.args.device.now c.sync.new.self c.write.new.self synced _ (inr (refl, says)) _ c.in_err-write.ensures.gives)
    c.from_residual-in_err-write.result

pub returns-in_err-sync-2-clause-failed : goal.returns-in_err-sync-2-clause-failed
returns-in_err-sync-2-clause-failed g c =
    let header = header_for c.args.set.now c.args.disk in
    let attached = one_call g.D.Disk.gives (OpensNoGate header) c.args.device.now c.attach.new.self Attach tt _ c.in_ok-boot.ensures.gives in
    let zeroed = together g.D.Disk.gives (OpensNoGate header) c.args.device.now c.attach.new.self c.put_zeros.new.device attached (c.put_zeros.ensures.closed header) in
    let synced = and_then c.args.device.now c.put_zeros.new.device c.sync.new.self zeroed (Sync c.in_ok-boot.boot.number) tt _ c.in_ok-sync.ensures.gives in
    let says = closing c.args.set.now c.args.disk c.first_bytes-bytes.result c.first_bytes-bytes.ensures in
    let written = and_then c.args.device.now c.sync.new.self c.write.new.self synced _ (inr (refl, says)) _ c.in_ok-write.ensures.gives in
    on_err _
    (fails_in g.D.Disk.gives (OpensNoGate header) c.args.device.now c.write.new.self c.sync-2.new.self written (Sync c.in_ok-boot.boot.number) tt _ c.in_err-sync-2.ensures.gives)
    c.from_residual-in_err-sync-2.result
