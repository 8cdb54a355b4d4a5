use Rattle.std.proofs.Common.{refl, [], ◌∷◌}
use Rattle.disk.specs.Disk.{Attach, Write, Sync}
use Rattle.torn_block.specs.declared.block.TheConstants.{OPEN_GATE}
use Rattle.folders.specs.Finishing.{OpensFoundGate}
use Rattle.folders.specs.Formatting.{nothing, and_then}
use Rattle.folders.proofs.Laying.{fails_in, on_err, one_call, or_fails}
use Rattle.log_folders.proofs.unfinished.put_found_gate.Goals as goal

pub returns-in_err-boot-clause-failed : goal.returns-in_err-boot-clause-failed
returns-in_err-boot-clause-failed g c =
    on_err _ (fails_in g.D.Disk.gives OpensFoundGate c.args.device.now c.args.device.now c.attach.new.self (nothing c.args.device.now) Attach tt _ c.in_err-boot.ensures.gives) c.from_residual.result

pub returns-in_err-write-clause-failed : goal.returns-in_err-write-clause-failed
returns-in_err-write-clause-failed g c =
    let attached = one_call g.D.Disk.gives OpensFoundGate c.args.device.now c.attach.new.self Attach tt _ c.in_ok-boot.ensures.gives in
    on_err _ (fails_in g.D.Disk.gives OpensFoundGate c.args.device.now c.attach.new.self c.write.new.self attached (Write c.in_ok-boot.boot.number 0 (OPEN_GATE ∷ [])) (refl, refl) _ c.in_err-write.ensures.gives)
    c.from_residual-in_err-write.result

pub returns-clause-failed : goal.returns-clause-failed
returns-clause-failed g c =
    let attached = one_call g.D.Disk.gives OpensFoundGate c.args.device.now c.attach.new.self Attach tt _ c.in_ok-boot.ensures.gives in
    let written = and_then c.args.device.now c.attach.new.self c.write.new.self attached (Write c.in_ok-boot.boot.number 0 (OPEN_GATE ∷ [])) (refl, refl) _ c.in_ok-write.ensures.gives in
    or_fails g.D.Disk.gives OpensFoundGate c.args.device.now c.write.new.self c.sync.new.self written (Sync c.in_ok-boot.boot.number) tt c.sync.result c.sync.ensures.gives
