use Rattle.std.proofs.Common.{refl, [], ◌∷◌}
use Rattle.disk.specs.Disk.{Write, Sync}
use Rattle.torn_block.specs.declared.block.TheConstants.{OPEN_GATE}
use Rattle.folders.specs.Formatting.{OpensGate, nothing, and_then}
use Rattle.folders.proofs.Laying.{fails_in, on_err, or_fails}
use Rattle.log_folders.proofs.layout.put_gate.Goals as goal

pub returns-in_err-write-clause-only : goal.returns-in_err-write-clause-only
returns-in_err-write-clause-only g c = and_then c.args.device.now c.args.device.now c.write.new.self (nothing c.args.device.now) (Write c.args.boot.number 0 (OPEN_GATE ∷ [])) (refl, refl) _ c.in_err-write.ensures.gives

pub returns-clause-only : goal.returns-clause-only
returns-clause-only g c =
    and_then c.args.device.now c.write.new.self c.sync.new.self
    (and_then c.args.device.now c.args.device.now c.write.new.self (nothing c.args.device.now) (Write c.args.boot.number 0 (OPEN_GATE ∷ [])) (refl, refl) _ c.in_ok-write.ensures.gives) (Sync c.args.boot.number) tt _ c.sync.ensures.gives

pub returns-clause-failed : goal.returns-clause-failed
returns-clause-failed g c =
    let written = and_then c.args.device.now c.args.device.now c.write.new.self (nothing c.args.device.now) (Write c.args.boot.number 0 (OPEN_GATE ∷ [])) (refl, refl) _ c.in_ok-write.ensures.gives in
    or_fails g.D.Disk.gives OpensGate c.args.device.now c.write.new.self c.sync.new.self written (Sync c.args.boot.number) tt c.sync.result c.sync.ensures.gives

pub returns-in_err-write-clause-failed : goal.returns-in_err-write-clause-failed
returns-in_err-write-clause-failed g c =
    on_err _ (fails_in g.D.Disk.gives OpensGate c.args.device.now c.args.device.now c.write.new.self (nothing c.args.device.now) (Write c.args.boot.number 0 (OPEN_GATE ∷ [])) (refl, refl) _ c.in_err-write.ensures.gives) c.from_residual.result
