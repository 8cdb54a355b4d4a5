use Rattle.std.proofs.Common.{arith, refl}
use Rattle.log_folders.proofs.Insiders.{one_had}
use Rattle.log_folders.proofs.inside.having.Goals as goal

pub loop-host-init : goal.loop-host-init
loop-host-init c = record { count = refl; each = λ host below. absurd (omega (arith, below)) }

pub loop-host-preserved : goal.loop-host-preserved
loop-host-preserved c = one_had c.args.numbers.now c.args.number c.loop-host.having c.loop-host.host (omega arith) c.loop-host.invariant

pub returns : goal.returns
returns c = λ host below. c.loop-host.invariant.each host (omega (arith, below))
