use Rattle.std.proofs.Common.{sym, subst, arith, refl}
use Rattle.torn_block.specs.Layout.{cluster_version}
use Rattle.torn_block.proofs.DamagedRows.{one_more, damaged_are, damaged_in_tells, some_damaged}
use Rattle.heartbeat.specs.Beat.{is_beat}
use Rattle.heartbeat.specs.Damage.{AreDamagedBeats}
use Rattle.heartbeat.proofs.BeatLaws.{beat_decides}
use Rattle.heartbeat.proofs.area.damaged_beats.Goals as goal

pub loop-host-init : goal.loop-host-init
loop-host-init c = record { count = refl; tests = λ k below. absurd (omega arith) }

pub loop-host-preserved : goal.loop-host-preserved
loop-host-preserved c =
    one_more cluster_version (λ host. is_beat) c.args.bytes.now c.loop-host.damaged c.loop-host.host c.is_damaged_block.result c.loop-host.invariant (omega arith) c.is_damaged_block.ensures

pub returns-clause-exact : goal.returns-clause-exact
returns-clause-exact c =
    damaged_are cluster_version (λ host. is_beat) c.args.bytes.now c.loop-host.damaged c.loop-host.invariant.count (λ host below. c.loop-host.invariant.tests host (omega arith))

pub returns-clause-each : goal.returns-clause-each
returns-clause-each c =
    subst (AreDamagedBeats c.args.bytes.now) (sym (returns-clause-exact c)) (damaged_in_tells beat_decides c.args.bytes.now c.told-bytes (λ i. omega (arith, c.fits-bytes i)))

pub returns-clause-area : goal.returns-clause-area
returns-clause-area c = some_damaged c.loop-host.damaged (returns-clause-each c)
