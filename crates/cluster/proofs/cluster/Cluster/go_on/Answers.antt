use Rattle.std.proofs.Common.{rules, ◌≡◌, false}
use Rattle.host.specs.Host.{idles}
use Rattle.cluster.specs.Seat.{host_in}
use Rattle.cluster.proofs.Goes.{more}
use Rattle.cluster.proofs.Operating.{stops}
use Rattle.cluster.proofs.cluster.Cluster.go_on.Goals as goal

pub loop-turn-preserved : goal.loop-turn-preserved
loop-turn-preserved g c = more g.N.ClusterName.shape c.args.seat.now c.loop-turn.seat c.step.new.seat c.loop-turn.invariant c.in_ok-step.ensures.ok

pub returns-in_err-step-clause-err : goal.returns-in_err-step-clause-err
returns-in_err-step-clause-err g c =
    let busy : idles (host_in g.N.ClusterName.shape c.loop-turn.seat) ≡ false = search rules in
    let stopped = stops g.N.ClusterName.shape c.requires.0 c.in_err-step.field-0.0 c.args.seat.now c.loop-turn.seat c.step.new.seat c.requires.1 c.loop-turn.invariant busy c.in_err-step.ensures.err in
    search (rules, stopped)
