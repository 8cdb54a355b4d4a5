use Rattle.std.specs.Prelude.{replicate}
use Rattle.std.proofs.Common.{◌+◌, ◌-◌, ◌≡◌, Option, sym, subst, arith}
use Rattle.world.specs.Happens.{Step}
use Rattle.simulator.specs.declared.simulated_cluster.Said.{Said}
use Rattle.simulator.specs.Kept.{BringsAll}
use Rattle.simulator.proofs.Several.{no_event, step_more, idle_rest}
use Rattle.simulator.proofs.simulated_cluster.SimulatedCluster.steps.Goals as goal

pub loop-made-init : goal.loop-made-init
loop-made-init c = λ log leads. no_event log _ leads

pub loop-made-preserved : goal.loop-made-preserved
loop-made-preserved c = λ log leads. step_more log c.args.host c.loop-made.made _ _ _ _ (c.loop-made.invariant log leads) (c.advance.ensures.silent c.if-advance.false)

pub returns-then-is_idle-clause-brings : goal.returns-then-is_idle-clause-brings
returns-then-is_idle-clause-brings c =
    let k = c.loop-made.made in
    let all : k + (c.args.most - k) ≡ c.args.most = omega (arith, c.loop-made-test.true) in
    λ log leads. idle_rest log c.args.host k _ c.args.most _ _ all (c.loop-made.invariant log leads) (c.is_idle.ensures c.if-is_idle.true)

pub returns-then-advance-clause-brings : goal.returns-then-advance-clause-brings
returns-then-advance-clause-brings c =
    let h = c.args.host in
    let k = c.loop-made.made in
    λ log leads. subst (λ (said : Option Said). BringsAll log (replicate (k + 1) (Step h)) c.args.self.now c.advance.new.self said) (sym c.said_by.ensures)
    (step_more log h k _ _ _ _ (c.loop-made.invariant log leads) (c.advance.ensures.spoken c.if-advance.true))
