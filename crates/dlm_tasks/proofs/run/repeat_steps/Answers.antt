-- Steps behind steps.
use Rattle.std.specs.Prelude.{replicate}
use Rattle.std.proofs.Common.{ℕ, ◌≡◌, subst, arith}
use Rattle.world.specs.Happens.{Step}
use Rattle.dlm_tasks.specs.Printed.{WritesAnswers}
use Rattle.dlm_tasks.proofs.Answering.{none, more}
use Rattle.dlm_tasks.proofs.run.repeat_steps.Goals as goal

pub loop-made-init : goal.loop-made-init
loop-made-init g c = record {
  within = omega arith;
  so_far = λ log leads. none log c.args.first c.args.cluster.now (g.O.Write.contents c.args.out.now) leads;
}

pub loop-made-preserved : goal.loop-made-preserved
loop-made-preserved g c =
    let at = c.loop-made in
    record {
      within = omega (arith, c.in_ok-made.ensures.made.1);
      so_far = λ log leads.
          more log (Step c.args.host) at.made c.in_ok-made.field-0 c.args.first c.args.cluster.now at.cluster c.happen_steps.new.cluster
          (g.O.Write.contents c.args.out.now) (g.O.Write.contents at.out) (g.O.Write.contents c.happen_steps.new.out)
          (at.invariant.so_far log leads) c.in_ok-made.ensures.written;
    }

pub returns-clause-written : goal.returns-clause-written
returns-clause-written g c = λ log leads.
    let all : c.loop-made.made ≡ c.args.times = omega (arith, c.loop-made.invariant.within, c.loop-made-test.false) in
    subst (λ (n : ℕ). WritesAnswers log (replicate n (Step c.args.host)) c.args.first c.args.cluster.now c.loop-made.cluster (g.O.Write.contents c.args.out.now) (g.O.Write.contents c.loop-made.out)) all
    (c.loop-made.invariant.so_far log leads)
