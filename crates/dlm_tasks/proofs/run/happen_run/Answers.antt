use Rattle.std.specs.Prelude.{replicate}
use Rattle.std.proofs.Common.{ℕ, ◌≡◌, subst, arith}
use Rattle.simulator.specs.Events.{event_of}
use Rattle.dlm_tasks.specs.Printed.{WritesPart}
use Rattle.dlm_tasks.proofs.Shown.{nothing, more}
use Rattle.dlm_tasks.proofs.run.happen_run.Goals as goal

pub loop-made-init : goal.loop-made-init
loop-made-init g c = record {
  within = omega arith;
  so_far = λ log leads. nothing log c.args.first c.args.shows.now c.args.cluster.now (g.O.Write.contents c.args.out.now) leads;
}

pub loop-made-preserved : goal.loop-made-preserved
loop-made-preserved g c =
    let at = c.loop-made in
    record {
      within = omega (arith, c.times_before-times.ensures.few);
      so_far = λ log leads.
          more log (event_of c.args.run.now.event) at.made c.times_before-times.result c.args.first c.args.shows.now at.shows.now c.in_ok-shows.shows.now c.args.cluster.now at.cluster c.repeat.new.cluster
          (g.O.Write.contents c.args.out.now) (g.O.Write.contents at.out) (g.O.Write.contents c.show_due.new.out) (g.O.Write.contents c.repeat.new.out)
          (at.invariant.so_far log leads) c.in_ok-shows.ensures.written c.in_ok-repeat.ensures.written c.times_before-times.ensures.before;
    }

pub returns-clause-written : goal.returns-clause-written
returns-clause-written g c = λ log leads.
    let all : c.loop-made.made ≡ c.args.run.now.times = omega (arith, c.loop-made.invariant.within, c.loop-made-test.false) in
    subst (λ (n : ℕ). WritesPart log (replicate n (event_of c.args.run.now.event)) c.args.first c.args.shows.now c.loop-made.shows.now c.args.cluster.now c.loop-made.cluster (g.O.Write.contents c.args.out.now) (g.O.Write.contents c.loop-made.out)) all
    (c.loop-made.invariant.so_far log leads)
