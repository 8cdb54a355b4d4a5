use Rattle.std.proofs.Common.{rules, sym, ◌∙◌, arith}
use Rattle.dlm_images.specs.Tries.{none, more}
use Rattle.dlm_images.proofs.patience.submit_patiently.Goals as goal

pub loop-outrun-init : goal.loop-outrun-init
loop-outrun-init g c = record { lost = none c.args.host.now; same = c.requires.host }

pub loop-outrun-preserved : goal.loop-outrun-preserved
loop-outrun-preserved g c = record {
  lost =
      more c.loop-outrun.outrun c.args.host.now c.loop-outrun.host c.submit_once-ended.new.host c.loop-outrun.invariant.lost c.submit_once-ended.ensures.operated
      (search rules);
  same = c.loop-outrun.invariant.same ∙ sym c.submit_once-ended.ensures.same;
}

pub returns-clause-outrun : goal.returns-clause-outrun
returns-clause-outrun g c = λ is. (
  record {
    outrun = c.loop-outrun.outrun;
    before = c.loop-outrun.host;
    few = omega (arith, c.loop-outrun-test.false, c.loop-outrun.auto.outrun-end, c.requires.tries);
    lost = c.loop-outrun.invariant.lost;
    last = c.submit_once.ensures.operated;
  },
  omega (arith, c.loop-outrun-test.false, c.loop-outrun.auto.outrun-end, c.requires.tries),
)
