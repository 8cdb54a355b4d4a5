use Rattle.std.proofs.Common.{refl}
use Rattle.fault_sweep.proofs.Comparing.{one_more_of_all, all_of_all}
use Rattle.epoch_sweep.specs.Judging.{Holds}
use Rattle.epoch_sweep.proofs.judging.all_held.Goals as goal

pub loop-said-preserved : goal.loop-said-preserved
loop-said-preserved c =
    one_more_of_all (Holds c.args.upto) c.args.told.now c.args.told.now c.loop-said.said-index c.said-item.result refl c.loop-said-test.true c.said-item.is
    (c.holds.ensures.0 c.if-not-holds.false) c.loop-said.invariant

pub returns : goal.returns
returns c = (
  (λ t. all_of_all (Holds c.args.upto) c.args.told.now c.args.told.now c.loop-said.said-index refl c.loop-said-test.false c.loop-said.invariant),
  (λ all. refl),
)
