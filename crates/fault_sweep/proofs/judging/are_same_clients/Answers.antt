use Rattle.std.proofs.Common.{refl}
use Rattle.fault_sweep.proofs.Comparing.{one_same, all_same}
use Rattle.fault_sweep.proofs.judging.are_same_clients.Goals as goal

pub loop-at-preserved : goal.loop-at-preserved
loop-at-preserved c = (
  c.loop-at.invariant.0,
  one_same c.args.a.now c.args.b.now c.loop-at.at c.index-a-at.result c.index-b-at.result c.loop-at-test.true c.loop-at.invariant.0 c.index-a-at.is c.index-b-at.is c.loop-at.invariant.1
      (c.is_same_client.ensures.0 c.if-not-is_same_client.false),
)

pub returns : goal.returns
returns c = ((λ t. all_same c.args.a.now c.args.b.now c.loop-at.at c.loop-at-test.false c.loop-at.invariant.0 c.loop-at.invariant.1), (λ same. refl))
