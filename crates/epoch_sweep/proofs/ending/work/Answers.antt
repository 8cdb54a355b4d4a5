use Rattle.std.proofs.Common.{◌++◌, [], refl, inl, inr, true, arith}
use Rattle.lock_script.specs.declared.event.Event.TheVariants.{Step}
use Rattle.epoch_sweep.specs.Sweeping.{heard}
use Rattle.epoch_sweep.proofs.Running.{again}
use Rattle.epoch_sweep.proofs.ending.work.Goals as goal

pub loop-init : goal.loop-init
loop-init c = ([], (refl, refl))

pub loop-preserved : goal.loop-preserved
loop-preserved c =
    let at = c.loop in (
      at.invariant.0 ++ heard c.in_ok-happen.field-0,
      again c.args.config (Step c.args.host) at.counter c.args.cluster.now at.cluster c.happen.new.cluster c.in_ok-happen.field-0 at.invariant.0 at.invariant.1 c.in_ok-happen.ensures,
    )

pub returns-then-is_idle : goal.returns-then-is_idle
returns-then-is_idle c =
    let at = c.loop in
    record {
      steps = at.counter;
      told = at.invariant.0;
      few = omega arith;
      happen = at.invariant.1;
      ends = inr (c.is_idle.ensures.idle c.if-is_idle.true);
    }

pub returns : goal.returns
returns c =
    let at = c.loop in
    record {
      steps = at.counter;
      told = at.invariant.0;
      few = omega arith;
      happen = at.invariant.1;
      ends = inl (omega arith);
    }
