use Rattle.std.proofs.Common.{rules, sym, ◌∙◌, arith}
use Rattle.std.proofs.lemmas.Result.{IfErr-at_err}
use Rattle.epoch_host.specs.declared.task.EpochTask.TheVariants.{Submit}
use Rattle.epoch_images.specs.declared.fault.EpochFault.{EpochFault}
use Rattle.epoch_images.specs.Tries.{none, more}
use Rattle.epoch_images.specs.Working.{HasWorked, said_by}
use Rattle.epoch_images.proofs.in_turn.submit_in_turn.Goals as goal

pub loop-outrun-init : goal.loop-outrun-init
loop-outrun-init g c = record { lost = none c.args.host.now; same = c.requires.host }

pub loop-outrun-preserved : goal.loop-outrun-preserved
loop-outrun-preserved g c = record {
  lost = more c.loop-outrun.outrun c.args.host.now c.loop-outrun.host c.submit_once-ended.new.host c.loop-outrun.invariant.lost (search rules);
  same = c.loop-outrun.invariant.same ∙ sym c.submit_once-ended.ensures.same.host;
}

pub returns-clause-outrun : goal.returns-clause-outrun
returns-clause-outrun g c = λ is. (
  record {
    outrun = c.loop-outrun.outrun;
    before = c.loop-outrun.host;
    few = omega (arith, c.loop-outrun-test.false, c.loop-outrun.auto.outrun-end, c.requires.tries);
    lost = c.loop-outrun.invariant.lost;
    last =
        IfErr-at_err (λ (given : EpochFault). HasWorked g.D.Disk.gives (Submit c.args.command 1) (said_by given) c.loop-outrun.host c.submit_once.new.host) is
        c.submit_once.ensures.refused;
  },
  omega (arith, c.loop-outrun-test.false, c.loop-outrun.auto.outrun-end, c.requires.tries),
)
