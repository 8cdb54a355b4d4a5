use Rattle.std.proofs.Common.{◌≡◌}
use Rattle.dlm_images.specs.Tries.{AreOutrun}
use Rattle.dlm_images.proofs.patience.submit_patiently.Given as goal

abbrev pub invariant-loop-outrun : goal.invariant-loop-outrun
invariant-loop-outrun g l = record {
  lost : AreOutrun g.D.Disk.gives l.command l.outrun l.initial.host l.host;
  same : l.command.host ≡ l.host.core.learner.host;
}
