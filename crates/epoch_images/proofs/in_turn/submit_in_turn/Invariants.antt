use Rattle.std.proofs.Common.{◌≡◌}
use Rattle.epoch_images.specs.Tries.{AreOutrun}
use Rattle.epoch_images.proofs.in_turn.submit_in_turn.Given as goal

abbrev pub invariant-loop-outrun : goal.invariant-loop-outrun
invariant-loop-outrun g l = record {
  lost : AreOutrun g.D.Disk.gives l.command l.outrun l.initial.host l.host;
  same : l.command.host ≡ l.host.host.host;
}
