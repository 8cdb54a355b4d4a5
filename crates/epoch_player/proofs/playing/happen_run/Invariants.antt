use Rattle.std.specs.Prelude.{replicate}
use Rattle.std.proofs.Common.{◌-◌}
use Rattle.epoch_player.specs.Playing.{PlaysPart}
use Rattle.epoch_player.proofs.playing.happen_run.Given as goal

-- so many of the run happened, and what was due before each of them was shown
abbrev pub invariant-loop-place : goal.invariant-loop-place
invariant-loop-place g l =
    PlaysPart l.config (replicate (l.place - l.first) l.run.event) l.first l.initial.shows l.shows l.initial.cluster l.cluster (g.O.Write.contents l.initial.out) (g.O.Write.contents l.out)
