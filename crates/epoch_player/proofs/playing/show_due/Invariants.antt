use Rattle.std.proofs.Common.{length}
use Rattle.epoch_player.specs.Playing.{ShowsDue}
use Rattle.epoch_player.proofs.playing.show_due.Given as goal

-- what was due so far is shown
abbrev pub invariant-loop-show : goal.invariant-loop-show
invariant-loop-show g l = ShowsDue l.place l.initial.shows l.shows l.cluster (g.O.Write.contents l.initial.out) (g.O.Write.contents l.out)

abbrev pub decreases-loop-show : goal.decreases-loop-show
decreases-loop-show g l = length l.shows
