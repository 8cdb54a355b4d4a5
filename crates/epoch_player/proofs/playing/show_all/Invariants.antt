use Rattle.std.proofs.Common.{take}
use Rattle.epoch_player.specs.Playing.{ShowsLeft}
use Rattle.epoch_player.proofs.playing.show_all.Given as goal

-- the tables in front of this one are shown
abbrev pub invariant-loop-show : goal.invariant-loop-show
invariant-loop-show g l = ShowsLeft (take l.show-index l.shows) l.cluster (g.O.Write.contents l.initial.out) (g.O.Write.contents l.out)
