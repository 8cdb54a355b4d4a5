use Rattle.std.proofs.Common.{take}
use Rattle.std.specs.List.{flat_map}
use Rattle.std.specs.Io.KnownBytes.{Appends}
use Rattle.epoch_player.specs.Text.{client_word}
use Rattle.epoch_player.proofs.showing.show_blocking.Given as goal

-- the clients before this one are written
abbrev pub invariant-loop-client : goal.invariant-loop-client
invariant-loop-client g l = Appends (g.O.Write.contents l.initial.out) (g.O.Write.contents l.out) (flat_map client_word (take l.client-index l.client-items))
