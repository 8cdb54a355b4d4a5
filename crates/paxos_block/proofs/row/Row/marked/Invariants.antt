use Rattle.std.proofs.Common.{◌≡◌, ℕ, List, None}
use Rattle.torn_block.specs.Layout.{Version}
use Rattle.paxos_block.specs.Row.{DecodedBlock, AreSeenAs}
use Rattle.paxos_block.specs.Votes.{marked_below}
use Rattle.paxos_block.proofs.row.Row.marked.Given as goal

-- none of those passed is marked
abbrev pub invariant-loop-g : goal.invariant-loop-g
invariant-loop-g g l = (v : Version) (spelled : g.row.V.Denot → List ℕ) (seen : List DecodedBlock) → AreSeenAs v spelled seen l.self → marked_below seen l.g ≡ None
