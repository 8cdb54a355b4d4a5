use Rattle.std.proofs.Common.{◌≡◌, ℕ, List}
use Rattle.torn_block.specs.Layout.{Version}
use Rattle.paxos_block.specs.Saying.{said_as}
use Rattle.paxos_block.specs.Row.{DecodedBlock, AreSeenAs}
use Rattle.paxos_block.specs.Votes.{latest_below}
use Rattle.paxos_block.proofs.row.Row.latest_vote.Given as goal

abbrev pub invariant-loop-g : goal.invariant-loop-g
invariant-loop-g g l = (v : Version) (spelled : g.row.V.Denot → List ℕ) (seen : List DecodedBlock) → AreSeenAs v spelled seen l.self → said_as spelled l.best ≡ latest_below l.host seen l.g (said_as spelled l.fn.best)
