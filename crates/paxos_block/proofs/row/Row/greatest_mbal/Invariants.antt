use Rattle.std.proofs.Common.{◌≡◌, ℕ, List}
use Rattle.torn_block.specs.Layout.{Version}
use Rattle.paxos_block.specs.Row.{DecodedBlock, AreSeenAs}
use Rattle.paxos_block.specs.Votes.{greatest, says_in}
use Rattle.paxos_block.proofs.row.Row.greatest_mbal.Given as goal

abbrev pub invariant-loop-g : goal.invariant-loop-g
invariant-loop-g g l = (v : Version) (spelled : g.row.V.Denot → List ℕ) (seen : List DecodedBlock) → AreSeenAs v spelled seen l.self → l.greatest ≡ greatest l.g (λ g. (says_in seen g).mbal)
