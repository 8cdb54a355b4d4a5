use Rattle.std.proofs.Common.{◌≡◌, ℕ, ◌==◌, List, if◌then◌else◌}
use Rattle.torn_block.specs.Layout.{Version}
use Rattle.paxos_block.specs.Row.{DecodedBlock, AreSeenAs}
use Rattle.paxos_block.specs.Votes.{greatest, says_in}
use Rattle.paxos_block.proofs.row.Row.others_mbal.Given as goal

abbrev pub invariant-loop-other : goal.invariant-loop-other
invariant-loop-other g l = (v : Version) (spelled : g.row.V.Denot → List ℕ) (seen : List DecodedBlock) → AreSeenAs v spelled seen l.self → l.top ≡ greatest l.other (λ g. if g == l.host then 0 else (says_in seen g).mbal)
