use Rattle.std.proofs.Common.{◌≡◌, ◌<◌, ◌≤◌, ℕ, List}
use Rattle.std.specs.Option.{option_map}
use Rattle.torn_block.specs.Layout.{Version}
use Rattle.torn_block.specs.Damage.{IsSoundBlock, block_of}
use Rattle.paxos_block.specs.declared.gist.Gist.{Gist}
use Rattle.paxos_block.specs.Saying.{Said, said_as}
use Rattle.paxos_block.specs.Row.{IsSound, IsSeenAs, blank_cell, row_seen, seen_at}
use Rattle.paxos_block.specs.Votes.{says_in, greatest, latest_below, marked_below}
use Rattle.paxos_block.proofs.VoteLemmas.{other_mbal}
use Rattle.paxos_block.proofs.gist.read_gist.Given as goal

-- it is that of the blocks so far, which are sound
pub record Sofar (V : Type 0) (v : Version) (spelled : V → List ℕ) (bytes : List ℕ) (host : ℕ) (best : Said) (n : ℕ) (gist : Gist V) : Type 0 where
  pub sound : (k : ℕ) → k < n → IsSoundBlock v (IsSound v k) (block_of v k bytes)
  pub fresh : n ≤ host → gist.own ≡ blank_cell
  pub own : host < n → IsSeenAs v spelled (seen_at (row_seen v bytes) host) gist.own
  pub top : gist.greatest ≡ greatest n (λ g. (says_in (row_seen v bytes) g).mbal)
  pub top_of_others : gist.others ≡ greatest n (other_mbal host (row_seen v bytes))
  pub vote : said_as spelled gist.latest ≡ latest_below host (row_seen v bytes) n best
  pub told : option_map spelled gist.marked ≡ marked_below (row_seen v bytes) n

abbrev pub invariant-loop-g : goal.invariant-loop-g
invariant-loop-g g l = Sofar g.row.L-Value.Denot g.L.Layout.version g.L.Layout.spelled l.bytes l.host (said_as g.L.Layout.spelled l.fn.best) l.g l.gist
