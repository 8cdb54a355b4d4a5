-- What an attempt of a host needs of a row, in each layout.
use Rattle.std.specs.Prelude.{◌≡◌, ℕ, List, option_map}
use Rattle.torn_block.specs.Layout.{Version}
use Rattle.paxos_block.specs.declared.gist.Gist.{Gist}
use Rattle.paxos_block.specs.Saying.{Said, said_as}
use Rattle.paxos_block.specs.Row.{DecodedBlock, seen_at, IsSeenAs}
use Rattle.paxos_block.specs.Votes.{highest_mbal, highest_mbal_of_others, latest_in, marked_in}

-- it is that of these blocks, for a host that has found this vote before
pub record IsGist {V : Type 0} (v : Version) (spelled : V → List ℕ) (host : ℕ) (best : Said) (seen : List DecodedBlock) (gist : Gist V) : Type 0 where
  pub own : IsSeenAs v spelled (seen_at seen host) gist.own
  pub greatest : gist.greatest ≡ highest_mbal v seen
  pub others : gist.others ≡ highest_mbal_of_others v host seen
  pub latest : said_as spelled gist.latest ≡ latest_in v host seen best
  pub marked : option_map spelled gist.marked ≡ marked_in v seen
