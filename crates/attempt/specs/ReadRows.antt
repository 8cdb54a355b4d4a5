-- What was made of the bytes of a row.
use Rattle.std.specs.Prelude.{◌≡◌, ℕ, List, Some}
use Rattle.torn_block.specs.Layout.{Version}
use Rattle.paxos_block.specs.Saying.{Said}
use Rattle.paxos_block.specs.declared.row.Row.{Row}
use Rattle.paxos_block.specs.declared.gist.Gist.{Gist}
use Rattle.paxos_block.specs.Gist.{IsGist}
use Rattle.paxos_block.specs.Row.{DecodedBlock, AreSeenAs, decoded_row}

-- the bytes are a sound row, and this is what was made of it
pub record ReadsAs {V : Type 0} (v : Version) (spelled : V → List ℕ) (bytes : List ℕ) (row : Row V) : Type 0 where
  pub seen : List DecodedBlock
  pub said : decoded_row v bytes ≡ Some seen
  pub so : AreSeenAs v spelled seen row

-- the same where only the row's gist is made, by a host that has found this vote
pub record ReadsGist {V : Type 0} (v : Version) (spelled : V → List ℕ) (host : ℕ) (best : Said) (bytes : List ℕ) (gist : Gist V) : Type 0 where
  pub seen : List DecodedBlock
  pub said : decoded_row v bytes ≡ Some seen
  pub so : IsGist v spelled host best seen gist
