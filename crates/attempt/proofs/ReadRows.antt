-- A row that was read has its blocks.
use Rattle.std.proofs.Common.{◌≡◌, ℕ, List, Option, Some, None, refl}
use Rattle.std.specs.Option.{IsSomeAnd}
use Rattle.torn_block.specs.Layout.{Version}
use Rattle.paxos_block.specs.Saying.{Said}
use Rattle.paxos_block.specs.declared.row.Row.{Row}
use Rattle.paxos_block.specs.declared.gist.Gist.{Gist}
use Rattle.paxos_block.specs.Gist.{IsGist}
use Rattle.paxos_block.specs.Row.{DecodedBlock, AreSeenAs, decoded_row}
use Rattle.attempt.specs.ReadRows.{ReadsAs, ReadsGist}

-- what a row was read as
reads_by : {V : Type 0} (v : Version) (spelled : V → List ℕ) (bytes : List ℕ) (row : Row V) (o : Option (List DecodedBlock)) → decoded_row v bytes ≡ o → IsSomeAnd o (λ seen. AreSeenAs v spelled seen row) → ReadsAs v spelled bytes row
reads_by v spelled bytes row None is some = absurd some
reads_by v spelled bytes row (Some seen) is so = record { seen = seen; said = is; so = so }

pub reads_as : {V : Type 0} (v : Version) (spelled : V → List ℕ) (bytes : List ℕ) (row : Row V) → IsSomeAnd (decoded_row v bytes) (λ seen. AreSeenAs v spelled seen row) → ReadsAs v spelled bytes row
reads_as v spelled bytes row so = reads_by v spelled bytes row (decoded_row v bytes) refl so

gist_by : {V : Type 0} (v : Version) (spelled : V → List ℕ) (host : ℕ) (best : Said) (bytes : List ℕ) (gist : Gist V) (o : Option (List DecodedBlock)) → decoded_row v bytes ≡ o → IsSomeAnd o (λ seen. IsGist v spelled host best seen gist) → ReadsGist v spelled host best bytes gist
gist_by v spelled host best bytes gist None is some = absurd some
gist_by v spelled host best bytes gist (Some seen) is so = record { seen = seen; said = is; so = so }

pub reads_gist : {V : Type 0} (v : Version) (spelled : V → List ℕ) (host : ℕ) (best : Said) (bytes : List ℕ) (gist : Gist V) → IsSomeAnd (decoded_row v bytes) (λ seen. IsGist v spelled host best seen gist) → ReadsGist v spelled host best bytes gist
reads_gist v spelled host best bytes gist so = gist_by v spelled host best bytes gist (decoded_row v bytes) refl so
