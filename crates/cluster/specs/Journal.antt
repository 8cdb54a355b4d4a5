-- A journal as contracts see it, and the tokens that wait in it.
use Rattle.std.specs.Prelude.{◌≡◌, ◌≢◌, ℕ, List, [], length, slice_get, Option, Some, None}
use Rattle.torn_block.specs.declared.layout.TheConstants.{HOSTS}
use Rattle.world.specs.Entry.{Filled}
use Rattle.cluster_tie.specs.Parts.{Own, own_of, of_host}

-- the entries, with the bytes that they leave open, and for how many more there is room
pub record JournalState : Type 0 where
  pub log : List Filled
  pub promised : ℕ

-- a token that waits for its host has no entry
abbrev pub AreWaiting : List (Option Own) → Type 0
AreWaiting hosts = (h : ℕ) (t : Own) → slice_get hosts h ≡ Some (Some t) → t ≡ own_of h []

-- a host whose token does not wait any more has an entry in the log
abbrev pub HaveStarted : List (Option Own) → List Filled → Type 0
HaveStarted hosts log = (h : ℕ) → slice_get hosts h ≡ Some None → of_host h log ≢ []

-- a place for each host's token, and each token waits there that its host has not
pub record KeepsTokens (hosts : List (Option Own)) (log : List Filled) : Type 0 where
  pub all : length hosts ≡ HOSTS
  pub waiting : AreWaiting hosts
  pub started : HaveStarted hosts log
