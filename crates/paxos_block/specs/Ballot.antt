-- Of the headline. Ballots, the host that each belongs to, and majorities of disks, in each layout.
use Rattle.std.specs.Prelude.{◌≡◌, ◌==◌, ◌&&◌, ◌+◌, ◌-◌, ◌/◌, ◌%◌, ◌^◌, ◌<◌, ◌≤◌, ℕ, Bool, true, false, nat_le}
use Rattle.torn_block.specs.Layout.{Version, hosts_in}

-- the host that a ballot belongs to
abbrev pub owner_of : Version → ℕ → ℕ
owner_of v ballot = (ballot - 1) % hosts_in v

-- ballots go from 1 to 2^62
pub record IsBallotOf (v : Version) (host ballot : ℕ) : Type 0 where
  pub positive : 1 ≤ ballot
  pub within : ballot ≤ 2 ^ 62
  pub owned : owner_of v ballot ≡ host

-- of the host's ballots above the number it is the least
pub record IsLeastAbove (v : Version) (host number ballot : ℕ) : Type 0 where
  pub above : number < ballot
  pub least : (other : ℕ) → IsBallotOf v host other → number < other → ballot ≤ other

-- no ballot of the host is above the number
abbrev pub HasNoneAbove : Version → ℕ → ℕ → Type 0
HasNoneAbove v host number = (other : ℕ) → IsBallotOf v host other → other ≤ number

-- so many of the disks are a majority
abbrev pub majority : ℕ → ℕ
majority disks = disks / 2 + 1

-- ---- the same as tests

abbrev pub is_ballot_of : Version → ℕ → ℕ → Bool
is_ballot_of v host ballot = nat_le 1 ballot && nat_le ballot (2 ^ 62) && (owner_of v ballot == host)

-- with an input comes a ballot up to mbal, without one none
abbrev pub may_vote : Version → ℕ → ℕ → ℕ → Bool → Bool
may_vote v host mbal bal true = is_ballot_of v host bal && nat_le bal mbal
may_vote v host mbal bal false = bal == 0

abbrev pub may_promise : Version → ℕ → ℕ → ℕ → Bool → Bool
may_promise v host mbal bal voted = is_ballot_of v host mbal && may_vote v host mbal bal voted
