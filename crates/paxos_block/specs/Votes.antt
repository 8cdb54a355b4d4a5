-- Of the headline. What a row shows of ballots and votes, and the ballot that a host takes above them, in each layout.
use Rattle.std.specs.Prelude.{◌+◌, ◌-◌, ◌*◌, ◌/◌, ◌==◌, ℕ, zero, suc, List, max, nat_lt, Option, None, if◌then◌else◌}
use Rattle.std.specs.Option.{option_or}
use Rattle.torn_block.specs.Layout.{Version, hosts_in}
use Rattle.paxos_block.specs.Saying.{Said}
use Rattle.paxos_block.specs.Row.{DecodedBlock, seen_at}

-- what a host's block in a row says
abbrev pub says_in : List DecodedBlock → ℕ → Said
says_in row host = (seen_at row host).says

-- the greatest of the first n values
abbrev pub greatest : ℕ → (ℕ → ℕ) → ℕ
greatest zero f = 0
greatest (suc n) f = max (greatest n f) (f n)

-- the greatest mbal of a row
abbrev pub highest_mbal : Version → List DecodedBlock → ℕ
highest_mbal v row = greatest (hosts_in v) (λ g. (says_in row g).mbal)

-- the same without the host's own block
abbrev pub highest_mbal_of_others : Version → ℕ → List DecodedBlock → ℕ
highest_mbal_of_others v host row = greatest (hosts_in v) (λ g. if g == host then 0 else (says_in row g).mbal)

-- the later of two votes: the one with the greater bal, or else the first
abbrev pub later_of : Said → Said → Said
later_of best says = if nat_lt best.bal says.bal then says else best

-- the latest among a vote and those of the other hosts in a row, of the first n hosts
abbrev pub latest_below : ℕ → List DecodedBlock → ℕ → Said → Said
latest_below host row zero best = best
latest_below host row (suc g) best =
    if g == host then latest_below host row g best else later_of (latest_below host row g best) (says_in row g)

abbrev pub latest_in : Version → ℕ → List DecodedBlock → Said → Said
latest_in v host row best = latest_below host row (hosts_in v) best

-- the input of a marked block
abbrev pub marked : Said → Option (List ℕ)
marked says = if says.mark then says.inp else None

-- that of the first marked block among those of the first n hosts in a row
abbrev pub marked_below : List DecodedBlock → ℕ → Option (List ℕ)
marked_below row zero = None
marked_below row (suc g) = option_or (marked_below row g) (marked (says_in row g))

abbrev pub marked_in : Version → List DecodedBlock → Option (List ℕ)
marked_in v row = marked_below row (hosts_in v)

-- the least ballot of the host above n: host h owns h + 1, and as many further on as there are hosts, again and again
abbrev pub ballot_above : Version → ℕ → ℕ → ℕ
ballot_above v host n = if nat_lt n (host + 1) then host + 1 else host + 1 + hosts_in v * ((n - host - 1) / hosts_in v + 1)
