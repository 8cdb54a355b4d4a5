-- Of the headline. What follows from the rows that an attempt has read: its ballot, its proposal, and whether another host was faster.
use Rattle.std.specs.Prelude.{ℕ, zero, suc, List, max, Option, Some, None}
use Rattle.std.specs.Option.{option_or}
use Rattle.torn_block.specs.Layout.{Version}
use Rattle.paxos_block.specs.Saying.{Said}
use Rattle.paxos_block.specs.Row.{DecodedBlock, blank}
use Rattle.paxos_block.specs.Votes.{says_in, greatest, highest_mbal, highest_mbal_of_others, later_of, latest_in, marked_in, ballot_above}
use Rattle.attempt.specs.Calls.{Phase, Opening, One}
use Rattle.attempt.specs.Answers.{Answers, row_in}
use Rattle.attempt.specs.Setup.{Setup}

-- THE BALLOT

abbrev pub top_in : Version → Option (List DecodedBlock) → ℕ
top_in v None = 0
top_in v (Some row) = highest_mbal v row

-- the greatest of the floor and of every mbal in the opening's rows
abbrev pub highest : Setup → Answers → ℕ
highest s f = max s.floor (greatest s.disks (λ d. top_in s.version (row_in Opening (f d))))

-- the least ballot of the host above that
abbrev pub ballot : Setup → Answers → ℕ
ballot s f = ballot_above s.version s.host (highest s f)

-- THE PROPOSAL

abbrev pub own_in : ℕ → Said → Option (List DecodedBlock) → Said
own_in host best None = best
own_in host best (Some row) = later_of best (says_in row host)

-- the host's own latest vote in the opening's rows of the first n disks
abbrev pub own_below : Setup → Answers → ℕ → Said
own_below s f zero = blank
own_below s f (suc d) = own_in s.host (own_below s f d) (row_in Opening (f d))

abbrev pub own : Setup → Answers → Said
own s f = own_below s f s.disks

abbrev pub best_in : Version → ℕ → Said → Option (List DecodedBlock) → Said
best_in v host best None = best
best_in v host best (Some row) = latest_in v host row best

-- the latest vote among that and the other hosts' in the rows of phase 1 on the first n disks
abbrev pub best_below : Setup → Answers → ℕ → Said
best_below s f zero = own s f
best_below s f (suc d) = best_in s.version s.host (best_below s f d) (row_in One (f d))

abbrev pub best : Setup → Answers → Said
best s f = best_below s f s.disks

abbrev pub or_else : Option (List ℕ) → Option (List ℕ) → Option (List ℕ)
or_else first other = option_or first other

-- what was voted for there, or where nothing was the attempt's input
abbrev pub proposal : Setup → Answers → Option (List ℕ)
proposal s f = or_else (best s f).inp s.input

-- WHAT IS DECIDED

abbrev pub decided_in : Version → Option (List DecodedBlock) → Option (List ℕ)
decided_in v None = None
decided_in v (Some row) = marked_in v row

-- the input of the first marked block in the opening's rows of the first n disks
abbrev pub decided_below : Setup → Answers → ℕ → Option (List ℕ)
decided_below s f zero = None
decided_below s f (suc d) = or_else (decided_below s f d) (decided_in s.version (row_in Opening (f d)))

abbrev pub decided : Setup → Answers → Option (List ℕ)
decided s f = decided_below s f s.disks

-- OTHER HOSTS

abbrev pub others_top : Version → ℕ → Option (List DecodedBlock) → ℕ
others_top v host None = 0
others_top v host (Some row) = highest_mbal_of_others v host row

-- the greatest mbal of another host in the rows of a phase
abbrev pub others_mbal : Setup → Phase → Answers → ℕ
others_mbal s p f = greatest s.disks (λ d. others_top s.version s.host (row_in p (f d)))
