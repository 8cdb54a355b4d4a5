-- What a proposal is: the input of a greatest bal among the votes that were seen, or the attempt's own.
use Rattle.std.specs.Prelude.{nat_lt, if◌then◌else◌}
use Rattle.std.proofs.Common.{ℕ, zero, suc, ◌<◌, ◌≤◌, ◌≡◌, ◌≢◌, ◌⊎◌, inl, inr, Bool, true, false, Option, Some, None, List, refl, sym, subst, ap, ◌∙◌, arith}
use Rattle.std.proofs.lemmas.Bool.{cases_eq, ltb-false, ltb-true}
use Rattle.torn_block.specs.Layout.{Version, hosts_in}
use Rattle.paxos_block.specs.Saying.{Said, IsVoteOf}
use Rattle.paxos_block.specs.Row.{DecodedBlock, blank}
use Rattle.paxos_block.specs.Votes.{says_in, later_of, latest_below}
use Rattle.attempt.specs.Calls.{Opening, One}
use Rattle.attempt.specs.Answers.{Answers, row_in}
use Rattle.attempt.specs.Setup.{Setup}
use Rattle.attempt.specs.Proposal.{own_in, own_below, own, best_in, best_below, best, or_else, proposal}
use Rattle.attempt.specs.Prepared.{IsSeenVote, IsLatestInput, IsProposal, HasNoInput, AreVotes}
use Rattle.attempt.proofs.Lists.{by_eq}

-- THE LATER OF TWO

-- it is one of them
later_either : (P : Said → Type 0) (a y : Said) → P a → P y → P (later_of a y)
later_either P a y first second = go (nat_lt a.bal y.bal)
  where
    go : (t : Bool) → P (if t then y else a)
    go true = second
    go false = first

-- and has the greater bal
record IsAbove (a y later : Said) : Type 0 where
  first : a.bal ≤ later.bal
  second : y.bal ≤ later.bal

-- whichever it is
later_above : (a y : Said) → IsAbove a y (later_of a y)
later_above a y = go (nat_lt a.bal y.bal) refl
  where
    go : (t : Bool) → nat_lt a.bal y.bal ≡ t → IsAbove a y (if t then y else a)
    go true is = (let less = ltb-true a.bal y.bal is in record { first = omega arith; second = omega arith })
    go false is = (let less = ltb-false a.bal y.bal is in record { first = omega arith; second = omega arith })

-- THE LATEST OF A ROW

module _ (hosts host : ℕ) (row : List DecodedBlock) (before : Said) where
  -- it is the vote before, or one of another host's in the row
  latest_either : (P : Said → Type 0) → P before → ((g : ℕ) → g < hosts → g ≢ host → P (says_in row g)) → (n : ℕ) → n ≤ hosts → P (latest_below host row n before)
  latest_either P first each zero l = first
  latest_either P first each (suc n) l =
      let less = latest_either P first each n (omega arith) in
      by_eq (λ t. P (if t then latest_below host row n before else later_of (latest_below host row n before) (says_in row n))) n host
      (λ same. less)
      (λ off. later_either P (latest_below host row n before) (says_in row n) less (each n (omega arith) off))

  -- its bal is not below that before
  latest_rises : (n : ℕ) → before.bal ≤ (latest_below host row n before).bal
  latest_rises zero = omega arith
  latest_rises (suc n) =
      by_eq (λ t. before.bal ≤ (if t then latest_below host row n before else later_of (latest_below host row n before) (says_in row n)).bal) n host
      (λ same. latest_rises n)
      (λ off. omega (arith, latest_rises n, (later_above (latest_below host row n before) (says_in row n)).first))

  -- nor below another host's in the row
  latest_above : (n g : ℕ) → g < n → g ≢ host → (says_in row g).bal ≤ (latest_below host row n before).bal
  latest_above zero g l other = absurd (omega arith)
  latest_above (suc n) g l other =
      by_eq (λ t. (says_in row g).bal ≤ (if t then latest_below host row n before else later_of (latest_below host row n before) (says_in row n)).bal) n host
      (λ same. latest_above n g (omega arith) other)
      (λ off. elim (cases_eq g n) [
        | inl here ↦ (let at = ap (λ (k : ℕ). (says_in row k).bal) here in omega (arith, (later_above (latest_below host row n before) (says_in row n)).second))
        | inr there ↦ omega (arith, latest_above n g (omega arith) other, (later_above (latest_below host row n before) (says_in row n)).first)
      ])

-- ALL ROWS

module _ (s : Setup) (f : Answers) where
  -- nothing yet, or a vote that was seen
  abbrev IsFrom : Said → Type 0
  IsFrom vote = (vote ≡ blank) ⊎ IsSeenVote s f vote

  -- the opening's row of a disk brings a vote that was seen
  own_on : (d : ℕ) → d < s.disks → (o : Option (List DecodedBlock)) → row_in Opening (f d) ≡ o → (before : Said) → IsFrom before → IsFrom (own_in s.host before o)
  own_on d l None is before from = from
  own_on d l (Some row) is before from =
      later_either IsFrom before (says_in row s.host) from (inr (inl (record { disk = d; row = row; inside = l; read = is; is = refl })))

  -- so the own latest vote was seen
  own_from : (n : ℕ) → n ≤ s.disks → IsFrom (own_below s f n)
  own_from zero l = inl refl
  own_from (suc n) l = own_on n (omega arith) (row_in Opening (f n)) refl (own_below s f n) (own_from n (omega arith))

  -- a row of phase 1 brings votes that were seen
  best_on : (d : ℕ) → d < s.disks → (o : Option (List DecodedBlock)) → row_in One (f d) ≡ o → (before : Said) → IsFrom before → IsFrom (best_in s.version s.host before o)
  best_on d l None is before from = from
  best_on d l (Some row) is before from =
      latest_either (hosts_in s.version) s.host row before IsFrom from
      (λ g below other. inr (inr (record { disk = d; row = row; host = g; inside = l; read = is; below = below; other = other; is = refl })))
      (hosts_in s.version) (omega arith)

  -- so the latest vote was seen
  best_from : (n : ℕ) → n ≤ s.disks → IsFrom (best_below s f n)
  best_from zero l = own_from s.disks (omega arith)
  best_from (suc n) l = best_on n (omega arith) (row_in One (f n)) refl (best_below s f n) (best_from n (omega arith))

  -- a row of the opening lowers no bal
  own_rises : (o : Option (List DecodedBlock)) (before : Said) → before.bal ≤ (own_in s.host before o).bal
  own_rises None before = omega arith
  own_rises (Some row) before = (later_above before (says_in row s.host)).first

  -- nor does one of phase 1
  best_rises : (o : Option (List DecodedBlock)) (before : Said) → before.bal ≤ (best_in s.version s.host before o).bal
  best_rises None before = omega arith
  best_rises (Some row) before = latest_rises (hosts_in s.version) s.host row before (hosts_in s.version)

  -- the own latest vote is not below one that was seen
  own_above : (n d : ℕ) (row : List DecodedBlock) → d < n → row_in Opening (f d) ≡ Some row → (says_in row s.host).bal ≤ (own_below s f n).bal
  own_above zero d row l is = absurd (omega arith)
  own_above (suc n) d row l is = elim (cases_eq d n) [
    | inl here ↦
        (let at : row_in Opening (f n) ≡ Some row = ap (λ (k : ℕ). row_in Opening (f k)) (sym here) ∙ is in
        subst (λ (o : Option (List DecodedBlock)). (says_in row s.host).bal ≤ (own_in s.host (own_below s f n) o).bal) (sym at) (later_above (own_below s f n) (says_in row s.host)).second)
    | inr there ↦ omega (arith, own_above n d row (omega arith) is, own_rises (row_in Opening (f n)) (own_below s f n))
  ]

  -- nor is the latest vote below the own
  own_under : (n : ℕ) → (own s f).bal ≤ (best_below s f n).bal
  own_under zero = omega arith
  own_under (suc n) = omega (arith, own_under n, best_rises (row_in One (f n)) (best_below s f n))

  -- or below another host's that was seen
  best_above : (n d g : ℕ) (row : List DecodedBlock) → d < n → row_in One (f d) ≡ Some row → g < hosts_in s.version → g ≢ s.host → (says_in row g).bal ≤ (best_below s f n).bal
  best_above zero d g row l is below other = absurd (omega arith)
  best_above (suc n) d g row l is below other = elim (cases_eq d n) [
    | inl here ↦
        (let at : row_in One (f n) ≡ Some row = ap (λ (k : ℕ). row_in One (f k)) (sym here) ∙ is in
        subst (λ (o : Option (List DecodedBlock)). (says_in row g).bal ≤ (best_in s.version s.host (best_below s f n) o).bal) (sym at) (latest_above (hosts_in s.version) s.host row (best_below s f n) (hosts_in s.version) g below other))
    | inr there ↦ omega (arith, best_above n d g row (omega arith) is below other, best_rises (row_in One (f n)) (best_below s f n))
  ]

  -- no vote that was seen has a greater bal than the latest
  seen_under : (vote : Said) → IsSeenVote s f vote → vote.bal ≤ (best s f).bal
  seen_under vote (inl seen) =
      let at = ap (λ (x : Said). x.bal) seen.is in
      omega (arith, own_above s.disks seen.disk seen.row seen.inside seen.read, own_under s.disks)
  seen_under vote (inr seen) =
      let at = ap (λ (x : Said). x.bal) seen.is in
      omega (arith, best_above s.disks seen.disk seen.host seen.row seen.inside seen.read seen.below seen.other)

-- THE PROPOSAL

-- a vote without a bal has no input
none_of : (v : Version) (host mbal bal : ℕ) (inp : Option (List ℕ)) → IsVoteOf v host mbal bal inp → bal ≡ 0 → inp ≡ None
none_of v host mbal bal None vote zeroed = refl
none_of v host mbal bal (Some value) vote zeroed = absurd (omega (arith, (vote.0).positive))

-- and one without an input has no bal
zero_of : (v : Version) (host mbal bal : ℕ) (inp : Option (List ℕ)) → IsVoteOf v host mbal bal inp → inp ≡ None → bal ≡ 0
zero_of v host mbal bal None vote none = vote
zero_of v host mbal bal (Some value) vote none = absurd (cc)

module _ (s : Setup) (f : Answers) (is_host : s.host < hosts_in s.version) (votes : AreVotes s.version f) where
  -- a vote that was seen is one of its host
  seen_vote : (vote : Said) → IsSeenVote s f vote → (host : ℕ) × IsVoteOf s.version host vote.mbal vote.bal vote.inp
  seen_vote vote (inl seen) =
      (s.host, subst (λ (x : Said). IsVoteOf s.version s.host x.mbal x.bal x.inp) (sym seen.is) (votes Opening seen.disk s.host seen.row seen.read is_host))
  seen_vote vote (inr seen) =
      (seen.host, subst (λ (x : Said). IsVoteOf s.version seen.host x.mbal x.bal x.inp) (sym seen.is) (votes One seen.disk seen.host seen.row seen.read seen.below))

  -- where the latest vote has no input it has no bal
  best_zero : IsFrom s f (best s f) → (best s f).inp ≡ None → (best s f).bal ≡ 0
  best_zero (inl is) none = ap (λ (x : Said). x.bal) is
  best_zero (inr seen) none = (let vote = seen_vote (best s f) seen in zero_of s.version vote.0 (best s f).mbal (best s f).bal (best s f).inp vote.1 none)

  -- so no vote that was seen has one
  no_inputs : (best s f).inp ≡ None → (vote : Said) → IsSeenVote s f vote → vote.inp ≡ None
  no_inputs none vote seen =
      let is = seen_vote vote seen in
      none_of s.version is.0 vote.mbal vote.bal vote.inp is.1 (omega (arith, seen_under s f vote seen, best_zero (best_from s f s.disks (omega arith)) none))

  -- and where it has one, that is a latest input
  latest_is : (value : List ℕ) → IsFrom s f (best s f) → (best s f).inp ≡ Some value → IsLatestInput s f value
  latest_is value (inl is) some = (let none : (best s f).inp ≡ None = ap (λ (x : Said). x.inp) is in absurd (cc))
  latest_is value (inr seen) some = record { vote = best s f; seen = seen; inp = some; latest = seen_under s f }

  -- by whether it has one
  proposed_by : (value : List ℕ) (o : Option (List ℕ)) → (best s f).inp ≡ o → or_else o s.input ≡ Some value → IsProposal s f value
  proposed_by value None none is = inr (record { none = no_inputs none; inp = is })
  proposed_by value (Some other) some is = inl (latest_is value (best_from s f s.disks (omega arith)) (some ∙ is))

  -- a proposal is the input of a latest vote that was seen, or the attempt's own where no vote was
  pub proposed : (value : List ℕ) → proposal s f ≡ Some value → IsProposal s f value
  proposed value is = proposed_by value (best s f).inp refl is

  -- neither the latest vote has an input nor the attempt
  nothing : (o : Option (List ℕ)) → (best s f).inp ≡ o → or_else o s.input ≡ None → HasNoInput s f
  nothing None none is = record { none = no_inputs none; inp = is }
  nothing (Some value) some is = absurd (cc)

  -- where there is no proposal, there was no input
  pub not_proposed : proposal s f ≡ None → HasNoInput s f
  not_proposed is = nothing (best s f).inp refl is
