-- The ballot that a host takes, and what it may say at it.
use Rattle.std.proofs.Common.{max, ◌≡◌, ◌+◌, ◌<◌, ◌≤◌, ℕ, zero, suc, Bool, true, false, List, nat_lt, nat_le, length, Option, Some, None, refl, sym, ap, ◌∙◌, subst, inl, inr, arith}
use Rattle.std.proofs.lemmas.Bool.Decides.{nat_tests}
use Rattle.std.proofs.lemmas.Bool.{cases_lt, eq-eqb, ne_eqb}
use Rattle.std.specs.Prelude.{◌==◌, ◌≢◌, if◌then◌else◌}
use Rattle.std.specs.Ordering.{nat_cmp, ord_max}
use Rattle.std.proofs.lemmas.List.{get_or_past}
use Rattle.torn_block.specs.declared.layout.TheConstants.{LAST_SEQUENCE, HOSTS_ROOM}
use Rattle.torn_block.specs.Block.{next_number}
use Rattle.paxos_block.specs.declared.ballot.TheConstants.{LAST_BALLOT}
use Rattle.paxos_block.specs.Saying.{Said, IsVoteOf, MaySay}
use Rattle.paxos_block.specs.Ballot.{owner_of, IsBallotOf}
use Rattle.paxos_block.specs.Row.{IsSaid, DecodedBlock, number_or_zero, blank, blank_seen}
use Rattle.paxos_block.specs.Votes.{says_in, ballot_above, greatest, later_of, latest_below, marked, marked_below}
use Rattle.std.specs.Option.{option_map, option_or}
use Rattle.torn_block.specs.Layout.{Version, Version1, Version2, hosts_in}

-- THE LEAST BALLOT ABOVE A NUMBER

above_by : (v : Version) (host n : ℕ) (b : Bool) → nat_lt n (host + 1) ≡ b → n < ballot_above v host n
above_by v host n true is = rw is (grind (arith, nat_tests))
above_by Version1 host n false is =
    let far : host + 1 ≤ n = grind (arith, nat_tests) in
    rw is (omega arith)
above_by Version2 host n false is =
    let far : host + 1 ≤ n = grind (arith, nat_tests) in
    rw is (omega arith)

pub above : (v : Version) → (host n : ℕ) → n < ballot_above v host n
above v host n = above_by v host n (nat_lt n (host + 1)) refl

owned_by : (v : Version) (host n : ℕ) (b : Bool) → host < hosts_in v → nat_lt n (host + 1) ≡ b → owner_of v (ballot_above v host n) ≡ host
owned_by Version1 host n true below is = rw is (omega arith)
owned_by Version1 host n false below is = rw is (omega arith)
owned_by Version2 host n true below is = rw is (omega arith)
owned_by Version2 host n false below is = rw is (omega arith)

pub owned : (v : Version) → (host n : ℕ) → host < (hosts_in v) → owner_of v (ballot_above v host n) ≡ host
owned v host n below = owned_by v host n (nat_lt n (host + 1)) below refl

pub not_spent : (b : ℕ) → nat_lt LAST_BALLOT b ≡ false → b ≤ LAST_BALLOT
not_spent b fits = grind (arith, nat_tests)

pub is_ballot : (v : Version) → (host n : ℕ) → host < (hosts_in v) → nat_lt LAST_BALLOT (ballot_above v host n) ≡ false → IsBallotOf v host (ballot_above v host n)
is_ballot v host n below fits =
    record { positive = omega (arith, above v host n); within = not_spent (ballot_above v host n) fits; owned = owned v host n below }

-- GREATEST VALUES

-- each of the values is at most the greatest
pub greatest_is_greatest : (n : ℕ) (f : ℕ → ℕ) (g : ℕ) → g < n → f g ≤ greatest n f
greatest_is_greatest zero f g below = absurd (omega arith)
greatest_is_greatest (suc n) f g below =
    elim (cases_lt g n) [
      | inl less ↦ omega (arith, greatest_is_greatest n f g less)
      | inr same ↦ (let is : g ≡ n = omega arith in omega (arith, ap f is))
    ]

-- it is the same of the same values
pub greatest_same : (n : ℕ) (g h : ℕ → ℕ) → ((e : ℕ) → e < n → g e ≡ h e) → greatest n g ≡ greatest n h
greatest_same zero g h e = refl
greatest_same (suc n) g h e =
    let before : greatest n g ≡ greatest n h = greatest_same n g h (λ k l. e k (omega arith)) in
    let here : g n ≡ h n = e n (omega arith) in
    rw (before, here) refl

-- THE FIRST MARKED BLOCK

-- it is the first of however many blocks more
pub first_marked : (row : List DecodedBlock) (g n : ℕ) (value : List ℕ) → g < n → marked_below row g ≡ None → marked (says_in row g) ≡ Some value → marked_below row n ≡ Some value
first_marked row g zero value below none is = absurd (omega arith)
first_marked row g (suc n) value below none is =
    elim (cases_lt g n) [
      | inl less ↦ ap (λ (o : Option (List ℕ)). option_or o (marked (says_in row n))) (first_marked row g n value less none is)
      | inr same ↦
          (let at : g ≡ n = omega arith in
          ap (λ (o : Option (List ℕ)). option_or o (marked (says_in row n))) (subst (λ (m : ℕ). marked_below row m ≡ None) at none)
          ∙ subst (λ (m : ℕ). marked (says_in row m) ≡ Some value) at is)
    ]

-- WHAT MAY BE SAID

-- a vote at a ballot up to another is one up to a greater
pub vote_at : (v : Version) → (host mbal b bal : ℕ) (inp : Option (List ℕ)) → mbal ≤ b → IsVoteOf v host mbal bal inp → IsVoteOf v host b bal inp
vote_at v host mbal b bal None less vote = vote
vote_at v host mbal b bal (Some value) less vote = (vote.0, omega (arith, vote.1))

-- what a block says is a vote up to its mbal
pub vote_in : (v : Version) → (host : ℕ) (value : Option (ℕ × List ℕ)) (says : Said) → IsSaid v host value says → IsVoteOf v host says.mbal says.bal says.inp
vote_in v host None says is = subst (λ (x : Said). IsVoteOf v host x.mbal x.bal x.inp) (sym is) refl
vote_in v host (Some value) says is = is.1.vote

later_by : (v : Version) → (host b : ℕ) (best says : Said) (test : Bool) → nat_lt best.bal says.bal ≡ test → IsVoteOf v host b best.bal best.inp → IsVoteOf v host b says.bal says.inp → IsVoteOf v host b (later_of best says).bal (later_of best says).inp
later_by v host b best says true is first second = rw is second
later_by v host b best says false is first second = rw is first

-- the later of two votes is a vote
pub later_vote : (v : Version) → (host b : ℕ) (best says : Said) → IsVoteOf v host b best.bal best.inp → IsVoteOf v host b says.bal says.inp → IsVoteOf v host b (later_of best says).bal (later_of best says).inp
later_vote v host b best says first second = later_by v host b best says (nat_lt best.bal says.bal) refl first second

-- a vote may be promised with at a ballot that is not below
pub may_promise : (v : Version) → (host b : ℕ) (vote : Said) → IsBallotOf v host b → IsVoteOf v host b vote.bal vote.inp → MaySay v host (record { mbal = b; bal = vote.bal; inp = vote.inp; mark = false })
may_promise v host b vote is voted = record { mbal = is; vote = voted; mark = tt }

-- any value may be voted for at the own ballot
pub may_vote : (v : Version) → (host b : ℕ) (value : List ℕ) → IsBallotOf v host b → MaySay v host (record { mbal = b; bal = b; inp = Some value; mark = false })
may_vote v host b value is = record { mbal = is; vote = (is, omega arith); mark = tt }

-- SEQUENCE NUMBERS

pub unspent : (told : Option ℕ) (n : ℕ) → number_or_zero told ≡ n → next_number told ≤ LAST_SEQUENCE → nat_le LAST_SEQUENCE n ≡ false
unspent None n is fits = grind (arith, nat_tests)
unspent (Some number) n is fits = grind (arith, nat_tests)

pub spent : (told : Option ℕ) (n : ℕ) → number_or_zero told ≡ n → ¬ (next_number told ≤ LAST_SEQUENCE) → nat_le LAST_SEQUENCE n ≡ true
spent None n is none = absurd (none (omega arith))
spent (Some number) n is none = let over : LAST_SEQUENCE < number + 1 = omega arith in grind (arith, nat_tests)

-- ONE VALUE MORE

pub greatest_next : (n : ℕ) (f : ℕ → ℕ) → greatest (n + 1) f ≡ max (greatest n f) (f n)
greatest_next n f = let e : n + 1 ≡ suc n = omega arith in rw e refl

pub max_is : (a b : ℕ) → ord_max nat_cmp a b ≡ max a b
max_is a b = grind (arith, nat_tests)

pub latest_own : (host : ℕ) (row : List DecodedBlock) (g : ℕ) (best : Said) → g ≡ host → latest_below host row (g + 1) best ≡ latest_below host row g best
latest_own host row g best is =
    let e : g + 1 ≡ suc g = omega arith in
    let t : (g == host) ≡ true = eq-eqb g host is in
    rw (e, t) refl

pub latest_other : (host : ℕ) (row : List DecodedBlock) (g : ℕ) (best : Said) → g ≢ host → latest_below host row (g + 1) best ≡ later_of (latest_below host row g best) (says_in row g)
latest_other host row g best not =
    let e : g + 1 ≡ suc g = omega arith in
    let t : (g == host) ≡ false = ne_eqb g host not in
    rw (e, t) refl

abbrev pub other_mbal : ℕ → List DecodedBlock → ℕ → ℕ
other_mbal host row k = if k == host then 0 else (says_in row k).mbal

pub others_own : (host : ℕ) (row : List DecodedBlock) (g : ℕ) → g ≡ host → greatest (g + 1) (other_mbal host row) ≡ greatest g (other_mbal host row)
others_own host row g is =
    let t : (g == host) ≡ true = eq-eqb g host is in
    let zero_here : other_mbal host row g ≡ 0 = ap (λ (b : Bool). if b then 0 else (says_in row g).mbal) t in
    greatest_next g (other_mbal host row) ∙ (omega (arith, zero_here))

pub others_other : (host : ℕ) (row : List DecodedBlock) (g : ℕ) → g ≢ host → greatest (g + 1) (other_mbal host row) ≡ max (greatest g (other_mbal host row)) (says_in row g).mbal
others_other host row g not =
    let t : (g == host) ≡ false = ne_eqb g host not in
    greatest_next g (other_mbal host row) ∙ ap (λ (b : Bool). max (greatest g (other_mbal host row)) (if b then 0 else (says_in row g).mbal)) t

pub marked_next : (row : List DecodedBlock) (g : ℕ) → marked_below row (g + 1) ≡ option_or (marked_below row g) (marked (says_in row g))
marked_next row g = let e : g + 1 ≡ suc g = omega arith in rw e refl

pub or_mapped : {V : Type 0} (f : V → List ℕ) (a b : Option V) → option_map f (option_or a b) ≡ option_or (option_map f a) (option_map f b)
or_mapped f None b = refl
or_mapped f (Some x) b = refl

-- HOSTS THAT THERE ARE NOT: what they say is blank, which changes nothing

abbrev RestIs : (ℕ → Type 0) → ℕ → ℕ → Type 0
RestIs P n m = (g : ℕ) → n ≤ g → g < m → P g

pub greatest_rest : (f : ℕ → ℕ) (n m : ℕ) → n ≤ m → RestIs (λ g. f g ≡ 0) n m → greatest m f ≡ greatest n f
greatest_rest f n zero few rest = let none : 0 ≡ n = omega arith in ap (λ (k : ℕ). greatest k f) none
greatest_rest f n (suc m) few rest =
    elim (cases_lt m n) [
      | inl lt ↦ (let all : suc m ≡ n = omega arith in ap (λ (k : ℕ). greatest k f) all)
      | inr le ↦
          (let here : f m ≡ 0 = rest m le (omega arith) in
          let before = greatest_rest f n m le (λ g from below. rest g from (omega arith)) in
          rw (here, before) (omega arith))
    ]

pub later_blank : (best : Said) → later_of best blank ≡ best
later_blank best =
    let never : nat_lt best.bal 0 ≡ false = grind (arith, nat_tests) in
    ap (λ (b : Bool). if b then blank else best) never

latest_same : (host : ℕ) (row : List DecodedBlock) (best : Said) (m : ℕ) (t : Bool) → says_in row m ≡ blank → (if t then latest_below host row m best else later_of (latest_below host row m best) (says_in row m)) ≡ latest_below host row m best
latest_same host row best m true is = refl
latest_same host row best m false is = ap (later_of (latest_below host row m best)) is ∙ later_blank (latest_below host row m best)

pub latest_rest : (host : ℕ) (row : List DecodedBlock) (best : Said) (n m : ℕ) → n ≤ m → RestIs (λ g. says_in row g ≡ blank) n m → latest_below host row m best ≡ latest_below host row n best
latest_rest host row best n zero few rest = let none : 0 ≡ n = omega arith in ap (λ (k : ℕ). latest_below host row k best) none
latest_rest host row best n (suc m) few rest =
    elim (cases_lt m n) [
      | inl lt ↦ (let all : suc m ≡ n = omega arith in ap (λ (k : ℕ). latest_below host row k best) all)
      | inr le ↦ latest_same host row best m (m == host) (rest m le (omega arith)) ∙ latest_rest host row best n m le (λ g from below. rest g from (omega arith))
    ]

pub or_none : (o : Option (List ℕ)) → option_or o None ≡ o
or_none None = refl
or_none (Some value) = refl

pub marked_rest : (row : List DecodedBlock) (n m : ℕ) → n ≤ m → RestIs (λ g. says_in row g ≡ blank) n m → marked_below row m ≡ marked_below row n
marked_rest row n zero few rest = let none : 0 ≡ n = omega arith in ap (marked_below row) none
marked_rest row n (suc m) few rest =
    elim (cases_lt m n) [
      | inl lt ↦ (let all : suc m ≡ n = omega arith in ap (marked_below row) all)
      | inr le ↦
          ap (λ (s : Said). option_or (marked_below row m) (marked s)) (rest m le (omega arith))
          ∙ or_none (marked_below row m)
          ∙ marked_rest row n m le (λ g from below. rest g from (omega arith))
    ]

-- so it is in a row
pub says_rest : (v : Version) (row : List DecodedBlock) → length row ≡ hosts_in v → RestIs (λ g. says_in row g ≡ blank) (hosts_in v) HOSTS_ROOM
says_rest v row count g from below = ap (λ (s : DecodedBlock). s.says) (get_or_past row g blank_seen (omega (arith, count, from)))
