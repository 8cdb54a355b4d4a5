-- What an attempt writes is a vote of its host, and fills its place in a block.
use Rattle.std.specs.Prelude.{slice_get, nat_lt, is_some, option_and_then, if◌then◌else◌, pred}
use Rattle.std.proofs.Common.{ℕ, zero, suc, ◌+◌, ◌<◌, ◌≤◌, ◌≡◌, ◌==◌, inl, inr, Bool, true, false, Option, Some, None, List, [], ◌∷◌, ◌++◌, length, length-append, refl, sym, subst, ap, ap₂, ◌∙◌, arith}
use Rattle.std.proofs.lemmas.List.{length-take-le}
use Rattle.std.proofs.lemmas.Bool.{cases_lt, cases_eq}
use Rattle.std.proofs.Common.{length-drop}
use Rattle.torn_block.specs.declared.layout.TheConstants.{HEADING_LENGTH}
use Rattle.torn_block.specs.Layout.{Version, hosts_in, copy_length, body_length, block_length, row_length, value_length, padding}
use Rattle.torn_block.specs.declared.block.Half.TheVariants.{First, Second}
use Rattle.torn_block.specs.Block.{is_open, sequence_of, body_of, copy_of, choice, value_at, value_of, number_bytes}
use Rattle.torn_block.specs.Damage.{block_of}
use Rattle.torn_block.proofs.DamageLaws.{length-body_of}
use Rattle.paxos_block.specs.Saying.{Said, zeros, MaySay, heading, value_bytes, body_saying}
use Rattle.paxos_block.specs.Ballot.{IsBallotOf}
use Rattle.paxos_block.specs.Row.{IsSaid, DecodedBlock, seen_in, seen_at, decoded_row}
use Rattle.paxos_block.specs.Votes.{says_in, later_of, latest_below}
use Rattle.torn_block.proofs.DamagedRows.{length-block_of}
use Rattle.paxos_block.proofs.RowLemmas.{said_sees, said_is_said}
use Rattle.paxos_block.proofs.SayingLemmas.{length-number, length-zeros, body_parts}
use Rattle.paxos_block.proofs.VoteLemmas.{above, is_ballot, greatest_is_greatest, vote_at, vote_in, later_vote, may_promise, may_vote}
use Rattle.attempt.specs.Calls.{Phase, Opening, One, Two, start, goal}
use Rattle.attempt.specs.Answers.{Heard, Told, Answers, told, row_in}
use Rattle.attempt.specs.Setup.{Setup}
use Rattle.attempt.specs.Proposal.{top_in, highest, ballot, own_in, own_below, own, best_in, best_below, best, or_else, proposal}
use Rattle.attempt.specs.NextCall.{some_value, says_for}
use Rattle.attempt.specs.Standing.{HasBallot, IsIn}
use Rattle.attempt.proofs.Lists.{length_more, get_front, get_last, get_none}
use Rattle.attempt.proofs.Rows.{AreSameRows, ballot_same, own_same, proposal_same}
use Rattle.attempt.specs.Votes.{IsLong, IsVoteBy, ShowsVotes, TellsVotes}

-- A ROW

-- the body of a block's value has its length
body_long : (v : Version) → (a b c : Bool) (first second : List ℕ) (value : ℕ × List ℕ) → length first ≡ (copy_length v) → length second ≡ (copy_length v) → value_at (choice a b c) first second ≡ Some value → length value.1 ≡ body_length v
body_long v true true true first second value one two is = let same : (sequence_of second, body_of second) ≡ value = cc in ap (λ (u : ℕ × List ℕ). length u.1) (sym same) ∙ length-body_of v second two
body_long v true true false first second value one two is = let same : (sequence_of first, body_of first) ≡ value = cc in ap (λ (u : ℕ × List ℕ). length u.1) (sym same) ∙ length-body_of v first one
body_long v true false c first second value one two is = let same : (sequence_of first, body_of first) ≡ value = cc in ap (λ (u : ℕ × List ℕ). length u.1) (sym same) ∙ length-body_of v first one
body_long v false true c first second value one two is = let same : (sequence_of second, body_of second) ≡ value = cc in ap (λ (u : ℕ × List ℕ). length u.1) (sym same) ∙ length-body_of v second two
body_long v false false c first second value one two is = absurd (cc)

value_long : (v : Version) → (block : List ℕ) (value : ℕ × List ℕ) → length block ≡ block_length v → value_of v block ≡ Some value → length value.1 ≡ body_length v
value_long v block value long is =
    body_long v (is_open (copy_of v First block)) (is_open (copy_of v Second block)) (nat_lt (sequence_of (copy_of v First block)) (sequence_of (copy_of v Second block))) (copy_of v First block) (copy_of v Second block) value
    (length-take-le (copy_length v) block (omega (arith, long))) (omega (arith, length-drop (copy_length v) block, long)) is

-- the length of a body, by its input
heading_long : (v : Version) → (voted marked : Bool) → length (heading v voted marked) ≡ HEADING_LENGTH
unfolding heading
heading_long v voted marked = refl

body_is : (v : Version) → (says : Said) → length (body_saying v says) ≡ 23 + length (value_bytes v says.inp) + padding v
unfolding body_saying
body_is v says =
    omega (
      arith,
      length-append (heading v (is_some says.inp) says.mark) (number_bytes says.mbal ++ (number_bytes says.bal ++ (value_bytes v says.inp ++ zeros (padding v)))),
      length-append (number_bytes says.mbal) (number_bytes says.bal ++ (value_bytes v says.inp ++ zeros (padding v))),
      length-append (number_bytes says.bal) (value_bytes v says.inp ++ zeros (padding v)),
      length-append (value_bytes v says.inp) (zeros (padding v)),
      length-zeros (padding v),
      heading_long v (is_some says.inp) says.mark,
      length-number says.mbal,
      length-number says.bal,
    )

zeros_long : (v : Version) → (inp : Option (List ℕ)) → IsLong v inp → length (value_bytes v inp) ≡ (value_length v)
zeros_long v None long = length-zeros (value_length v)
zeros_long v (Some value) long = long

long_by : (v : Version) → (inp : Option (List ℕ)) → length (value_bytes v inp) ≡ (value_length v) → IsLong v inp
long_by v None is = tt
long_by v (Some value) is = is

-- what has a long input fills a body
pub fills : (v : Version) → (says : Said) → IsLong v says.inp → length (body_saying v says) ≡ body_length v
fills v says long = omega (arith, body_parts v, body_is v says, zeros_long v says.inp long)

pub said_long : (v : Version) → (host : ℕ) (block : List ℕ) (says : Said) (o : Option (ℕ × List ℕ)) → length block ≡ block_length v → value_of v block ≡ o → IsSaid v host o says → IsLong v says.inp
said_long v host block says None long is said = subst (λ (x : Said). IsLong v x.inp) (sym said) tt
said_long v host block says (Some value) long is said =
    long_by v says.inp (let all = value_long v block value long is in let body = ap length said.2 in omega (arith, body_parts v, body_is v says, all, body))

-- a sound row of a disk shows votes
pub row_shows : (v : Version) → (bytes : List ℕ) (row : List DecodedBlock) → length bytes ≡ row_length v → decoded_row v bytes ≡ Some row → ShowsVotes v row
row_shows v bytes row long said g below =
    let seen : seen_at row g ≡ seen_in v (block_of v g bytes) = said_sees v bytes row g below said in
    let is : IsSaid v g (value_of v (seen_at row g).bytes) (says_in row g) = said_is_said v bytes row g below said in
    let size : length (seen_at row g).bytes ≡ block_length v = ap (λ (b : DecodedBlock). length b.bytes) seen ∙ length-block_of v g bytes below long in
    record {
      vote = vote_in v g (value_of v (seen_at row g).bytes) (says_in row g) is;
      long = said_long v g (seen_at row g).bytes (says_in row g) (value_of v (seen_at row g).bytes) size refl is;
    }

-- THE ROWS THAT WERE READ

pub votes_none : (v : Version) → TellsVotes v []
votes_none v n row is = absurd (cc)

pub votes_more : (v : Version) → (a : List Heard) (x : Heard) → TellsVotes v a → ((row : List DecodedBlock) → x ≡ Told (Some row) → ShowsVotes v row) → TellsVotes v (a ++ x ∷ [])
votes_more v a x before last n row is = elim (cases_lt n (length a)) [
  | inl old ↦ before n row (sym (get_front a x n old) ∙ is)
  | inr new ↦
      elim (cases_eq n (length a)) [
        | inl end ↦ last row (let both : Some x ≡ Some (Told (Some row)) = sym (get_last a x n end) ∙ is in cc)
        | inr over ↦ (let none : slice_get (a ++ x ∷ []) n ≡ None = get_none (a ++ x ∷ []) n (omega (arith, length_more a x, new, over)) in absurd (cc))
      ]
]

pub told_is : (o : Option Heard) (row : List DecodedBlock) → option_and_then told o ≡ Some row → o ≡ Some (Told (Some row))
told_is None row is = absurd (cc)
told_is (Some (Told (Some seen))) row is = let same : seen ≡ row = cc in ap (λ (r : List DecodedBlock). Some (Told (Some r))) same
told_is (Some (Told None)) row is = absurd (cc)
told_is (Some other) row is = absurd (cc)

pub row_told : (v : Version) → (p : Phase) (a : List Heard) (row : List DecodedBlock) → TellsVotes v a → row_in p a ≡ Some row → ShowsVotes v row
row_told v p a row votes is = votes (pred (goal p)) row (told_is (slice_get a (pred (goal p))) row is)

-- WHAT FOLLOWS FROM THEM

later_long_by : (v : Version) → (best says : Said) (test : Bool) → nat_lt best.bal says.bal ≡ test → IsLong v best.inp → IsLong v says.inp → IsLong v (later_of best says).inp
later_long_by v best says true is first second = rw is second
later_long_by v best says false is first second = rw is first

later_long : (v : Version) → (best says : Said) → IsLong v best.inp → IsLong v says.inp → IsLong v (later_of best says).inp
later_long v best says first second = later_long_by v best says (nat_lt best.bal says.bal) refl first second

latest_long : (v : Version) → (host : ℕ) (row : List DecodedBlock) (n : ℕ) (best : Said) → n ≤ hosts_in v → ShowsVotes v row → IsLong v best.inp → IsLong v (latest_below host row n best).inp
latest_long v host row zero best all shows is = is
latest_long v host row (suc g) best all shows is = go (g == host) (latest_long v host row g best (omega arith) shows is)
  where
    go : (t : Bool) → IsLong v (latest_below host row g best).inp → IsLong v (if t then latest_below host row g best else later_of (latest_below host row g best) (says_in row g)).inp
    go true before = before
    go false before = later_long v (latest_below host row g best) (says_in row g) before (shows g (omega arith)).long

module _ (s : Setup) (f : Answers) (host_below : s.host < hosts_in s.version) (votes : (d : ℕ) → TellsVotes s.version (f d)) where
  own_step : (d : ℕ) (best : Said) (o : Option (List DecodedBlock)) → row_in Opening (f d) ≡ o → top_in s.version o ≤ ballot s f → IsVoteBy s.version s.host (ballot s f) best → IsVoteBy s.version s.host (ballot s f) (own_in s.host best o)
  own_step d best None is low before = before
  own_step d best (Some row) is low before =
      let shown = row_told s.version Opening (f d) row (votes d) is s.host host_below in
      let most = greatest_is_greatest (hosts_in s.version) (λ g. (says_in row g).mbal) s.host host_below in
      record {
        vote = later_vote s.version s.host (ballot s f) best (says_in row s.host) before.vote (vote_at s.version s.host (says_in row s.host).mbal (ballot s f) (says_in row s.host).bal (says_in row s.host).inp (omega (arith, most, low)) shown.vote);
        long = later_long s.version best (says_in row s.host) before.long shown.long;
      }

  own_so : (n : ℕ) → n ≤ s.disks → IsVoteBy s.version s.host (ballot s f) (own_below s f n)
  own_so zero all = record { vote = refl; long = tt }
  own_so (suc d) all =
      let most = greatest_is_greatest s.disks (λ e. top_in s.version (row_in Opening (f e))) d all in
      let over = above s.version s.host (highest s f) in
      own_step d (own_below s f d) (row_in Opening (f d)) refl (omega (arith, most, over)) (own_so d (omega arith))

  -- the own latest vote is one
  pub own_votes : IsVoteBy s.version s.host (ballot s f) (own s f)
  own_votes = own_so s.disks (omega arith)

  best_step : (d : ℕ) (best : Said) (o : Option (List DecodedBlock)) → row_in One (f d) ≡ o → IsLong s.version best.inp → IsLong s.version (best_in s.version s.host best o).inp
  best_step d best None is before = before
  best_step d best (Some row) is before = latest_long s.version s.host row (hosts_in s.version) best (omega arith) (row_told s.version One (f d) row (votes d) is) before

  best_so : (n : ℕ) → IsLong s.version (best_below s f n).inp
  best_so zero = own_votes.long
  best_so (suc d) = best_step d (best_below s f d) (row_in One (f d)) refl (best_so d)

  or_long : (first second : Option (List ℕ)) → IsLong s.version first → IsLong s.version second → IsLong s.version (or_else first second)
  or_long None second a b = b
  or_long (Some value) second a b = a

  -- a proposal is long, where the input is
  pub proposal_long : IsLong s.version s.input → IsLong s.version (proposal s f)
  proposal_long input = or_long (best s f).inp s.input (best_so s.disks) input

  -- what is written in a phase may be said, and fills a body
  pub record MayWrite (p : Phase) : Type 0 where
    pub may_say : MaySay s.version s.host (says_for s p f)
    pub fills : length (body_saying s.version (says_for s p f)) ≡ body_length s.version

  takes_ballot : HasBallot s f → IsBallotOf s.version s.host (ballot s f)
  takes_ballot is = is_ballot s.version s.host (highest s f) host_below is.fits

  pub may_write_one : HasBallot s f → MayWrite One
  may_write_one is =
      record { may_say = may_promise s.version s.host (ballot s f) (own s f) (takes_ballot is) own_votes.vote; fills = fills s.version (says_for s One f) own_votes.long }

  some_long : (o : Option (List ℕ)) (value : List ℕ) → o ≡ Some value → IsLong s.version o → IsLong s.version (Some (some_value o))
  some_long None value is long = absurd (cc)
  some_long (Some found) value is long = long

  pub may_write_two : IsLong s.version s.input → IsIn s Two f → MayWrite Two
  may_write_two input is =
      record {
        may_say = may_vote s.version s.host (ballot s f) (some_value (proposal s f)) (takes_ballot is.1.taken);
        fills = fills s.version (says_for s Two f) (some_long (proposal s f) is.0 is.1.is (proposal_long input));
      }

-- WITH OTHER ROWS

-- what is written in a phase goes by the rows of the phases before
pub says_same : (s : Setup) (f g : Answers) (p : Phase) → ((q : Phase) → goal q ≤ start p → AreSameRows q f g) → says_for s p f ≡ says_for s p g
says_same s f g Opening same = refl
says_same s f g One same =
    ap₂ (λ (b : ℕ) (vote : Said). record { mbal = b; bal = vote.bal; inp = vote.inp; mark = false }) (ballot_same s f g (same Opening (omega arith))) (own_same s f g (same Opening (omega arith)) s.disks)
says_same s f g Two same =
    ap₂ (λ (b : ℕ) (o : Option (List ℕ)). record { mbal = b; bal = b; inp = Some (some_value o); mark = false }) (ballot_same s f g (same Opening (omega arith))) (proposal_same s f g (same Opening (omega arith)) (same One (omega arith)))
