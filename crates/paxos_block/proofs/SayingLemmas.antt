-- A body is read as what it was written to say, and what is read is spelled so.
use Rattle.std.specs.Prelude.{◌≡◌, ◌≢◌, ◌==◌, ◌&&◌, ◌+◌, ◌*◌, ◌-◌, ◌≤◌, ◌<◌, ◌^◌, ◌++◌, ℕ, Bool, true, false, List, [], ◌∷◌, length, take, drop, slice_index, Option, Some, None, is_some, IfSome, nat_eq, nat_le, if◌then◌else◌}
use Rattle.std.proofs.Common.{true≢false, zero, suc, refl, sym, ap, ◌∙◌, subst, arith, inl, inr, length-drop, length-append}
use Rattle.std.specs.List.{list_all}
use Rattle.std.proofs.lemmas.List.{take_rest, take_at, drop_at, drop-drop, take-append-drop, take-take, length-replicate, length-take-le, get_or_append_left, replicate-append-replicate}
use Rattle.std.proofs.Math.Seq.{take-append_seam}
use Rattle.std.proofs.lemmas.Bool.{and_parts, and_from, leb-true, le-leb, eqb-true, eq-eqb, cases_Bool, cond-true, cond-false, false_from_ne_true, ne_eqb}
use Rattle.std.specs.Cmp.Lexicographic.{pointwise, bytes_decides}
use Rattle.byteorder.specs.Endian.{big_number, big_bytes}
use Rattle.byteorder.specs.Numbers.{big_number-reads_back, length-bytes_high_first}
use Rattle.torn_block.specs.Numbers.{AreBytes}
use Rattle.torn_block.proofs.NumberLaws.{AreBytes-drop, spelled_8, spelled_4}
use Rattle.torn_block.specs.Block.{number_bytes}
use Rattle.torn_block.specs.declared.layout.TheConstants.{HEADING_LENGTH}
use Rattle.paxos_block.specs.declared.block.TheConstants.{BALLOTS_LENGTH, VERSION_PLACE, VOTED, MARKED}
use Rattle.paxos_block.specs.declared.number.TheConstants.{NUMBER_LENGTH}
use Rattle.paxos_block.specs.Saying.{Said, said_as, zeros, MaySay, IsVoteOf, IsMarkOf, flag_of, heading, value_bytes, body_saying, number_at, value_at, claim_of, may_mark, may_say, is_said, said_by}
use Rattle.paxos_block.specs.Ballot.{IsBallotOf, is_ballot_of, may_vote, may_promise, owner_of}
use Rattle.paxos_block.specs.Headers.{short_at}
use Rattle.torn_block.specs.Layout.{Version, Version1, Version2, body_length, value_length, padding, number_of}

and-true : (b : Bool) → (b && true) ≡ b
and-true true = refl
and-true false = refl

-- ---- the tests decide the facts

pub is_ballot_tells : (v : Version) → (host ballot : ℕ) → is_ballot_of v host ballot ≡ true → IsBallotOf v host ballot
is_ballot_tells v host ballot t =
    let a = and_parts (nat_le 1 ballot && nat_le ballot (2 ^ 62)) (owner_of v ballot == host) t in
    let b = and_parts (nat_le 1 ballot) (nat_le ballot (2 ^ 62)) a.0 in
    record { positive = leb-true 1 ballot b.0; within = leb-true ballot (2 ^ 62) b.1; owned = eqb-true (owner_of v ballot) host a.1 }

pub is_ballot_since : (v : Version) → (host ballot : ℕ) → IsBallotOf v host ballot → is_ballot_of v host ballot ≡ true
is_ballot_since v host ballot p =
    and_from (nat_le 1 ballot && nat_le ballot (2 ^ 62)) (owner_of v ballot == host)
    (and_from (nat_le 1 ballot) (nat_le ballot (2 ^ 62)) (le-leb 1 ballot p.positive) (le-leb ballot (2 ^ 62) p.within))
    (eq-eqb (owner_of v ballot) host p.owned)

vote_tells : (v : Version) → (host mbal bal : ℕ) (inp : Option (List ℕ)) → may_vote v host mbal bal (is_some inp) ≡ true → IsVoteOf v host mbal bal inp
vote_tells v host mbal bal None t = eqb-true bal 0 t
vote_tells v host mbal bal (Some value) t =
    let a = and_parts (is_ballot_of v host bal) (nat_le bal mbal) t in
    (is_ballot_tells v host bal a.0, leb-true bal mbal a.1)

vote_since : (v : Version) → (host mbal bal : ℕ) (inp : Option (List ℕ)) → IsVoteOf v host mbal bal inp → may_vote v host mbal bal (is_some inp) ≡ true
vote_since v host mbal bal None vote = eq-eqb bal 0 vote
vote_since v host mbal bal (Some value) vote =
    and_from (is_ballot_of v host bal) (nat_le bal mbal) (is_ballot_since v host bal vote.0) (le-leb bal mbal vote.1)

mark_tells : (mark : Bool) (inp : Option (List ℕ)) → may_mark mark (is_some inp) ≡ true → IsMarkOf mark inp
mark_tells false inp t = tt
mark_tells true inp t = t

mark_since : (mark : Bool) (inp : Option (List ℕ)) → IsMarkOf mark inp → may_mark mark (is_some inp) ≡ true
mark_since false inp is = refl
mark_since true inp is = is

pub may_say_tells : (v : Version) → (host : ℕ) (says : Said) → may_say v host says ≡ true → MaySay v host says
may_say_tells v host says t =
    let both = and_parts (may_promise v host says.mbal says.bal (is_some says.inp)) (may_mark says.mark (is_some says.inp)) t in
    let a = and_parts (is_ballot_of v host says.mbal) (may_vote v host says.mbal says.bal (is_some says.inp)) both.0 in
    record { mbal = is_ballot_tells v host says.mbal a.0; vote = vote_tells v host says.mbal says.bal says.inp a.1; mark = mark_tells says.mark says.inp both.1 }

pub may_say_since : (v : Version) → (host : ℕ) (says : Said) → MaySay v host says → may_say v host says ≡ true
may_say_since v host says may =
    and_from (may_promise v host says.mbal says.bal (is_some says.inp)) (may_mark says.mark (is_some says.inp))
    (and_from (is_ballot_of v host says.mbal) (may_vote v host says.mbal says.bal (is_some says.inp)) (is_ballot_since v host says.mbal may.mbal) (vote_since v host says.mbal says.bal says.inp may.vote))
    (mark_since says.mark says.inp may.mark)

-- ---- what a host may say has numbers of eight bytes

bal_within : (v : Version) → (host mbal bal : ℕ) (inp : Option (List ℕ)) → IsVoteOf v host mbal bal inp → bal ≤ 2 ^ 62
bal_within v host mbal bal None vote = omega (arith, vote)
bal_within v host mbal bal (Some value) vote = vote.0.within

-- ---- a body reads as what was spelled

pub length-number : (n : ℕ) → length (number_bytes n) ≡ NUMBER_LENGTH
unfolding number_bytes
length-number n = length-bytes_high_first 8 n

length-heading : (v : Version) → (voted marked : Bool) → length (heading v voted marked) ≡ HEADING_LENGTH
unfolding heading
length-heading v voted marked = refl

pub length-zeros : (n : ℕ) → length (zeros n) ≡ n
unfolding zeros
length-zeros n = length-replicate n 0

flag_in_heading : (v : Version) → (voted marked : Bool) (rest : List ℕ) → slice_index (heading v voted marked ++ rest) 1 ≡ flag_of voted
unfolding heading
flag_in_heading v voted marked rest = refl

mark_in_heading : (v : Version) → (voted marked : Bool) (rest : List ℕ) → slice_index (heading v voted marked ++ rest) 2 ≡ flag_of marked
unfolding heading
mark_in_heading v voted marked rest = refl

flag_tells : (voted : Bool) → (flag_of voted == 1) ≡ voted
flag_tells true = refl
flag_tells false = refl

number_reads_back : (n : ℕ) (rest : List ℕ) → n ≤ 2 ^ 62 → big_number 8 (number_bytes n ++ rest) ≡ n
unfolding number_bytes
number_reads_back n rest fits = let below : n < 2 ^ 64 = omega arith in big_number-reads_back 8 n rest below

-- the parts of a body that says this
module _ (v : Version) (says : Said) where
  end_part : List ℕ
  end_part = value_bytes v says.inp ++ zeros (padding v)

  behind : List ℕ
  behind = number_bytes says.mbal ++ (number_bytes says.bal ++ end_part)

  behind_bal : List ℕ
  behind_bal = number_bytes says.bal ++ end_part

  behind_heading : drop HEADING_LENGTH (body_saying v says) ≡ behind
  unfolding body_saying behind end_part
  behind_heading = drop_at (heading v (is_some says.inp) says.mark) behind 7 (length-heading v (is_some says.inp) says.mark)

  behind_mbal : drop (HEADING_LENGTH + NUMBER_LENGTH) (body_saying v says) ≡ behind_bal
  unfolding behind behind_bal
  behind_mbal =
      sym (drop-drop NUMBER_LENGTH 7 (body_saying v says)) ∙ ap (drop NUMBER_LENGTH) behind_heading ∙ drop_at (number_bytes says.mbal) behind_bal 8 (length-number says.mbal)

  behind_ballots : drop (HEADING_LENGTH + BALLOTS_LENGTH) (body_saying v says) ≡ end_part
  unfolding behind_bal
  behind_ballots =
      sym (drop-drop NUMBER_LENGTH 15 (body_saying v says)) ∙ ap (drop NUMBER_LENGTH) behind_mbal ∙ drop_at (number_bytes says.bal) end_part 8 (length-number says.bal)

  reads_mbal : says.mbal ≤ 2 ^ 62 → number_at HEADING_LENGTH (body_saying v says) ≡ says.mbal
  unfolding number_at behind behind_bal
  reads_mbal fits = ap (big_number 8) behind_heading ∙ number_reads_back says.mbal behind_bal fits

  reads_bal : says.bal ≤ 2 ^ 62 → number_at (HEADING_LENGTH + NUMBER_LENGTH) (body_saying v says) ≡ says.bal
  unfolding number_at behind_bal
  reads_bal fits = ap (big_number 8) behind_mbal ∙ number_reads_back says.bal end_part fits

  reads_flag : slice_index (body_saying v says) 1 ≡ flag_of (is_some says.inp)
  unfolding body_saying behind end_part
  reads_flag = flag_in_heading v (is_some says.inp) says.mark behind

  reads_mark : (slice_index (body_saying v says) 2 == 1) ≡ says.mark
  unfolding body_saying behind end_part
  reads_mark = ap (λ (n : ℕ). n == 1) (mark_in_heading v (is_some says.inp) says.mark behind) ∙ flag_tells says.mark

  input_by : (inp : Option (List ℕ)) → (if is_some inp then Some (value_bytes v inp) else None) ≡ inp
  input_by None = refl
  input_by (Some value) = refl

  -- the bytes of the input, or as many zeros
  reads_value : value_at v (body_saying v says) ≡ value_bytes v says.inp
  unfolding end_part
  reads_value =
      let end_ = value_bytes v says.inp ++ zeros (padding v) in
      let long : length (body_saying v says) - (HEADING_LENGTH + BALLOTS_LENGTH) ≡ length end_ = sym (length-drop 23 (body_saying v says)) ∙ ap length behind_ballots in
      let many : length (body_saying v says) - (HEADING_LENGTH + BALLOTS_LENGTH + padding v) ≡ length (value_bytes v says.inp) =
      omega (arith, long, length-append (value_bytes v says.inp) (zeros (padding v)), length-zeros (padding v)) in
      ap (λ (n : ℕ). take n (drop (HEADING_LENGTH + BALLOTS_LENGTH) (body_saying v says))) many
      ∙ ap (take (length (value_bytes v says.inp))) behind_ballots
      ∙ take-append_seam (value_bytes v says.inp) (zeros (padding v))

  reads_input : (if slice_index (body_saying v says) 1 == 1 then Some (value_at v (body_saying v says)) else None) ≡ says.inp
  reads_input =
      ap (λ (b : Bool). if b then Some (value_at v (body_saying v says)) else None) (ap (λ (n : ℕ). n == 1) reads_flag ∙ flag_tells (is_some says.inp))
      ∙ ap (λ (l : List ℕ). if is_some says.inp then Some l else None) reads_value
      ∙ input_by says.inp

  -- what was spelled is claimed
  pub claims_back : (host : ℕ) → MaySay v host says → claim_of v (body_saying v says) ≡ says
  unfolding claim_of
  claims_back host may =
      λ i. record {
        mbal = reads_mbal may.mbal.within i;
        bal = reads_bal (bal_within v host says.mbal says.bal says.inp may.vote) i;
        inp = reads_input i;
        mark = reads_mark i;
      }

-- what was spelled is said
pub said_back : (v : Version) → (host : ℕ) (says : Said) → MaySay v host says → is_said v host (body_saying v says) ≡ true
unfolding is_said
said_back v host says may =
    let back = claims_back v says host may in
    and_from _ _ (ap (may_say v host) back ∙ may_say_since v host says may) ((bytes_decides (body_saying v (claim_of v (body_saying v says))) (body_saying v says)).1 (ap (body_saying v) back))

-- what is said is spelled so, and the host may say it
pub said_spelled : (v : Version) → (host : ℕ) (body : List ℕ) → is_said v host body ≡ true → MaySay v host (claim_of v body) × (body ≡ body_saying v (claim_of v body))
unfolding is_said
said_spelled v host body t =
    let a = and_parts (may_say v host (claim_of v body)) (pointwise nat_eq (body_saying v (claim_of v body)) body) t in
    (may_say_tells v host (claim_of v body) a.0, sym ((bytes_decides (body_saying v (claim_of v body)) body).0 a.1))

-- both ways: a body says exactly what it is the one spelling of
pub said_found : (v : Version) → (host : ℕ) (body : List ℕ) → IfSome (said_by v host body) (λ says. MaySay v host says × (body ≡ body_saying v says))
said_found v host body =
    elim (cases_Bool (is_said v host body)) [
      | inl is ↦ subst (λ (o : Option Said). IfSome o (λ says. MaySay v host says × (body ≡ body_saying v says))) (sym (cond-true (is_said v host body) (Some (claim_of v body)) None is)) (said_spelled v host body is)
      | inr isnt ↦ subst (λ (o : Option Said). IfSome o (λ says. MaySay v host says × (body ≡ body_saying v says))) (sym (cond-false (is_said v host body) (Some (claim_of v body)) None isnt)) tt
    ]

pub said_only : (v : Version) → (host : ℕ) (body : List ℕ) (says : Said) → MaySay v host says → body ≡ body_saying v says → said_by v host body ≡ Some says
said_only v host body says may is =
    ap (said_by v host) is
    ∙ cond-true (is_said v host (body_saying v says)) (Some (claim_of v (body_saying v says))) None (said_back v host says may)
    ∙ ap (λ (p : Said). Some p) (claims_back v says host may)

-- all of them are zero
pub zero_tells : (bytes : List ℕ) → list_all (λ b. b == 0) bytes ≡ true → bytes ≡ zeros (length bytes)
unfolding zeros
zero_tells [] t = refl
zero_tells (b ∷ bytes) t =
    let a = and_parts (b == 0) (list_all (λ c. c == 0) bytes) t in
    let first = eqb-true b 0 a.0 in
    let rest = zero_tells bytes a.1 in
    λ i. first i ∷ rest i

pub zero_since : (n : ℕ) → list_all (λ b. b == 0) (zeros n) ≡ true
unfolding zeros
zero_since zero = refl
zero_since (suc n) = zero_since n

-- ---- the tests of a reader that has the heading, the ballots and the rest apart

pub body_parts : (v : Version) → body_length v ≡ 23 + value_length v + padding v
body_parts Version1 = refl
body_parts Version2 = refl

pub zeros_joined : (m n : ℕ) → zeros (m + n) ≡ zeros m ++ zeros n
unfolding zeros
zeros_joined m n = sym (replicate-append-replicate m n 0)

module _ (v : Version) (front back : List ℕ) (seven : length front ≡ HEADING_LENGTH) (rest : length back + HEADING_LENGTH ≡ body_length v) (fits : AreBytes back) where
  -- what stands behind the ballots
  abbrev pub end_ : List ℕ
  end_ = drop BALLOTS_LENGTH back

  abbrev pub claim_apart : Said
  claim_apart = record { mbal = number_at 0 back; bal = number_at NUMBER_LENGTH back; inp = if slice_index front 1 == 1 then Some (take (value_length v) end_) else None; mark = slice_index front 2 == 1 }

  rest_at_heading : drop HEADING_LENGTH (front ++ back) ≡ back
  rest_at_heading = drop_at front back 7 seven

  rest_at_bal : drop (HEADING_LENGTH + NUMBER_LENGTH) (front ++ back) ≡ drop NUMBER_LENGTH back
  rest_at_bal = sym (drop-drop NUMBER_LENGTH 7 (front ++ back)) ∙ ap (drop NUMBER_LENGTH) rest_at_heading

  rest_at_value : drop (HEADING_LENGTH + BALLOTS_LENGTH) (front ++ back) ≡ end_
  rest_at_value = sym (drop-drop BALLOTS_LENGTH 7 (front ++ back)) ∙ ap (drop BALLOTS_LENGTH) rest_at_heading

  value_here : value_at v (front ++ back) ≡ take (value_length v) end_
  value_here =
      let many : length (front ++ back) - (HEADING_LENGTH + BALLOTS_LENGTH + padding v) ≡ value_length v = omega (arith, length-append front back, seven, rest, body_parts v) in
      ap (λ (n : ℕ). take n (drop (HEADING_LENGTH + BALLOTS_LENGTH) (front ++ back))) many ∙ ap (take (value_length v)) rest_at_value

  flag_in_front : slice_index (front ++ back) 1 ≡ slice_index front 1
  flag_in_front = get_or_append_left front back 0 1 (omega arith)

  mark_in_front : slice_index (front ++ back) 2 ≡ slice_index front 2
  mark_in_front = get_or_append_left front back 0 2 (omega arith)

  pub claim_of-parts : claim_of v (front ++ back) ≡ claim_apart
  unfolding claim_of number_at
  claim_of-parts =
      λ i. record {
        mbal = big_number 8 (rest_at_heading i);
        bal = big_number 8 (rest_at_bal i);
        inp = if flag_in_front i == 1 then Some (value_here i) else None;
        mark = mark_in_front i == 1;
      }

  -- the numbers are spelled as they stand
  spelled_at : (place : ℕ) → place + 8 ≤ 16 → number_bytes (number_at place back) ≡ take 8 (drop place back)
  unfolding number_bytes number_at
  spelled_at place within = spelled_8 (drop place back) (AreBytes-drop place back fits) (omega (arith, length-drop place back, rest, body_parts v))

  numbers_stand : number_bytes (number_at 0 back) ++ (number_bytes (number_at NUMBER_LENGTH back) ++ end_) ≡ back
  numbers_stand =
      let inner : number_bytes (number_at NUMBER_LENGTH back) ++ end_ ≡ drop NUMBER_LENGTH back =
      ap (λ (l : List ℕ). l ++ end_) (spelled_at 8 (omega arith))
      ∙ ap (λ (l : List ℕ). take 8 (drop NUMBER_LENGTH back) ++ l) (sym (drop-drop NUMBER_LENGTH 8 back))
      ∙ take-append-drop NUMBER_LENGTH (drop NUMBER_LENGTH back) in
      ap (λ (l : List ℕ). number_bytes (number_at 0 back) ++ l) inner
      ∙ ap (λ (l : List ℕ). l ++ drop NUMBER_LENGTH back) (spelled_at 0 (omega arith))
      ∙ take-append-drop NUMBER_LENGTH back

  -- the input, by the flag
  abbrev pub chosen : Bool → Option (List ℕ)
  chosen true = Some (take (value_length v) end_)
  chosen false = None

  inp : Option (List ℕ)
  inp = if slice_index front 1 == 1 then Some (take (value_length v) end_) else None

  inp_by : (voted : Bool) → (if voted then Some (take (value_length v) end_) else None) ≡ chosen voted
  inp_by true = refl
  inp_by false = refl

  mark : Bool
  mark = slice_index front 2 == 1

  heading_flag : (voted marked : Bool) → front ≡ heading v voted marked → slice_index front 1 ≡ flag_of voted
  unfolding heading
  heading_flag voted marked is = ap (λ (l : List ℕ). slice_index l 1) is

  mark_is : (voted marked : Bool) → front ≡ heading v voted marked → mark ≡ marked
  unfolding heading mark
  mark_is voted marked is = ap (λ (l : List ℕ). slice_index l 2 == 1) is ∙ flag_tells marked

  inp_is : (voted marked : Bool) → front ≡ heading v voted marked → inp ≡ chosen voted
  unfolding inp
  inp_is voted marked is =
      ap (λ (b : Bool). if b then Some (take (value_length v) end_) else None) (ap (λ (n : ℕ). n == 1) (heading_flag voted marked is) ∙ flag_tells voted) ∙ inp_by voted

  -- what the bytes behind the ballots have to be
  abbrev pub AreFilled : Bool → Type 0
  AreFilled voted = value_bytes v (chosen voted) ++ zeros (padding v) ≡ end_

  abbrev stands_by : Option (List ℕ) → Bool → List ℕ
  stands_by o m = heading v (is_some o) m ++ (number_bytes (number_at 0 back) ++ (number_bytes (number_at NUMBER_LENGTH back) ++ (value_bytes v o ++ zeros (padding v))))

  spelled_apart : body_saying v claim_apart ≡ stands_by inp mark
  unfolding body_saying inp mark
  spelled_apart = refl

  some_chosen : (voted : Bool) → is_some (chosen voted) ≡ voted
  some_chosen true = refl
  some_chosen false = refl

  stands : (voted marked : Bool) → front ≡ heading v voted marked → AreFilled voted → body_saying v claim_apart ≡ front ++ back
  stands voted marked is filled =
      spelled_apart
      ∙ ap (λ (o : Option (List ℕ)). stands_by o mark) (inp_is voted marked is)
      ∙ ap (stands_by (chosen voted)) (mark_is voted marked is)
      ∙ ap (λ (l : List ℕ). heading v (is_some (chosen voted)) marked ++ (number_bytes (number_at 0 back) ++ (number_bytes (number_at NUMBER_LENGTH back) ++ l))) filled
      ∙ ap (λ (l : List ℕ). heading v (is_some (chosen voted)) marked ++ l) numbers_stand
      ∙ ap (λ (b : Bool). heading v b marked ++ back) (some_chosen voted)
      ∙ ap (λ (l : List ℕ). l ++ back) (sym is)

  -- ---- so a reader that tests the heading, the rest and the ballots tests what is said

  body_is : body_saying v (claim_of v (front ++ back)) ≡ body_saying v claim_apart
  body_is = ap (body_saying v) claim_of-parts

  pub said_filled : (host : ℕ) (voted marked : Bool) → may_mark marked voted ≡ true → front ≡ heading v voted marked → AreFilled voted → is_said v host (front ++ back) ≡ may_promise v host (number_at 0 back) (number_at NUMBER_LENGTH back) voted
  unfolding is_said inp mark
  said_filled host voted marked may is filled =
      let same = (bytes_decides (body_saying v (claim_of v (front ++ back))) (front ++ back)).1 (body_is ∙ stands voted marked is filled) in
      ap (λ (b : Bool). may_say v host (claim_of v (front ++ back)) && b) same
      ∙ and-true (may_say v host (claim_of v (front ++ back)))
      ∙ ap (may_say v host) claim_of-parts
      ∙ ap (λ (b : Bool). may_promise v host (number_at 0 back) (number_at NUMBER_LENGTH back) b && may_mark (slice_index front 2 == 1) b) (ap is_some (inp_is voted marked is) ∙ some_chosen voted)
      ∙ ap (λ (b : Bool). may_promise v host (number_at 0 back) (number_at NUMBER_LENGTH back) voted && b) (ap (λ (b : Bool). may_mark b voted) (mark_is voted marked is) ∙ may)
      ∙ and-true (may_promise v host (number_at 0 back) (number_at NUMBER_LENGTH back) voted)

  -- what is said stands as it is spelled
  stands_if_said : (host : ℕ) → is_said v host (front ++ back) ≡ true → body_saying v claim_apart ≡ front ++ back
  unfolding is_said
  stands_if_said host t =
      sym body_is ∙ (bytes_decides (body_saying v (claim_of v (front ++ back))) (front ++ back)).0 (and_parts (may_say v host (claim_of v (front ++ back))) (pointwise nat_eq (body_saying v (claim_of v (front ++ back))) (front ++ back)) t).1

  -- and its mark may be there
  may_be_marked : (host : ℕ) → is_said v host (front ++ back) ≡ true → may_mark mark (is_some inp) ≡ true
  unfolding is_said mark inp
  may_be_marked host t =
      let may = (and_parts (may_say v host (claim_of v (front ++ back))) (pointwise nat_eq (body_saying v (claim_of v (front ++ back))) (front ++ back)) t).0 in
      (and_parts (may_promise v host (number_at 0 back) (number_at NUMBER_LENGTH back) (is_some inp)) (may_mark mark (is_some inp)) (ap (may_say v host) (sym claim_of-parts) ∙ may)).1

  pub not_said_unheaded : (host : ℕ) → ((voted marked : Bool) → may_mark marked voted ≡ true → front ≢ heading v voted marked) → is_said v host (front ++ back) ≡ false
  not_said_unheaded host unheaded =
      false_from_ne_true (is_said v host (front ++ back)) (λ t.
      let stand = stands_if_said host t in
      let headed : heading v (is_some inp) mark ≡ front =
      sym (take_at (heading v (is_some inp) mark) (number_bytes (number_at 0 back) ++ (number_bytes (number_at NUMBER_LENGTH back) ++ (value_bytes v inp ++ zeros (padding v)))) 7 (length-heading v (is_some inp) mark))
      ∙ ap (take 7) (sym spelled_apart ∙ stand)
      ∙ take_at front back 7 seven in
      unheaded (is_some inp) mark (may_be_marked host t) (sym headed))

  pub not_said_unfilled : (host : ℕ) (voted marked : Bool) → front ≡ heading v voted marked → ¬ AreFilled voted → is_said v host (front ++ back) ≡ false
  unfolding inp mark end_part
  not_said_unfilled host voted marked is unfilled =
      false_from_ne_true (is_said v host (front ++ back)) (λ t.
      let stand = stands_if_said host t in
      let filled : value_bytes v inp ++ zeros (padding v) ≡ end_ = sym (behind_ballots v claim_apart) ∙ ap (drop (HEADING_LENGTH + BALLOTS_LENGTH)) stand ∙ rest_at_value in
      unfilled (ap (λ (o : Option (List ℕ)). value_bytes v o ++ zeros (padding v)) (sym (inp_is voted marked is)) ∙ filled))

  -- ---- the test of the rest

  abbrev pub tail_of : Bool → List ℕ
  tail_of voted = if voted then drop (value_length v) end_ else end_

  length-end : length end_ ≡ value_length v + padding v
  length-end = omega (arith, length-drop BALLOTS_LENGTH back, rest, body_parts v)

  pub filled_tells : (voted : Bool) → list_all (λ b. b == 0) (tail_of voted) ≡ true → AreFilled voted
  filled_tells true t =
      let many : length (drop (value_length v) end_) ≡ padding v = omega (arith, length-drop (value_length v) end_, length-end) in
      let tail = zero_tells (drop (value_length v) end_) t ∙ ap zeros many in
      ap (λ (l : List ℕ). take (value_length v) end_ ++ l) (sym tail) ∙ take-append-drop (value_length v) end_
  filled_tells false t =
      sym (zeros_joined (value_length v) (padding v)) ∙ ap zeros (sym length-end) ∙ sym (zero_tells end_ t)

  pub filled_since : (voted : Bool) → AreFilled voted → list_all (λ b. b == 0) (tail_of voted) ≡ true
  filled_since true filled =
      let long : length (take (value_length v) end_) ≡ value_length v = length-take-le (value_length v) end_ (omega (arith, length-end)) in
      let tail : drop (value_length v) end_ ≡ zeros (padding v) = ap (drop (value_length v)) (sym filled) ∙ drop_at (take (value_length v) end_) (zeros (padding v)) (value_length v) long in
      ap (list_all (λ b. b == 0)) tail ∙ zero_since (padding v)
  filled_since false filled =
      ap (list_all (λ b. b == 0)) (sym filled ∙ sym (zeros_joined (value_length v) (padding v))) ∙ zero_since (value_length v + padding v)

  -- ---- as the code has the parts

  by_flag : Bool → Said
  by_flag t = record { mbal = number_at 0 back; bal = number_at NUMBER_LENGTH back; inp = if t then Some (take (value_length v) end_) else None; mark = slice_index front 2 == 1 }

  pub claim_voted : {V : Type 0} (spelled : V → List ℕ) (m b : ℕ) (value : V) → slice_index front 1 ≡ 1 → m ≡ number_at 0 back → b ≡ number_at NUMBER_LENGTH back → spelled value ≡ take (value_length v) end_ → said_as spelled (record { mbal = m; bal = b; inp = Some value; mark = slice_index front 2 == 1 }) ≡ claim_of v (front ++ back)
  unfolding by_flag
  claim_voted spelled m b value one m-is b-is value-is =
      let flag : (slice_index front 1 == 1) ≡ true = eq-eqb (slice_index front 1) 1 one in
      let all : said_as spelled (record { mbal = m; bal = b; inp = Some value; mark = slice_index front 2 == 1 }) ≡ by_flag true =
      λ i. record { mbal = m-is i; bal = b-is i; inp = Some (value-is i); mark = slice_index front 2 == 1 } in
      all ∙ ap by_flag (sym flag) ∙ sym claim_of-parts

  pub claim_blank : {V : Type 0} (spelled : V → List ℕ) (m b : ℕ) → slice_index front 1 ≢ 1 → m ≡ number_at 0 back → b ≡ number_at NUMBER_LENGTH back → said_as spelled (record { mbal = m; bal = b; inp = None; mark = slice_index front 2 == 1 }) ≡ claim_of v (front ++ back)
  unfolding by_flag
  claim_blank spelled m b other m-is b-is =
      let flag : (slice_index front 1 == 1) ≡ false = ne_eqb (slice_index front 1) 1 other in
      let all : said_as spelled (record { mbal = m; bal = b; inp = None; mark = slice_index front 2 == 1 }) ≡ by_flag false =
      λ i. record { mbal = m-is i; bal = b-is i; inp = None; mark = slice_index front 2 == 1 } in
      all ∙ ap by_flag (sym flag) ∙ sym claim_of-parts

  pub number_behind : number_at 0 (take (length back - NUMBER_LENGTH) (drop NUMBER_LENGTH back)) ≡ number_at NUMBER_LENGTH back
  unfolding number_at
  number_behind = ap (big_number 8) (take_rest back 8)

-- ---- a heading by the numbers in its first and in its last four bytes

pub heading_ends : (v : Version) (voted marked : Bool) → short_at 0 (drop 3 (heading v voted marked)) ≡ 0
unfolding heading short_at
heading_ends v voted marked = refl

abbrev pub start_of : Version → Bool → Bool → ℕ
start_of v false marked = number_of v * VERSION_PLACE
start_of v true false = number_of v * VERSION_PLACE + VOTED
start_of v true true = number_of v * VERSION_PLACE + MARKED

pub heading_starts : (v : Version) (voted marked : Bool) → may_mark marked voted ≡ true → short_at 0 (heading v voted marked) ≡ start_of v voted marked
unfolding heading short_at
heading_starts Version1 true true may = refl
heading_starts Version1 true false may = refl
heading_starts Version1 false false may = refl
heading_starts Version2 true true may = refl
heading_starts Version2 true false may = refl
heading_starts Version2 false false may = refl
heading_starts v false true may = absurd (true≢false (sym may))

heading_joined : (v : Version) (voted marked : Bool) → take 3 (take 4 (heading v voted marked)) ++ big_bytes 4 0 ≡ heading v voted marked
unfolding heading
heading_joined v voted marked = refl

heading_start_stands : (v : Version) (voted marked : Bool) → big_bytes 4 (short_at 0 (heading v voted marked)) ≡ take 4 (heading v voted marked)
unfolding heading short_at
heading_start_stands Version1 true true = refl
heading_start_stands Version1 true false = refl
heading_start_stands Version1 false true = refl
heading_start_stands Version1 false false = refl
heading_start_stands Version2 true true = refl
heading_start_stands Version2 true false = refl
heading_start_stands Version2 false true = refl
heading_start_stands Version2 false false = refl

module _ (v : Version) (front : List ℕ) (seven : length front ≡ HEADING_LENGTH) (fits : AreBytes front) where
  start_stands : big_bytes 4 (short_at 0 front) ≡ take 4 front
  unfolding short_at
  start_stands = spelled_4 front fits (omega arith)

  end_stands : big_bytes 4 (short_at 0 (drop 3 front)) ≡ drop 3 front
  unfolding short_at
  end_stands =
      let four : 4 ≡ length front - 3 = omega arith in
      spelled_4 (drop 3 front) (AreBytes-drop 3 front fits) (omega (arith, length-drop 3 front))
      ∙ ap (λ (n : ℕ). take n (drop 3 front)) four
      ∙ take_rest front 3

  -- what starts and ends as a heading is that heading
  pub headed : (voted marked : Bool) → may_mark marked voted ≡ true → short_at 0 front ≡ start_of v voted marked → short_at 0 (drop 3 front) ≡ 0 → front ≡ heading v voted marked
  headed voted marked may start end =
      let first = sym start_stands ∙ ap (big_bytes 4) (start ∙ sym (heading_starts v voted marked may)) ∙ heading_start_stands v voted marked in
      sym (take-append-drop 3 front)
      ∙ ap (λ (l : List ℕ). l ++ drop 3 front) (sym (take-take 3 4 front (omega arith)) ∙ ap (take 3) first)
      ∙ ap (λ (l : List ℕ). take 3 (take 4 (heading v voted marked)) ++ l) (sym end_stands ∙ ap (big_bytes 4) end)
      ∙ heading_joined v voted marked
