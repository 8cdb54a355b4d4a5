-- Of the headline. What a copy of a block says, and how that is spelled, in each layout.
use Rattle.std.specs.Prelude.{◌≡◌, ◌==◌, ◌&&◌, ◌≤◌, ◌+◌, ◌-◌, ◌++◌, ℕ, Bool, true, false, List, [], ◌∷◌, length, take, drop, replicate, slice_index, Option, Some, None, is_some, option_map, if◌then◌else◌}
use Rattle.std.specs.Cmp.Lexicographic.{pointwise}
use Rattle.std.specs.Prelude.{nat_eq}
use Rattle.byteorder.specs.Endian.{big_number}
use Rattle.torn_block.specs.Block.{number_bytes}
use Rattle.torn_block.specs.declared.layout.TheConstants.{HEADING_LENGTH}
use Rattle.torn_block.specs.Layout.{Version, number_of, value_length, padding}
use Rattle.paxos_block.specs.declared.block.TheConstants.{BALLOTS_LENGTH, FLAG_AT, MARK_AT}
use Rattle.paxos_block.specs.declared.number.TheConstants.{NUMBER_LENGTH}
use Rattle.paxos_block.specs.declared.block.PBlock.{PBlock}
use Rattle.paxos_block.specs.Ballot.{IsBallotOf, may_promise}

unfoldable pub zeros : ℕ → List ℕ
zeros n = replicate n 0

-- what a block says, with the bytes of its input
abbrev pub Said : Type 0
Said = PBlock (List ℕ)

-- the same of one whose inputs have their bytes by a layout
abbrev pub said_as : {V : Type 0} → (V → List ℕ) → PBlock V → Said
said_as spelled says = record { mbal = says.mbal; bal = says.bal; inp = option_map spelled says.inp; mark = says.mark }

-- ---- what may be said

-- With an input comes a ballot up to mbal, without one there is none.
abbrev pub IsVoteOf : Version → ℕ → ℕ → ℕ → Option (List ℕ) → Type 0
IsVoteOf v host mbal bal None = bal ≡ 0
IsVoteOf v host mbal bal (Some value) = IsBallotOf v host bal × (bal ≤ mbal)

-- What is marked is an input: a block without one has no mark.
abbrev pub IsMarkOf : Bool → Option (List ℕ) → Type 0
IsMarkOf false inp = Unit {0}
IsMarkOf true inp = is_some inp ≡ true

-- a host may say this
pub record MaySay (v : Version) (host : ℕ) (says : Said) : Type 0 where
  pub mbal : IsBallotOf v host says.mbal
  pub vote : IsVoteOf v host says.mbal says.bal says.inp
  pub mark : IsMarkOf says.mark says.inp

-- ---- how it is spelled

-- whether there is an input, or a mark, in a byte
abbrev pub flag_of : Bool → ℕ
flag_of true = 1
flag_of false = 0

-- bytes 1 to 7 of a copy: the number of the layout, the flag, the mark, and four zeros
unfoldable pub heading : Version → Bool → Bool → List ℕ
heading v voted marked = number_of v ∷ flag_of voted ∷ flag_of marked ∷ 0 ∷ 0 ∷ 0 ∷ 0 ∷ []

-- the input, or as many zeros
abbrev pub value_bytes : Version → Option (List ℕ) → List ℕ
value_bytes v None = zeros (value_length v)
value_bytes v (Some value) = value

-- the body of a copy that says this, with zeros to its end
unfoldable pub body_saying : Version → Said → List ℕ
body_saying v says =
    heading v (is_some says.inp) says.mark ++ (number_bytes says.mbal ++ (number_bytes says.bal ++ (value_bytes v says.inp ++ zeros (padding v))))

-- ---- how it is read

-- the number in the bytes from a place on
unfoldable pub number_at : ℕ → List ℕ → ℕ
number_at place bytes = big_number NUMBER_LENGTH (drop place bytes)

-- the bytes behind the ballots, but for the zeros to the end
abbrev pub value_at : Version → List ℕ → List ℕ
value_at v body = take (length body - (HEADING_LENGTH + BALLOTS_LENGTH + padding v)) (drop (HEADING_LENGTH + BALLOTS_LENGTH) body)

-- what a body claims to say
unfoldable pub claim_of : Version → List ℕ → Said
claim_of v body =
    record {
      mbal = number_at HEADING_LENGTH body;
      bal = number_at (HEADING_LENGTH + NUMBER_LENGTH) body;
      inp = if slice_index body FLAG_AT == 1 then Some (value_at v body) else None;
      mark = slice_index body MARK_AT == 1;
    }

abbrev pub may_mark : Bool → Bool → Bool
may_mark false voted = true
may_mark true voted = voted

abbrev pub may_say : Version → ℕ → Said → Bool
may_say v host says = may_promise v host says.mbal says.bal (is_some says.inp) && may_mark says.mark (is_some says.inp)

-- the claim is one that the host may make, and it is spelled so
unfoldable pub is_said : Version → ℕ → List ℕ → Bool
is_said v host body = may_say v host (claim_of v body) && pointwise nat_eq (body_saying v (claim_of v body)) body

-- what a body says in a host's block, if it says anything
abbrev pub said_by : Version → ℕ → List ℕ → Option Said
said_by v host body = if is_said v host body then Some (claim_of v body) else None
