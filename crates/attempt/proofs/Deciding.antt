-- What is decided is the input of a marked block in a row of the opening.
use Rattle.std.specs.Prelude.{if◌then◌else◌}
use Rattle.std.proofs.Common.{ℕ, zero, suc, ◌<◌, ◌≤◌, ◌≡◌, ◌⊎◌, inl, inr, Bool, true, false, Option, Some, None, List, refl, arith}
use Rattle.torn_block.specs.Layout.{hosts_in}
use Rattle.paxos_block.specs.Saying.{Said}
use Rattle.paxos_block.specs.Row.{DecodedBlock}
use Rattle.paxos_block.specs.Votes.{says_in, marked, marked_below}
use Rattle.attempt.specs.Calls.{Opening}
use Rattle.attempt.specs.Answers.{Answers, row_in}
use Rattle.attempt.specs.Setup.{Setup}
use Rattle.attempt.specs.Proposal.{or_else, decided_in, decided_below}
use Rattle.attempt.specs.Prepared.{IsMarkSeen}

-- of two the first that there is
one_of : (first second : Option (List ℕ)) (value : List ℕ) → or_else first second ≡ Some value → (first ≡ Some value) ⊎ (second ≡ Some value)
one_of None second value is = inr is
one_of (Some before) second value is = inl is

-- a block's marked input
record IsMarked (says : Said) (value : List ℕ) : Type 0 where
  mark : says.mark ≡ true
  inp : says.inp ≡ Some value

marked_by : (says : Said) (value : List ℕ) (b : Bool) → says.mark ≡ b → (if b then says.inp else None) ≡ Some value → IsMarked says value
marked_by says value true is some = record { mark = is; inp = some }
marked_by says value false is some = absurd (cc)

is_marked : (says : Said) (value : List ℕ) → marked says ≡ Some value → IsMarked says value
is_marked says value some = marked_by says value says.mark refl some

-- a host whose block in a row is marked
record HasMark (hosts : ℕ) (row : List DecodedBlock) (value : List ℕ) : Type 0 where
  host : ℕ
  below : host < hosts
  is : IsMarked (says_in row host) value

mark_in : (hosts : ℕ) (row : List DecodedBlock) (n : ℕ) (value : List ℕ) → n ≤ hosts → marked_below row n ≡ Some value → HasMark hosts row value
mark_in hosts row zero value l some = absurd (cc)
mark_in hosts row (suc n) value l some =
    elim (one_of (marked_below row n) (marked (says_in row n)) value some) [
      | inl before ↦ mark_in hosts row n value (omega arith) before
      | inr here ↦ record { host = n; below = omega arith; is = is_marked (says_in row n) value here }
    ]

module _ (s : Setup) (f : Answers) (value : List ℕ) where
  mark_on : (d : ℕ) → d < s.disks → (o : Option (List DecodedBlock)) → row_in Opening (f d) ≡ o → decided_in s.version o ≡ Some value → IsMarkSeen s f value
  mark_on d l None read some = absurd (cc)
  mark_on d l (Some row) read some =
      let has = mark_in (hosts_in s.version) row (hosts_in s.version) value (omega arith) some in
      record { disk = d; row = row; host = has.host; inside = l; read = read; below = has.below; mark = has.is.mark; inp = has.is.inp }

  pub mark_seen : (n : ℕ) → n ≤ s.disks → decided_below s f n ≡ Some value → IsMarkSeen s f value
  mark_seen zero l some = absurd (cc)
  mark_seen (suc n) l some =
      elim (one_of (decided_below s f n) (decided_in s.version (row_in Opening (f n))) value some) [
        | inl before ↦ mark_seen n (omega arith) before
        | inr here ↦ mark_on n (omega arith) (row_in Opening (f n)) refl here
      ]
