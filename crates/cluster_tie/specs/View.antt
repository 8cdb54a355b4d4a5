-- What a seat of the table knows: the parts of the list of entries that it holds, and the list itself where it is the journal's.
use Rattle.std.specs.Prelude.{ℕ, zero, suc, ◌+◌, ◌==◌, Bool, true, false, List, [], ◌∷◌, ◌++◌, take, drop}
use Rattle.torn_block.specs.declared.layout.TheConstants.{HOSTS}
use Rattle.world.specs.Entry.{Filled}
use Rattle.cluster_tie.specs.Parts.{Placed}

-- the entries of one disk, or of one host, each with its place in the whole list
pub record Part : Type 0 where
  pub of_disk : Bool
  pub number : ℕ
  pub entries : List Placed

-- whether it is the journal's, which knows the whole list; and the parts that it holds, its own or lent to it
pub record Known : Type 0 where
  pub is_journal : Bool
  pub log : List Filled
  pub parts : List Part

abbrev pub part : Bool → ℕ → List Placed → Part
part kind n xs = record { of_disk = kind; number = n; entries = xs }

-- the journal's, with the parts that are lent to it
abbrev pub keeper : List Filled → List Part → Known
keeper log parts = record { is_journal = true; log = log; parts = parts }

abbrev pub holder : List Part → Known
holder parts = record { is_journal = false; log = []; parts = parts }

-- that of a disk's or a host's token
abbrev pub own : Bool → ℕ → List Placed → Known
own kind n xs = holder (part kind n xs ∷ [])

abbrev pub number_in : List Part → ℕ
number_in [] = 0
number_in (p ∷ ps) = p.number

abbrev pub entries_in : List Part → List Placed
entries_in [] = []
entries_in (p ∷ ps) = p.entries

-- HANDED OVER

-- the first part goes to a seat of its own, and the others stay
abbrev pub kept_back : Known → Known
kept_back v = record { is_journal = v.is_journal; log = v.log; parts = drop 1 v.parts }

abbrev pub handed : Known → Known
handed v = holder (take 1 v.parts)

-- the other's parts are taken in
abbrev pub lent : Known → Known → Known
lent v w = record { is_journal = v.is_journal; log = v.log; parts = v.parts ++ w.parts }

-- AT FIRST

-- parts of an empty list, of so many numbers from n on
abbrev pub parts_from : Bool → ℕ → ℕ → List Part
parts_from kind n zero = []
parts_from kind n (suc count) = part kind n [] ∷ parts_from kind (n + 1) count

abbrev pub host_parts : List Part
host_parts = parts_from false 0 HOSTS

-- the parts of so many disks and of all hosts
abbrev pub all_parts : ℕ → List Part
all_parts disks = parts_from true 0 disks ++ host_parts
