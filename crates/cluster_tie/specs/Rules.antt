-- The rule of the table: each seat's parts are parts of one list, each part has one owner, and one seat keeps the whole list.
use Rattle.std.specs.Prelude.{◌≡◌, ℕ, ◌==◌, Bool, true, false, ◌&&◌, List, [], ◌∷◌, ◌++◌, length, map, cond, if◌then◌else◌}
use mathlib.Core.Option.{Option, some, none}
use lib.ListN.{get_elem?}
use Rattle.atomic_table.specs.Table.{State, Step, Me}
use Rattle.atomic_table.specs.Seated.{TableId}
use Rattle.world.specs.Entry.{Filled, Start}
use Rattle.cluster_tie.specs.Parts.{Placed, belongs, placed}
use Rattle.cluster_tie.specs.View.{Part, Known, part}

-- what holds of each part
abbrev pub Each : (Part → Type 0) → List Part → Type 0
Each P [] = Unit {0}
Each P (p ∷ ps) = P p × Each P ps

abbrev pub same_role : Bool → ℕ → Part → Bool
same_role true n p = p.of_disk && (p.number == n)
same_role false n p = if p.of_disk then false else (p.number == n)

-- the part is that of its owner, and what the list has of it
abbrev pub IsPartOf : ℕ → (Bool → ℕ → ℕ) → List Filled → Part → Type 0
IsPartOf by owner log p =
    (owner p.of_disk p.number ≡ by) × (p.entries ≡ placed 0 p.of_disk p.number log)

abbrev pub Fits : ℕ → (Bool → ℕ → ℕ) → List Filled → ℕ → Known → Type 0
Fits seat owner log by v =
    (v.is_journal ≡ true → (by ≡ seat) × (v.log ≡ log)) × Each (IsPartOf by owner log) v.parts

abbrev pub Kept : List Known → Type 0
Kept views =
    (seat : ℕ) × (owner : Bool → ℕ → ℕ) × (log : List Filled)
    × ((by : ℕ) (v : Known) → get_elem? views by ≡ some v → Fits seat owner log by v)

abbrev pub Tied : State ℕ Known → Type 0
Tied s = Kept s.views

-- STEPS

-- the part after an entry at this place
abbrev pub grown : ℕ → Filled → Part → Part
grown at e p =
    part p.of_disk p.number (p.entries ++ cond (belongs p.of_disk p.number e) ((at, e) ∷ []) [])

abbrev pub Agrees : List Filled → Part → Type 0
Agrees log p = p.entries ≡ placed 0 p.of_disk p.number log

-- the entry is put behind the list and behind the parts that it belongs to; and what the parts were
abbrev pub Appended : Filled → Known → Known → Type 0
Appended e v w =
    (w ≡ record { is_journal = v.is_journal; log = v.log ++ e ∷ []; parts = map (grown (length v.log) e) v.parts }) × Each (Agrees v.log) v.parts

abbrev pub appended : Filled → Step ℕ → Me ℕ Known → ℕ → Me ℕ Known → Type 0
appended e s m n k = Appended e m.0 k.0 × (k.1 ≡ m.1)

-- nothing is changed, and each part is what the list has of it
abbrev pub seen : Step ℕ → Me ℕ Known → ℕ → Me ℕ Known → Type 0
seen s m n k = (k ≡ m) × Each (Agrees m.0.log) m.0.parts

-- NAMES OF NOTHING

-- no table has this name
abbrev pub no_table : TableId
no_table = record { words = 0; slots = 0; views_name = 0; atom = 0; block = 0; offset = 0; slot_names = [] }

abbrev pub no_entry : Filled
no_entry = Start 0
