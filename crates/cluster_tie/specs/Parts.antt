-- The parts of a list of entries: those on one disk, and those of one host, each entry with its place.
use Rattle.std.specs.Prelude.{◌≡◌, ◌+◌, ◌==◌, ◌<◌, ℕ, Bool, true, false, List, [], ◌∷◌, ◌++◌, map, length, slice_index_or, cond, Option, Some, None}
use Rattle.world.specs.Entry.{Filled, Start, Stop, Begin, Called, Torn, Crashed, Lost, is_on, is_of}

-- an entry with its place in the whole list
abbrev pub Placed : Type 0
Placed = ℕ × Filled

-- whether the entry is on this disk, or of this host
abbrev pub belongs : Bool → ℕ → Filled → Bool
belongs true n e = is_on n e
belongs false n e = is_of n e

-- those of the entries from a place on that belong there
abbrev pub placed : ℕ → Bool → ℕ → List Filled → List Placed
placed at kind n [] = []
placed at kind n (e ∷ es) =
    cond (belongs kind n e) ((at, e) ∷ placed (at + 1) kind n es) (placed (at + 1) kind n es)

-- the entries on a disk, and those of a host, with their places
abbrev pub on_disk : ℕ → List Filled → List Placed
on_disk k log = placed 0 true k log

abbrev pub of_host : ℕ → List Filled → List Placed
of_host h log = placed 0 false h log

-- without their places
abbrev pub entries : List Placed → List Filled
entries xs = map (λ (x : Placed). x.1) xs

-- WHOSE AN ENTRY IS

abbrev pub disk_of : Filled → Option ℕ
disk_of (Called h k call answer left) = Some k
disk_of (Torn h k call left) = Some k
disk_of (Crashed k left) = Some k
disk_of (Lost k) = Some k
disk_of other = None

abbrev pub host_of : Filled → Option ℕ
host_of (Start h) = Some h
host_of (Stop h) = Some h
host_of (Begin h task) = Some h
host_of (Called h k call answer left) = Some h
host_of (Torn h k call left) = Some h
host_of other = None

-- TOKENS

-- a disk's or a host's number, and its entries
pub record Own : Type 0 where
  pub number : ℕ
  pub entries : List Placed

abbrev pub own_of : ℕ → List Placed → Own
own_of n xs = record { number = n; entries = xs }

-- with one entry more
abbrev pub adds : Own → ℕ → Filled → Own
adds o at e = own_of o.number (o.entries ++ (at, e) ∷ [])

-- the first n disks, or hosts, of an empty list
abbrev pub AreFresh : ℕ → List Own → Type 0
AreFresh n tokens =
    (length tokens ≡ n) × ((k : ℕ) (d : Own) → k < n → slice_index_or tokens k d ≡ own_of k [])
