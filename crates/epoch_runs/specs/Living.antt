-- What is lived in all epochs by what hosts do. A row that a host's core hears stands where the host read it, and all else where it is done.
use Rattle.std.specs.Prelude.{◌+◌, ◌==◌, ◌||◌, ℕ, zero, suc, Bool, true, false, List, [], ◌∷◌, ◌++◌, length, Option, Some, None, if◌then◌else◌}
use Rattle.disk.specs.Disk.{Call, Read, Answer, Told}
use Rattle.standings.specs.Past.{Made}
use Rattle.paxos_block.specs.Shape.{Shape}
use Rattle.host.specs.Host.{Host, is_stopped}
use Rattle.world.specs.Entry.{Start, Stop, Begin, Called, Torn}
use Rattle.endless.specs.Lived.{Lived, In, Crash, Loss}
use Rattle.epoch_deeds.specs.Deeds.{Deed, Deeds, Calls, CallsIn, Starts, Begins, Stops, core_in, hearing}
use Rattle.epoch_runs.specs.World.{Entry, Does, Breaks, BreaksIn, Ends, Crashes, Loses, Replaces, no_deeds, deeds_after}

-- ROWS

abbrev pub is_told : Answer → Bool
is_told (Told bytes) = true
is_told other = false

-- a core hears a row
abbrev pub is_row : Call → Answer → Bool
is_row (Read boot at len) heard = is_told heard
is_row other heard = false

-- by a reading of the standings a core hears a row that its host read right before
pub record Showing : Type 0 where
  pub epoch : ℕ
  pub disk : ℕ
  pub made : Made
  pub call : Call
  pub heard : Answer

abbrev pub showing_by : Deed → Option Showing
showing_by (CallsIn epoch disk made call heard) =
    if is_row call heard then Some (record { epoch = epoch; disk = disk; made = made; call = call; heard = heard }) else None
showing_by other = None

-- what the host does next, if by that its core hears a row
abbrev pub showing_next : ℕ → List Entry → Option Showing
showing_next h [] = None
showing_next h (Does g deed ∷ entries) = if g == h then showing_by deed else showing_next h entries
showing_next h (Breaks g k call ∷ entries) = if g == h then None else showing_next h entries
showing_next h (BreaksIn epoch g k call ∷ entries) = if g == h then None else showing_next h entries
showing_next h (Ends g ∷ entries) = if g == h then None else showing_next h entries
showing_next h (Crashes k ∷ entries) = showing_next h entries
showing_next h (Loses k ∷ entries) = showing_next h entries
showing_next h (Replaces k first newest ∷ entries) = showing_next h entries

-- WHAT IS LIVED

-- a host that read a row lives what its core hears of it
abbrev pub shows_row : (h k : ℕ) → Option Showing → List Lived
shows_row h k None = []
shows_row h k (Some s) = In s.epoch (Called h k s.call s.heard []) ∷ []

abbrev pub lived_by : (h : ℕ) → Deed → Option Showing → List Lived
lived_by h (Calls k made) next = shows_row h k next
lived_by h (CallsIn epoch k made call heard) next = if is_row call heard then [] else In epoch (Called h k call heard []) ∷ []
lived_by h (Starts epoch) next = In epoch (Start h) ∷ []
lived_by h (Begins epoch task) next = In epoch (Begin h task) ∷ []
lived_by h (Stops epoch) next = In epoch (Stop h) ∷ []

-- cores of a host started below this epoch alone
abbrev pub below : Deeds → ℕ
below [] = 0
below (Starts epoch ∷ deeds) = suc epoch + below deeds
below (other ∷ deeds) = below deeds

-- a host stops in all epochs below this one where it has not stopped
abbrev pub stops_below : (h : ℕ) → (ℕ → Bool) → ℕ → List Lived
stops_below h stopped zero = []
stops_below h stopped (suc e) = if stopped e then stops_below h stopped e else In e (Stop h) ∷ stops_below h stopped e

abbrev pub has_stopped : Shape → (h : ℕ) → Deeds → ℕ → Bool
has_stopped c h deeds e = is_stopped (core_in c h e deeds)

-- so it stops in all epochs, or in all but one
abbrev pub all_stop : Shape → (h : ℕ) → Deeds → List Lived
all_stop c h deeds = stops_below h (has_stopped c h deeds) (below deeds)

abbrev pub others_stop : Shape → (h epoch : ℕ) → Deeds → List Lived
others_stop c h epoch deeds = stops_below h (λ e. epoch == e || has_stopped c h deeds e) (below deeds)

-- what is lived by an entry, where hosts had done this before, and these entries are next
abbrev pub lived_at : Shape → (ℕ → Deeds) → Entry → List Entry → List Lived
lived_at c deeds (Does h deed) entries = lived_by h deed (showing_next h entries)
lived_at c deeds (Breaks h k call) entries = all_stop c h (deeds h)
lived_at c deeds (BreaksIn epoch h k call) entries = In epoch (Torn h k call []) ∷ others_stop c h epoch (deeds h)
lived_at c deeds (Ends h) entries = all_stop c h (deeds h)
lived_at c deeds (Crashes k) entries = Crash k (λ e. []) ∷ []
lived_at c deeds (Loses k) entries = Loss k ∷ []
lived_at c deeds (Replaces k first newest) entries = []

abbrev pub lived_from : Shape → (ℕ → Deeds) → List Entry → List Lived
lived_from c deeds [] = []
lived_from c deeds (entry ∷ entries) = lived_at c deeds entry entries ++ lived_from c (deeds_after deeds entry) entries

abbrev pub lived_of : Shape → List Entry → List Lived
lived_of c entries = lived_from c no_deeds entries

-- PLACES

-- so much is lived before place i of the entries
abbrev pub place_from : Shape → (ℕ → Deeds) → ℕ → List Entry → ℕ
place_from c deeds zero entries = 0
place_from c deeds (suc i) [] = 0
place_from c deeds (suc i) (entry ∷ entries) = length (lived_at c deeds entry entries) + place_from c (deeds_after deeds entry) i entries

abbrev pub place_of : Shape → List Entry → ℕ → ℕ
place_of c entries i = place_from c no_deeds i entries

-- what each host has done since its start before place i
abbrev pub deeds_from : (ℕ → Deeds) → ℕ → List Entry → ℕ → Deeds
deeds_from deeds zero entries = deeds
deeds_from deeds (suc i) [] = deeds
deeds_from deeds (suc i) (entry ∷ entries) = deeds_from (deeds_after deeds entry) i entries

-- A core is what the deeds of its host make of it, and it has heard the row that these entries begin to show.
abbrev pub shown_to : Shape → (h e : ℕ) → Host → Option Showing → Host
shown_to c h e core None = core
shown_to c h e core (Some s) = if s.epoch == e then hearing c h core s.disk s.heard else core

abbrev pub core_now : Shape → (h e : ℕ) → (ℕ → Deeds) → List Entry → Host
core_now c h e deeds entries = shown_to c h e (core_in c h e (deeds h)) (showing_next h entries)
