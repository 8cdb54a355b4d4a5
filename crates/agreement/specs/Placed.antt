-- A history by which the values of a list come to be chosen, slot by slot: host 0 alone has each chosen by ballot 1 on all disks, and stops.
use Rattle.std.specs.Prelude.{ℕ, zero, suc, ◌≡◌, ◌==◌, cond, nat_lt, Option, Some, None, List, [], ◌∷◌, ◌++◌, map, slice_get}
use Rattle.agreement.specs.State.{Block, blank, away, Asking, Telling, none_opened, first_asking, no_vote}
use Rattle.agreement.specs.Event.{Event, write_one, write_two, at_rest}
use Rattle.agreement.specs.Event.Event.{Starts, Sees, Takes, Begins, Confirms, ReadsOne, Proposes, ReadsTwo}
use Rattle.agreement.specs.Chosen.{IsInput, IsChosenBy}
use Rattle.agreement.specs.Log.{Move, IsHistory, slots_after, events_of_slot}
use Rattle.agreement.specs.Log.Move.{At, Learn, Restart}

-- the same on each of so many disks
abbrev pub over : {A : Type 0} → (ℕ → List A) → ℕ → List A
over f zero = []
over f (suc n) = over f n ++ f n

abbrev pub all_blank : {Value : Type 0} → ℕ → Block Value
all_blank g = blank

-- ballot 1, and the vote for a value in it
abbrev pub asked : {Value : Type 0} → Asking Value
asked = first_asking none_opened 1

abbrev pub told : {Value : Type 0} → Value → Telling Value
told v = record { ballot = 1; value = v }

-- what host 0 does on a disk in each part of its attempt
abbrev pub looks : {Value : Type 0} → ℕ → List (Event Value)
looks d = Sees 0 d none_opened none_opened ∷ []

abbrev pub asks_on : {Value : Type 0} → ℕ → List (Event Value)
asks_on d = Begins 0 d (write_one asked) ∷ Confirms 0 d (write_one asked) ∷ ReadsOne 0 d all_blank asked no_vote ∷ []

abbrev pub tells_on : {Value : Type 0} → Value → ℕ → List (Event Value)
tells_on v d = Begins 0 d (write_two (told v)) ∷ Confirms 0 d (write_two (told v)) ∷ ReadsTwo 0 d all_blank (told v) ∷ []

-- so v is chosen in one slot
abbrev pub placing : {Value : Type 0} → ℕ → Value → List (Event Value)
placing disks v =
    Starts 0 ∷ (over looks disks ++ Takes 0 none_opened 1 ∷ (over asks_on disks ++ Proposes 0 asked v ∷ over (tells_on v) disks))

-- and each value in its slot, from slot k on
abbrev pub placed_from : {Value : Type 0} → ℕ → ℕ → List Value → List (Move Value)
placed_from disks k [] = []
placed_from disks k (v ∷ values) = map (At k) (placing disks v) ++ Learn 0 k 1 v ∷ placed_from disks (suc k) values

abbrev pub placed : {Value : Type 0} → ℕ → List Value → List (Move Value)
placed disks values = placed_from disks 0 values ++ Restart 0 ∷ []

-- what a host says then in a slot on a disk: host 0 its vote on the disks below `disks`, all else is blank
abbrev pub voted : {Value : Type 0} → Option Value → Block Value
voted None = blank
voted (Some v) = record { mbal = 1; bal = 1; inp = Some v }

abbrev pub said_in : {Value : Type 0} → ℕ → List Value → ℕ → ℕ → ℕ → Block Value
said_in disks values k h d = cond (h == 0) (cond (nat_lt d disks) (voted (slice_get values k)) blank) blank

-- The values are chosen, each in its slot; the blocks say so, nothing is in writing, and nobody knows anything.
pub record ArePlaced {Value : Type 0} (disks : ℕ) (values : List Value) : Type 0 where
  pub history : IsHistory disks (placed disks values)
  pub cells : (k h d : ℕ) → ((slots_after (placed disks values)).slot k).cell h d ≡ at_rest (said_in disks values k h d) away
  pub learned : (h : ℕ) → (slots_after (placed disks values)).learned h ≡ []
  pub chosen : (k : ℕ) (v : Value) → slice_get values k ≡ Some v → IsChosenBy disks ((slots_after (placed disks values)).slot k) 1 v
  pub inputs : (k : ℕ) (v : Value) → IsInput (events_of_slot k (placed disks values)) v → slice_get values k ≡ Some v
