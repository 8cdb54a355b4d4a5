-- The machines of the slots, and what is learned, after one move more.
use Rattle.std.proofs.Common.{ℕ, ◌≡◌, ◌≢◌, ◌==◌, ◌⊎◌, inl, inr, Bool, true, false, cond, List, [], ◌∷◌, ◌++◌, refl, ap, ◌∙◌}
use Rattle.std.proofs.lemmas.Bool.{eqb-true}
use Rattle.agreement.specs.State.{Block, start}
use Rattle.agreement.specs.Event.{Event, after, run, state_after, IsRun}
use Rattle.agreement.specs.Event.Event.{Crashes, Stops}
use Rattle.agreement.specs.Chosen.{IsInput}
use Rattle.agreement.specs.Log.{Slots, Move, MayMove, moved, none_learned, IsHistory, slots_after, events_of_slot}
use Rattle.agreement.specs.Log.Move.{Crash, Learn, Restart}
use Rattle.agreement.proofs.Steps.{state_by-append, may_both}
use Rattle.agreement.proofs.Slots.{slot_moves, allowed_moves}
use Rattle.attempt_safety.specs.Slots.{in_slot}
use Rattle.attempt_safety.proofs.Slotting.{events_append, events_here, events_there}
use Rattle.world_safety.specs.Tied.{Moves, machine}

-- the machine of a slot is the slot's state
pub machine_is : (ms : Moves) (k : ℕ) → (slots_after ms).slot k ≡ machine ms k
machine_is ms k = slot_moves k none_learned ms

-- and its events are a run
pub machine_runs : (disks : ℕ) (ms : Moves) (k : ℕ) → IsHistory disks ms → IsRun disks (events_of_slot k ms)
machine_runs disks ms k history = allowed_moves k disks none_learned ms history

-- SOME MOVES MORE

pub machine_more : (ms late : Moves) (k : ℕ) → machine (ms ++ late) k ≡ run (machine ms k) (events_of_slot k late)
machine_more ms late k = ap state_after (events_append k ms late) ∙ state_by-append after start (events_of_slot k ms) (events_of_slot k late)

pub history_more : (disks : ℕ) (ms : Moves) (m : Move (List ℕ)) → IsHistory disks ms → MayMove disks (slots_after ms) m → IsHistory disks (ms ++ m ∷ [])
history_more disks ms m history may = may_both moved (MayMove disks) none_learned ms (m ∷ []) history (may, tt)

pub learned_more : (ms : Moves) (m : Move (List ℕ)) → (slots_after (ms ++ m ∷ [])).learned ≡ (moved (slots_after ms) m).learned
learned_more ms m = ap (λ (c : Slots (List ℕ)). c.learned) (state_by-append moved none_learned ms (m ∷ []))

-- events of one slot
pub machine_here : (k : ℕ) (ms : Moves) (events : List (Event (List ℕ))) → machine (ms ++ in_slot k events) k ≡ run (machine ms k) events
machine_here k ms events = ap state_after (events_here k ms events) ∙ state_by-append after start (events_of_slot k ms) events

pub machine_there : (j k : ℕ) (ms : Moves) (events : List (Event (List ℕ))) → j ≢ k → machine (ms ++ in_slot k events) j ≡ machine ms j
machine_there j k ms events off = ap state_after (events_there j k ms events off)

-- a crash
pub machine_crash : (ms : Moves) (d : ℕ) (left : ℕ → ℕ → Block (List ℕ)) (k : ℕ) → machine (ms ++ Crash d left ∷ []) k ≡ after (machine ms k) (Crashes d (left k))
machine_crash ms d left k = machine_more ms (Crash d left ∷ []) k

-- a value that is learned
pub machine_learn : (ms : Moves) (h j ballot : ℕ) (v : List ℕ) (k : ℕ) → machine (ms ++ Learn h j ballot v ∷ []) k ≡ machine ms k
machine_learn ms h j ballot v k = machine_more ms (Learn h j ballot v ∷ []) k

-- a host that stops
pub machine_restart : (ms : Moves) (h k : ℕ) → machine (ms ++ Restart h ∷ []) k ≡ after (machine ms k) (Stops h)
machine_restart ms h k = machine_more ms (Restart h ∷ []) k

-- INPUTS

-- an input of two lists of events is one of either
pub input_append : (first second : List (Event (List ℕ))) (v : List ℕ) → IsInput (first ++ second) v → IsInput first v ⊎ IsInput second v
input_append [] second v input = inr input
input_append (e ∷ first) second v (inl puts) = inl (inl puts)
input_append (e ∷ first) second v (inr rest) = elim (input_append first second v rest) [ inl a ↦ inl (inr a) | inr b ↦ inr b ]

-- an input of events made in a slot is one of the events
pub input_in : (j k : ℕ) (events : List (Event (List ℕ))) (v : List ℕ) → IsInput (events_of_slot j (in_slot k events)) v → IsInput events v
input_in j k [] v input = input
input_in j k (e ∷ events) v input = go (j == k) (input_in j k events v) input
  where
    go : (b : Bool) → (IsInput (events_of_slot j (in_slot k events)) v → IsInput events v) → IsInput (cond b (e ∷ []) [] ++ events_of_slot j (in_slot k events)) v → IsInput (e ∷ events) v
    go true rest (inl puts) = inl puts
    go true rest (inr later) = inr (rest later)
    go false rest later = inr (rest later)

-- and it is of that slot
pub slot_in : (j k : ℕ) (events : List (Event (List ℕ))) (v : List ℕ) → IsInput (events_of_slot j (in_slot k events)) v → j ≡ k
slot_in j k [] v input = absurd input
slot_in j k (e ∷ events) v input = go (j == k) refl (slot_in j k events v) input
  where
    go : (b : Bool) → (j == k) ≡ b → (IsInput (events_of_slot j (in_slot k events)) v → j ≡ k) → IsInput (cond b (e ∷ []) [] ++ events_of_slot j (in_slot k events)) v → j ≡ k
    go true is rest input = eqb-true j k is
    go false is rest later = rest later
