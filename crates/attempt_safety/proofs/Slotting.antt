-- The events of an answer, made as moves of its slot among all slots.
use Rattle.std.specs.List.{All}
use Rattle.std.proofs.Common.{ℕ, ◌≡◌, ◌≢◌, Bool, cond, List, [], ◌∷◌, ◌++◌, length, append-nil, append_assoc, refl, sym, subst, ap, ap₂, ◌∙◌}
use Rattle.std.proofs.lemmas.Bool.{eq-eqb, ne_eqb}
use Rattle.std.proofs.lemmas.List.Elements.{All-head, All-tail}
use Rattle.attempt.specs.Answers.{Answered, Answers, on}
use Rattle.attempt.specs.Setup.{Setup}
use Rattle.agreement.specs.State.{State}
use Rattle.agreement.specs.Event.{Event, Allowed, AllAllowed, after, state_after}
use Rattle.agreement.specs.Event.Event.{Proposes}
use Rattle.agreement.specs.Log.{Slots, Move, IsNextSlot, MayMove, AllMayMove, moved, moves, none_learned, IsHistory, slots_after, events_at, events_of_slot}
use Rattle.agreement.specs.Log.Move.{At}
use Rattle.agreement.specs.State.{start}
use Rattle.agreement.proofs.Puts.{put_same}
use Rattle.agreement.proofs.Steps.{state_by-append, may_late, may_both}
use Rattle.agreement.proofs.Slots.{slot_moves}
use Rattle.attempt_safety.specs.Leads.{IsOfHost, IsOfAttempt, Leads}
use Rattle.attempt_safety.specs.Slots.{in_slot}

-- WHAT THE SLOTS SEE

-- a slot sees the moves one after another
pub events_append : (k : ℕ) (ms late : List (Move (List ℕ))) → events_of_slot k (ms ++ late) ≡ events_of_slot k ms ++ events_of_slot k late
events_append k [] late = refl
events_append k (m ∷ ms) late = ap (λ (es : List (Event (List ℕ))). events_at k m ++ es) (events_append k ms late) ∙ sym (append_assoc (events_at k m) (events_of_slot k ms) (events_of_slot k late))

-- it sees its own events
events_in : (k : ℕ) (events : List (Event (List ℕ))) → events_of_slot k (in_slot k events) ≡ events
events_in k [] = refl
events_in k (e ∷ events) = ap₂ (λ (t : Bool) (es : List (Event (List ℕ))). cond t (e ∷ []) [] ++ es) (eq-eqb k k refl) (events_in k events)

-- and not another's
events_out : (j k : ℕ) (events : List (Event (List ℕ))) → j ≢ k → events_of_slot j (in_slot k events) ≡ []
events_out j k [] off = refl
events_out j k (e ∷ events) off = ap₂ (λ (t : Bool) (es : List (Event (List ℕ))). cond t (e ∷ []) [] ++ es) (ne_eqb j k off) (events_out j k events off)

-- the slot has the events behind those before
pub events_here : (k : ℕ) (ms : List (Move (List ℕ))) (events : List (Event (List ℕ))) → events_of_slot k (ms ++ in_slot k events) ≡ events_of_slot k ms ++ events
events_here k ms events = events_append k ms (in_slot k events) ∙ ap (λ (es : List (Event (List ℕ))). events_of_slot k ms ++ es) (events_in k events)

-- other slots have none of them
pub events_there : (j k : ℕ) (ms : List (Move (List ℕ))) (events : List (Event (List ℕ))) → j ≢ k → events_of_slot j (ms ++ in_slot k events) ≡ events_of_slot j ms
events_there j k ms events off =
    events_append j ms (in_slot k events) ∙ ap (λ (es : List (Event (List ℕ))). events_of_slot j ms ++ es) (events_out j k events off) ∙ append-nil (events_of_slot j ms)

-- no event of a slot is learned
learned_in : (c : Slots (List ℕ)) (k : ℕ) (events : List (Event (List ℕ))) → (moves c (in_slot k events)).learned ≡ c.learned
learned_in c k [] = refl
learned_in c k (e ∷ events) = learned_in (moved c (At k e)) k events

-- and nothing is learned
pub learned_same : (k : ℕ) (ms : List (Move (List ℕ))) (events : List (Event (List ℕ))) → (slots_after (ms ++ in_slot k events)).learned ≡ (slots_after ms).learned
learned_same k ms events =
    ap (λ (c : Slots (List ℕ)). c.learned) (state_by-append moved none_learned ms (in_slot k events)) ∙ learned_in (slots_after ms) k events

-- THE MOVES

-- the host of an attempt on its next slot may propose there
next_slot : (c : Slots (List ℕ)) (h k : ℕ) (e : Event (List ℕ)) → k ≡ length (c.learned h) → IsOfHost h e → IsNextSlot c k e
next_slot c h k (Proposes g a value) next own = next ∙ ap (λ (i : ℕ). length (c.learned i)) (sym own)
next_slot c h k other next own = tt

-- so each of the attempt's events may be made
may_move : (s : Setup) (g : Answers) (disks : ℕ) (c : Slots (List ℕ)) (events : List (Event (List ℕ))) → s.slot ≡ length (c.learned s.host) → All (IsOfAttempt s g) events
    → AllAllowed disks (c.slot s.slot) events → AllMayMove disks c (in_slot s.slot events)
may_move s g disks c [] next own allowed = tt
may_move s g disks c (e ∷ events) next own allowed = (
  (allowed.0, next_slot c s.host s.slot e next (All-head (IsOfAttempt s g) e events own).host),
  may_move s g disks (moved c (At s.slot e)) events next (All-tail (IsOfAttempt s g) e events own)
      (subst (λ (n : State (List ℕ)). AllAllowed disks n events) (sym (put_same c.slot s.slot (after (c.slot s.slot) e))) allowed.1),
)

-- behind a history of all slots, in which that is the host's next slot, a run of them is made
pub moves_by : (s : Setup) (g : Answers) (ms : List (Move (List ℕ))) (events : List (Event (List ℕ))) → All (IsOfAttempt s g) events → AllAllowed s.disks (state_after (events_of_slot s.slot ms)) events → IsHistory s.disks ms
    → s.slot ≡ length ((slots_after ms).learned s.host) → IsHistory s.disks (ms ++ in_slot s.slot events)
moves_by s g ms events own allowed history next =
    may_both moved (MayMove s.disks) none_learned ms (in_slot s.slot events) history
    (may_move s g s.disks (slots_after ms) events next own
    (subst (λ (n : State (List ℕ)). AllAllowed s.disks n events) (sym (slot_moves s.slot none_learned ms)) allowed))

-- of a history of all slots, in which the attempt is on the next slot of its host
pub moves_on : (s : Setup) (ms : List (Move (List ℕ))) (heard : List Answered) (x : Answered) (leads : Leads s (events_of_slot s.slot ms) heard x) → IsHistory s.disks ms
    → s.slot ≡ length ((slots_after ms).learned s.host) → IsHistory s.disks (ms ++ in_slot s.slot leads.events)
moves_on s ms heard x leads history next =
    let allowed : AllAllowed s.disks (state_after (events_of_slot s.slot ms)) leads.events =
    may_late after (Allowed s.disks) start (events_of_slot s.slot ms) leads.events leads.is_run in
    moves_by s (on (heard ++ x ∷ [])) ms leads.events leads.own allowed history next
