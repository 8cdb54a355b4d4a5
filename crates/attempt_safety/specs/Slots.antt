-- The events of one slot as moves of all slots.
use Rattle.std.specs.Prelude.{ℕ, List, map}
use Rattle.agreement.specs.Event.{Event}
use Rattle.agreement.specs.Log.{Move}
use Rattle.agreement.specs.Log.Move.{At}

-- each is made in the slot
abbrev pub in_slot : ℕ → List (Event (List ℕ)) → List (Move (List ℕ))
in_slot k events = map (At k) events
