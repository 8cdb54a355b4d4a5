-- One event more: what is kept then, and what has been answered by then.
use Rattle.std.specs.Prelude.{take}
use Rattle.std.proofs.Common.{ℕ, ◌+◌, ◌<◌, ◌≡◌, Option, List, [], ◌∷◌, ◌++◌, length, get_or, sym, ap, ◌∙◌, subst, arith}
use Rattle.std.proofs.lemmas.List.{map-append, length-map, length-take-le, take_more, take-map}
use Rattle.paxos_block.specs.Shape.{Shape}
use Rattle.lock_command.specs.declared.command.Command.{Command}
use Rattle.lock_script.specs.declared.event.Event as code
use Rattle.world.specs.Entry.{Filled}
use Rattle.world.specs.World.{world}
use Rattle.world.specs.Happens.{Event, Line, entry_of, happen, lines_at, answers_from}
use Rattle.world.specs.Opening.{Opening, begun_with, run_of, world_after, answers_to}
use Rattle.simulator.specs.declared.answer.Answer.{Answer}
use Rattle.simulator.specs.declared.simulated_cluster.Said.{Said}
use Rattle.simulator.specs.Answers.{IsPictured, IsPicturedIn}
use Rattle.simulator.specs.Events.{event_of, events_of, lines_of}
use Rattle.simulator.specs.Kept.{Kept, LeadsTo, Brings}
use Rattle.simulator.proofs.Entries.{happen_on, one_answer_more}

-- the events, and one more
pub events_on : (events : List code.Event) (event : code.Event) → events_of (events ++ event ∷ []) ≡ events_of events ++ event_of event ∷ []
events_on events event = map-append event_of events (event ∷ [])

-- so where a copy of the event is kept behind them
pub kept_on : {events between more : List code.Event} {event copy : code.Event} → more ≡ between ++ copy ∷ [] → between ≡ events → copy ≡ event → more ≡ events ++ event ∷ []
kept_on {events} {between} {more} {event} {copy} grown same copied =
    grown ∙ ap (λ (l : List code.Event). l ++ copy ∷ []) same ∙ ap (λ (e : code.Event). events ++ e ∷ []) copied

module _ (start : List Filled) (events : List code.Event) (event : code.Event) (old new : Kept) (said : Option Said)
    (brings : Brings (happen old.shape start (events_of events)) (event_of event) old new said) where
  -- they lead to what is kept
  pub leads_on : LeadsTo (happen old.shape start (events_of (events ++ event ∷ []))) new
  leads_on =
      let after = sym (happen_on old.shape start (events_of events) (event_of event ∷ [])) ∙ ap (happen old.shape start) (sym (events_on events event)) in
      subst (λ (l : List Filled). LeadsTo l new) after brings.leads

  -- and what is said is answered behind the rest
  pub answers_on : answers_from old.shape start 0 (events_of (events ++ event ∷ [])) ≡ answers_from old.shape start 0 (events_of events) ++ lines_of (length events) said
  answers_on =
      let c = old.shape in
      let log = happen c start (events_of events) in
      let placed = λ (n : ℕ). lines_at c log n (entry_of c (world c log) (event_of event)) in
      ap (answers_from c start 0) (events_on events event)
      ∙ one_answer_more c start (events_of events) (event_of event)
      ∙ ap (λ (l : List Line). answers_from c start 0 (events_of events) ++ l) (ap placed (length-map events event_of) ∙ sym (brings.says (length events)))

  -- the same of a list that is these events and the one more
  module _ (more : List code.Event) (is : more ≡ events ++ event ∷ []) where
    pub past_leads : LeadsTo (happen new.shape start (events_of more)) new
    past_leads =
        subst (λ (l : List code.Event). LeadsTo (happen new.shape start (events_of l)) new) (sym is)
        (subst (λ (s : Shape). LeadsTo (happen s start (events_of (events ++ event ∷ []))) new) (sym brings.shape) leads_on)

    pub past_answers : answers_from new.shape start 0 (events_of more) ≡ answers_from old.shape start 0 (events_of events) ++ lines_of (length events) said
    past_answers =
        ap (λ (l : List code.Event). answers_from new.shape start 0 (events_of l)) is
        ∙ ap (λ (s : Shape). answers_from s start 0 (events_of (events ++ event ∷ []))) brings.shape
        ∙ answers_on

-- the same of what was moved at first
module _ (moved : List Command) (events : List code.Event) (event : code.Event) (old new : Kept) (said : Option Said)
    (brings : Brings (run_of (record { shape = old.shape; moved = moved }) (events_of events)) (event_of event) old new said) (more : List code.Event) (is : more ≡ events ++ event ∷ []) where
  pub moved_leads : LeadsTo (run_of (record { shape = new.shape; moved = moved }) (events_of more)) new
  moved_leads =
      subst (λ (s : Shape). LeadsTo (happen new.shape (begun_with s moved) (events_of more)) new) (sym brings.shape)
      (past_leads (begun_with old.shape moved) events event old new said brings more is)

  pub moved_answers : answers_to (record { shape = new.shape; moved = moved }) (events_of more) ≡ answers_to (record { shape = old.shape; moved = moved }) (events_of events) ++ lines_of (length events) said
  moved_answers =
      ap (λ (s : Shape). answers_from new.shape (begun_with s moved) 0 (events_of more)) brings.shape
      ∙ past_answers (begun_with old.shape moved) events event old new said brings more is

-- AT A PLACE OF A LIST

module _ (events : List code.Event) (i : ℕ) (event : code.Event) (within : i < length events) (is : event ≡ get_or events i event) where
  pub take_on : take (i + 1) events ≡ take i events ++ event ∷ []
  take_on = take_more events i event within ∙ ap (λ (e : code.Event). take i events ++ e ∷ []) (sym is)

  pub as_many : length (take i events) ≡ i
  as_many = length-take-le i events (omega (arith, within))

-- the answer of the event at a place is pictured among those of all events
pub pictured_there : (o : Opening) (events : List code.Event) (i : ℕ) (a : Answer) → a.place ≡ i → IsPictured (world_after o (events_of (take (i + 1) events))) a
    → IsPicturedIn o (events_of events) a
pictured_there o events i a at is =
    let same : events_of (take (i + 1) events) ≡ take (a.place + 1) (events_of events) =
    ap (λ (n : ℕ). events_of (take (n + 1) events)) (sym at) ∙ sym (take-map event_of (a.place + 1) events) in
    subst (λ (l : List Event). IsPictured (world_after o l) a) same is
