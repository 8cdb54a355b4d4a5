-- What a run has listed by an event, and how one event more adds to it.
use Rattle.std.specs.Prelude.{All}
use Rattle.std.proofs.Common.{ℕ, ◌+◌, ◌<◌, ◌≤◌, ◌≡◌, Option, Some, None, List, [], ◌∷◌, ◌++◌, length, get_or, map, take, sym, ap, ◌∙◌, subst, append-nil}
use Rattle.std.proofs.lemmas.List.{map-append, take_all}
use Rattle.std.proofs.lemmas.List.Elements.{All-push}
use Rattle.paxos_block.specs.Shape.{Shape}
use Rattle.lock_script.specs.declared.event.Event as code
use Rattle.world.specs.Entry.{Filled}
use Rattle.world.specs.World.{world}
use Rattle.world.specs.Happens.{Line, happen, answers_from}
use Rattle.world.specs.Opening.{Opening, begun, run_of, answers_to}
use Rattle.simulator.specs.declared.answer.Answer.{Answer}
use Rattle.simulator.specs.declared.simulated_cluster.Said.{Said}
use Rattle.simulator.specs.Answers.{line_of, IsPictured, IsPicturedIn}
use Rattle.simulator.specs.Events.{event_of, events_of, lines_of}
use Rattle.simulator.specs.Kept.{Kept, LeadsTo, Brings}
use Rattle.simulator.proofs.OneMore.{past_leads, past_answers, take_on, as_many, pictured_there}

-- before event i: what is kept, and what is listed, are of the events before it
pub record HasListed (o : Opening) (events : List code.Event) (i : ℕ) (k : Kept) (listed : List Answer) : Type 0 where
  pub own : k.shape ≡ o.shape
  pub leads : LeadsTo (run_of o (events_of (take i events))) k
  pub lines : map line_of listed ≡ answers_to o (events_of (take i events))
  pub pictures : All (IsPicturedIn o (events_of events)) listed

module _ (o : Opening) (events : List code.Event) (i : ℕ) (event : code.Event) (old new : Kept) (listed : List Answer)
    (within : i < length events) (is : event ≡ get_or events i event) (before : HasListed o events i old listed) where
  module _ (said : Option Said) (brings : (log : List Filled) → LeadsTo log old → Brings log (event_of event) old new said) where
    here : Brings (happen old.shape (begun o) (events_of (take i events))) (event_of event) old new said
    here =
        subst (λ (s : Shape). Brings (happen s (begun o) (events_of (take i events))) (event_of event) old new said) (sym before.own)
        (brings (run_of o (events_of (take i events))) before.leads)

    own_on : new.shape ≡ o.shape
    own_on = here.shape ∙ before.own

    leads_then : LeadsTo (run_of o (events_of (take (i + 1) events))) new
    leads_then =
        subst (λ (s : Shape). LeadsTo (happen s (begun o) (events_of (take (i + 1) events))) new) own_on
        (past_leads (begun o) (take i events) event old new said here (take (i + 1) events) (take_on events i event within is))

    answers_then : answers_to o (events_of (take (i + 1) events)) ≡ answers_to o (events_of (take i events)) ++ lines_of i said
    answers_then =
        ap (λ (s : Shape). answers_from s (begun o) 0 (events_of (take (i + 1) events))) (sym own_on)
        ∙ past_answers (begun o) (take i events) event old new said here (take (i + 1) events) (take_on events i event within is)
        ∙ ap (λ (s : Shape). answers_from s (begun o) 0 (events_of (take i events)) ++ lines_of (length (take i events)) said) before.own
        ∙ ap (λ (n : ℕ). answers_to o (events_of (take i events)) ++ lines_of n said) (as_many events i event within is)

  -- nothing is said
  pub lists_nothing : ((log : List Filled) → LeadsTo log old → Brings log (event_of event) old new None) → HasListed o events (i + 1) new listed
  lists_nothing brings =
      record {
        own = own_on None brings;
        leads = leads_then None brings;
        lines = before.lines ∙ sym (append-nil _) ∙ sym (answers_then None brings);
        pictures = before.pictures;
      }

  -- something is said, and listed with its picture
  pub lists : (said : Said) (a : Answer) → ((log : List Filled) → LeadsTo log old → Brings log (event_of event) old new (Some said))
      → line_of a ≡ record { place = i; host = said.host; said = said.answer }
      → ((log : List Filled) → LeadsTo log new → IsPictured (world new.shape log) a)
      → HasListed o events (i + 1) new (listed ++ a ∷ [])
  lists said a brings line pictured =
      let leads = leads_then (Some said) brings in
      let log = run_of o (events_of (take (i + 1) events)) in
      let picture : IsPictured (world o.shape log) a = subst (λ (s : Shape). IsPictured (world s log) a) (own_on (Some said) brings) (pictured log leads) in
      record {
        own = own_on (Some said) brings;
        leads = leads;
        lines =
            map-append line_of listed (a ∷ [])
            ∙ ap (λ (l : List Line). l ++ line_of a ∷ []) before.lines
            ∙ ap (λ (x : Line). answers_to o (events_of (take i events)) ++ x ∷ []) line
            ∙ sym (answers_then (Some said) brings);
        pictures = All-push (IsPicturedIn o (events_of events)) listed a before.pictures (pictured_there o events i a (ap (λ (x : Line). x.place) line) picture);
      }

-- behind the last event all is listed
pub all_listed : (o : Opening) (events : List code.Event) (i : ℕ) (k : Kept) (listed : List Answer) → length events ≤ i → HasListed o events i k listed
    → map line_of listed ≡ answers_to o (events_of events)
all_listed o events i k listed past has = has.lines ∙ ap (λ (l : List code.Event). answers_to o (events_of l)) (take_all i events past)
