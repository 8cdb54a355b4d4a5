-- Events that happen to a replay, one after the other: the first of them, what is said with the last, and what the replay is of then.
use Rattle.std.specs.Prelude.{◌-◌, All, IsSome, replicate, slice_get, slice_index_or, take, drop}
use Rattle.std.proofs.Common.{ℕ, zero, suc, ◌+◌, ◌<◌, ◌≤◌, ◌≡◌, Option, Some, None, List, [], ◌∷◌, ◌++◌, length, get_or, refl, sym, ap, ◌∙◌, subst, arith, append-nil, length-append}
use Rattle.std.proofs.lemmas.List.{map-append, take_all, take-append-le, take-take, take-map, drop-take, take-append-drop, take-replicate, length-replicate}
use Rattle.std.proofs.lemmas.List.Elements.{All-push, All-weaker}
use Rattle.paxos_block.specs.Shape.{Shape}
use Rattle.lock_script.specs.declared.event.Event as code
use Rattle.host.specs.Host.{said_of}
use Rattle.world.specs.Entry.{Filled}
use Rattle.world.specs.World.{world}
use Rattle.world.specs.Happens.{Event, Step, Line, happen, answers_from}
use Rattle.world.specs.Opening.{begun, run_of, world_after}
use Rattle.simulator.specs.declared.answer.Answer.{Answer}
use Rattle.simulator.specs.declared.simulated_cluster.Said.{Said}
use Rattle.simulator.specs.Answers.{line_of, IsPictured, AddsAnswer}
use Rattle.simulator.specs.Events.{event_of, events_of, lines_of}
use Rattle.simulator.specs.Kept.{Kept, LeadsTo, Brings, BringsAll, TellsNext}
use Rattle.simulator.specs.Past.{Past, world_of, answers_of}
use Rattle.simulator.proofs.Entries.{happen_on, answers_on, get_behind, before, after, Told, told}
use Rattle.simulator.proofs.Lines.{runs_by}
use Rattle.simulator.proofs.OneMore.{events_on, take_on}
use Rattle.simulator.proofs.Several.{one_event, idle_steps, steps_more}
use Rattle.fault_sweep.specs.Replayed.{later, Says, IsListed, Lists, Played, IsOf, IsPlayed, GoesOn}

-- THE FIRST OF SOME EVENTS

-- the first of some events, and the first of the rest
further : {A : Type 0} (k m : ℕ) (l : List A) → take k l ++ take m (drop k l) ≡ take (k + m) l
further k m l =
    ap (λ (a : List _). a ++ take m (drop k l)) (sym (take-take k (k + m) l (omega arith)))
    ∙ ap (λ (b : List _). take k (take (k + m) l) ++ b) (sym (drop-take k m l))
    ∙ take-append-drop k (take (k + m) l)

pub events_further : (k m : ℕ) (events : List code.Event) → events_of (take k events) ++ events_of (take m (drop k events)) ≡ events_of (take (k + m) events)
events_further k m events = sym (map-append event_of (take k events) (take m (drop k events))) ∙ ap events_of (further k m events)

pub has_first : (events : List code.Event) (x : Event) → slice_get (events_of events) 0 ≡ Some x → 1 ≤ length events
has_first [] x is = absurd (cc)
has_first (e ∷ es) x is = omega arith

-- so many of the first are steps of a host, and so is the next
pub steps_also : (events : List code.Event) (i h : ℕ) (e : code.Event) → i < length events → e ≡ get_or events i e → event_of e ≡ Step h
    → events_of (take i events) ≡ replicate i (Step h) → events_of (take (i + 1) events) ≡ replicate (i + 1) (Step h)
steps_also events i h e within is step before =
    ap events_of (take_on events i e within is)
    ∙ events_on (take i events) e
    ∙ ap (λ (x : Event). events_of (take i events) ++ x ∷ []) step
    ∙ ap (λ (l : List Event). l ++ Step h ∷ []) before
    ∙ steps_more h i 1 (i + 1) refl

-- or it is none
pub not_first : (events : List code.Event) (i h : ℕ) (e : code.Event) → e ≡ get_or events i e → (event_of e ≡ Step h → ⊥) → slice_get (events_of events) 0 ≡ Some (Step h) → 1 ≤ i
not_first [] i h e is other first = absurd (cc)
not_first (y ∷ es) zero h e is other first = let same : event_of y ≡ Step h = cc in absurd (other (ap event_of is ∙ same))
not_first (y ∷ es) (suc i) h e is other first = omega arith

pub fewer_steps : (events : List code.Event) (h m n : ℕ) → m ≤ n → events_of (take n events) ≡ replicate n (Step h) → replicate m (Step h) ≡ events_of (take m events)
fewer_steps events h m n le is =
    sym (take-replicate m n (Step h) le) ∙ ap (take m) (sym is) ∙ take-map event_of m (take n events) ∙ ap events_of (take-take m n events le)

-- WHAT IS THEN

-- the host of the last event's line says so then
pub says_last : (p : Past) (events : List Event) (x : Line) (lines : List Line) → answers_of (later p events) ≡ lines ++ x ∷ [] → x.place + 1 ≡ length (p.events ++ events)
    → said_of ((world_of (later p events)).host x.host) ≡ Some x.said
says_last p events x lines is last =
    let c = p.opening.shape in
    let all = p.events ++ events in
    let start = begun p.opening in
    let t : Told c start all x.place x = told c start all (length lines) x (ap (λ (l : List Line). slice_get l (length lines)) is ∙ get_behind lines x []) in
    let whole : take (x.place + 1) all ≡ all = take_all (x.place + 1) all (omega (arith, last)) in
    let there : happen c start all ≡ before c start all x.place ++ t.entry ∷ [] =
    ap (happen c start) (sym whole) ∙ after c start all x.place t.entry t.brought in
    ap (λ (l : List Filled). said_of ((world c l).host x.host)) there ∙ t.says

counted : (n : ℕ) → 0 + n ≡ n
counted n = omega arith

-- what was answered stays, and what these events bring comes behind it
pub answered_since : (p : Past) (events : List Event)
    → answers_of (later p events) ≡ answers_of p ++ answers_from p.opening.shape (run_of p.opening p.events) (length p.events) events
answered_since p events =
    answers_on p.opening.shape (begun p.opening) 0 p.events events
    ∙ ap (λ (k : ℕ). answers_of p ++ answers_from p.opening.shape (run_of p.opening p.events) k events) (counted (length p.events))

-- so many events have happened to the cluster, and this was told of them
module _ (p : Past) (events : List Event) (n : ℕ) (many : length events ≡ n) (old : Played) (new : Kept) (is : IsOf p old) (told_then : Option Said)
    (brings : (log : List Filled) → LeadsTo log old.cluster → BringsAll log events old.cluster new told_then) where
  abbrev c : Shape
  c = p.opening.shape

  abbrev log : List Filled
  log = run_of p.opening p.events

  abbrev now : Past
  now = later p events

  longer : length now.events ≡ length p.events + n
  longer = omega (arith, length-append p.events events, many)

  here : BringsAll log events old.cluster new told_then
  here = brings log is.leads

  own : new.shape ≡ c
  own = here.shape ∙ is.own

  leads : LeadsTo (run_of p.opening now.events) new
  leads =
      subst (λ (l : List Filled). LeadsTo l new) (sym (happen_on c (begun p.opening) p.events events))
      (subst (λ (s : Shape). LeadsTo (happen s log events) new) is.own here.leads)

  still : (a : Answer) → IsListed p a → IsListed now a
  still a listed =
      let same : take (a.place + 1) p.events ≡ take (a.place + 1) now.events = sym (take-append-le (a.place + 1) p.events events (omega (arith, listed.0))) in
      (omega (arith, listed.0, longer), subst (λ (l : List Event). IsPictured (world_after p.opening l) a) same listed.1)

  stay : All (IsListed now) old.report
  stay = All-weaker (IsListed p) (IsListed now) still old.report is.lists.pictures

  answered : (said : Option Said) → told_then ≡ said → answers_of now ≡ answers_of p ++ lines_of (length now.events - 1) said
  answered said same =
      answered_since p events
      ∙ ap (λ (l : List Line). answers_of p ++ l)
      (sym (subst (λ (s : Shape). lines_of (length p.events + length events - 1) told_then ≡ answers_from s log (length p.events) events) is.own (here.says (length p.events))))
      ∙ ap (λ (k : ℕ). answers_of p ++ lines_of (k - 1) told_then) (sym (length-append p.events events))
      ∙ ap (λ (o : Option Said). answers_of p ++ lines_of (length now.events - 1) o) same

  -- nothing is said
  pub quiet : told_then ≡ None → answers_of now ≡ answers_of p
  quiet none = answered None none ∙ append-nil (answers_of p)

  pub goes_quietly : told_then ≡ None → IsOf now (record { cluster = new; place = old.place + n; report = old.report })
  goes_quietly none =
      record {
        can = is.can;
        own = own;
        leads = leads;
        many = omega (arith, is.many, longer);
        lists = record { lines = is.lists.lines ∙ sym (quiet none); pictures = stay };
      }

  -- what is said with the last, by a host that runs
  pub says : 1 ≤ n → (said : Option Said) → told_then ≡ said → Says p now said
  says some None same = record { answered = answered None same; runs = tt }
  says some (Some said) same =
      let x : Line = record { place = length now.events - 1; host = said.host; said = said.answer } in
      record { answered = answered (Some said) same; runs = says_last p events x (answers_of p) (answered (Some said) same) (omega (arith, some, longer)) }

  module _ (some : 1 ≤ n) (said : Said) (same : told_then ≡ Some said) where
    -- its host is kept then
    pub last_runs : IsSome (slice_index_or new.hosts said.host None)
    last_runs =
        let says_so : said_of ((world new.shape (run_of p.opening now.events)).host said.host) ≡ Some said.answer =
        subst (λ (s : Shape). said_of ((world s (run_of p.opening now.events)).host said.host) ≡ Some said.answer) (sym own) (says some (Some said) same).runs in
        runs_by new.shape said.host _ _ said.answer says_so (leads.shows.hosts said.host)

    -- it is listed with its picture
    pub goes_spoken : (report : List Answer) → AddsAnswer new (old.place + n - 1) said old.report report → IsOf now (record { cluster = new; place = old.place + n; report = report })
    goes_spoken report adds =
        let a : Answer = adds.answer in
        let picture : IsPictured (world_of now) a =
        subst (λ (s : Shape). IsPictured (world s (run_of p.opening now.events)) a) own (adds.picture (run_of p.opening now.events) leads) in
        let counts : old.place + n ≡ length now.events = omega (arith, is.many, longer) in
        let listed : lines_of (length now.events - 1) (Some said) ≡ line_of a ∷ [] =
        ap (λ (k : ℕ). lines_of (k - 1) (Some said)) (sym counts) ∙ ap (λ (x : Line). x ∷ []) (sym adds.line) in
        let at : a.place ≡ old.place + n - 1 = ap (λ (x : Line). x.place) adds.line in
        let whole : take (a.place + 1) now.events ≡ now.events = take_all (a.place + 1) now.events (omega (arith, at, counts, some)) in
        let lists : Lists now (old.report ++ a ∷ []) = record {
          lines =
              map-append line_of old.report (a ∷ []) ∙ ap (λ (l : List Line). l ++ line_of a ∷ []) is.lists.lines
              ∙ sym (answered (Some said) same ∙ ap (λ (l : List Line). answers_of p ++ l) listed);
          pictures = All-push (IsListed now) old.report a stay
              (omega (arith, at, counts, some), subst (λ (l : List Event). IsPictured (world_after p.opening l) a) (sym whole) picture);
        } in
        record {
          can = is.can;
          own = own;
          leads = leads;
          many = counts;
          lists = subst (Lists now) (sym adds.added) lists;
        }

-- one event is a list, too
pub once : (event : Event) (old new : Kept) (said : Option Said) → ((log : List Filled) → LeadsTo log old → Brings log event old new said)
    → (log : List Filled) → LeadsTo log old → BringsAll log (event ∷ []) old new said
once event old new said brings log leads = one_event log event old new said (brings log leads)

-- a replay stays one of something
pub still_played : (c : Shape) (events : List Event) (old new : Played) → GoesOn old new events → (c ≡ old.cluster.shape) × IsPlayed old → (c ≡ new.cluster.shape) × IsPlayed new
still_played c events old new goes was =
    let now = goes was.1.past was.1.is in
    (was.0 ∙ was.1.is.own ∙ sym now.own, record { past = later was.1.past events; is = now })

-- STEPS OF A HOST THAT MAKES NO CALL

module _ (p : Past) (old : Played) (h n : ℕ) (is : IsOf p old) (tells : TellsNext h None old.cluster) where
  idle : (log : List Filled) → LeadsTo log old.cluster → BringsAll log (replicate n (Step h)) old.cluster old.cluster None
  idle log leads = idle_steps log h n old.cluster leads tells

  pub passes : IsOf (later p (replicate n (Step h))) (record { cluster = old.cluster; place = old.place + n; report = old.report })
  passes = goes_quietly p (replicate n (Step h)) n (length-replicate n (Step h)) old old.cluster is None idle refl

  pub pass_quiet : answers_of (later p (replicate n (Step h))) ≡ answers_of p
  pass_quiet = quiet p (replicate n (Step h)) n (length-replicate n (Step h)) old old.cluster is None idle refl
