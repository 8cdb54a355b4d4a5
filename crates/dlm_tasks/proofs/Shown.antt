-- Tables that are shown between events: what is written further on makes the text of all.
use Rattle.std.specs.Prelude.{replicate, slice_index_or}
use Rattle.std.specs.Io.KnownBytes.{Appends, Keeps}
use Rattle.std.proofs.Common.{ℕ, ◌+◌, ◌-◌, ◌≤◌, ◌<◌, ◌≡◌, zero, suc, List, [], ◌∷◌, ◌++◌, length, take, drop, get_or, Option, Some, None, refl, sym, ap, ◌∙◌, subst, append_assoc, append-nil, length-append, arith}
use Rattle.std.proofs.KnownBytes.{Appends-nil, Appends-trans}
use Rattle.std.proofs.Math.Seq.{take-append-add, drop-append-add, drop-cons}
use Rattle.std.proofs.lemmas.Grind.{flat_map-append}
use Rattle.std.proofs.lemmas.List.{map-append, length-replicate, replicate-append-replicate}
use Rattle.paxos_block.specs.Shape.{Shape}
use Rattle.world.specs.Entry.{Filled}
use Rattle.world.specs.Happens.{Event, happen, answers_from}
use Rattle.lock_script.specs.Events.{each_event}
use Rattle.lock_script.specs.declared.event.Event as code
use Rattle.lock_script.specs.declared.events.Run.{Run}
use Rattle.lock_script.specs.declared.script.Script.{Script}
use Rattle.lock_script.specs.declared.show.Show.{Show}
use Rattle.simulator.specs.Events.{event_of, events_of}
use Rattle.simulator.specs.Kept.{Kept, LeadsTo}
use Rattle.simulator.proofs.Entries.{happen_on, answers_on}
use Rattle.epoch_script.specs.declared.any_script.AnyScript.{AnyScript}
use Rattle.epoch_script.specs.declared.any_script.AnyScript.TheVariants.{Ending, Endless}
use Rattle.epoch_script.specs.Scripts.{IsAnyScript}
use Rattle.dlm_tasks.specs.AnyRun.{HasRoom, WritesAnyScript}
use Rattle.dlm_tasks.specs.Printed.{WritesAnswers, WritesPart, WritesScript, WritesText, IsText, IsShowOf, IsFrom, line_text, lines_text}

plus_none : (n : ℕ) → n + 0 ≡ n
plus_none n = omega arith

-- a show is due behind n of the events: `front` happens, its table is written, and then the rest
abbrev DueBehind : (c : Shape) (log : List Filled) (first : ℕ) (show : Show) (shows : List Show) (text : List ℕ) (n : ℕ) (front back : List Event) → Type 0
DueBehind c log first show shows text n front back =
    (k : Kept) × LeadsTo (happen c log front) k × (s : List ℕ) × IsShowOf show (slice_index_or k.hosts show.host None) s
    × (r : List ℕ) × IsText c (happen c log front) (first + n) back shows r × (text ≡ lines_text (answers_from c log first front) ++ (s ++ r))

-- nothing happened yet
pub nothing : (log : List Filled) (first : ℕ) (shows : List Show) (k : Kept) (at : Option (List ℕ)) → LeadsTo log k → WritesPart log [] first shows shows k k at at
nothing log first shows k at leads = record {
  shape = refl;
  leads = leads;
  text = [];
  written = Appends-nil at;
  goes_on = λ later rest text. subst (λ (n : ℕ). IsText k.shape log n later shows rest) (plus_none first) text;
}

-- a table is shown where no events come before its place
pub at_once : (log : List Filled) (first : ℕ) (events : List Event) (show : Show) (shows : List Show) (k : Kept) (shown rest : List ℕ) (n : ℕ) → n ≡ show.place - first
    → take n events ≡ [] → drop n events ≡ events → IsText k.shape log (first + n) events shows rest
    → LeadsTo log k → IsShowOf show (slice_index_or k.hosts show.host None) shown → IsText k.shape log first events (show ∷ shows) (shown ++ rest)
at_once log first events show shows k shown rest n is none all text leads is_shown = the_same is
  where
    Body : ℕ → List Event → List Event → Type 0
    Body = DueBehind k.shape log first show shows (shown ++ rest)

    here : Body n [] events
    here = (k, leads, shown, is_shown, rest, text, refl)

    the_same : n ≡ show.place - first → Body (show.place - first) (take (show.place - first) events) (drop (show.place - first) events)
    the_same same =
        subst (λ (m : ℕ). Body m (take m events) (drop m events)) same
        (subst (λ (behind : List Event). Body n (take n events) behind) (sym all)
        (subst (λ (before : List Event). Body n before events) (sym none) here))

-- where its place is behind so many events, or it has passed, it is
pub due : (log : List Filled) (first : ℕ) (events : List Event) (show : Show) (shows : List Show) (k : Kept) (shown rest : List ℕ) → show.place ≤ first
    → IsText k.shape log first events shows rest → LeadsTo log k → IsShowOf show (slice_index_or k.hosts show.host None) shown
    → IsText k.shape log first events (show ∷ shows) (shown ++ rest)
due log first events show shows k shown rest passed text leads is_shown =
    at_once log first events show shows k shown rest 0 none refl refl (subst (λ (n : ℕ). IsText k.shape log n events shows rest) more text) leads is_shown
  where
    none : 0 ≡ show.place - first
    none = omega (arith, passed)

    more : first ≡ first + 0
    more = omega arith

-- of no events none are taken, and none are left
take_none : (n : ℕ) → let none : List Event = [] in take n none ≡ none
take_none zero = refl
take_none (suc n) = refl

drop_none : (n : ℕ) → let none : List Event = [] in drop n none ≡ none
drop_none zero = refl
drop_none (suc n) = refl

-- behind all events each table is
pub behind : (log : List Filled) (first : ℕ) (show : Show) (shows : List Show) (k : Kept) (shown rest : List ℕ)
    → ((place : ℕ) → IsText k.shape log place [] shows rest) → LeadsTo log k → IsShowOf show (slice_index_or k.hosts show.host None) shown
    → IsText k.shape log first [] (show ∷ shows) (shown ++ rest)
behind log first show shows k shown rest text leads is_shown =
    let n = show.place - first in
    at_once log first [] show shows k shown rest n refl (take_none n) (drop_none n) (text (first + n)) leads is_shown

-- Events in front of all places come first in the text.
pub answered : (c : Shape) (log : List Filled) (first : ℕ) (events later : List Event) (shows : List Show) (rest : List ℕ) → IsFrom (first + length events) shows
    → IsText c (happen c log events) (first + length events) later shows rest
    → IsText c log first (events ++ later) shows (lines_text (answers_from c log first events) ++ rest)
answered c log first events later [] rest before text =
    ap (λ (r : List ℕ). lines_text (answers_from c log first events) ++ r) text
    ∙ sym (flat_map-append line_text (answers_from c log first events) (answers_from c (happen c log events) (first + length events) later))
    ∙ ap lines_text (sym (answers_on c log first events later))
answered c log first events later (show ∷ shows) rest before (kept, leads, shown, is_shown, behind_it, text, all) =
    subst (λ (n : ℕ). Body n (take n (events ++ later)) (drop n (events ++ later))) far
    (subst (λ (front : List Event). Body (length events + m) front (drop (length events + m) (events ++ later))) (sym (take-append-add events later m))
    (subst (λ (back : List Event). Body (length events + m) (events ++ take m later) back) (sym (drop-append-add events later m))
    (kept, subst (λ (l : List Filled). LeadsTo l kept) (sym grown) leads, shown, is_shown, behind_it, moved, spelled)))
  where
    m : ℕ
    m = show.place - (first + length events)

    here : List ℕ
    here = lines_text (answers_from c log first events)

    then : List Filled
    then = happen c log events

    Body : ℕ → List Event → List Event → Type 0
    Body = DueBehind c log first show shows (here ++ rest)

    far : length events + m ≡ show.place - first
    far = omega (arith, before)

    grown : happen c log (events ++ take m later) ≡ happen c then (take m later)
    grown = happen_on c log events (take m later)

    numbered : (first + length events) + m ≡ first + (length events + m)
    numbered = omega arith

    moved : IsText c (happen c log (events ++ take m later)) (first + (length events + m)) (drop m later) shows behind_it
    moved =
        subst (λ (l : List Filled). IsText c l (first + (length events + m)) (drop m later) shows behind_it) (sym grown)
        (subst (λ (n : ℕ). IsText c (happen c then (take m later)) n (drop m later) shows behind_it) numbered text)

    spelled : here ++ rest ≡ lines_text (answers_from c log first (events ++ take m later)) ++ (shown ++ behind_it)
    spelled =
        ap (λ (r : List ℕ). here ++ r) all
        ∙ sym (append_assoc here (lines_text (answers_from c then (first + length events) (take m later))) (shown ++ behind_it))
        ∙ ap (λ (t : List ℕ). t ++ (shown ++ behind_it))
        (sym (flat_map-append line_text (answers_from c log first events) (answers_from c then (first + length events) (take m later)))
        ∙ ap lines_text (sym (answers_on c log first events (take m later))))

-- events were answered of which none comes behind a table's place
pub part : (log : List Filled) (events : List Event) (first : ℕ) (shows : List Show) (old new : Kept) (p q : Option (List ℕ)) → IsFrom (first + length events) shows
    → WritesAnswers log events first old new p q → WritesPart log events first shows shows old new p q
part log events first shows old new p q before writes = record {
  shape = writes.shape;
  leads = writes.leads;
  text = lines_text (answers_from old.shape log first events);
  written = writes.written;
  goes_on = λ later rest text. answered old.shape log first events later shows rest before text;
}

-- one part behind another
pub parts : (log : List Filled) (a b : List Event) (first : ℕ) (shows left last : List Show) (old mid new : Kept) (p q r : Option (List ℕ))
    → WritesPart log a first shows left old mid p q → WritesPart (happen old.shape log a) b (first + length a) left last mid new q r
    → WritesPart log (a ++ b) first shows last old new p r
parts log a b first shows left last old mid new p q r one two = record {
  shape = two.shape ∙ one.shape;
  leads = subst (λ (l : List Filled). LeadsTo l new) (sym grown) (subst (λ (s : Shape). LeadsTo (happen s then b) new) one.shape two.leads);
  text = one.text ++ two.text;
  written = Appends-trans p q r one.text two.text one.written two.written;
  goes_on = λ later rest text.
      subst (λ (events : List Event). IsText c log first events shows ((one.text ++ two.text) ++ rest)) (sym (append_assoc a b later))
      (subst (λ (t : List ℕ). IsText c log first (a ++ (b ++ later)) shows t) (sym (append_assoc one.text two.text rest))
      (one.goes_on (b ++ later) (two.text ++ rest)
      (subst (λ (s : Shape). IsText s then (first + length a) (b ++ later) left (two.text ++ rest)) one.shape
      (two.goes_on later rest
      (subst (λ (s : Shape). IsText s (happen s then b) ((first + length a) + length b) later last rest) (sym one.shape)
      (subst (λ (l : List Filled). IsText c l ((first + length a) + length b) later last rest) grown
      (subst (λ (n : ℕ). IsText c (happen c log (a ++ b)) n later last rest) numbered text)))))));
}
  where
    c : Shape
    c = old.shape

    then : List Filled
    then = happen c log a

    grown : happen c log (a ++ b) ≡ happen c then b
    grown = happen_on c log a b

    plus : (x y z : ℕ) → x + (y + z) ≡ (x + y) + z
    plus x y z = omega arith

    numbered : first + length (a ++ b) ≡ (first + length a) + length b
    numbered = ap (λ (n : ℕ). first + n) (length-append a b) ∙ plus first (length a) (length b)

-- what all events and the tables that are left write is the text
pub whole : (log : List Filled) (events : List Event) (first : ℕ) (shows left : List Show) (old new : Kept) (p q r : Option (List ℕ))
    → WritesPart log events first shows left old new p q → WritesText new.shape (happen old.shape log events) (first + length events) [] left q r
    → WritesText old.shape log first events shows p r
whole log events first shows left old new p q r one (rest, text, written) = (
  one.text ++ rest,
  subst (λ (l : List Event). IsText old.shape log first l shows (one.text ++ rest)) (append-nil events)
      (one.goes_on [] rest (subst (λ (s : Shape). IsText s (happen old.shape log events) (first + length events) [] left rest) one.shape text)),
  Appends-trans p q r one.text rest one.written written,
)

-- What is due before so many of an event is shown, and then they are answered.
pub more : (log : List Filled) (e : Event) (k m first : ℕ) (shows left last : List Show) (old mid new : Kept) (p q r s : Option (List ℕ))
    → WritesPart log (replicate k e) first shows left old mid p q → ((log : List Filled) → LeadsTo log mid → WritesPart log [] (first + k) left last mid mid q r)
    → ((log : List Filled) → LeadsTo log mid → WritesAnswers log (replicate m e) (first + k) mid new r s) → IsFrom ((first + k) + m) last
    → WritesPart log (replicate (k + m) e) first shows last old new p s
more log e k m first shows left last old mid new p q r s one due answers before =
    subst (λ (l : List Event). WritesPart log l first shows last old new p s) (replicate-append-replicate k m e)
    (parts log (replicate k e) (replicate m e) first shows left last old mid new p q s one
    (subst (λ (n : ℕ). WritesPart then (replicate m e) n left last mid new q s) far
    (parts then [] (replicate m e) (first + k) left last last mid mid new q r s (due then one.leads)
    (subst (λ (n : ℕ). WritesPart then (replicate m e) n last last mid new r s) (sym (plus_none (first + k)))
    (part then (replicate m e) (first + k) last mid new r s
    (subst (λ (n : ℕ). IsFrom ((first + k) + n) last) (sym (length-replicate m e)) before)
    (answers then one.leads))))))
  where
    then : List Filled
    then = happen old.shape log (replicate k e)

    far : first + k ≡ first + length (replicate k e)
    far = ap (λ (n : ℕ). first + n) (sym (length-replicate k e))

-- Behind all events tables were shown, of which these are left. What is written further on makes the text of all.
pub record ShowsLast (log : List Filled) (shows left : List Show) (k : Kept) (before after : Option (List ℕ)) : Type 0 where
  pub text : List ℕ
  pub written : Appends before after text
  pub goes_on : (rest : List ℕ) → ((place : ℕ) → IsText k.shape log place [] left rest) → (place : ℕ) → IsText k.shape log place [] shows (text ++ rest)

-- one table more was shown
pub shown_last : (log : List Filled) (shows : List Show) (show : Show) (left : List Show) (k : Kept) (shown : List ℕ) (p q r : Option (List ℕ))
    → ShowsLast log shows (show ∷ left) k p q → LeadsTo log k → IsShowOf show (slice_index_or k.hosts show.host None) shown → Appends q r shown → ShowsLast log shows left k p r
shown_last log shows show left k shown p q r one leads is_shown written = record {
  text = one.text ++ shown;
  written = Appends-trans p q r one.text shown one.written written;
  goes_on = λ rest text place.
      subst (λ (t : List ℕ). IsText k.shape log place [] shows t) (sym (append_assoc one.text shown rest))
      (one.goes_on (shown ++ rest) (λ at. behind log at show left k shown rest text leads is_shown) place);
}

-- all were
pub all_shown : (log : List Filled) (shows : List Show) (k : Kept) (p q : Option (List ℕ)) → ShowsLast log shows [] k p q → (place : ℕ) → WritesText k.shape log place [] shows p q
all_shown log shows k p q one place = (
  one.text,
  subst (λ (t : List ℕ). IsText k.shape log place [] shows t) (append-nil one.text) (one.goes_on [] (λ at. refl) place),
  one.written,
)

-- one table more was due
pub shown_due : (log : List Filled) (place : ℕ) (shows : List Show) (show : Show) (left : List Show) (k : Kept) (shown : List ℕ) (p q r : Option (List ℕ)) → show.place ≤ place
    → WritesPart log [] place shows (show ∷ left) k k p q → LeadsTo log k → IsShowOf show (slice_index_or k.hosts show.host None) shown → Appends q r shown
    → WritesPart log [] place shows left k k p r
shown_due log place shows show left k shown p q r passed one leads is_shown written = record {
  shape = refl;
  leads = leads;
  text = one.text ++ shown;
  written = Appends-trans p q r one.text shown one.written written;
  goes_on = λ later rest text.
      subst (λ (t : List ℕ). IsText k.shape log place later shows t) (sym (append_assoc one.text shown rest))
      (one.goes_on later (shown ++ rest)
      (subst (λ (n : ℕ). IsText k.shape log n later (show ∷ left) (shown ++ rest)) (sym (plus_none place))
      (due log place later show left k shown rest passed (subst (λ (n : ℕ). IsText k.shape log n later left rest) (plus_none place) text) leads is_shown)));
}

-- So many of all events happened, and these are left.
pub record ShownSoFar (log : List Filled) (all left : List Event) (place : ℕ) (shows later : List Show) (old new : Kept) (before after : Option (List ℕ)) : Type 0 where
  pub events : List Event
  pub part : WritesPart log events 0 shows later old new before after
  pub whole : events ++ left ≡ all
  pub counted : length events ≡ place

-- none happened yet
pub none_so_far : (log : List Filled) (all : List Event) (shows : List Show) (k : Kept) (at : Option (List ℕ)) → LeadsTo log k → ShownSoFar log all all 0 shows shows k k at at
none_so_far log all shows k at leads = record { events = []; part = nothing log 0 shows k at leads; whole = refl; counted = refl }

-- the events of a run happened, too
pub next : (log : List Filled) (all a left : List Event) (place m : ℕ) (shows mid last : List Show) (old now new : Kept) (p q r : Option (List ℕ))
    → ShownSoFar log all (a ++ left) place shows mid old now p q → ((log : List Filled) → LeadsTo log now → WritesPart log a place mid last now new q r) → length a ≡ m
    → ShownSoFar log all left (place + m) shows last old new p r
next log all a left place m shows mid last old now new p q r one two long = record {
  events = one.events ++ a;
  part =
      parts log one.events a 0 shows mid last old now new p q r one.part
      (subst (λ (n : ℕ). WritesPart (happen old.shape log one.events) a n mid last now new q r) (sym one.counted ∙ zero_plus (length one.events)) (two (happen old.shape log one.events) one.part.leads));
  whole = append_assoc one.events a left ∙ one.whole;
  counted = length-append one.events a ∙ ap (λ (n : ℕ). n + length a) one.counted ∙ ap (λ (n : ℕ). place + n) long;
}
  where
    zero_plus : (n : ℕ) → n ≡ 0 + n
    zero_plus n = omega arith

-- none is left
pub ended : (log : List Filled) (all : List Event) (place : ℕ) (shows later : List Show) (old new : Kept) (p q r : Option (List ℕ)) → ShownSoFar log all [] place shows later old new p q
    → ((log : List Filled) (place : ℕ) → LeadsTo log new → WritesText new.shape log place [] later q r) → WritesText old.shape log 0 all shows p r
ended log all place shows later old new p q r one rest =
    subst (λ (events : List Event). WritesText old.shape log 0 events shows p r) (sym (append-nil one.events) ∙ one.whole)
    (whole log one.events 0 shows later old new p q r one.part (rest (happen old.shape log one.events) (0 + length one.events) one.part.leads))

-- what is left begins with the next
pub next_of : {X : Type 0} (xs : List X) (i : ℕ) (x : X) → i < length xs → x ≡ get_or xs i x → drop i xs ≡ x ∷ drop (i + 1) xs
next_of xs i x within is = drop-cons xs i x within ∙ ap (λ y. y ∷ drop (suc i) xs) (sym is) ∙ ap (λ (n : ℕ). x ∷ drop n xs) one_more
  where
    one_more : suc i ≡ i + 1
    one_more = omega arith

-- an event so many times is the world's event so many times
each_of : (n : ℕ) (e : code.Event) → events_of (replicate n e) ≡ replicate n (event_of e)
each_of zero e = refl
each_of (suc n) e = ap (λ (l : List Event). event_of e ∷ l) (each_of n e)

-- the events of runs that are left begin with those of the next run
pub run_first : (runs : List Run) (i : ℕ) (run : Run) → i < length runs → run ≡ get_or runs i run
    → events_of (each_event (drop i runs)) ≡ replicate run.times (event_of run.event) ++ events_of (each_event (drop (i + 1) runs))
run_first runs i run within is =
    ap (λ (l : List Run). events_of (each_event l)) (next_of runs i run within is)
    ∙ map-append event_of (replicate run.times run.event) (each_event (drop (i + 1) runs))
    ∙ ap (λ (l : List Event). l ++ events_of (each_event (drop (i + 1) runs))) (each_of run.times run.event)

-- and there are so many of them
pub run_count : (runs : List Run) (i : ℕ) (run : Run) → i < length runs → run ≡ get_or runs i run
    → length (each_event (drop i runs)) ≡ run.times + length (each_event (drop (i + 1) runs))
run_count runs i run within is =
    ap (λ (l : List Run). length (each_event l)) (next_of runs i run within is)
    ∙ length-append (replicate run.times run.event) (each_event (drop (i + 1) runs))
    ∙ ap (λ (n : ℕ). n + length (each_event (drop (i + 1) runs))) (length-replicate run.times run.event)

-- bytes that grew, and then stayed, have grown
kept : (p q r : Option (List ℕ)) (text : List ℕ) → Appends p q text → Keeps q r → Appends p r text
kept None q r text written keeps = written
kept (Some xs) None r text written keeps = absurd written
kept (Some xs) (Some ys) None text written keeps = absurd keeps
kept (Some xs) (Some ys) (Some zs) text written keeps = keeps ∙ written

-- what was written stays when nothing more is
pub flushed : (script : Script) (p q r : Option (List ℕ)) → WritesScript script p q → Keeps q r → WritesScript script p r
flushed script p q r (text, is_text, written) keeps = (text, is_text, kept p q r text written keeps)

pub flushed_any : (script : AnyScript) (p q r : Option (List ℕ)) → WritesAnyScript script p q → Keeps q r → WritesAnyScript script p r
flushed_any (Ending script) p q r written keeps = flushed script p q r written keeps
flushed_any (Endless script) p q r written keeps =
    let plays = written.plays in
    record {
      old = written.old;
      new = written.new;
      shape = written.shape;
      hosts = written.hosts;
      leads = written.leads;
      plays = record { text = plays.text; played = plays.played; written = kept p q r plays.text plays.written keeps };
      one_log = written.one_log;
    }

-- a log that ends has a slot for each command that it begins with
pub room_of : (lines : List (List ℕ)) (script : AnyScript) → IsAnyScript lines script → HasRoom script
room_of lines (Ending script) (none, is) = is.short
room_of lines (Endless script) is = tt
