-- Events and tables that are shown, one after the other: what is written further on makes the text of all.
use Rattle.std.specs.Prelude.{replicate}
use Rattle.std.specs.Io.KnownBytes.{Appends}
use Rattle.std.proofs.Common.{ℕ, ◌+◌, ◌≤◌, ◌<◌, ◌≡◌, suc, List, [], ◌∷◌, ◌++◌, length, drop, get_or, Option, refl, sym, ap, ◌∙◌, subst, append_assoc, append-nil, length-append, arith}
use Rattle.std.proofs.KnownBytes.{Appends-nil, Appends-trans}
use Rattle.std.proofs.Math.Seq.{drop-cons}
use Rattle.std.proofs.lemmas.List.{length-replicate, replicate-append-replicate}
use Rattle.std.proofs.lemmas.List.Elements.{All-nil, All-cons, All-append}
use Rattle.paxos_block.specs.Shape.{Shape}
use Rattle.lock_script.specs.Events.{each_event}
use Rattle.lock_script.specs.declared.event.Event.{Event}
use Rattle.lock_script.specs.declared.events.Run.{Run}
use Rattle.lock_script.specs.declared.show.Show.{Show}
use Rattle.epoch_script.specs.declared.any_script.EpochScript.{EpochScript}
use Rattle.epoch_simulator.specs.Kept.{Kept}
use Rattle.epoch_player.specs.declared.happening.Said.{Said}
use Rattle.epoch_player.specs.Happening.{Happens}
use Rattle.epoch_player.specs.Text.{IsShowOf, said_text}
use Rattle.epoch_player.specs.Playing.{AreShown, IsFrom, IsPlayed, Plays, PlaysPart, ShowsDue, ShowsLeft}

plus_none : (n : ℕ) → n + 0 ≡ n
plus_none n = omega arith

-- TABLES

-- one table more is shown
shown_more : (k : Kept) (shows : List Show) (show : Show) (text one : List ℕ) → AreShown k shows text → IsShowOf show k one → AreShown k (shows ++ show ∷ []) (text ++ one)
shown_more k [] show text one none is = (one, is, ([], refl, ap (λ (t : List ℕ). t ++ one) none ∙ sym (append-nil one)))
shown_more k (first ∷ shows) show text one (begins, is_first, (rest, are, whole)) is =
    (begins, is_first, (rest ++ one, shown_more k shows show rest one are is, ap (λ (t : List ℕ). t ++ one) whole ∙ append_assoc begins rest one))

-- none was due yet
pub none_due : (place : ℕ) (shows : List Show) (k : Kept) (at : Option (List ℕ)) → ShowsDue place shows shows k at at
none_due place shows k at = record { due = []; text = []; are = refl; come = All-nil (λ (show : Show). show.place ≤ place); shown = refl; written = Appends-nil at }

-- one more was
pub one_due : (place : ℕ) (shows : List Show) (show : Show) (later : List Show) (k : Kept) (one : List ℕ) (p q r : Option (List ℕ)) → show.place ≤ place
    → ShowsDue place shows (show ∷ later) k p q → IsShowOf show k one → Appends q r one → ShowsDue place shows later k p r
one_due place shows show later k one p q r passed so is written =
    let P : Show → Type 0 = λ other. other.place ≤ place in
    record {
      due = so.due ++ show ∷ [];
      text = so.text ++ one;
      are = so.are ∙ sym (append_assoc so.due (show ∷ []) later);
      come = All-append P so.due (show ∷ []) so.come (All-cons P show [] passed (All-nil P));
      shown = shown_more k so.due show so.text one so.shown is;
      written = Appends-trans p q r so.text one so.written written;
    }

pub none_left : (k : Kept) (at : Option (List ℕ)) → ShowsLeft [] k at at
none_left k at = record { text = []; shown = refl; written = Appends-nil at }

pub one_left : (shows : List Show) (show : Show) (k : Kept) (one : List ℕ) (p q r : Option (List ℕ)) → ShowsLeft shows k p q → IsShowOf show k one → Appends q r one → ShowsLeft (shows ++ show ∷ []) k p r
one_left shows show k one p q r so is written =
    record { text = so.text ++ one; shown = shown_more k shows show so.text one so.shown is; written = Appends-trans p q r so.text one so.written written }

-- EVENTS

-- nothing happened yet
pub nothing : (c : Shape) (first : ℕ) (shows : List Show) (k : Kept) (at : Option (List ℕ)) → PlaysPart c [] first shows shows k k at at
nothing c first shows k at = record {
  text = [];
  written = Appends-nil at;
  goes_on = λ more last rest played. subst (λ (n : ℕ). IsPlayed c n more shows k last rest) (plus_none first) played;
}

-- what is due is shown, and an event happens
pub one : (c : Shape) (event : Event) (place : ℕ) (shows left : List Show) (old new : Kept) (said : Option Said) (p q r : Option (List ℕ))
    → ShowsDue place shows left old p q → IsFrom (place + 1) left → Happens c event old new said → Appends q r (said_text place said) → PlaysPart c (event ∷ []) place shows left old new p r
one c event place shows left old new said p q r due ahead happens written = record {
  text = due.text ++ said_text place said;
  written = Appends-trans p q r due.text (said_text place said) due.written written;
  goes_on = λ more last rest played. (
    due.due,
    left,
    record { are = due.are; come = due.come; ahead = ahead },
    (due.text, due.shown, (new, said, happens, (rest, played, append_assoc due.text (said_text place said) rest))),
  );
}

-- events happen, and then others
pub joined : (c : Shape) (a b : List Event) (first : ℕ) (shows mid left : List Show) (old now new : Kept) (p q r : Option (List ℕ))
    → PlaysPart c a first shows mid old now p q → PlaysPart c b (first + length a) mid left now new q r → PlaysPart c (a ++ b) first shows left old new p r
joined c a b first shows mid left old now new p q r before behind = record {
  text = before.text ++ behind.text;
  written = Appends-trans p q r before.text behind.text before.written behind.written;
  goes_on = λ more last rest played.
      subst (λ (l : List Event). IsPlayed c first l shows old last ((before.text ++ behind.text) ++ rest)) (sym (append_assoc a b more))
      (subst (λ (t : List ℕ). IsPlayed c first (a ++ (b ++ more)) shows old last t) (sym (append_assoc before.text behind.text rest))
      (before.goes_on (b ++ more) last (behind.text ++ rest)
      (behind.goes_on more last rest
      (subst (λ (n : ℕ). IsPlayed c n more left new last rest) numbered played))));
}
  where
    plus : (x y z : ℕ) → x + (y + z) ≡ (x + y) + z
    plus x y z = omega arith

    numbered : first + length (a ++ b) ≡ (first + length a) + length b
    numbered = ap (λ (n : ℕ). first + n) (length-append a b) ∙ plus first (length a) (length b)

-- an event so many times, and then once more
pub again : (c : Shape) (event : Event) (k first : ℕ) (shows mid left : List Show) (old now new : Kept) (p q r : Option (List ℕ))
    → PlaysPart c (replicate k event) first shows mid old now p q → PlaysPart c (event ∷ []) (first + k) mid left now new q r → PlaysPart c (replicate (k + 1) event) first shows left old new p r
again c event k first shows mid left old now new p q r before behind =
    subst (λ (l : List Event). PlaysPart c l first shows left old new p r) (replicate-append-replicate k 1 event)
    (joined c (replicate k event) (event ∷ []) first shows mid left old now new p q r before
    (subst (λ (n : ℕ). PlaysPart c (event ∷ []) n mid left now new q r) (ap (λ (n : ℕ). first + n) (sym (length-replicate k event))) behind))

-- So many of all events happened, and these are left.
pub record SoFar (c : Shape) (all left : List Event) (place : ℕ) (shows later : List Show) (old new : Kept) (before after : Option (List ℕ)) : Type 0 where
  pub events : List Event
  pub part : PlaysPart c events 0 shows later old new before after
  pub whole : events ++ left ≡ all
  pub counted : length events ≡ place

pub none_so_far : (c : Shape) (all : List Event) (shows : List Show) (k : Kept) (at : Option (List ℕ)) → SoFar c all all 0 shows shows k k at at
none_so_far c all shows k at = record { events = []; part = nothing c 0 shows k at; whole = refl; counted = refl }

-- the events of a run happened, too
pub next : (c : Shape) (all a left : List Event) (place m : ℕ) (shows mid last : List Show) (old now new : Kept) (p q r : Option (List ℕ))
    → SoFar c all (a ++ left) place shows mid old now p q → PlaysPart c a place mid last now new q r → length a ≡ m → SoFar c all left (place + m) shows last old new p r
next c all a left place m shows mid last old now new p q r so behind long = record {
  events = so.events ++ a;
  part = joined c so.events a 0 shows mid last old now new p q r so.part (subst (λ (n : ℕ). PlaysPart c a n mid last now new q r) (sym so.counted ∙ zero_plus (length so.events)) behind);
  whole = append_assoc so.events a left ∙ so.whole;
  counted = length-append so.events a ∙ ap (λ (n : ℕ). n + length a) so.counted ∙ ap (λ (n : ℕ). place + n) long;
}
  where
    zero_plus : (n : ℕ) → n ≡ 0 + n
    zero_plus n = omega arith

-- none is left, and the tables that are left are shown
pub ended : (script : EpochScript) (place : ℕ) (later : List Show) (old new : Kept) (p q r : Option (List ℕ))
    → SoFar script.config script.events [] place script.shows.items later old new p q → ShowsLeft later new q r → Plays script old new p r
ended script place later old new p q r so rest = record {
  text = so.part.text ++ rest.text;
  played =
      subst (λ (l : List Event). IsPlayed script.config 0 l script.shows.items old new (so.part.text ++ rest.text)) so.whole
      (so.part.goes_on [] new rest.text (refl, rest.shown));
  written = Appends-trans p q r so.part.text rest.text so.part.written rest.written;
}

-- RUNS

-- what is left begins with the next
pub next_of : {X : Type 0} (xs : List X) (i : ℕ) (x : X) → i < length xs → x ≡ get_or xs i x → drop i xs ≡ x ∷ drop (i + 1) xs
next_of xs i x within is = drop-cons xs i x within ∙ ap (λ y. y ∷ drop (suc i) xs) (sym is) ∙ ap (λ (n : ℕ). x ∷ drop n xs) one_more
  where
    one_more : suc i ≡ i + 1
    one_more = omega arith

-- the events of runs that are left begin with those of the next run
pub run_first : (runs : List Run) (i : ℕ) (run : Run) → i < length runs → run ≡ get_or runs i run
    → each_event (drop i runs) ≡ replicate run.times run.event ++ each_event (drop (i + 1) runs)
run_first runs i run within is = ap each_event (next_of runs i run within is)

-- and there are so many of them
pub run_count : (runs : List Run) (i : ℕ) (run : Run) → i < length runs → run ≡ get_or runs i run
    → length (each_event (drop i runs)) ≡ run.times + length (each_event (drop (i + 1) runs))
run_count runs i run within is =
    ap (λ (l : List Event). length l) (run_first runs i run within is)
    ∙ length-append (replicate run.times run.event) (each_event (drop (i + 1) runs))
    ∙ ap (λ (n : ℕ). n + length (each_event (drop (i + 1) runs))) (length-replicate run.times run.event)
