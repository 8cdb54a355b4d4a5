-- Events and the entries that they bring: where an entry stands in the list, and which event brought it.
use Rattle.std.specs.Prelude.{take, drop, slice_get}
use Rattle.std.proofs.Common.{ℕ, zero, suc, ◌+◌, ◌<◌, ◌≤◌, ◌≡◌, ◌⊎◌, inl, inr, true, Option, Some, None, List, [], ◌∷◌, ◌++◌, length, refl, sym, subst, ap, ◌∙◌, append_assoc, append-nil, length-append, arith}
use Rattle.std.proofs.Math.Seq.{take-append_seam}
use Rattle.std.proofs.lemmas.Bool.{eq-eqb, cases_lt}
use Rattle.std.proofs.lemmas.List.{take_more, take-take}
use Rattle.std.proofs.lemmas.Option.{slice_get_within, get_or_from_slice_get}
use Rattle.paxos_block.specs.Shape.{Shape}
use Rattle.host.specs.Host.{said_of}
use Rattle.world.specs.Entry.{Filled, Start, Stop, Begin, Called, Torn, Crashed, Lost, Migrated, is_of}
use Rattle.world.specs.World.{world}
use Rattle.world.specs.Happens.{Event, Line, entry_of, with_entry, happens, happen, host_of, lines_at, answers_from}
use Rattle.world.specs.Chosen.{at, SaysAt}
use Rattle.simulator.proofs.Lines.{behind}

-- LISTS

-- what stands in two lists, one behind the other
pub get_either : {A : Type 0} (a b : List A) (k : ℕ) (x : A) → slice_get (a ++ b) k ≡ Some x → (slice_get a k ≡ Some x) ⊎ ((j : ℕ) × (k ≡ length a + j) × (slice_get b j ≡ Some x))
get_either [] b k x is = inr (k, omega arith, is)
get_either (y ∷ a) b zero x is = inl is
get_either (y ∷ a) b (suc k) x is = elim (get_either a b k x is) [
  | inl here ↦ inl here
  | inr there ↦ inr (there.0, omega (arith, there.1), there.2)
]

get_one : {A : Type 0} (y : A) (j : ℕ) (x : A) → slice_get (y ∷ []) j ≡ Some x → (j ≡ 0) × (y ≡ x)
get_one y zero x is = (refl, cc)
get_one y (suc j) x is = absurd (cc)

pub get_behind : {A : Type 0} (a : List A) (x : A) (b : List A) → slice_get (a ++ x ∷ b) (length a) ≡ Some x
get_behind [] x b = refl
get_behind (y ∷ a) x b = get_behind a x b

take_next : {A : Type 0} (l : List A) (n : ℕ) (x : A) → slice_get l n ≡ Some x → take (n + 1) l ≡ take n l ++ x ∷ []
take_next l n x is = take_more l n x (slice_get_within l n x is) ∙ ap (λ y. take n l ++ y ∷ []) (get_or_from_slice_get l n x x is)

-- ONE LIST BEGINS ANOTHER

-- entries come behind those that are there
pub extends : (c : Shape) (log : List Filled) (events : List Event) → (rest : List Filled) × (happen c log events ≡ log ++ rest)
extends c log [] = ([], sym (append-nil log))
extends c log (e ∷ es) = go (entry_of c (world c log) e) (λ (l : List Filled). extends c l es)
  where
    go : (o : Option Filled) → ((l : List Filled) → (rest : List Filled) × (happen c l es ≡ l ++ rest)) → (rest : List Filled) × (happen c (with_entry log o) es ≡ log ++ rest)
    go None more = more log
    go (Some f) more = ((f ∷ (more (log ++ f ∷ [])).0), (more (log ++ f ∷ [])).1 ∙ append_assoc log (f ∷ []) (more (log ++ f ∷ [])).0)

-- events happen one after the other
pub happen_on : (c : Shape) (log : List Filled) (a b : List Event) → happen c log (a ++ b) ≡ happen c (happen c log a) b
happen_on c log [] b = refl
happen_on c log (e ∷ a) b = happen_on c (happens c log e) a b

-- and what is answered with the later ones comes behind the rest
pub answers_on : (c : Shape) (log : List Filled) (place : ℕ) (events more : List Event)
    → answers_from c log place (events ++ more) ≡ answers_from c log place events ++ answers_from c (happen c log events) (place + length events) more
answers_on c log place [] more = ap (λ (n : ℕ). answers_from c log n more) (the_same place)
  where
    the_same : (n : ℕ) → n ≡ n + 0
    the_same n = omega arith
answers_on c log place (e ∷ es) more =
    let here = lines_at c log place (entry_of c (world c log) e) in
    let far : (place + 1) + length es ≡ place + suc (length es) = omega arith in
    ap (λ (l : List Line). here ++ l) (answers_on c (happens c log e) (place + 1) es more)
    ∙ sym (append_assoc here (answers_from c (happens c log e) (place + 1) es) _)
    ∙ ap (λ (n : ℕ). (here ++ answers_from c (happens c log e) (place + 1) es) ++ answers_from c (happen c log (e ∷ es)) n more) far

counted : (n : ℕ) → 0 + n ≡ n
counted n = omega arith

pub one_answer_more : (c : Shape) (log : List Filled) (events : List Event) (e : Event)
    → answers_from c log 0 (events ++ e ∷ []) ≡ answers_from c log 0 events ++ lines_at c (happen c log events) (length events) (entry_of c (world c (happen c log events)) e)
one_answer_more c log events e =
    let now = happen c log events in
    answers_on c log 0 events (e ∷ [])
    ∙ ap (λ (l : List Line). answers_from c log 0 events ++ l) (append-nil (lines_at c now (0 + length events) (entry_of c (world c now) e)))
    ∙ ap (λ (n : ℕ). answers_from c log 0 events ++ lines_at c now n (entry_of c (world c now) e)) (counted (length events))

happen_parts : (c : Shape) (log : List Filled) (events : List Event) (n : ℕ) → happen c log events ≡ happen c (happen c log (take n events)) (drop n events)
happen_parts c log [] zero = refl
happen_parts c log [] (suc n) = refl
happen_parts c log (e ∷ es) zero = refl
happen_parts c log (e ∷ es) (suc n) = happen_parts c (happens c log e) es n

-- AN ENTRY AND ITS EVENT

-- it is the entry that an event brings behind the list
pub record From (c : Shape) (log : List Filled) (events : List Event) (p : ℕ) (e : Filled) : Type 0 where
  pub n : ℕ
  pub event : Event
  pub is : slice_get events n ≡ Some event
  pub brings : entry_of c (world c (happen c log (take n events))) event ≡ Some e
  pub at : length (happen c log (take n events)) ≡ p

by_first : (c : Shape) (log : List Filled) (x : Event) (es : List Event) (p : ℕ) (e : Filled) (o : Option Filled) → entry_of c (world c log) x ≡ o
    → slice_get (with_entry log o) p ≡ Some e → (slice_get log p ≡ Some e) ⊎ From c log (x ∷ es) p e
by_first c log x es p e None is found = inl found
by_first c log x es p e (Some f) is found = elim (get_either log (f ∷ []) p e found) [
  | inl here ↦ inl here
  | inr there ↦
      (let one = get_one f there.0 e there.2 in
      inr (record { n = 0; event = x; is = refl; brings = is ∙ ap Some one.1; at = omega (arith, there.1, one.0) }))
]

-- each entry was there at first, or is of one event
pub from_event : (c : Shape) (log : List Filled) (events : List Event) (p : ℕ) (e : Filled) → slice_get (happen c log events) p ≡ Some e
    → (slice_get log p ≡ Some e) ⊎ From c log events p e
from_event c log [] p e found = inl found
from_event c log (x ∷ es) p e found = elim (from_event c (happens c log x) es p e found) [
  | inl there ↦ by_first c log x es p e (entry_of c (world c log) x) refl there
  | inr f ↦ inr (record { n = suc f.n; event = f.event; is = f.is; brings = f.brings; at = f.at })
]

-- A LINE AND ITS EVENT

-- it is of the entry that an event brings, and tells what the host of that says
record ToldFrom (c : Shape) (log : List Filled) (place : ℕ) (events : List Event) (x : Line) : Type 0 where
  n : ℕ
  at : x.place ≡ place + n
  event : Event
  is : slice_get events n ≡ Some event
  entry : Filled
  brings : entry_of c (world c (happen c log (take n events))) event ≡ Some entry
  of : host_of entry ≡ Some x.host
  says : said_of ((world c (happen c log (take n events) ++ entry ∷ [])).host x.host) ≡ Some x.said

told_from : (c : Shape) (log : List Filled) (place : ℕ) (events : List Event) (k : ℕ) (x : Line) → slice_get (answers_from c log place events) k ≡ Some x
    → ToldFrom c log place events x
told_from c log place [] k x found = absurd (cc)
told_from c log place (e ∷ es) k x found = elim (get_either (lines_at c log place (entry_of c (world c log) e)) (answers_from c (happens c log e) (place + 1) es) k x found) [
  | inl here ↦
      (let b = behind c log place (entry_of c (world c log) e) k x here in
      record { n = 0; at = omega (arith, b.at); event = e; is = refl; entry = b.entry; brings = b.is; of = b.of; says = b.says })
  | inr there ↦
      (let f = told_from c (happens c log e) (place + 1) es there.0 x there.2 in
      record { n = suc f.n; at = omega (arith, f.at); event = f.event; is = f.is; entry = f.entry; brings = f.brings; of = f.of; says = f.says })
]

-- whose entry it is, as a test
pub own : (e : Filled) (h : ℕ) → host_of e ≡ Some h → is_of h e ≡ true
own (Start g) h is = eq-eqb g h (cc)
own (Stop g) h is = eq-eqb g h (cc)
own (Begin g task) h is = eq-eqb g h (cc)
own (Called g k call answer left) h is = eq-eqb g h (cc)
own (Torn g k call left) h is = eq-eqb g h (cc)
own (Crashed k left) h is = absurd (cc)
own (Lost k) h is = absurd (cc)
own (Migrated disks log) h is = absurd (cc)

-- BEFORE AN EVENT

module _ (c : Shape) (start : List Filled) (events : List Event) where
  -- the entries that the events before event n have brought
  abbrev pub before : ℕ → List Filled
  before n = happen c start (take n events)

  rest_of : (n : ℕ) → (rest : List Filled) × (happen c start events ≡ before n ++ rest)
  rest_of n = let more = extends c (before n) (drop n events) in (more.0, happen_parts c start events n ∙ more.1)

  -- they begin the whole list
  pub begins_with : (n : ℕ) → take (length (before n)) (happen c start events) ≡ before n
  begins_with n = let more = rest_of n in ap (take (length (before n))) more.1 ∙ take-append_seam (before n) more.0

  -- the more events, the more entries
  pub fewer : (n m : ℕ) → n ≤ m → length (before n) ≤ length (before m)
  fewer n m le =
      let more = extends c (happen c start (take n (take m events))) (drop n (take m events)) in
      let all : before m ≡ happen c start (take n (take m events)) ++ more.0 = happen_parts c start (take m events) n ∙ more.1 in
      let same : happen c start (take n (take m events)) ≡ before n = ap (happen c start) (take-take n m events le) in
      omega (arith, ap length all, length-append (happen c start (take n (take m events))) more.0, ap length same)

  pub earlier : (n m : ℕ) → length (before n) < length (before m) → n < m
  earlier n m less = elim (cases_lt n m) [ inl is ↦ is | inr not ↦ absurd (omega (arith, fewer m n not, less)) ]

  -- event n brings this entry
  pub record Brought (n : ℕ) (e : Filled) : Type 0 where
    pub event : Event
    pub is : slice_get events n ≡ Some event
    pub brings : entry_of c (world c (before n)) event ≡ Some e

  module _ (n : ℕ) (e : Filled) (brought : Brought n e) where
    pub after : before (n + 1) ≡ before n ++ e ∷ []
    after = ap (happen c start) (take_next events n brought.event brought.is) ∙ happen_on c start (take n events) (brought.event ∷ []) ∙ ap (with_entry (before n)) brought.brings

    stands : slice_get (happen c start events) (length (before n)) ≡ Some e
    stands =
        let more = rest_of (n + 1) in
        ap (λ (l : List Filled). slice_get l (length (before n))) (more.1 ∙ ap (λ (l : List Filled). l ++ more.0) after ∙ append_assoc (before n) (e ∷ []) more.0)
        ∙ get_behind (before n) e more.0

    -- behind that entry stands what is before the next event
    up_to : take (length (before n) + 1) (happen c start events) ≡ before (n + 1)
    up_to =
        let long : length (before (n + 1)) ≡ length (before n) + 1 = ap length after ∙ length-append (before n) (e ∷ []) in
        subst (λ (k : ℕ). take k (happen c start events) ≡ before (n + 1)) long (begins_with (n + 1))

  -- a line is of the entry that its event brings
  pub record Told (n : ℕ) (x : Line) : Type 0 where
    pub entry : Filled
    pub brought : Brought n entry
    pub of : host_of entry ≡ Some x.host
    pub says : said_of ((world c (before n ++ entry ∷ [])).host x.host) ≡ Some x.said

  pub told : (k : ℕ) (x : Line) → slice_get (answers_from c start 0 events) k ≡ Some x → Told x.place x
  told k x found =
      let f = told_from c start 0 events k x found in
      let same : f.n ≡ x.place = omega (arith, f.at) in
      subst (λ (n : ℕ). Told n x) same (record { entry = f.entry; brought = record { event = f.event; is = f.is; brings = f.brings }; of = f.of; says = f.says })

  -- so its host says it there, in the words of the list
  pub says_at : (n : ℕ) (x : Line) → Told n x → SaysAt c (happen c start events) (length (before n)) x.host x.said
  says_at n x t =
      record {
        entry = t.entry;
        is = stands n t.entry t.brought;
        of_host = own t.entry x.host t.of;
        says = ap (λ (l : List Filled). said_of ((world c l).host x.host)) (up_to n t.entry t.brought ∙ after n t.entry t.brought) ∙ t.says;
      }

  -- the world behind it is the one that the event left
  pub left_at : (n : ℕ) (x : Line) → Told n x → world c (before (n + 1)) ≡ at c (happen c start events) (length (before n) + 1)
  left_at n x t = ap (world c) (sym (up_to n t.entry t.brought))
