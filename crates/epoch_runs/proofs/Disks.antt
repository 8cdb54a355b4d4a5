-- What is done on one disk, as deeds of hosts of all epochs there, and what of it is done in an epoch.
use Rattle.std.specs.Prelude.{◌%◌}
use Rattle.std.proofs.Common.{ℕ, zero, suc, ◌≡◌, ◌==◌, ◌+◌, Bool, true, false, cond, Option, Some, None, List, [], ◌∷◌, ◌++◌, refl, sym, ◌∙◌, ap, ap₂, inl, inr, arith}
use Rattle.std.specs.Prelude.{◌||◌}
use Rattle.std.proofs.lemmas.Bool.{cases_Bool, cases_eq, eqb-true, eq-eqb, ne_eqb, and_left, and_right, and_from}
use Rattle.disk.specs.Disk.{Call, Answer}
use Rattle.paxos_block.specs.Shape.{Shape}
use Rattle.standings.specs.Epochs.{epoch_of, is_same}
use Rattle.standings.specs.Past.{Made}
use Rattle.world.specs.Entry.{Filled, Start, Stop, Begin, Called, Torn, Crashed, Lost, is_on, on_disk}
use Rattle.epochs.specs.Pasts as served
use Rattle.epochs.specs.Pasts.{done_in}
use Rattle.endless.specs.Lived.{In, part}
use Rattle.epoch_deeds.specs.Deeds.{Deed, Deeds, Calls, CallsIn, Starts, Begins, Stops}
use Rattle.epoch_runs.specs.World.{Entry, Does, Breaks, BreaksIn, Ends, Crashes, Loses, Replaces, deeds_after}
use Rattle.epoch_runs.specs.Living.{is_row, Showing, showing_next, shows_row, below, stops_below, has_stopped, lived_at, lived_from}
use Rattle.epoch_runs.proofs.Lists.{on_disk_both}

-- DEEDS ON A DISK

-- a row that is shown is read for an epoch
abbrev pub row_deed : (h : ℕ) → Made → Option Showing → served.Deed
row_deed h made None = served.Calls h made
row_deed h made (Some s) = served.CallsIn (epoch_of s.epoch) h made s.call s.heard

-- and by the reading of the standings nothing is done in it
abbrev pub core_deed : (epoch h : ℕ) → Made → Call → Answer → Bool → served.Deed
core_deed epoch h made call heard true = served.Calls h made
core_deed epoch h made call heard false = served.CallsIn (epoch_of epoch) h made call heard

abbrev pub deeds_by : (k h : ℕ) → Deed → Option Showing → List served.Deed
deeds_by k h (Calls d made) next = cond (d == k) (row_deed h made next ∷ []) []
deeds_by k h (CallsIn epoch d made call heard) next = cond (d == k) (core_deed epoch h made call heard (is_row call heard) ∷ []) []
deeds_by k h (Starts epoch) next = []
deeds_by k h (Begins epoch task) next = []
deeds_by k h (Stops epoch) next = []

-- a host that stops within a write on one disk stops on all
abbrev pub deeds_at : (k : ℕ) → Entry → List Entry → List served.Deed
deeds_at k (Does h deed) entries = deeds_by k h deed (showing_next h entries)
deeds_at k (Breaks h d call) entries = cond (d == k) (served.Breaks h call) (served.Stops h) ∷ []
deeds_at k (BreaksIn epoch h d call) entries = cond (d == k) (served.BreaksIn (epoch_of epoch) h call) (served.Stops h) ∷ []
deeds_at k (Ends h) entries = served.Stops h ∷ []
deeds_at k (Crashes d) entries = cond (d == k) (served.Crash ∷ []) []
deeds_at k (Loses d) entries = cond (d == k) (served.Loss ∷ []) []
deeds_at k (Replaces d first newest) entries = cond (d == k) (served.Replacement first ∷ []) []

abbrev pub deeds_on : ℕ → List Entry → List served.Deed
deeds_on k [] = []
deeds_on k (entry ∷ entries) = deeds_at k entry entries ++ deeds_on k entries

-- EPOCHS

-- each epoch has an area and a number of its own
same_epoch : (a b : ℕ) → is_same (epoch_of a) (epoch_of b) ≡ (a == b)
same_epoch a b =
    elim (cases_eq a b) [
      | inl same ↦
          let area : a % 2 ≡ b % 2 = ap (λ (n : ℕ). n % 2) same in
          let number : a + a % 2 ≡ b + b % 2 = ap (λ (n : ℕ). n + n % 2) same in
          and_from (a % 2 == b % 2) (a + a % 2 == b + b % 2) (eq-eqb (a % 2) (b % 2) area) (eq-eqb (a + a % 2) (b + b % 2) number) ∙ sym (eq-eqb a b same)
      | inr differ ↦
          elim (cases_eq (a % 2) (b % 2)) [
            | inl area ↦ and_right (a % 2 == b % 2) (a + a % 2 == b + b % 2) (ne_eqb (a + a % 2) (b + b % 2) (λ number. differ (let one : a ≡ b = omega (arith, area, number) in one))) ∙ sym (ne_eqb a b differ)
            | inr apart ↦ and_left (a % 2 == b % 2) (a + a % 2 == b + b % 2) (ne_eqb (a % 2) (b % 2) apart) ∙ sym (ne_eqb a b differ)
          ]
    ]

-- ONE ENTRY

done_both : (k e : ℕ) (one more : List served.Deed) → done_in k (epoch_of e) (one ++ more) ≡ done_in k (epoch_of e) one ++ done_in k (epoch_of e) more
done_both k e [] more = refl
done_both k e (served.Calls host made ∷ one) more = done_both k e one more
done_both k e (served.CallsIn epoch host made call heard ∷ one) more = either (is_same epoch (epoch_of e)) (done_both k e one more)
  where
    entry : Filled
    entry = Called host k call heard []

    either : (b : Bool) → done_in k (epoch_of e) (one ++ more) ≡ done_in k (epoch_of e) one ++ done_in k (epoch_of e) more
        → cond b (entry ∷ done_in k (epoch_of e) (one ++ more)) (done_in k (epoch_of e) (one ++ more)) ≡ cond b (entry ∷ done_in k (epoch_of e) one) (done_in k (epoch_of e) one) ++ done_in k (epoch_of e) more
    either true rest = ap (λ (l : List Filled). entry ∷ l) rest
    either false rest = rest
done_both k e (served.Breaks host call ∷ one) more = done_both k e one more
done_both k e (served.BreaksIn epoch host call ∷ one) more = either (is_same epoch (epoch_of e)) (done_both k e one more)
  where
    entry : Filled
    entry = Torn host k call []

    either : (b : Bool) → done_in k (epoch_of e) (one ++ more) ≡ done_in k (epoch_of e) one ++ done_in k (epoch_of e) more
        → cond b (entry ∷ done_in k (epoch_of e) (one ++ more)) (done_in k (epoch_of e) (one ++ more)) ≡ cond b (entry ∷ done_in k (epoch_of e) one) (done_in k (epoch_of e) one) ++ done_in k (epoch_of e) more
    either true rest = ap (λ (l : List Filled). entry ∷ l) rest
    either false rest = rest
done_both k e (served.Stops host ∷ one) more = done_both k e one more
done_both k e (served.Crash ∷ one) more = ap (λ (l : List Filled). Crashed k [] ∷ l) (done_both k e one more)
done_both k e (served.Loss ∷ one) more = ap (λ (l : List Filled). Lost k ∷ l) (done_both k e one more)
done_both k e (served.Replacement first ∷ one) more = done_both k e one more

-- an entry in an epoch, on the disk or on another
in_here : (k e epoch : ℕ) (entry : Filled) (b : Bool) → is_on k entry ≡ b → on_disk k (part e (In epoch entry ∷ [])) ≡ cond b (cond (epoch == e) (entry ∷ []) []) []
in_here k e epoch entry b on = first (epoch == e) ∙ ap (λ (x : Bool). cond x (cond (epoch == e) (entry ∷ []) []) []) on
  where
    first : (x : Bool) → on_disk k (cond x (entry ∷ []) []) ≡ cond (is_on k entry) (cond x (entry ∷ []) []) []
    first true = refl
    first false = second (is_on k entry)
      where
        second : (y : Bool) → on_disk k [] ≡ cond y [] []
        second true = refl
        second false = refl

-- stops are on no disk
stops_nowhere : (k e h : ℕ) (stopped : ℕ → Bool) (n : ℕ) → on_disk k (part e (stops_below h stopped n)) ≡ []
stops_nowhere k e h stopped zero = refl
stops_nowhere k e h stopped (suc n) = either (stopped n) (stops_nowhere k e h stopped n)
  where
    either : (b : Bool) → on_disk k (part e (stops_below h stopped n)) ≡ [] → on_disk k (part e (cond b (stops_below h stopped n) (In n (Stop h) ∷ stops_below h stopped n))) ≡ []
    either true rest = rest
    either false rest = inside (n == e)
      where
        inside : (y : Bool) → on_disk k (cond y (Stop h ∷ part e (stops_below h stopped n)) (part e (stops_below h stopped n))) ≡ []
        inside true = rest
        inside false = rest

nowhere : (k e epoch : ℕ) (entry : Filled) → is_on k entry ≡ false → on_disk k (part e (In epoch entry ∷ [])) ≡ []
nowhere k e epoch entry off = in_here k e epoch entry false off

-- a call of a core on the disk
called_there : (k e h epoch d : ℕ) (made : Made) (call : Call) (heard : Answer) →
    on_disk k (part e (In epoch (Called h d call heard []) ∷ [])) ≡ done_in k (epoch_of e) (cond (d == k) (served.CallsIn (epoch_of epoch) h made call heard ∷ []) [])
called_there k e h epoch d made call heard =
    elim (cases_Bool (d == k)) [
      | inl here ↦
          in_here k e epoch (Called h d call heard []) true here
          ∙ ap (λ (x : ℕ). cond (epoch == e) (Called h x call heard [] ∷ []) []) (eqb-true d k here)
          ∙ ap (λ (b : Bool). cond b (Called h k call heard [] ∷ []) []) (sym (same_epoch epoch e))
          ∙ ap (λ (b : Bool). done_in k (epoch_of e) (cond b (served.CallsIn (epoch_of epoch) h made call heard ∷ []) [])) (sym here)
      | inr there ↦
          in_here k e epoch (Called h d call heard []) false there ∙ ap (λ (b : Bool). done_in k (epoch_of e) (cond b (served.CallsIn (epoch_of epoch) h made call heard ∷ []) [])) (sym there)
    ]

beside_there : (k e h d : ℕ) (made : Made) → [] ≡ done_in k (epoch_of e) (cond (d == k) (served.Calls h made ∷ []) [])
beside_there k e h d made = either (d == k)
  where
    either : (b : Bool) → [] ≡ done_in k (epoch_of e) (cond b (served.Calls h made ∷ []) [])
    either true = refl
    either false = refl

torn_there : (c : Shape) (k e h epoch d : ℕ) (call : Call) (stopped : ℕ → Bool) (n : ℕ) →
    on_disk k (part e (In epoch (Torn h d call []) ∷ stops_below h stopped n)) ≡ done_in k (epoch_of e) (cond (d == k) (served.BreaksIn (epoch_of epoch) h call) (served.Stops h) ∷ [])
torn_there c k e h epoch d call stopped n =
    on_disk_both k e (In epoch (Torn h d call []) ∷ []) (stops_below h stopped n)
    ∙ ap (λ (l : List Filled). on_disk k (part e (In epoch (Torn h d call []) ∷ [])) ++ l) (stops_nowhere k e h stopped n)
    ∙ elim (cases_Bool (d == k)) [
      | inl here ↦
          ap (λ (l : List Filled). l ++ [])
          (in_here k e epoch (Torn h d call []) true here
          ∙ ap (λ (x : ℕ). cond (epoch == e) (Torn h x call [] ∷ []) []) (eqb-true d k here)
          ∙ ap (λ (b : Bool). cond b (Torn h k call [] ∷ []) []) (sym (same_epoch epoch e)))
          ∙ ends (is_same (epoch_of epoch) (epoch_of e))
          ∙ ap (λ (b : Bool). done_in k (epoch_of e) (cond b (served.BreaksIn (epoch_of epoch) h call) (served.Stops h) ∷ [])) (sym here)
      | inr there ↦
          ap (λ (l : List Filled). l ++ []) (in_here k e epoch (Torn h d call []) false there)
          ∙ ap (λ (b : Bool). done_in k (epoch_of e) (cond b (served.BreaksIn (epoch_of epoch) h call) (served.Stops h) ∷ [])) (sym there)
    ]
  where
    ends : (b : Bool) → cond b (Torn h k call [] ∷ []) [] ++ [] ≡ cond b (Torn h k call [] ∷ []) []
    ends true = refl
    ends false = refl

done_at : (c : Shape) (k e : ℕ) (deeds : ℕ → Deeds) (entry : Entry) (entries : List Entry) → on_disk k (part e (lived_at c deeds entry entries)) ≡ done_in k (epoch_of e) (deeds_at k entry entries)
done_at c k e deeds (Does h (Calls d made)) entries = either (showing_next h entries)
  where
    either : (next : Option Showing) → on_disk k (part e (shows_row h d next)) ≡ done_in k (epoch_of e) (cond (d == k) (row_deed h made next ∷ []) [])
    either None = beside_there k e h d made
    either (Some s) = called_there k e h s.epoch d made s.call s.heard
done_at c k e deeds (Does h (CallsIn epoch d made call heard)) entries = either (is_row call heard)
  where
    either : (b : Bool) → on_disk k (part e (cond b [] (In epoch (Called h d call heard []) ∷ []))) ≡ done_in k (epoch_of e) (cond (d == k) (core_deed epoch h made call heard b ∷ []) [])
    either true = beside_there k e h d made
    either false = called_there k e h epoch d made call heard
done_at c k e deeds (Does h (Starts epoch)) entries = nowhere k e epoch (Start h) refl
done_at c k e deeds (Does h (Begins epoch task)) entries = nowhere k e epoch (Begin h task) refl
done_at c k e deeds (Does h (Stops epoch)) entries = nowhere k e epoch (Stop h) refl
done_at c k e deeds (Breaks h d call) entries = stops_nowhere k e h (has_stopped c h (deeds h)) (below (deeds h)) ∙ either (d == k)
  where
    either : (b : Bool) → [] ≡ done_in k (epoch_of e) (cond b (served.Breaks h call) (served.Stops h) ∷ [])
    either true = refl
    either false = refl
done_at c k e deeds (BreaksIn epoch h d call) entries = torn_there c k e h epoch d call (λ x. epoch == x || has_stopped c h (deeds h) x) (below (deeds h))
done_at c k e deeds (Ends h) entries = stops_nowhere k e h (has_stopped c h (deeds h)) (below (deeds h))
done_at c k e deeds (Crashes d) entries =
    elim (cases_Bool (d == k)) [
      | inl here ↦
          ap (λ (b : Bool). cond b (Crashed d [] ∷ []) []) here ∙ ap (λ (x : ℕ). Crashed x [] ∷ []) (eqb-true d k here) ∙ ap (λ (b : Bool). done_in k (epoch_of e) (cond b (served.Crash ∷ []) [])) (sym here)
      | inr there ↦ ap (λ (b : Bool). cond b (Crashed d [] ∷ []) []) there ∙ ap (λ (b : Bool). done_in k (epoch_of e) (cond b (served.Crash ∷ []) [])) (sym there)
    ]
done_at c k e deeds (Loses d) entries =
    elim (cases_Bool (d == k)) [
      | inl here ↦
          ap (λ (b : Bool). cond b (Lost d ∷ []) []) here ∙ ap (λ (x : ℕ). Lost x ∷ []) (eqb-true d k here) ∙ ap (λ (b : Bool). done_in k (epoch_of e) (cond b (served.Loss ∷ []) [])) (sym here)
      | inr there ↦ ap (λ (b : Bool). cond b (Lost d ∷ []) []) there ∙ ap (λ (b : Bool). done_in k (epoch_of e) (cond b (served.Loss ∷ []) [])) (sym there)
    ]
done_at c k e deeds (Replaces d first newest) entries = either (d == k)
  where
    either : (b : Bool) → [] ≡ done_in k (epoch_of e) (cond b (served.Replacement first ∷ []) [])
    either true = refl
    either false = refl

-- ALL ENTRIES

-- what is lived in an epoch is on each disk what its deeds do there
pub done_on : (c : Shape) (k e : ℕ) (deeds : ℕ → Deeds) (entries : List Entry) → on_disk k (part e (lived_from c deeds entries)) ≡ done_in k (epoch_of e) (deeds_on k entries)
done_on c k e deeds [] = refl
done_on c k e deeds (entry ∷ entries) =
    on_disk_both k e (lived_at c deeds entry entries) (lived_from c (deeds_after deeds entry) entries)
    ∙ ap₂ (λ (one more : List Filled). one ++ more) (done_at c k e deeds entry entries) (done_on c k e (deeds_after deeds entry) entries)
    ∙ sym (done_both k e (deeds_at k entry entries) (deeds_on k entries))
