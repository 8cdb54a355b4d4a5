-- A task that is begun in an epoch was given by a deed of its host.
use Rattle.std.specs.Prelude.{slice_get, ◌||◌}
use Rattle.std.proofs.Common.{ℕ, zero, suc, ◌≡◌, ◌==◌, ◌⊎◌, Bool, true, false, cond, Option, Some, None, List, [], ◌∷◌, ◌++◌, refl, sym, ◌∙◌, ap, ap₂, inl, inr}
use Rattle.std.proofs.lemmas.Bool.{eqb-true}
use Rattle.paxos_block.specs.Shape.{Shape}
use Rattle.host.specs.declared.task.Task.{Task}
use Rattle.world.specs.Entry.{Filled, Start, Stop, Begin, Called, Torn, Crashed, Lost, Migrated}
use Rattle.endless.specs.Lived.{Lived, In, part}
use Rattle.epoch_deeds.specs.Deeds.{Deeds, Calls, CallsIn, Starts, Begins, Stops}
use Rattle.epoch_runs.specs.World.{Entry, Does, Breaks, BreaksIn, Ends, Crashes, Loses, Replaces, deeds_after}
use Rattle.epoch_runs.specs.Living.{is_row, Showing, showing_next, shows_row, below, stops_below, has_stopped, lived_at, lived_from}
use Rattle.epoch_runs.proofs.Lists.{part_both}

-- NO TASKS

-- nothing of it begins a task
HasNone : List Filled → Type 0
HasNone es = (p h : ℕ) (task : Task) → slice_get es p ≡ Some (Begin h task) → ⊥

abbrev IsOther : Filled → Type 0
IsOther (Begin h task) = ⊥
IsOther other = Unit {0}

none_of_none : HasNone []
unfolding HasNone
none_of_none p h task is = absurd (cc)

not_begun : (x : Filled) → IsOther x → (h : ℕ) (task : Task) → Some x ≡ Some (Begin h task) → ⊥
not_begun (Begin g given) other h task is = other
not_begun (Start g) other h task is = absurd (cc)
not_begun (Stop g) other h task is = absurd (cc)
not_begun (Called g k call answer left) other h task is = absurd (cc)
not_begun (Torn g k call left) other h task is = absurd (cc)
not_begun (Crashed k left) other h task is = absurd (cc)
not_begun (Lost k) other h task is = absurd (cc)
not_begun (Migrated disks log) other h task is = absurd (cc)

none_more : (x : Filled) (es : List Filled) → IsOther x → HasNone es → HasNone (x ∷ es)
unfolding HasNone
none_more x es other none zero h task is = not_begun x other h task is
none_more x es other none (suc p) h task is = none p h task is

none_in : (e epoch : ℕ) (entry : Filled) (rest : List Lived) → IsOther entry → HasNone (part e rest) → HasNone (part e (In epoch entry ∷ rest))
none_in e epoch entry rest other none = either (epoch == e)
  where
    either : (b : Bool) → HasNone (cond b (entry ∷ part e rest) (part e rest))
    either true = none_more entry (part e rest) other none
    either false = none

stops_none : (e h : ℕ) (stopped : ℕ → Bool) (n : ℕ) → HasNone (part e (stops_below h stopped n))
stops_none e h stopped zero = none_of_none
stops_none e h stopped (suc n) = either (stopped n) (stops_none e h stopped n)
  where
    either : (b : Bool) → HasNone (part e (stops_below h stopped n)) → HasNone (part e (cond b (stops_below h stopped n) (In n (Stop h) ∷ stops_below h stopped n)))
    either true rest = rest
    either false rest = none_in e n (Stop h) (stops_below h stopped n) tt rest

-- ONE ENTRY

module _ (c : Shape) (e h : ℕ) (task : Task) where
  given_here : (deeds : ℕ → Deeds) (entries : List Entry) (p : ℕ) (entry : Entry) → slice_get (part e (lived_at c deeds entry entries)) p ≡ Some (Begin h task) → entry ≡ Does h (Begins e task)
  unfolding HasNone
  given_here deeds entries p (Does g (Begins epoch given)) found = either (epoch == e) refl p found
    where
      either : (b : Bool) → (epoch == e) ≡ b → (q : ℕ) → slice_get (cond b (Begin g given ∷ []) []) q ≡ Some (Begin h task) → Does g (Begins epoch given) ≡ Does h (Begins e task)
      either true is zero there =
          let host : g ≡ h = cc in
          let same : given ≡ task = cc in
          ap₂ (λ (n : ℕ) (t : Task). Does n (Begins epoch t)) host same ∙ ap (λ (n : ℕ). Does h (Begins n task)) (eqb-true epoch e is)
      either true is (suc q) there = absurd (cc)
      either false is q there = absurd (cc)
  given_here deeds entries p (Does g (Calls k made)) found = absurd (either (showing_next g entries) p h task found)
    where
      either : (next : Option Showing) → HasNone (part e (shows_row g k next))
      either None = none_of_none
      either (Some s) = none_in e s.epoch (Called g k s.call s.heard []) [] tt none_of_none
  given_here deeds entries p (Does g (CallsIn epoch k made call heard)) found = absurd (either (is_row call heard) p h task found)
    where
      either : (b : Bool) → HasNone (part e (cond b [] (In epoch (Called g k call heard []) ∷ [])))
      either true = none_of_none
      either false = none_in e epoch (Called g k call heard []) [] tt none_of_none
  given_here deeds entries p (Does g (Starts epoch)) found = absurd (none_in e epoch (Start g) [] tt none_of_none p h task found)
  given_here deeds entries p (Does g (Stops epoch)) found = absurd (none_in e epoch (Stop g) [] tt none_of_none p h task found)
  given_here deeds entries p (Breaks g k call) found = absurd (stops_none e g (has_stopped c g (deeds g)) (below (deeds g)) p h task found)
  given_here deeds entries p (BreaksIn epoch g k call) found =
      absurd (none_in e epoch (Torn g k call []) (stops_below g (λ d. epoch == d || has_stopped c g (deeds g) d) (below (deeds g))) tt
      (stops_none e g (λ d. epoch == d || has_stopped c g (deeds g) d) (below (deeds g))) p h task found)
  given_here deeds entries p (Ends g) found = absurd (stops_none e g (has_stopped c g (deeds g)) (below (deeds g)) p h task found)
  given_here deeds entries p (Crashes k) found = absurd (none_more (Crashed k []) [] tt none_of_none p h task found)
  given_here deeds entries p (Loses k) found = absurd (none_more (Lost k) [] tt none_of_none p h task found)
  given_here deeds entries p (Replaces k first newest) found = absurd (none_of_none p h task found)

  -- ALL ENTRIES

  in_either : (one more : List Filled) (p : ℕ) (x : Filled) → slice_get (one ++ more) p ≡ Some x → (slice_get one p ≡ Some x) ⊎ ((q : ℕ) × (slice_get more q ≡ Some x))
  in_either [] more p x found = inr (p, found)
  in_either (y ∷ one) more zero x found = inl found
  in_either (y ∷ one) more (suc p) x found = in_either one more p x found

  pub given_by : (deeds : ℕ → Deeds) (entries : List Entry) (p : ℕ) → slice_get (part e (lived_from c deeds entries)) p ≡ Some (Begin h task) → (i : ℕ) × (slice_get entries i ≡ Some (Does h (Begins e task)))
  given_by deeds [] p found = absurd (cc)
  given_by deeds (entry ∷ entries) p found =
      elim (in_either (part e (lived_at c deeds entry entries)) (part e (lived_from c (deeds_after deeds entry) entries)) p (Begin h task)
      (sym (ap (λ (l : List Filled). slice_get l p) (part_both e (lived_at c deeds entry entries) (lived_from c (deeds_after deeds entry) entries))) ∙ found)) [
        | inl here ↦ (0, ap (λ (x : Entry). Some x) (given_here deeds entries p entry here))
        | inr later ↦ (let rest = given_by (deeds_after deeds entry) entries later.0 later.1 in (suc rest.0, rest.1))
      ]
