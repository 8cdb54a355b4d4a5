-- In each epoch no more is lived than hosts and disks did in all.
use Rattle.std.specs.Prelude.{◌||◌}
use Rattle.std.proofs.Common.{ℕ, zero, suc, ◌≡◌, ◌==◌, ◌≤◌, Bool, true, false, true≢false, cond, Option, Some, None, List, [], ◌∷◌, length, refl, sym, ◌∙◌, ap, length-append, arith}
use Rattle.std.proofs.lemmas.Bool.{eqb-true}
use Rattle.paxos_block.specs.Shape.{Shape}
use Rattle.world.specs.Entry.{Filled, Start, Stop, Begin, Called, Torn}
use Rattle.endless.specs.Lived.{In, part}
use Rattle.epoch_deeds.specs.Deeds.{Deeds, Calls, CallsIn, Starts, Begins, Stops}
use Rattle.epoch_runs.specs.World.{Entry, Does, Breaks, BreaksIn, Ends, Crashes, Loses, Replaces, deeds_after}
use Rattle.epoch_runs.specs.Living.{is_row, Showing, showing_next, shows_row, below, stops_below, has_stopped, lived_at, lived_from}
use Rattle.epoch_runs.proofs.Lists.{part_both}

module _ (e h : ℕ) (stopped : ℕ → Bool) where
  -- of those that stop below an epoch none is in it
  none_above : (n : ℕ) → n ≤ e → length (part e (stops_below h stopped n)) ≤ 0
  none_above zero low = omega arith
  none_above (suc n) low = either (stopped n) (none_above n (omega (arith, low)))
    where
      other : (b : Bool) → (n == e) ≡ b → length (part e (stops_below h stopped n)) ≤ 0 → length (cond b (Stop h ∷ part e (stops_below h stopped n)) (part e (stops_below h stopped n))) ≤ 0
      other true same rest = absurd (let is = eqb-true n e same in omega (arith, is, low))
      other false off rest = rest

      either : (b : Bool) → length (part e (stops_below h stopped n)) ≤ 0 → length (part e (cond b (stops_below h stopped n) (In n (Stop h) ∷ stops_below h stopped n))) ≤ 0
      either true rest = rest
      either false rest = other (n == e) refl rest

  -- nor where it has stopped there
  none_stopped : stopped e ≡ true → (n : ℕ) → length (part e (stops_below h stopped n)) ≤ 0
  none_stopped was zero = omega arith
  none_stopped was (suc n) = either (stopped n) refl (none_stopped was n)
    where
      other : (b : Bool) → (n == e) ≡ b → stopped n ≡ false → length (part e (stops_below h stopped n)) ≤ 0 → length (cond b (Stop h ∷ part e (stops_below h stopped n)) (part e (stops_below h stopped n))) ≤ 0
      other true same runs rest = absurd (true≢false (sym was ∙ ap stopped (sym (eqb-true n e same)) ∙ runs))
      other false off runs rest = rest

      either : (b : Bool) → stopped n ≡ b → length (part e (stops_below h stopped n)) ≤ 0 → length (part e (cond b (stops_below h stopped n) (In n (Stop h) ∷ stops_below h stopped n))) ≤ 0
      either true is rest = rest
      either false is rest = other (n == e) refl is rest

  -- and one at most else
  one_stop : (n : ℕ) → length (part e (stops_below h stopped n)) ≤ 1
  one_stop zero = omega arith
  one_stop (suc n) = either (stopped n) (one_stop n)
    where
      other : (b : Bool) → (n == e) ≡ b → length (part e (stops_below h stopped n)) ≤ 1 → length (cond b (Stop h ∷ part e (stops_below h stopped n)) (part e (stops_below h stopped n))) ≤ 1
      other true same rest = let is = eqb-true n e same in let none = none_above n (omega (arith, is)) in omega (arith, none)
      other false off rest = rest

      either : (b : Bool) → length (part e (stops_below h stopped n)) ≤ 1 → length (part e (cond b (stops_below h stopped n) (In n (Stop h) ∷ stops_below h stopped n))) ≤ 1
      either true rest = rest
      either false rest = other (n == e) refl rest

module _ (c : Shape) (e : ℕ) where
  -- one entry in an epoch
  in_one : (epoch : ℕ) (entry : Filled) → length (part e (In epoch entry ∷ [])) ≤ 1
  in_one epoch entry = either (epoch == e)
    where
      either : (b : Bool) → length (cond b (entry ∷ []) []) ≤ 1
      either true = omega arith
      either false = omega arith

  one_each : (deeds : ℕ → Deeds) (entry : Entry) (entries : List Entry) → length (part e (lived_at c deeds entry entries)) ≤ 1
  one_each deeds (Does h (Calls k made)) entries = either (showing_next h entries)
    where
      either : (next : Option Showing) → length (part e (shows_row h k next)) ≤ 1
      either None = omega arith
      either (Some s) = in_one s.epoch (Called h k s.call s.heard [])
  one_each deeds (Does h (CallsIn epoch k made call heard)) entries = either (is_row call heard)
    where
      either : (b : Bool) → length (part e (cond b [] (In epoch (Called h k call heard []) ∷ []))) ≤ 1
      either true = omega arith
      either false = in_one epoch (Called h k call heard [])
  one_each deeds (Does h (Starts epoch)) entries = in_one epoch (Start h)
  one_each deeds (Does h (Begins epoch task)) entries = in_one epoch (Begin h task)
  one_each deeds (Does h (Stops epoch)) entries = in_one epoch (Stop h)
  one_each deeds (Breaks h k call) entries = one_stop e h (has_stopped c h (deeds h)) (below (deeds h))
  one_each deeds (BreaksIn epoch h k call) entries = either (epoch == e) refl
    where
      stopped : ℕ → Bool
      stopped d = epoch == d || has_stopped c h (deeds h) d

      rest : List Filled
      rest = part e (stops_below h stopped (below (deeds h)))

      either : (b : Bool) → (epoch == e) ≡ b → length (cond b (Torn h k call [] ∷ rest) rest) ≤ 1
      either true same = let none = none_stopped e h stopped (ap (λ (b : Bool). b || has_stopped c h (deeds h) e) same) (below (deeds h)) in omega (arith, none)
      either false off = one_stop e h stopped (below (deeds h))
  one_each deeds (Ends h) entries = one_stop e h (has_stopped c h (deeds h)) (below (deeds h))
  one_each deeds (Crashes k) entries = omega arith
  one_each deeds (Loses k) entries = omega arith
  one_each deeds (Replaces k first newest) entries = omega arith

  -- so it is in all
  pub few_lived : (deeds : ℕ → Deeds) (entries : List Entry) → length (part e (lived_from c deeds entries)) ≤ length entries
  few_lived deeds [] = omega arith
  few_lived deeds (entry ∷ entries) =
      let one = one_each deeds entry entries in
      let rest = few_lived (deeds_after deeds entry) entries in
      let both = ap (λ (l : List Filled). length l) (part_both e (lived_at c deeds entry entries) (lived_from c (deeds_after deeds entry) entries)) in
      let sum = length-append (part e (lived_at c deeds entry entries)) (part e (lived_from c (deeds_after deeds entry) entries)) in
      omega (arith, one, rest, both, sum)
