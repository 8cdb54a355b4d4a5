-- Each call that is lived in an epoch was due in its host's core there, by what the host had done.
use Rattle.std.specs.Prelude.{take, slice_get, ◌-◌, ◌||◌}
use Rattle.std.proofs.Common.{ℕ, zero, suc, ◌≡◌, ◌==◌, ◌+◌, ◌<◌, Bool, true, false, cond, Option, Some, None, List, [], ◌∷◌, ◌++◌, length, refl, sym, ◌∙◌, ap, subst, inl, inr, arith}
use Rattle.std.proofs.lemmas.Bool.{cases_lt, eqb-true, eq-eqb}
use Rattle.std.proofs.lemmas.List.Elements.{filter-append}
use Rattle.disk.specs.Disk.{Call, Answer}
use Rattle.paxos_block.specs.Shape.{Shape}
use Rattle.standings.specs.Past.{Made}
use Rattle.host.specs.Host.{Host, Stopped}
use Rattle.world.specs.Entry.{Filled, Start, Stop, Begin, Called, Torn, Crashed, Lost, Migrated, is_of, of_host, host_after}
use Rattle.world.specs.Chosen.{at}
use Rattle.endless.specs.Epochs.{IsCallAt}
use Rattle.endless.specs.Lived.{Lived, In, part}
use Rattle.epoch_deeds.specs.Deeds.{Deeds, Calls, CallsIn, Starts, Begins, Stops, core_in}
use Rattle.epoch_deeds.specs.Knowing.{HasDue}
use Rattle.epoch_runs.specs.World.{Entry, Does, Breaks, BreaksIn, Ends, Crashes, Loses, Replaces, World, opening, no_deeds, deeds_after, after, Crashing, GoesFrom, Goes}
use Rattle.epoch_runs.specs.Living.{is_row, Showing, showing_by, showing_next, shows_row, below, stops_below, has_stopped, others_stop, lived_at, lived_from, lived_of, deeds_from, shown_to, core_now}
use Rattle.epoch_runs.proofs.Hosts.{step, first_now}
use Rattle.epoch_runs.proofs.Lists.{part_both, after_both, core_more, deeds_here}
use Rattle.epoch_runs.proofs.Pending.{pending}

-- NO CALLS

-- nothing of it is a call
HasNone : List Filled → Type 0
HasNone es = (i h d : ℕ) (call : Call) (answer : Answer) (left : List ℕ) → slice_get es i ≡ Some (Called h d call answer left) → ⊥

abbrev IsOther : Filled → Type 0
IsOther (Called h d call answer left) = ⊥
IsOther other = Unit {0}

none_of_none : HasNone []
unfolding HasNone
none_of_none i h d call answer left is = absurd (cc)

not_call : (x : Filled) → IsOther x → (h d : ℕ) (call : Call) (answer : Answer) (left : List ℕ) → Some x ≡ Some (Called h d call answer left) → ⊥
not_call (Called g k c a l) other h d call answer left is = other
not_call (Start g) other h d call answer left is = absurd (cc)
not_call (Stop g) other h d call answer left is = absurd (cc)
not_call (Begin g task) other h d call answer left is = absurd (cc)
not_call (Torn g k c l) other h d call answer left is = absurd (cc)
not_call (Crashed k l) other h d call answer left is = absurd (cc)
not_call (Lost k) other h d call answer left is = absurd (cc)
not_call (Migrated disks log) other h d call answer left is = absurd (cc)

none_more : (x : Filled) (es : List Filled) → IsOther x → HasNone es → HasNone (x ∷ es)
unfolding HasNone
none_more x es other none zero h d call answer left is = not_call x other h d call answer left is
none_more x es other none (suc i) h d call answer left is = none i h d call answer left is

none_in : (e epoch : ℕ) (entry : Filled) (rest : List Lived) → IsOther entry → HasNone (part e rest) → HasNone (part e (In epoch entry ∷ rest))
none_in e epoch entry rest other none = either (epoch == e)
  where
    either : (b : Bool) → HasNone (cond b (entry ∷ part e rest) (part e rest))
    either true = none_more entry (part e rest) other none
    either false = none

stops_none : (e h : ℕ) (stopped : ℕ → Bool) (n : ℕ) → HasNone (part e (stops_below h stopped n))
stops_none e h stopped zero = none_of_none
stops_none e h stopped (suc n) = either (stopped n) (stops_none e h stopped n)
  where
    either : (b : Bool) → HasNone (part e (stops_below h stopped n)) → HasNone (part e (cond b (stops_below h stopped n) (In n (Stop h) ∷ stops_below h stopped n)))
    either true rest = rest
    either false rest = none_in e n (Stop h) (stops_below h stopped n) tt rest

-- LISTS

get_before : {A : Type 0} (one more : List A) (i : ℕ) → i < length one → slice_get (one ++ more) i ≡ slice_get one i
get_before [] more i within = absurd (omega (arith, within))
get_before (x ∷ one) more zero within = refl
get_before (x ∷ one) more (suc i) within = get_before one more i (omega (arith, within))

get_behind : {A : Type 0} (one more : List A) (i : ℕ) → slice_get (one ++ more) (length one + i) ≡ slice_get more i
get_behind [] more i = ap (slice_get more) (let same : 0 + i ≡ i = omega arith in same)
get_behind (x ∷ one) more i = ap (slice_get (x ∷ one ++ more)) (let same : length (x ∷ one) + i ≡ suc (length one + i) = omega arith in same) ∙ get_behind one more i

take_before : {A : Type 0} (one more : List A) (i : ℕ) → i < length one → take i (one ++ more) ≡ take i one
take_before [] more i within = absurd (omega (arith, within))
take_before (x ∷ one) more zero within = refl
take_before {A = A} (x ∷ one) more (suc i) within = ap (λ (l : List A). x ∷ l) (take_before one more i (omega (arith, within)))

take_behind : {A : Type 0} (one more : List A) (i : ℕ) → take (length one + i) (one ++ more) ≡ one ++ take i more
take_behind [] more i = ap (λ (n : ℕ). take n more) (let same : 0 + i ≡ i = omega arith in same)
take_behind {A = A} (x ∷ one) more i =
    ap (λ (n : ℕ). take n (x ∷ one ++ more)) (let same : length (x ∷ one) + i ≡ suc (length one + i) = omega arith in same) ∙ ap (λ (l : List A). x ∷ l) (take_behind one more i)

-- DUE

module _ (crashing : Crashing) (c : Shape) (e h : ℕ) where
  -- a call was due by what the host had done before some entry, and its core was what that made of it
  record WasDue (deeds : ℕ → Deeds) (entries : List Entry) (host : Host) : Type 0 where
    entry : ℕ
    disk : ℕ
    call : Call
    due : HasDue c h e (deeds_from deeds entry entries h) disk call
    same : host ≡ core_in c h e (deeds_from deeds entry entries h)

  -- by the first entry
  abbrev IsFirstDue : World → Entry → List Entry → Type 0
  IsFirstDue w entry entries =
      (i d : ℕ) (call : Call) (answer : Answer) (left : List ℕ) → slice_get (part e (lived_at c w.deeds entry entries)) i ≡ Some (Called h d call answer left) →
      WasDue w.deeds (entry ∷ entries) (host_after c h (core_now c h e w.deeds (entry ∷ entries)) (of_host h (take i (part e (lived_at c w.deeds entry entries)))))

  none_due : (w : World) (entry : Entry) (entries : List Entry) → HasNone (part e (lived_at c w.deeds entry entries)) → IsFirstDue w entry entries
  unfolding HasNone
  none_due w entry entries none i d call answer left is = absurd (none i h d call answer left is)

  -- where all of it is one call
  one_call : (w : World) (entry : Entry) (entries : List Entry) (epoch g k : ℕ) (call : Call) (heard : Answer) → lived_at c w.deeds entry entries ≡ In epoch (Called g k call heard []) ∷ [] →
      ((g ≡ h) → (epoch ≡ e) → WasDue w.deeds (entry ∷ entries) (core_now c h e w.deeds (entry ∷ entries))) → IsFirstDue w entry entries
  one_call w entry entries epoch g k call heard one due i d other answer left is =
      subst (λ (l : List Lived). slice_get (part e l) i ≡ Some (Called h d other answer left) → WasDue w.deeds (entry ∷ entries) (host_after c h (core_now c h e w.deeds (entry ∷ entries)) (of_host h (take i (part e l))))) (sym one)
      (either (epoch == e) refl i) is
    where
      found : (j : ℕ) → epoch ≡ e → slice_get (Called g k call heard [] ∷ []) j ≡ Some (Called h d other answer left) →
          WasDue w.deeds (entry ∷ entries) (host_after c h (core_now c h e w.deeds (entry ∷ entries)) (of_host h (take j (Called g k call heard [] ∷ []))))
      found zero here at = let same : g ≡ h = cc in due same here
      found (suc j) here at = absurd (cc)

      either : (b : Bool) → (epoch == e) ≡ b → (j : ℕ) → slice_get (cond b (Called g k call heard [] ∷ []) []) j ≡ Some (Called h d other answer left) →
          WasDue w.deeds (entry ∷ entries) (host_after c h (core_now c h e w.deeds (entry ∷ entries)) (of_host h (take j (cond b (Called g k call heard [] ∷ []) []))))
      either true here j at = found j (eqb-true epoch e here) at
      either false there j at = absurd (cc)

  -- of a row that is shown, and of another call of a core
  row_due : (w : World) (entries : List Entry) (g k : ℕ) (made : Made) (s : Showing) → GoesFrom crashing c w (Does g (Calls k made) ∷ entries) → showing_next g entries ≡ Some s → g ≡ h → s.epoch ≡ e →
      WasDue w.deeds (Does g (Calls k made) ∷ entries) (core_now c h e w.deeds (Does g (Calls k made) ∷ entries))
  row_due w entries g k made s goes shown own here =
      let it = pending crashing c h entries (after w (Does g (Calls k made)) goes.0) s goes.2 (subst (λ (x : ℕ). showing_next x entries ≡ Some s) own shown) in
      let is : deeds_after w.deeds (Does g (Calls k made)) h ≡ w.deeds h ++ Calls k made ∷ [] =
      subst (λ (x : ℕ). deeds_after w.deeds (Does x (Calls k made)) h ≡ w.deeds h ++ Calls k made ∷ []) (sym own) (deeds_here w.deeds h (w.deeds h ++ Calls k made ∷ [])) in
      record {
        entry = 1;
        disk = s.disk;
        call = s.call;
        due = subst (λ (x : ℕ). HasDue c h x (deeds_after w.deeds (Does g (Calls k made)) h) s.disk s.call) here it.due;
        same =
            ap (λ (b : Bool). shown_to c h e (core_in c h e (w.deeds h)) (cond b None (showing_next h entries))) (eq-eqb g h own)
            ∙ sym (ap (core_in c h e) is ∙ core_more c h e Stopped (w.deeds h) (Calls k made));
      }

  call_due : (w : World) (entries : List Entry) (g epoch k : ℕ) (made : Made) (call : Call) (heard : Answer) → is_row call heard ≡ false → HasDue c g epoch (w.deeds g) k call → g ≡ h → epoch ≡ e →
      WasDue w.deeds (Does g (CallsIn epoch k made call heard) ∷ entries) (core_now c h e w.deeds (Does g (CallsIn epoch k made call heard) ∷ entries))
  call_due w entries g epoch k made call heard none due own here =
      record {
        entry = 0;
        disk = k;
        call = call;
        due = subst (λ (x : ℕ). HasDue c h x (w.deeds h) k call) here (subst (λ (x : ℕ). HasDue c x epoch (w.deeds x) k call) own due);
        same =
            ap (λ (b : Bool). shown_to c h e (core_in c h e (w.deeds h)) (cond b (showing_by (CallsIn epoch k made call heard)) (showing_next h entries))) (eq-eqb g h own)
            ∙ ap (λ (b : Bool). shown_to c h e (core_in c h e (w.deeds h)) (cond b (Some (record { epoch = epoch; disk = k; made = made; call = call; heard = heard })) None)) none;
      }

  due_first : (w : World) (entry : Entry) (entries : List Entry) → GoesFrom crashing c w (entry ∷ entries) → IsFirstDue w entry entries
  due_first w (Does g (Calls k made)) entries goes = either (showing_next g entries) refl
    where
      either : (next : Option Showing) → showing_next g entries ≡ next → IsFirstDue w (Does g (Calls k made)) entries
      either None none = none_due w (Does g (Calls k made)) entries (subst (λ (s : Option Showing). HasNone (part e (shows_row g k s))) (sym none) none_of_none)
      either (Some s) shown = one_call w (Does g (Calls k made)) entries s.epoch g k s.call s.heard (ap (shows_row g k) shown) (row_due w entries g k made s goes shown)
  due_first w (Does g (CallsIn epoch k made call heard)) entries goes = either (is_row call heard) refl
    where
      either : (b : Bool) → is_row call heard ≡ b → IsFirstDue w (Does g (CallsIn epoch k made call heard)) entries
      either true row =
          none_due w (Does g (CallsIn epoch k made call heard)) entries (subst (λ (b : Bool). HasNone (part e (cond b [] (In epoch (Called g k call heard []) ∷ [])))) (sym row) none_of_none)
      either false none =
          one_call w (Does g (CallsIn epoch k made call heard)) entries epoch g k call heard (ap (λ (b : Bool). cond b [] (In epoch (Called g k call heard []) ∷ [])) none)
          (call_due w entries g epoch k made call heard none goes.1.1.0)
  due_first w (Does g (Starts epoch)) entries goes = none_due w (Does g (Starts epoch)) entries (none_in e epoch (Start g) [] tt none_of_none)
  due_first w (Does g (Begins epoch task)) entries goes = none_due w (Does g (Begins epoch task)) entries (none_in e epoch (Begin g task) [] tt none_of_none)
  due_first w (Does g (Stops epoch)) entries goes = none_due w (Does g (Stops epoch)) entries (none_in e epoch (Stop g) [] tt none_of_none)
  due_first w (Breaks g k call) entries goes = none_due w (Breaks g k call) entries (stops_none e g (has_stopped c g (w.deeds g)) (below (w.deeds g)))
  due_first w (BreaksIn epoch g k call) entries goes =
      none_due w (BreaksIn epoch g k call) entries
      (none_in e epoch (Torn g k call []) (others_stop c g epoch (w.deeds g)) tt (stops_none e g (λ x. epoch == x || has_stopped c g (w.deeds g) x) (below (w.deeds g))))
  due_first w (Ends g) entries goes = none_due w (Ends g) entries (stops_none e g (has_stopped c g (w.deeds g)) (below (w.deeds g)))
  due_first w (Crashes k) entries goes = none_due w (Crashes k) entries (none_more (Crashed k []) [] tt none_of_none)
  due_first w (Loses k) entries goes = none_due w (Loses k) entries (none_more (Lost k) [] tt none_of_none)
  due_first w (Replaces k first newest) entries goes = none_due w (Replaces k first newest) entries none_of_none

  -- the next entries were due later
  later_due : (w : World) (entry : Entry) (entries : List Entry) (host other : Host) → other ≡ host → WasDue (deeds_after w.deeds entry) entries host → WasDue w.deeds (entry ∷ entries) other
  later_due w entry entries host other is due = record { entry = suc due.entry; disk = due.disk; call = due.call; due = due.due; same = is ∙ due.same }

  due_from : (entries : List Entry) (w : World) (i d : ℕ) (call : Call) (answer : Answer) (left : List ℕ) → GoesFrom crashing c w entries → slice_get (part e (lived_from c w.deeds entries)) i ≡ Some (Called h d call answer left) →
      WasDue w.deeds entries (host_after c h (core_now c h e w.deeds entries) (of_host h (take i (part e (lived_from c w.deeds entries)))))
  due_from [] w i d call answer left goes is = absurd (cc)
  due_from (entry ∷ entries) w i d call answer left goes is =
      elim (cases_lt i (length one)) [
        | inl within ↦
            subst (WasDue w.deeds (entry ∷ entries)) (ap (λ (l : List Filled). host_after c h old (of_host h l)) (sym (ap (take i) both ∙ take_before one more i within)))
            (due_first w entry entries goes i d call answer left (sym (get_before one more i within) ∙ sym (ap (λ (l : List Filled). slice_get l i) both) ∙ is))
        | inr past ↦
            let j = i - length one in
            let at_j : length one + j ≡ i = omega (arith, past) in
            later_due w entry entries (host_after c h (core_now c h e (deeds_after w.deeds entry) entries) (of_host h (take j more))) (host_after c h old (of_host h (take i (part e (lived_from c w.deeds (entry ∷ entries)))))) (host_is j at_j)
            (due_from entries (after w entry goes.0) j d call answer left goes.2
            (sym (get_behind one more j) ∙ ap (slice_get (one ++ more)) at_j ∙ sym (ap (λ (l : List Filled). slice_get l i) both) ∙ is))
      ]
    where
      one : List Filled
      one = part e (lived_at c w.deeds entry entries)

      more : List Filled
      more = part e (lived_from c (deeds_after w.deeds entry) entries)

      old : Host
      old = core_now c h e w.deeds (entry ∷ entries)

      both : part e (lived_from c w.deeds (entry ∷ entries)) ≡ one ++ more
      both = part_both e (lived_at c w.deeds entry entries) (lived_from c (deeds_after w.deeds entry) entries)

      host_is : (j : ℕ) → length one + j ≡ i →
          host_after c h old (of_host h (take i (part e (lived_from c w.deeds (entry ∷ entries))))) ≡ host_after c h (core_now c h e (deeds_after w.deeds entry) entries) (of_host h (take j more))
      host_is j at_j =
          ap (λ (l : List Filled). host_after c h old (of_host h l)) (ap (take i) both ∙ ap (λ (n : ℕ). take n (one ++ more)) (sym at_j) ∙ take_behind one more j)
          ∙ ap (host_after c h old) (filter-append (is_of h) one (take j more))
          ∙ after_both c h old (of_host h one) (of_host h (take j more))
          ∙ ap (λ (host : Host). host_after c h host (of_host h (take j more))) (step crashing c w entries e entry goes.0 h goes.1 goes.2).1

-- so each call that is lived was due
pub record IsDueBy (c : Shape) (entries : List Entry) (e i h : ℕ) : Type 0 where
  pub entry : ℕ
  pub disk : ℕ
  pub call : Call
  pub due : HasDue c h e (deeds_from no_deeds entry entries h) disk call
  pub same : (at c (part e (lived_of c entries)) i).host h ≡ core_in c h e (deeds_from no_deeds entry entries h)

pub calls_are_due : (crashing : Crashing) (c : Shape) (entries : List Entry) → Goes crashing c entries → (e i h : ℕ) → IsCallAt (part e (lived_of c entries)) i h → IsDueBy c entries e i h
calls_are_due crashing c entries goes e i h (d, call, answer, left, is) =
    let due = due_from crashing c e h entries (opening c) i d call answer left goes is in
    record {
      entry = due.entry;
      disk = due.disk;
      call = due.call;
      due = due.due;
      same = ap (λ (host : Host). host_after c h host (of_host h (take i (part e (lived_of c entries))))) (sym (first_now crashing c h e entries (opening c) goes refl)) ∙ due.same;
    }
