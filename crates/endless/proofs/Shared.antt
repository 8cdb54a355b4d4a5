-- Over shared disks each epoch is a run, but for the bytes that faults left: these are put in their place in all that is done.
use Rattle.std.specs.Prelude.{map, slice_get}
use Rattle.std.proofs.Common.{ℕ, zero, suc, ◌≡◌, ◌==◌, Bool, true, false, cond, List, [], ◌∷◌, length, refl, sym, ◌∙◌, ap, ap₂, subst}
use Rattle.std.proofs.lemmas.Bool.{eqb-true}
use Rattle.lock_command.specs.declared.command.Command.{Command}
use Rattle.lock_table.specs.Apply.{table_after}
use Rattle.lock_table.specs.Picture.{IsPictureOf}
use Rattle.paxos_block.specs.Shape.{Shape}
use Rattle.host.specs.Host.{Memory, Stopped}
use Rattle.world.specs.Entry.{Filled, Start, Stop, Begin, Called, Torn, Crashed, Lost, Migrated}
use Rattle.world.specs.World.{IsRun}
use Rattle.world.specs.Chosen.{at, migrated}
use Rattle.at_once.specs.AtOnce.{AreDeeds, bare, IsRunOf}
use Rattle.at_once.specs.Power.{entry_later, losses_with, renumbered_from, renumbered}
use Rattle.epochs.specs.Acts.{Act}
use Rattle.epochs.specs.OneLog.{IsSharedOverLosses}
use Rattle.epochs.proofs.OneLog.{epochs_are_runs, epochs_are_over_losses}
use Rattle.endless.specs.Epochs.{IsCallAt}
use Rattle.endless.specs.Headline.{learned_in, CarriesInto, IsDue, SubmitsWhatIsDue, KeepsToEpochs}
use Rattle.endless.specs.Lived.{Lived, In, Crash, Loss, part, now, RunsIn, IsWholeBy}
use Rattle.endless.specs.WithoutEnd.{host_by, IsRunWithoutEnd, SharedHaveOneLog, raised_from, raised, IsOverLossesWithoutEnd, SharedOverLossesHaveOneLog}
use Rattle.endless.proofs.Alike.{IsLike, like_same, like_later, knows_later, call_before, deeds_later}
use Rattle.endless.proofs.Headline.{endless_headline}
use Rattle.endless.proofs.WithoutEnd.{none_migrated, same_call}

-- THE ENTRIES OF RUNS IN ONE ORDER

abbrev head_of : List Filled → Filled
head_of [] = Lost 0
head_of (x ∷ run) = x

abbrev rest_of : List Filled → List Filled
rest_of [] = []
rest_of (x ∷ run) = run

abbrev left_in : Filled → List ℕ
left_in (Crashed disk left) = left
left_in other = []

-- the same, with the entries of these runs
abbrev refill : (ℕ → List Filled) → List Lived → List Lived
refill runs [] = []
refill runs (In epoch entry ∷ lived) = In epoch (head_of (runs epoch)) ∷ refill (λ e. cond (epoch == e) (rest_of (runs e)) (runs e)) lived
refill runs (Crash disk left ∷ lived) = Crash disk (λ e. left_in (head_of (runs e))) ∷ refill (λ e. rest_of (runs e)) lived
refill runs (Loss disk ∷ lived) = Loss disk ∷ refill (λ e. rest_of (runs e)) lived

empty_is : (run : List Filled) → map bare run ≡ [] → [] ≡ run
empty_is [] same = refl
empty_is (x ∷ run) same = absurd (cc)

-- an entry that differs from a crash or a loss by the bytes that it left alone
crash_is : (disk : ℕ) (x : Filled) → bare x ≡ Crashed disk [] → Crashed disk (left_in x) ≡ x
crash_is disk (Crashed d left) same = let one : d ≡ disk = cc in ap (λ (n : ℕ). Crashed n left) (sym one)
crash_is disk (Start h) same = absurd (cc)
crash_is disk (Stop h) same = absurd (cc)
crash_is disk (Begin h task) same = absurd (cc)
crash_is disk (Called h d call answer left) same = absurd (cc)
crash_is disk (Torn h d call left) same = absurd (cc)
crash_is disk (Lost d) same = absurd (cc)
crash_is disk (Migrated d log) same = absurd (cc)

loss_is : (disk : ℕ) (x : Filled) → bare x ≡ Lost disk → Lost disk ≡ x
loss_is disk (Lost d) same = sym same
loss_is disk (Crashed d left) same = absurd (cc)
loss_is disk (Start h) same = absurd (cc)
loss_is disk (Stop h) same = absurd (cc)
loss_is disk (Begin h task) same = absurd (cc)
loss_is disk (Called h d call answer left) same = absurd (cc)
loss_is disk (Torn h d call left) same = absurd (cc)
loss_is disk (Migrated d log) same = absurd (cc)

rest_same : (run : List Filled) (x : Filled) (log : List Filled) → map bare run ≡ map bare (x ∷ log) → map bare (rest_of run) ≡ map bare log
rest_same [] x log same = absurd (cc)
rest_same (y ∷ run) x log same = cc

crash_first : (run : List Filled) (disk : ℕ) (left : List ℕ) (log filled : List Filled) → map bare run ≡ map bare (Crashed disk left ∷ log) → filled ≡ rest_of run → Crashed disk (left_in (head_of run)) ∷ filled ≡ run
crash_first [] disk left log filled same is = absurd (cc)
crash_first (x ∷ run) disk left log filled same is = let one : bare x ≡ Crashed disk [] = cc in ap₂ (λ (y : Filled) (ys : List Filled). y ∷ ys) (crash_is disk x one) is

loss_first : (run : List Filled) (disk : ℕ) (log filled : List Filled) → map bare run ≡ map bare (Lost disk ∷ log) → filled ≡ rest_of run → Lost disk ∷ filled ≡ run
loss_first [] disk log filled same is = absurd (cc)
loss_first (x ∷ run) disk log filled same is = let one : bare x ≡ Lost disk = cc in ap₂ (λ (y : Filled) (ys : List Filled). y ∷ ys) (loss_is disk x one) is

entry_first : (run : List Filled) (x : Filled) (log filled : List Filled) → map bare run ≡ map bare (x ∷ log) → filled ≡ rest_of run → head_of run ∷ filled ≡ run
entry_first [] x log filled same is = absurd (cc)
entry_first (y ∷ run) x log filled same is = ap (λ (ys : List Filled). y ∷ ys) is

-- WHICH IT IS

rest_either : (b : Bool) (run : List Filled) (entry : Filled) (log : List Filled) → map bare run ≡ map bare (cond b (entry ∷ log) log) → map bare (cond b (rest_of run) run) ≡ map bare log
rest_either true run entry log same = rest_same run entry log same
rest_either false run entry log same = same

-- an entry of one epoch
entry_either : (epoch e : ℕ) (entry : Filled) (log filled : List Filled) (runs : ℕ → List Filled) (b : Bool) → (epoch == e) ≡ b → map bare (runs e) ≡ map bare (cond b (entry ∷ log) log) → filled ≡ cond b (rest_of (runs e)) (runs e)
    → cond b (head_of (runs epoch) ∷ filled) filled ≡ runs e
entry_either epoch e entry log filled runs true is same behind = ap (λ (n : ℕ). head_of (runs n) ∷ filled) (eqb-true epoch e is) ∙ entry_first (runs e) entry log filled same behind
entry_either epoch e entry log filled runs false is same behind = behind

-- so each epoch is its run
refilled : (lived : List Lived) (runs : ℕ → List Filled) → ((e : ℕ) → map bare (runs e) ≡ map bare (part e lived)) → (e : ℕ) → part e (refill runs lived) ≡ runs e
refilled [] runs same e = empty_is (runs e) (same e)
refilled (Crash disk left ∷ lived) runs same e =
    crash_first (runs e) disk (left e) (part e lived) _ (same e) (refilled lived (λ d. rest_of (runs d)) (λ d. rest_same (runs d) (Crashed disk (left d)) (part d lived) (same d)) e)
refilled (Loss disk ∷ lived) runs same e =
    loss_first (runs e) disk (part e lived) _ (same e) (refilled lived (λ d. rest_of (runs d)) (λ d. rest_same (runs d) (Lost disk) (part d lived) (same d)) e)
refilled (In epoch entry ∷ lived) runs same e =
    let rests = λ (d : ℕ). cond (epoch == d) (rest_of (runs d)) (runs d) in
    let behind : part e (refill rests lived) ≡ cond (epoch == e) (rest_of (runs e)) (runs e) = refilled lived rests (λ d. rest_either (epoch == d) (runs d) entry (part d lived) (same d)) e in
    entry_either epoch e entry (part e lived) (part e (refill rests lived)) runs (epoch == e) refl (same e) behind

places_same : (e i : ℕ) (lived : List Lived) (runs : ℕ → List Filled) → now e i (refill runs lived) ≡ now e i lived
places_same e zero lived runs = refl
places_same e (suc i) [] runs = refl
places_same e (suc i) (Crash disk left ∷ lived) runs = ap suc (places_same e i lived (λ d. rest_of (runs d)))
places_same e (suc i) (Loss disk ∷ lived) runs = ap suc (places_same e i lived (λ d. rest_of (runs d)))
places_same e (suc i) (In epoch entry ∷ lived) runs =
    ap (λ (n : ℕ). cond (epoch == e) (suc n) n) (places_same e i lived (λ d. cond (epoch == d) (rest_of (runs d)) (runs d)))

-- WHAT HOSTS KEEP TO

module _ (c : Shape) (lived filled : List Lived) (places : (e i : ℕ) → now e i filled ≡ now e i lived) (like : (e i h : ℕ) → IsLike ((at c (part e lived) i).host h) ((at c (part e filled) i).host h))
    (calls : (e i h : ℕ) → IsCallAt (part e filled) i h → IsCallAt (part e lived) i h) (keeps : KeepsToEpochs c lived) where
  like_at : (i e h : ℕ) → IsLike ((at c (part e lived) (now e i lived)).host h) ((at c (part e filled) (now e i filled)).host h)
  like_at i e h = subst (λ (n : ℕ). IsLike ((at c (part e lived) (now e i lived)).host h) ((at c (part e filled) n).host h)) (sym (places e i)) (like e (now e i lived) h)

  carries_back : (e : ℕ) (over : List Command) → CarriesInto c filled e over → CarriesInto c lived e over
  carries_back zero over is = is
  carries_back (suc e) over (i, h, shown, whole, pictured, is) =
      let learned : learned_in c filled i e h ≡ learned_in c lived i e h = (like_at i e h).learned in
      (i, h, shown, ap (λ (l : List Command). length l) (sym learned) ∙ whole, subst (λ (l : List Command). IsPictureOf shown (table_after l)) learned pictured, is)

  whole_too : (e i : ℕ) → IsWholeBy c lived e i → IsWholeBy c filled e i
  whole_too e i is =
      let there = (like_at is.place e is.host).runs is.memory is.runs in
      record { place = is.place; by = is.by; host = is.host; memory = there.0; runs = there.1; whole = ap (λ (l : List Command). length l) there.2 ∙ is.whole }

  in_turn_too : (i e h : ℕ) (memory : Memory) → RunsIn c filled i (suc e) h memory → IsWholeBy c filled e i
  in_turn_too i e h memory runs =
      let ran = (like_at i (suc e) h).ran memory runs in
      whole_too e i (keeps.in_turn i e h ran.0 ran.1)

  carries_too : (e : ℕ) (over : List Command) → CarriesInto c filled e over → SubmitsWhatIsDue c (part e filled) over
  carries_too e over into i h memory doing command called running does submits =
      let did = (like e i h).did memory doing running does in
      let due = keeps.carries e over (carries_back e over into) i h did.0 did.1 command (calls e i h called) did.2 did.4 (did.5 ∙ submits) in
      subst (λ (l : List Command). IsDue (slice_get over (length l)) command) did.3 due

  keeps_too : KeepsToEpochs c filled
  keeps_too = record { in_turn = in_turn_too; carries = carries_too; fits = λ e over into. keeps.fits e over (carries_back e over into) }

-- RUNS

-- where each epoch is a run but for the bytes that faults left, all epochs have one log
module _ (c : Shape) (lived : List Lived) (of : (e : ℕ) → IsRunOf c (part e lived)) (deeds : (e : ℕ) → AreDeeds (part e lived)) (keeps : KeepsToEpochs c lived) where
  abbrev filled : List Lived
  filled = refill (λ e. (of e).run) lived

  is_run : (e : ℕ) → part e filled ≡ (of e).run
  is_run e = refilled lived (λ d. (of d).run) (λ d. (of d).same) e

  same : (e : ℕ) → map bare (part e filled) ≡ map bare (part e lived)
  same e = ap (map bare) (is_run e) ∙ (of e).same

  hosts : (e i h : ℕ) → (at c (part e filled) i).host h ≡ host_by c (part e lived) i h
  hosts e i h = ap (λ (l : List Filled). (at c l i).host h) (is_run e) ∙ (of e).hosts i h

  places : (e i : ℕ) → now e i filled ≡ now e i lived
  places e i = places_same e i lived (λ d. (of d).run)

  runs : (e : ℕ) → IsRun c (part e filled)
  runs e = subst (IsRun c) (sym (is_run e)) (of e).is

  fresh : (e : ℕ) → migrated (part e filled) ≡ []
  fresh e = none_migrated (part e filled) (part e lived) (same e) (deeds e)

  pub is_run_without_end : IsRunWithoutEnd c lived
  is_run_without_end =
      record {
        run = filled;
        same = same;
        places = places;
        is = runs;
        hosts = hosts;
        one = endless_headline c filled runs (λ e. fresh (suc e))
            (keeps_too c lived filled places (λ e i h. like_same ((at c (part e lived) i).host h) ((at c (part e filled) i).host h) (hosts e i h)) (λ e. same_call (part e filled) (part e lived) (same e)) keeps);
      }

pub shared_have_one_log : SharedHaveOneLog
shared_have_one_log c size acts lived shared keeps = is_run_without_end c lived (epochs_are_runs c size acts (λ e. part e lived) shared) shared.deeds keeps

-- OVER LOSSES OF POWER

-- an entry of one epoch
later_either : (epoch e : ℕ) (entry : Filled) (log rest : List Filled) (losses : ℕ → ℕ → ℕ) (b : Bool) → (epoch == e) ≡ b → rest ≡ renumbered_from (cond b (losses_with (losses e) entry) (losses e)) log
    → cond b (entry_later (losses epoch) entry ∷ rest) rest ≡ renumbered_from (losses e) (cond b (entry ∷ log) log)
later_either epoch e entry log rest losses true is behind = ap₂ (λ (n : ℕ) (l : List Filled). entry_later (losses n) entry ∷ l) (eqb-true epoch e is) behind
later_either epoch e entry log rest losses false is behind = behind

-- each epoch with later numbers
part_later : (e : ℕ) (losses : ℕ → ℕ → ℕ) (lived : List Lived) → part e (raised_from losses lived) ≡ renumbered_from (losses e) (part e lived)
part_later e losses [] = refl
part_later e losses (Crash disk left ∷ lived) = ap (λ (l : List Filled). Crashed disk (left e) ∷ l) (part_later e (λ d. losses_with (losses d) (Crashed disk (left d))) lived)
part_later e losses (Loss disk ∷ lived) = ap (λ (l : List Filled). Lost disk ∷ l) (part_later e losses lived)
part_later e losses (In epoch entry ∷ lived) =
    let next = λ (d : ℕ). cond (epoch == d) (losses_with (losses d) entry) (losses d) in
    later_either epoch e entry (part e lived) (part e (raised_from next lived)) losses (epoch == e) refl (part_later e next lived)

places_later : (e i : ℕ) (losses : ℕ → ℕ → ℕ) (lived : List Lived) → now e i (raised_from losses lived) ≡ now e i lived
places_later e zero losses lived = refl
places_later e (suc i) losses [] = refl
places_later e (suc i) losses (Crash disk left ∷ lived) = ap suc (places_later e i (λ d. losses_with (losses d) (Crashed disk (left d))) lived)
places_later e (suc i) losses (Loss disk ∷ lived) = ap suc (places_later e i losses lived)
places_later e (suc i) losses (In epoch entry ∷ lived) = ap (λ (n : ℕ). cond (epoch == e) (suc n) n) (places_later e i (λ d. cond (epoch == d) (losses_with (losses d) entry) (losses d)) lived)

module _ (c : Shape) (size : ℕ) (acts : ℕ → List Act) (lived : List Lived) (shared : IsSharedOverLosses c size acts (λ e. part e lived)) (keeps : KeepsToEpochs c lived) where
  abbrev later_lived : List Lived
  later_lived = raised lived

  is_later : (e : ℕ) → part e later_lived ≡ renumbered (part e lived)
  is_later e = part_later e (λ d k. 0) lived

  like : (e i h : ℕ) → IsLike ((at c (part e lived) i).host h) ((at c (part e later_lived) i).host h)
  like e i h =
      let knows = knows_later c h i (λ k. 0) Stopped (part e lived) (λ j k left found. shared.dark e j k h left found) in
      like_later knows.0 ((at c (part e lived) i).host h) ((at c (part e later_lived) i).host h) (ap (λ (l : List Filled). (at c l i).host h) (is_later e) ∙ knows.1)

  of : (e : ℕ) → IsRunOf c (part e later_lived)
  of e = subst (IsRunOf c) (sym (is_later e)) (epochs_are_over_losses c size acts (λ d. part d lived) shared e).1

  deeds : (e : ℕ) → AreDeeds (part e later_lived)
  deeds e = subst AreDeeds (sym (is_later e)) (deeds_later (λ k. 0) (part e lived) (shared.deeds e))

  calls : (e i h : ℕ) → IsCallAt (part e later_lived) i h → IsCallAt (part e lived) i h
  calls e i h called = call_before (λ k. 0) (part e lived) i h (subst (λ (l : List Filled). IsCallAt l i h) (is_later e) called)

  places_raised : (e i : ℕ) → now e i later_lived ≡ now e i lived
  places_raised e i = places_later e i (λ d k. 0) lived

  over_losses : IsOverLossesWithoutEnd c lived
  over_losses =
      record {
        run = is_run_without_end c later_lived of deeds (keeps_too c lived later_lived places_raised like calls keeps);
        places = places_raised;
        learned = λ i e h. (like_at c lived later_lived places_raised like calls keeps i e h).learned;
      }

pub shared_over_losses : SharedOverLossesHaveOneLog
shared_over_losses c size acts lived shared keeps = over_losses c size acts lived shared keeps
