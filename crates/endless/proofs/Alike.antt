-- What is done in an epoch over shared disks is as a run of the world: by the same calls each host has learned the same there, and submits the same, also where losses of power raise
-- the boot numbers of the run.
use Rattle.std.specs.Prelude.{take, slice_get, option_map}
use Rattle.std.proofs.Common.{ℕ, zero, suc, ◌≡◌, Bool, true, cond, Option, Some, None, List, [], ◌∷◌, refl, sym, ◌∙◌, ap, inl, inr}
use Rattle.std.proofs.lemmas.Bool.{cases_Bool}
use Rattle.paxos_block.specs.Shape.{Shape}
use Rattle.host.specs.Host.{Attempt, Doing, Attempts, Looks, Beats, Marks, Memory, Host, Stopped, Running, learned_of}
use Rattle.world.specs.Entry.{Filled, Start, Stop, Begin, Called, Torn, Crashed, Lost, Migrated, is_of, of_host, host_step, host_after}
use Rattle.world.specs.World.{IsRun}
use Rattle.world.specs.Chosen.{at, migrated}
use Rattle.at_once.specs.AtOnce.{IsDeed, AreDeeds}
use Rattle.at_once.specs.Power.{call_later, answer_later, entry_later, losses_with, renumbered_from, renumbered}
use Rattle.at_once.proofs.Losses.{of_same}
use Rattle.at_once.proofs.RenumberedHosts.{attempt_later, doing_later, memory_later, host_later, step_later}
use Rattle.epochs.specs.Acts.{Act}
use Rattle.epochs.specs.OneLog.{IsShared, IsSharedOverLosses}
use Rattle.epochs.proofs.OneLog.{epochs_are_runs, epochs_are_over_losses}
use Rattle.endless.specs.Epochs.{IsCallAt}
use Rattle.endless.specs.Lived.{Lived, part}
use Rattle.endless.proofs.WithoutEnd.{none_migrated, same_call}

-- HOSTS

-- where the one is running, the other is too, and has learned the same
abbrev pub RunsToo : (one other : Host) → Type 0
RunsToo one other = (m : Memory) → one ≡ Running m → (n : Memory) × (other ≡ Running n) × (n.learned ≡ m.learned)

-- and where it attempts something, the other attempts the same
abbrev pub AttemptsToo : (one other : Host) → Type 0
AttemptsToo one other =
    (m : Memory) (t : Attempt) → one ≡ Running m → m.doing ≡ Some (Attempts t) → (n : Memory) × (d : Attempt) × (other ≡ Running n) × (n.learned ≡ m.learned) × (n.doing ≡ Some (Attempts d)) × (d.operation ≡ t.operation)

-- one host is as the other: stopped, or it has learned the same and submits the same
pub record IsLike (one other : Host) : Type 0 where
  pub learned : learned_of other ≡ learned_of one
  pub runs : RunsToo one other
  pub ran : RunsToo other one
  pub does : AttemptsToo one other
  pub did : AttemptsToo other one

pub like_same : (one other : Host) → other ≡ one → IsLike one other
like_same one other same =
    record {
      learned = ap learned_of same;
      runs = λ m is. (m, same ∙ is, refl);
      ran = λ n is. (n, sym same ∙ is, refl);
      does = λ m t is doing. (m, t, same ∙ is, refl, doing, refl);
      did = λ n t is doing. (n, t, sym same ∙ is, refl, doing, refl);
    }

-- OVER LOSSES OF POWER

-- a host that hears later boot numbers is as one that does not
running_back : (losses : ℕ → ℕ) (host : Host) (n : Memory) → host_later losses host ≡ Running n → (m : Memory) × (host ≡ Running m) × (memory_later losses m ≡ n)
running_back losses Stopped n is = absurd (cc)
running_back losses (Running m) n is = (m, refl, (let same : memory_later losses m ≡ n = cc in same))

doing_back : (losses : ℕ → ℕ) (o : Option Doing) (t : Attempt) → option_map (doing_later losses) o ≡ Some (Attempts t) → (d : Attempt) × (o ≡ Some (Attempts d)) × (d.operation ≡ t.operation)
doing_back losses None t is = absurd (cc)
doing_back losses (Some (Attempts d)) t is = let same : attempt_later losses d ≡ t = cc in (d, refl, ap (λ (x : Attempt). x.operation) same)
doing_back losses (Some (Looks d)) t is = absurd (cc)
doing_back losses (Some (Beats d)) t is = absurd (cc)
doing_back losses (Some (Marks d)) t is = absurd (cc)

learned_later : (losses : ℕ → ℕ) (host : Host) → learned_of (host_later losses host) ≡ learned_of host
learned_later losses Stopped = refl
learned_later losses (Running m) = refl

pub like_later : (losses : ℕ → ℕ) (one other : Host) → other ≡ host_later losses one → IsLike one other
like_later losses one other same =
    record {
      learned = ap learned_of same ∙ learned_later losses one;
      runs = λ m is. (memory_later losses m, same ∙ ap (host_later losses) is, refl);
      ran = λ n is. let back = running_back losses one n (sym same ∙ is) in (back.0, back.1, ap (λ (x : Memory). x.learned) back.2);
      does = λ m t is doing. (memory_later losses m, attempt_later losses t, same ∙ ap (host_later losses) is, refl, ap (option_map (doing_later losses)) doing, refl);
      did = λ n t is doing.
          let back = running_back losses one n (sym same ∙ is) in
          let did = doing_back losses back.0.doing t (ap (λ (x : Memory). x.doing) back.2 ∙ doing) in
          (back.0, did.0, back.1, ap (λ (x : Memory). x.learned) back.2, did.1, did.2);
    }

-- at each place it knows what it would know, under later numbers, as a loss of power stops it
module _ (c : Shape) (h : ℕ) where
  abbrev pub IsDark : Host → List Filled → Type 0
  IsDark host es = (i k : ℕ) (left : List ℕ) → slice_get es i ≡ Some (Crashed k left) → host_after c h host (of_host h (take i es)) ≡ Stopped

  counted : (losses : ℕ → ℕ) (host : Host) (e : Filled) (es : List Filled) → IsDark host (e ∷ es) → host_later (losses_with losses e) host ≡ host_later losses host
  counted losses host (Crashed d left) es dark = let stopped : host ≡ Stopped = dark 0 d left refl in ap (host_later (losses_with losses (Crashed d left))) stopped ∙ ap (host_later losses) (sym stopped)
  counted losses host other es dark = refl

  counted_own : (losses : ℕ → ℕ) (host : Host) (e : Filled) → is_of h e ≡ true → host_later (losses_with losses e) host ≡ host_later losses host
  counted_own losses host (Crashed d left) own = absurd (cc)
  counted_own losses host other own = refl

  pub knows_later : (i : ℕ) (losses : ℕ → ℕ) (host : Host) (es : List Filled) → IsDark host es
      → (at_last : ℕ → ℕ) × (host_after c h (host_later losses host) (of_host h (take i (renumbered_from losses es))) ≡ host_later at_last (host_after c h host (of_host h (take i es))))
  knows_later zero losses host es dark = (losses, refl)
  knows_later (suc i) losses host [] dark = (losses, refl)
  knows_later (suc i) losses host (e ∷ es) dark =
      let x = entry_later losses e in
      let mine = of_host h (take i es) in
      let rest = of_host h (take i (renumbered_from (losses_with losses e) es)) in
      elim (cases_Bool (is_of h e)) [
        | inl is ↦
            (let later_on = knows_later i (losses_with losses e) (host_step c h host e) es (λ j k left found. ap (λ (b : Bool). host_after c h host (cond b (e ∷ of_host h (take j es)) (of_host h (take j es)))) (sym is) ∙ dark (suc j) k left found) in
            let one : host_later (losses_with losses e) (host_step c h host e) ≡ host_step c h (host_later losses host) x = counted_own losses (host_step c h host e) e is ∙ sym (step_later losses c h host e) in (
              later_on.0,
              ap (λ (b : Bool). host_after c h (host_later losses host) (cond b (x ∷ rest) rest)) (of_same losses h e ∙ is)
                  ∙ ap (λ (k : Host). host_after c h k rest) (sym one)
                  ∙ later_on.1
                  ∙ ap (λ (b : Bool). host_later later_on.0 (host_after c h host (cond b (e ∷ mine) mine))) (sym is),
            ))
        | inr is ↦
            (let later_on = knows_later i (losses_with losses e) host es (λ j k left found. ap (λ (b : Bool). host_after c h host (cond b (e ∷ of_host h (take j es)) (of_host h (take j es)))) (sym is) ∙ dark (suc j) k left found) in (
              later_on.0,
              ap (λ (b : Bool). host_after c h (host_later losses host) (cond b (x ∷ rest) rest)) (of_same losses h e ∙ is)
                  ∙ ap (λ (k : Host). host_after c h k rest) (sym (counted losses host e es dark))
                  ∙ later_on.1
                  ∙ ap (λ (b : Bool). host_later later_on.0 (host_after c h host (cond b (e ∷ mine) mine))) (sym is),
            ))
      ]

-- a call under a later number is a call
pub call_before : (losses : ℕ → ℕ) (es : List Filled) (i h : ℕ) → IsCallAt (renumbered_from losses es) i h → IsCallAt es i h
call_before losses [] i h called = absurd (let none = called.4 in cc)
call_before losses (e ∷ es) (suc i) h called = call_before (losses_with losses e) es i h called
call_before losses (Called g disk call answer left ∷ es) zero h called =
    let some = called.4 in
    let same : g ≡ h = cc in
    (disk, call, answer, left, ap (λ (n : ℕ). Some (Called n disk call answer left)) same)
call_before losses (Start g ∷ es) zero h called = absurd (let some = called.4 in cc)
call_before losses (Stop g ∷ es) zero h called = absurd (let some = called.4 in cc)
call_before losses (Begin g task ∷ es) zero h called = absurd (let some = called.4 in cc)
call_before losses (Torn g disk call left ∷ es) zero h called = absurd (let some = called.4 in cc)
call_before losses (Crashed disk left ∷ es) zero h called = absurd (let some = called.4 in cc)
call_before losses (Lost disk ∷ es) zero h called = absurd (let some = called.4 in cc)
call_before losses (Migrated disks log ∷ es) zero h called = absurd (let some = called.4 in cc)

-- and back
call_behind : (losses : ℕ → ℕ) (es : List Filled) (i h : ℕ) → IsCallAt es i h → IsCallAt (renumbered_from losses es) i h
call_behind losses [] i h called = absurd (let none = called.4 in cc)
call_behind losses (e ∷ es) (suc i) h called = call_behind (losses_with losses e) es i h called
call_behind losses (e ∷ es) zero h called =
    let here : e ≡ Called h called.0 called.1 called.2 called.3 = (let some = called.4 in cc) in
    (called.0, call_later (losses called.0) called.1, answer_later (losses called.0) called.2, called.3, ap (λ (x : Filled). Some (entry_later losses x)) here)

deed_later : (losses : ℕ → ℕ) (e : Filled) → IsDeed e → IsDeed (entry_later losses e)
deed_later losses (Migrated disks commands) is = absurd is
deed_later losses other is = tt

pub deeds_later : (losses : ℕ → ℕ) (es : List Filled) → AreDeeds es → AreDeeds (renumbered_from losses es)
deeds_later losses [] are = tt
deeds_later losses (e ∷ es) are = (deed_later losses e are.0, deeds_later (losses_with losses e) es are.1)

-- RUNS

-- Each epoch is as a run that begins on zeros.
pub record AreAsRuns (c : Shape) (lived : List Lived) : Type 0 where
  pub run : ℕ → List Filled
  pub is : (e : ℕ) → IsRun c (run e)
  pub fresh : (e : ℕ) → migrated (run e) ≡ []
  pub like : (e i h : ℕ) → IsLike ((at c (part e lived) i).host h) ((at c (run e) i).host h)
  pub calls : (e i h : ℕ) → IsCallAt (part e lived) i h → IsCallAt (run e) i h
  pub called : (e i h : ℕ) → IsCallAt (run e) i h → IsCallAt (part e lived) i h

pub shared_as_runs : (c : Shape) (size : ℕ) (acts : ℕ → List Act) (lived : List Lived) → IsShared c size acts (λ e. part e lived) → AreAsRuns c lived
shared_as_runs c size acts lived shared =
    let of = (λ (e : ℕ). epochs_are_runs c size acts (λ d. part d lived) shared e) in
    record {
      run = λ e. (of e).run;
      is = λ e. (of e).is;
      fresh = λ e. none_migrated (of e).run (part e lived) (of e).same (shared.deeds e);
      like = λ e i h. like_same ((at c (part e lived) i).host h) ((at c (of e).run i).host h) ((of e).hosts i h);
      calls = λ e. same_call (part e lived) (of e).run (sym (of e).same);
      called = λ e. same_call (of e).run (part e lived) (of e).same;
    }

-- over losses of power the run has the boot numbers of disks that tell a higher one after each
pub shared_over_losses_as_runs : (c : Shape) (size : ℕ) (acts : ℕ → List Act) (lived : List Lived) → IsSharedOverLosses c size acts (λ e. part e lived) → AreAsRuns c lived
shared_over_losses_as_runs c size acts lived shared =
    let of = (λ (e : ℕ). (epochs_are_over_losses c size acts (λ d. part d lived) shared e).1) in
    let knows = (λ (e i h : ℕ). knows_later c h i (λ k. 0) Stopped (part e lived) (λ j k left found. shared.dark e j k h left found)) in
    record {
      run = λ e. (of e).run;
      is = λ e. (of e).is;
      fresh = λ e. none_migrated (of e).run (renumbered (part e lived)) (of e).same (deeds_later (λ k. 0) (part e lived) (shared.deeds e));
      like = λ e i h. like_later (knows e i h).0 ((at c (part e lived) i).host h) ((at c (of e).run i).host h) ((of e).hosts i h ∙ (knows e i h).1);
      calls = λ e i h is. same_call (renumbered (part e lived)) (of e).run (sym (of e).same) i h (call_behind (λ k. 0) (part e lived) i h is);
      called = λ e i h is. call_before (λ k. 0) (part e lived) i h (same_call (of e).run (renumbered (part e lived)) (of e).same i h is);
    }
