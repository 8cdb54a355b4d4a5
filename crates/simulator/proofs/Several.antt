-- Several events, of which the last alone may be answered.
use Rattle.std.specs.Prelude.{◌-◌, replicate}
use Rattle.std.specs.Option.{option_map}
use Rattle.std.proofs.Common.{ℕ, zero, suc, ◌+◌, ◌≡◌, Option, Some, None, List, [], ◌∷◌, ◌++◌, length, refl, sym, ap, ◌∙◌, subst, arith, append-nil, length-append}
use Rattle.disk.specs.Disk.{Call}
use Rattle.paxos_block.specs.Shape.{Shape}
use Rattle.host.specs.Host.{next_of}
use Rattle.world.specs.Entry.{Filled}
use Rattle.world.specs.World.{World, world}
use Rattle.world.specs.Happens.{Event, Step, Line, stepped, entry_of, with_entry, happen, lines_at, answers_from}
use Rattle.simulator.specs.declared.simulated_cluster.Said.{Said}
use Rattle.simulator.specs.Events.{lines_of}
use Rattle.simulator.specs.Kept.{Kept, LeadsTo, Brings, BringsAll, TellsNext, told_call}
use Rattle.simulator.proofs.Entries.{happen_on, answers_on}

-- ONE AFTER THE OTHER

pub no_event : (log : List Filled) (k : Kept) → LeadsTo log k → BringsAll log [] k k None
no_event log k leads = record { shape = refl; leads = leads; says = λ place. refl }

one_behind : (n : ℕ) → (n + 1) - 1 ≡ n
one_behind n = omega arith

pub one_event : (log : List Filled) (e : Event) (old new : Kept) (said : Option Said) → Brings log e old new said → BringsAll log (e ∷ []) old new said
one_event log e old new said brings =
    record {
      shape = brings.shape;
      leads = brings.leads;
      says = λ place.
          ap (λ (n : ℕ). lines_of n said) (one_behind place) ∙ brings.says place
          ∙ sym (append-nil (lines_at old.shape log place (entry_of old.shape (world old.shape log) e)));
    }

-- with the first of them nothing is said
behind_them : (log : List Filled) (a b : List Event) (old mid new : Kept) (said : Option Said) → BringsAll log a old mid None
    → BringsAll (happen old.shape log a) b mid new said → BringsAll log (a ++ b) old new said
behind_them log a b old mid new said first rest =
    let c = old.shape in
    let then = happen c log a in
    record {
      shape = rest.shape ∙ first.shape;
      leads =
          subst (λ (l : List Filled). LeadsTo l new) (sym (happen_on c log a b))
          (subst (λ (s : Shape). LeadsTo (happen s then b) new) first.shape rest.leads);
      says = λ place.
          let far : place + length (a ++ b) - 1 ≡ (place + length a) + length b - 1 = omega (arith, length-append a b) in
          ap (λ (n : ℕ). lines_of n said) far
          ∙ rest.says (place + length a)
          ∙ ap (λ (s : Shape). answers_from s then (place + length a) b) first.shape
          ∙ ap (λ (l : List Line). l ++ answers_from c then (place + length a) b) (first.says place)
          ∙ sym (answers_on c log place a b);
    }

-- STEPS OF A HOST

-- in two parts
pub steps_more : (h k m n : ℕ) → k + m ≡ n → replicate k (Step h) ++ replicate m (Step h) ≡ replicate n (Step h)
steps_more h zero m n is = let same : m ≡ n = omega (arith, is) in ap (λ (i : ℕ). replicate i (Step h)) same
steps_more h (suc k) m zero is = absurd (omega (arith, is))
steps_more h (suc k) m (suc n) is = ap (λ (l : List Event). Step h ∷ l) (steps_more h k m n (omega (arith, is)))

pub step_more : (log : List Filled) (h k : ℕ) (old mid new : Kept) (said : Option Said) → BringsAll log (replicate k (Step h)) old mid None
    → ((log : List Filled) → LeadsTo log mid → Brings log (Step h) mid new said) → BringsAll log (replicate (k + 1) (Step h)) old new said
step_more log h k old mid new said first last =
    let c = old.shape in
    subst (λ (l : List Event). BringsAll log l old new said) (steps_more h k 1 (k + 1) refl)
    (behind_them log (replicate k (Step h)) (Step h ∷ []) old mid new said first
    (one_event (happen c log (replicate k (Step h))) (Step h) mid new said (last (happen c log (replicate k (Step h))) first.leads)))

-- those of a host that makes no call
module _ (c : Shape) (log : List Filled) (h : ℕ) (none : entry_of c (world c log) (Step h) ≡ None) where
  idle_run : (n : ℕ) → happen c log (replicate n (Step h)) ≡ log
  idle_run zero = refl
  idle_run (suc n) = ap (λ (o : Option Filled). happen c (with_entry log o) (replicate n (Step h))) none ∙ idle_run n

  idle_answers : (n place : ℕ) → answers_from c log place (replicate n (Step h)) ≡ []
  idle_answers zero place = refl
  idle_answers (suc n) place =
      ap (λ (o : Option Filled). lines_at c log place o ++ answers_from c (with_entry log o) (place + 1) (replicate n (Step h))) none ∙ idle_answers n (place + 1)

none_told : (w : World) (h : ℕ) (o : Option (ℕ × Call)) → None ≡ told_call w o → option_map (stepped w h) o ≡ None
none_told w h None is = refl
none_told w h (Some next) is = absurd (cc)

pub idle_steps : (log : List Filled) (h n : ℕ) (k : Kept) → LeadsTo log k → TellsNext h None k → BringsAll log (replicate n (Step h)) k k None
idle_steps log h n k leads tells =
    let c = k.shape in
    let none : entry_of c (world c log) (Step h) ≡ None = none_told (world c log) h (next_of c h ((world c log).host h)) (tells log leads) in
    record {
      shape = refl;
      leads = subst (λ (l : List Filled). LeadsTo l k) (sym (idle_run c log h none n)) leads;
      says = λ place. sym (idle_answers c log h none n place);
    }

pub idle_rest : (log : List Filled) (h k m n : ℕ) (old mid : Kept) → k + m ≡ n → BringsAll log (replicate k (Step h)) old mid None → TellsNext h None mid
    → BringsAll log (replicate n (Step h)) old mid None
idle_rest log h k m n old mid all first tells =
    let then = happen old.shape log (replicate k (Step h)) in
    subst (λ (l : List Event). BringsAll log l old mid None) (steps_more h k m n all)
    (behind_them log (replicate k (Step h)) (replicate m (Step h)) old mid mid None first (idle_steps then h m mid first.leads tells))
