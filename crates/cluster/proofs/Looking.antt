-- A look writes nothing.
use Rattle.std.proofs.Common.{◌≡◌, ℕ, true, List, [], ◌∷◌, ◌++◌, Option, Some, None, refl, sym, ap, subst, ◌∙◌, append_assoc}
use Rattle.std.proofs.lemmas.List.{append-nil}
use Rattle.attempt.specs.Looking.{OnlyReads}
use Rattle.paxos_block.specs.Shape.{Shape}
use Rattle.host.specs.Host.{Operation, Submitting, Recovering, Doing, Attempts, Looks, Beats, Marks, Memory, Running, idles, next_of, next_doing}
use Rattle.host.specs.declared.task.Task.{Task}
use Rattle.host.specs.declared.task.Task.TheVariants.{Look}
use Rattle.world.specs.Entry.{Begin, Called}
use Rattle.world.proofs.Looks.{reads_only}
use Rattle.cluster_tie.specs.Parts.{Placed, Own, adds}
use Rattle.cluster.specs.declared.fault.HostFault.{HostFault}
use Rattle.cluster.specs.declared.fault.HostFault.TheVariants as fault
use Rattle.cluster.specs.Cluster.{IsStep, AreSteps, GoesOn}
use Rattle.cluster.specs.Looks.{IsReading, AreReadings, WritesNothing}
use Rattle.cluster.specs.Operations.{Stops, task_for, IsCarried, Carries}
use Rattle.cluster.specs.Seat.{host_in, due_in}
use Rattle.cluster.proofs.Operating.{steps_on, task_begun}

-- no attempt looks
no_look : (o : Operation) (tries : ℕ) → Look ≡ task_for o tries → ⊥
no_look (Submitting command) tries is = cc is
no_look Recovering tries is = cc is

-- the call that is due only reads
reads_next : (c : Shape) (own new : Own) → Carries c Look own → IsStep c own new → OnlyReads (due_in c own).1
reads_next c own new carries step = go carries.memory.doing refl carries.doing
  where
    m : Memory
    m = carries.memory

    due : next_of c own.number (Running m) ≡ Some (step.disk, (due_in c own).1)
    due = sym (ap (next_of c own.number) carries.is) ∙ step.due

    go : (o : Option Doing) → m.doing ≡ o → IsCarried Look m o → OnlyReads (due_in c own).1
    go None does known = let no : None ≡ Some (step.disk, (due_in c own).1) = sym (ap (next_doing c own.number m) does) ∙ due in absurd (cc no)
    go (Some (Attempts t)) does known = absurd (no_look t.operation known.0 known.1)
    go (Some (Looks t)) does known = reads_only c own.number step.disk m t (due_in c own).1 does due
    go (Some (Beats heard)) does known = absurd (cc known.1)
    go (Some (Marks t)) does known = absurd (cc known.1)

same_last : (xs : List Placed) (x y : Placed) → xs ++ x ∷ [] ≡ xs ++ y ∷ [] → x ≡ y
same_last [] x y is = cc is
same_last (z ∷ xs) x y is = let rest : xs ++ x ∷ [] ≡ xs ++ y ∷ [] = cc is in same_last xs x y rest

-- so each step only reads
all_read : (c : Shape) (own : Own) (xs : List Placed) → Carries c Look own → AreSteps c own xs → AreReadings xs
all_read c own [] carries steps = tt
all_read c own (x ∷ xs) carries steps = (reading steps.0, all_read c (adds own x.0 x.1) xs (steps_on c Look own (adds own x.0 x.1) carries steps.0) steps.1)
  where
    reading : IsStep c own (adds own x.0 x.1) → IsReading x.1
    reading step =
        let call : Placed = (step.place, Called own.number step.disk (due_in c own).1 step.answer step.left) in
        let same : (x.0, x.1) ≡ call = same_last own.entries (x.0, x.1) call (ap (λ (o : Own). o.entries) step.is) in
        subst IsReading (sym (ap (λ (p : Placed). p.1) same)) (reads_next c own (adds own x.0 x.1) carries step)

-- a look that has begun
pub looked : (c : Shape) (t : Task) (old begun new : Own) (at : ℕ) → t ≡ Look → idles (host_in c old) ≡ true → begun ≡ adds old at (Begin old.number t) → GoesOn c begun new → WritesNothing old new
looked c t old begun new at look idle is goes = record {
  added = (at, Begin old.number t) ∷ goes.added;
  is = ap (λ (o : Own). o.entries) goes.is ∙ ap (λ (o : Own). o.entries ++ goes.added) is ∙ append_assoc old.entries ((at, Begin old.number t) ∷ []) goes.added;
  reads = (tt, all_read c begun goes.added (subst (λ (u : Task). Carries c u begun) look (task_begun c t old begun at idle is)) goes.steps);
}

-- and one that has stopped
pub stopped : (c : Shape) (t : Task) (f : HostFault) (old begun new : Own) (at : ℕ) → t ≡ Look → idles (host_in c old) ≡ true → begun ≡ adds old at (Begin old.number t) → Stops c f begun new → WritesNothing old new
stopped c t f old begun new at look idle is stops = looked c t old begun new at look idle is (goes f stops)
  where
    goes : (g : HostFault) → Stops c g begun new → GoesOn c begun new
    goes (fault.Refused r) s = s.0
    goes fault.NoMemory s = s.0
    goes fault.JournalFull s = s.0
    goes fault.OpenCall s = s.0
    goes fault.SeatTaken s = absurd s
    goes fault.SeatsMissing s = absurd s

-- and one that has not begun
pub unbegun : (old new : Own) → new ≡ old → WritesNothing old new
unbegun old new same = record { added = []; is = ap (λ (o : Own). o.entries) same ∙ sym (append-nil old.entries); reads = tt }
