-- Steps one after the other.
use Rattle.std.proofs.Common.{◌≡◌, List, [], ◌∷◌, ◌++◌, sym, ap, subst, ◌∙◌, append_assoc}
use Rattle.std.proofs.lemmas.List.{append-nil}
use Rattle.paxos_block.specs.Shape.{Shape}
use Rattle.world.specs.Entry.{Filled, Called}
use Rattle.cluster_tie.specs.Parts.{Placed, Own, own_of, adds}
use Rattle.cluster.specs.Cluster.{IsStep, AreSteps, GoesOn}
use Rattle.cluster.specs.Seat.{due_in}

steps_more : (c : Shape) (own : Own) (xs : List Placed) (x : Placed) → AreSteps c own xs
    → IsStep c (own_of own.number (own.entries ++ xs)) (own_of own.number ((own.entries ++ xs) ++ x ∷ []))
    → AreSteps c own (xs ++ x ∷ [])
steps_more c own [] x steps step =
    (subst (λ (l : List Placed). IsStep c (own_of own.number l) (own_of own.number (l ++ x ∷ []))) (append-nil own.entries) step, tt)
steps_more c own (y ∷ ys) x steps step =
    let next = adds own y.0 y.1 in
    (steps.0, steps_more c next ys x steps.1 (subst (λ (l : List Placed). IsStep c (own_of own.number l) (own_of own.number (l ++ x ∷ []))) (sym (append_assoc own.entries (y ∷ []) ys)) step))

pub more : (c : Shape) (old mid new : Own) → GoesOn c old mid → IsStep c mid new → GoesOn c old new
more c old mid new goes step =
    let e : Filled = Called mid.number step.disk (due_in c mid).1 step.answer step.left in
    let x : Placed = (step.place, e) in
    let before : Own = own_of old.number (old.entries ++ goes.added) in
    let is : new ≡ own_of old.number ((old.entries ++ goes.added) ++ x ∷ []) = step.is ∙ ap (λ (o : Own). adds o step.place e) goes.is in
    record {
      added = goes.added ++ x ∷ [];
      is = is ∙ ap (own_of old.number) (append_assoc old.entries goes.added (x ∷ []));
      steps = steps_more c old goes.added x goes.steps (subst (λ (p : Own × Own). IsStep c p.0 p.1) (λ i. (goes.is i, is i)) step);
    }
