-- What attempts choose is one value, and none that ends empty has missed it.
use Rattle.std.proofs.Common.{ℕ, ◌≡◌, List, [], ◌∷◌, ◌++◌, append_assoc, subst}
use Rattle.attempt.specs.Answers.{Answered, on}
use Rattle.attempt.specs.Setup.{Setup}
use Rattle.attempt.specs.Proposal.{ballot}
use Rattle.attempt.specs.Status.{Ended, Empty, status}
use Rattle.agreement.specs.Event.{Event, IsRun, state_after}
use Rattle.agreement.specs.Event.Event.{Starts}
use Rattle.agreement.specs.Chosen.{IsChosenBy, IsChosen, IsEmpty}
use Rattle.agreement.specs.Claims.{NoneChosen}
use Rattle.agreement.proofs.Runs.{places}
use Rattle.agreement.proofs.Agreeing.{one_chosen_at}
use Rattle.agreement.proofs.Missing.{nothing_missed}
use Rattle.attempt_safety.specs.Follows.{Agrees, Follows}
use Rattle.attempt.specs.Chosen.{Chooses}
use Rattle.attempt_safety.specs.Leads.{Leads}
use Rattle.attempt_safety.proofs.Choosing.{chosen}

-- of two places of a run, what is chosen at the one, and at the other, is one value
one_of_two : (disks : ℕ) (early middle late : List (Event (List ℕ))) (v u : List ℕ) → IsRun disks ((early ++ middle) ++ late) → IsChosen disks (state_after early) v
    → IsChosen disks (state_after ((early ++ middle) ++ late)) u → u ≡ v
one_of_two disks early middle late v u is_run first second =
    one_chosen_at disks early (middle ++ late)
    (places disks early (middle ++ late) (subst (IsRun disks) (append_assoc early middle late) is_run))
    v u first
    (subst (λ (es : List (Event (List ℕ))). IsChosen disks (state_after es) u) (append_assoc early middle late) second)

-- so it is with two attempts
pub one_value : (s t : Setup) (early middle : List (Event (List ℕ))) (heard before : List Answered) (x y : Answered) (v u : List ℕ) (first : Leads s early heard x)
    (second : Leads t ((early ++ first.events) ++ middle) before y) → t.disks ≡ s.disks → Chooses s (on (heard ++ x ∷ [])) v → Chooses t (on (before ++ y ∷ [])) u → u ≡ v
one_value s t early middle heard before x y v u first second same chooses later =
    let place : List (Event (List ℕ)) = early ++ first.events in
    one_of_two s.disks place middle second.events v u
    (subst (λ (n : ℕ). IsRun n ((place ++ middle) ++ second.events)) same second.is_run)
    (ballot s (on (heard ++ x ∷ [])), chosen s early heard x v first chooses) (
      ballot t (on (before ++ y ∷ [])),
      subst (λ (n : ℕ). IsChosenBy n (state_after ((place ++ middle) ++ second.events)) (ballot t (on (before ++ y ∷ []))) u) same (chosen t (place ++ middle) before y u second later),
    )

-- an attempt that ended empty began when nothing was chosen
pub none_missed : (s : Setup) (early late : List (Event (List ℕ))) (heard : List Answered) → IsRun s.disks (early ++ Starts s.host ∷ late)
    → Follows s heard (state_after (early ++ Starts s.host ∷ late)) → status s (on heard) ≡ Ended Empty → NoneChosen s.disks (state_after early)
none_missed s early late heard is_run follows ended =
    let empty : IsEmpty s.disks (state_after (early ++ Starts s.host ∷ late)) s.host = subst (Agrees s (on heard) (state_after (early ++ Starts s.host ∷ late))) ended follows.agrees in
    nothing_missed s.disks early late s.host is_run empty
