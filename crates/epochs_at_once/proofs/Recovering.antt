-- A recovery that was a task of a host is one of the order of all that was done, also of a host that stays open.
use Rattle.std.specs.Prelude.{take}
use Rattle.std.proofs.Common.{ℕ, zero, suc, ◌≡◌, ◌≤◌, List, [], ◌∷◌, ◌++◌, refl, sym, ◌∙◌, ap, subst, inl, inr, arith}
use Rattle.std.proofs.lemmas.Bool.{cases_Bool}
use Rattle.std.proofs.lemmas.List.{map-append}
use Rattle.epoch_deeds.specs.Deeds.{Deed}
use Rattle.epoch_host.specs.declared.answer.EpochAnswer.TheVariants.{Recovered}
use Rattle.epoch_host.specs.declared.task.EpochTask.TheVariants.{Recover}
use Rattle.epoch_host.specs.Ending.{AreSilentBy, HasEnded}
use Rattle.epoch_runs.specs.World.{Entry, Does}
use Rattle.epochs_at_once.specs.AtOnce.{is_of, of_host, deeds_since}
use Rattle.epochs_at_once.specs.Joined.{TasksRecover}
use Rattle.epochs_at_once.specs.Tasks.{done_by}
use Rattle.epochs_at_once.proofs.Parting.{own_more, other_more}

none_first : {A : Type 0} (one more : List A) → [] ≡ one ++ more → [] ≡ one
none_first [] more is = refl
none_first (x ∷ one) more is = absurd (cc)

-- the first entries of a host are all of it by some place
first_by : (h j : ℕ) (entries one more : List Entry) → of_host h (take j entries) ≡ one ++ more → (k : ℕ) × (k ≤ j) × (of_host h (take k entries) ≡ one)
first_by h j entries [] more is = (0, omega arith, refl)
first_by h zero entries (x ∷ one) more is = absurd (cc)
first_by h (suc j) [] (x ∷ one) more is = absurd (cc)
first_by h (suc j) (entry ∷ entries) (x ∷ one) more is =
    elim (cases_Bool (is_of h entry)) [
      | inl own ↦
          (let both : entry ∷ of_host h (take j entries) ≡ x ∷ (one ++ more) = sym (own_more h entry (take j entries) own) ∙ is in
          let same : entry ≡ x = cc in
          let rest : of_host h (take j entries) ≡ one ++ more = cc in
          let found = first_by h j entries one more rest in
          let low : found.0 ≤ j = found.1 in
          (suc found.0, omega (arith, low), own_more h entry (take found.0 entries) own ∙ ap (λ (l : List Entry). entry ∷ l) found.2 ∙ ap (λ (y : Entry). y ∷ one) same))
      | inr other ↦
          (let found = first_by h j entries (x ∷ one) more (sym (other_more h entry (take j entries) other) ∙ is) in
          let low : found.0 ≤ j = found.1 in
          (suc found.0, omega (arith, low), other_more h entry (take found.0 entries) other ∙ found.2))
    ]

-- so are those that it did first behind a place
between_by : (h i j : ℕ) (entries one more : List Entry) → i ≤ j → of_host h (take j entries) ≡ of_host h (take i entries) ++ (one ++ more)
    → (k : ℕ) × (i ≤ k) × (k ≤ j) × (of_host h (take k entries) ≡ of_host h (take i entries) ++ one)
between_by h zero j entries one more order is = let found = first_by h j entries one more is in (found.0, omega arith, found.1, found.2)
between_by h (suc i) zero entries one more order is = absurd (omega (arith, order))
between_by h (suc i) (suc j) [] one more order is = (suc i, omega arith, order, none_first one more is)
between_by h (suc i) (suc j) (entry ∷ entries) one more order is =
    elim (cases_Bool (is_of h entry)) [
      | inl own ↦
          (let both : entry ∷ of_host h (take j entries) ≡ entry ∷ (of_host h (take i entries) ++ (one ++ more)) =
          sym (own_more h entry (take j entries) own) ∙ is ∙ ap (λ (l : List Entry). l ++ (one ++ more)) (own_more h entry (take i entries) own) in
          let rest : of_host h (take j entries) ≡ of_host h (take i entries) ++ (one ++ more) = cc in
          let found = between_by h i j entries one more (omega (arith, order)) rest in
          let low : i ≤ found.0 = found.1 in
          let high : found.0 ≤ j = found.2 in (
            suc found.0,
            omega (arith, low),
            omega (arith, high),
            own_more h entry (take found.0 entries) own ∙ ap (λ (l : List Entry). entry ∷ l) found.3 ∙ sym (ap (λ (l : List Entry). l ++ one) (own_more h entry (take i entries) own)),
          ))
      | inr other ↦
          (let rest : of_host h (take j entries) ≡ of_host h (take i entries) ++ (one ++ more) =
          sym (other_more h entry (take j entries) other) ∙ is ∙ ap (λ (l : List Entry). l ++ (one ++ more)) (other_more h entry (take i entries) other) in
          let found = between_by h i j entries one more (omega (arith, order)) rest in
          let low : i ≤ found.0 = found.1 in
          let high : found.0 ≤ j = found.2 in (
            suc found.0,
            omega (arith, low),
            omega (arith, high),
            other_more h entry (take found.0 entries) other ∙ found.3 ∙ sym (ap (λ (l : List Entry). l ++ one) (other_more h entry (take i entries) other)),
          ))
    ]

pub tasks_recover : TasksRecover
tasks_recover c entries i j h tries upto r =
    let before = of_host h (take i entries) in
    let was = r.task.silent tt in
    let parts : done_by h r.more ≡ done_by h was.early ++ done_by h was.later = ap (done_by h) was.is ∙ map-append (λ (x : Deed). Does h x) was.early was.later in
    let there = between_by h i j entries (done_by h was.early) (done_by h was.later) r.order (r.is ∙ ap (λ (l : List Entry). before ++ l) parts) in
    record {
      idle = r.task.idle;
      between = there.0;
      since = there.1;
      until = there.2;
      silent = subst (λ (l : List Entry). AreSilentBy c h (deeds_since l)) (sym there.3) was.silent;
      tells = subst (λ (l : List Entry). HasEnded c h (deeds_since l) (Recover tries) (Recovered upto)) (sym r.is) r.task.ended;
    }
