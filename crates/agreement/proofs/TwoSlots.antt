-- The history of two slots is one, computed guard by guard; and its log is what the claims make of it.
use Rattle.std.proofs.Common.{ℕ, ◌+◌, ◌≡◌, Option, Some, None, List, [], ◌∷◌, ◌++◌, slice_get, refl, subst, ap, inl, lit<, arith}
use Rattle.agreement.specs.State.{HOSTS}
use Rattle.agreement.specs.Chosen.{IsChosen, IsEmpty}
use Rattle.agreement.specs.Log.{Move, MayMove, IsHistory, moved, none_learned, slots_after}
use Rattle.agreement.specs.Log.Move.{At, Crash, Restart}
use Rattle.agreement.specs.Event.Event.{Starts}
use Rattle.agreement.specs.Claims.{IsLog}
use Rattle.agreement.specs.TwoSlots.{confirmed_on, begun_on_disk_2, until_crashed, has_7_chosen, recovers_7, until_recovered, finds_nothing, until_empty, has_9_chosen, history}
use Rattle.agreement.proofs.Steps.{may_both}
use Rattle.agreement.proofs.Guards.{moves_looked_at}
use Rattle.agreement.proofs.Slots.{no_shorter}
use Rattle.agreement.proofs.Logging.{log_reached}

-- THE HISTORY

-- a crash may leave what is confirmed
is_crashed : IsHistory 3 until_crashed
is_crashed = may_both moved (MayMove 3) none_learned begun_on_disk_2 crash (moves_looked_at 3 [] begun_on_disk_2 tt refl) (λ k h. inl refl, tt)
  where
    crash : List (Move ℕ)
    crash = Crash 2 (confirmed_on 2 (slots_after begun_on_disk_2)) ∷ []

-- and each other move is looked at
is_recovered : IsHistory 3 until_recovered
is_recovered = moves_looked_at 3 until_crashed (has_7_chosen ++ Restart 0 ∷ recovers_7) is_crashed refl

is_empty : IsHistory 3 until_empty
is_empty = moves_looked_at 3 until_recovered (At 1 (Starts 1) ∷ finds_nothing) is_recovered refl

pub is_history : IsHistory 3 history
is_history = moves_looked_at 3 until_empty has_9_chosen is_empty refl

-- THE LOG

pub finds_none : IsEmpty 3 ((slots_after until_empty).slot 1) 1
finds_none = record { asking = _; prepared = record { asking = refl; majority = lit< tt }; no_input = refl }

-- behind the last entry of a list there is none
ends_at_one : (values : List ℕ) (x : ℕ) → slice_get values 0 ≡ Some x → slice_get values 1 ≡ None → values ≡ x ∷ []
ends_at_one [] x first none = absurd (cc)
ends_at_one (a ∷ []) x first none = let same : a ≡ x = cc in ap (λ v. v ∷ []) same
ends_at_one (a ∷ b ∷ more) x first none = absurd (cc)

ends_at_two : (values : List ℕ) (x y : ℕ) → slice_get values 0 ≡ Some x → slice_get values 1 ≡ Some y → slice_get values 2 ≡ None → values ≡ x ∷ y ∷ []
ends_at_two [] x y first second none = absurd (cc)
ends_at_two (a ∷ []) x y first second none = absurd (cc)
ends_at_two (a ∷ b ∷ []) x y first second none = let one : a ≡ x = cc in let two : b ≡ y = cc in rw (one, two) refl
ends_at_two (a ∷ b ∷ d ∷ more) x y first second none = absurd (cc)

-- an entry that would be chosen, where nothing is, is not there
no_entry : (o : Option ℕ) → ((v : ℕ) → o ≡ Some v → ⊥) → o ≡ None
no_entry None none = refl
no_entry (Some v) none = absurd (none v refl)

-- When host 1 begins to look into slot 1 the log is 7: its attempt there, which finds no vote, shows that nothing else was chosen.
pub log_before : IsLog 3 (slots_after until_recovered) (7 ∷ [])
log_before =
    let found = log_reached 3 until_recovered is_recovered in
    let below = (no_shorter 3 until_recovered finds_nothing 1 1 is_empty finds_none).0 in
    subst (IsLog 3 (slots_after until_recovered))
    (ends_at_one found.0 7 (found.1.all 0 7 (1, record { proposed = record { proposal = _; is = refl; value = refl }; majority = lit< tt }))
    (no_entry (slice_get found.0 1) (λ v at. let low = below 1 v (found.1.chosen 1 v at) in omega arith)))
    found.1

-- at the end it is 7, 9: in slot 2 there is no proposal
pub log_at_the_end : IsLog 3 (slots_after history) (7 ∷ 9 ∷ [])
log_at_the_end =
    let found = log_reached 3 history is_history in
    subst (IsLog 3 (slots_after history))
    (ends_at_two found.0 7 9
    (found.1.all 0 7 (1, record { proposed = record { proposal = _; is = refl; value = refl }; majority = lit< tt }))
    (found.1.all 1 9 (2 + HOSTS, record { proposed = record { proposal = _; is = refl; value = refl }; majority = lit< tt }))
    (no_entry (slice_get found.0 2) (λ v at. none (found.1.chosen 2 v at))))
    found.1
  where
    none : {v : ℕ} → IsChosen 3 ((slots_after history).slot 2) v → ⊥
    none (b, chosen) = let made = chosen.proposed.is in cc
