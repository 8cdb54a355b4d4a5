-- How a task stands, by what the host that began it or heard an answer returned.
use Rattle.std.specs.Prelude.{IfErr, IfOk, IsSome, OnErr, OnOk, Result, Ok, Err, is_none}
use Rattle.std.proofs.Common.{◌≡◌, ◌⊎◌, ℤ, Option, Some, None, false, true≢false, inl, inr, refl}
use Rattle.epoch_host.specs.declared.task.EpochTask.{EpochTask}
use Rattle.epoch_host.specs.declared.walk.Walk.{Walk}
use Rattle.epoch_host.specs.Ending.{Ends, IsDone, IsGivenUp, TableIsThere}
use Rattle.c_host.specs.Numbers.{done, no_memory}
use Rattle.c_epochs.specs.Steps.{Stands, TellsStand}

module _ {T E : Type 0} (w : Walk) where
  pub stands_so : (WhereDone : Type 0) (task : Option EpochTask) (went : Result T E) → (w.task ≡ None) ⊎ (w.task ≡ task) → OnOk went (w.task ≡ None → IsSome w.said) → OnErr went (IsGivenUp w)
      → Ends task w → TableIsThere w w.said → (IsDone w.said → WhereDone) → Stands WhereDone task w
  stands_so WhereDone task (Ok value) keeps told given_up ends there is_done = inl (record { keeps = keeps; told = told; ends = ends; there = there; done = is_done })
  stands_so WhereDone task (Err fault) keeps told given_up ends there is_done = inr given_up

  pub tells_so : (went : Result T E) (status : ℤ) → OnOk went (w.task ≡ None → IsSome w.said) → OnErr went (IsGivenUp w) → IfOk went (λ value. status ≡ done) → IfErr went (λ fault. status ≡ no_memory)
      → TellsStand w status
  tells_so (Ok value) status told given_up is_done is_refused = inl (is_done, told)
  tells_so (Err fault) status told given_up is_done is_refused = inr (is_refused, given_up)

-- a host that is not idle has a task
pub is_busy : (o : Option EpochTask) → is_none o ≡ false → IsSome o
is_busy None is = absurd (true≢false is)
is_busy (Some task) is = refl
