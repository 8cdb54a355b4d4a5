-- A host with a task under way has a call due.
use Rattle.std.specs.Prelude.{IsSome}
use Rattle.std.proofs.Common.{◌≡◌, ◌≤◌, ℕ, true, Option, Some, None, refl, sym, ◌∙◌, ap, subst, true≢false}
use Rattle.torn_block.specs.declared.layout.TheConstants.{DISKS}
use Rattle.paxos_block.specs.Shape.{Shape}
use Rattle.epoch_host.specs.declared.task.EpochTask.{EpochTask}
use Rattle.epoch_host.specs.declared.task.EpochTask.TheVariants.{Look}
use Rattle.host.specs.declared.task.Task.{Task}
use Rattle.epoch_host.specs.declared.stay.Leave.{Leave}
use Rattle.epoch_host.specs.declared.stay.Stay.{Stay}
use Rattle.epoch_host.specs.declared.stay.Doing.TheVariants.{Nothing}
use Rattle.epoch_host.specs.declared.walk.Walk.{Walk}
use Rattle.epoch_host.specs.declared.walk.Whereabouts.TheVariants.{In}
use Rattle.epoch_host.specs.Ending.{in_epochs}
use Rattle.epoch_host.specs.Staying as stay
use Rattle.epoch_host.specs.Staying.{IsBusy}
use Rattle.epoch_host.specs.Walking.{GoesFor, HasFew, IsAt, IsGoing, IsLeftFor, IsResting, IsSameWalk, IsSound, IsStaying, MayBegin}

-- its task, and where it goes on
pub record IsUnderWay (w : Walk) : Type 0 where
  pub task : EpochTask
  pub is : w.task ≡ Some task
  pub may : MayBegin w.host task
  pub going : IsGoing w w.is
  pub goes : GoesFor task w.is
  pub silent : w.said ≡ None

pub is_under_way : (w : Walk) → IsSound w → IsSome w.task → IsUnderWay w
is_under_way w is busy = go w.task refl is.here busy
  where
    go : (o : Option EpochTask) → w.task ≡ o → IsAt w o → IsSome o → IsUnderWay w
    go None same at some = absurd (true≢false (sym some))
    go (Some task) same at some = record { task = task; is = same; may = at.0; going = at.1; goes = at.2; silent = at.3 }

-- IN AN EPOCH

module _ (old new : Walk) (s : Stay) (few : HasFew old) (same : IsSameWalk old new) (here : new.is ≡ In s) (staying : IsStaying old s) where
  few_new : HasFew new
  few_new = subst (λ (k : Shape). (1 ≤ k.disks) × (k.disks ≤ DISKS) × (1 ≤ k.slots)) (sym same.config) few

  stays_new : IsStaying new s
  stays_new = record { sound = staying.sound; host = staying.host ∙ sym same.host; config = staying.config ∙ sym same.config; looks = staying.looks ∙ sym same.looks }

  -- it has no task
  pub rests_sound : new.task ≡ None → s.doing ≡ Nothing → IsSound new
  rests_sound idle rests =
      record {
        few = few_new;
        here = subst (IsAt new) (sym idle) (subst (IsResting new) (sym here) (stays_new, rests));
        looks = λ only task is. absurd (let both : None ≡ Some task = sym idle ∙ is in cc);
      }

  -- or has one, and a call is due
  pub goes_sound : (given : EpochTask) → new.task ≡ Some given → (old.only_looks ≡ true → given ≡ Look) → MayBegin old.host given → IsBusy s.doing → given ≡ in_epochs s.config s.epoch s.task → new.said ≡ None → IsSound new
  goes_sound given some alone may busy goes silent =
      record {
        few = few_new;
        here =
            subst (IsAt new) (sym some) (
              subst (λ (h : ℕ). MayBegin h given) (sym same.host) may,
              subst (IsGoing new) (sym here) (stays_new, busy),
              subst (GoesFor given) (sym here) goes,
              silent,
            );
        looks = λ only task is. (let both : Some given ≡ Some task = sym some ∙ is in let one : given ≡ task = cc in sym one ∙ alone (sym same.looks ∙ only));
      }

-- a task that is this one of all epochs is so where the host stays in its epoch
pub same_epochs : (given : EpochTask) (own : Task) (before after : Stay) → stay.IsSame before after → given ≡ in_epochs before.config before.epoch own → given ≡ in_epochs after.config after.epoch own
same_epochs given own before after same is =
    is ∙ ap (λ (k : Shape). in_epochs k before.epoch own) (sym same.config) ∙ ap (λ (e : ℕ). in_epochs after.config e own) (sym same.epoch)

-- so it leaves its epoch with it
pub left_for : (o : Option EpochTask) (given : EpochTask) (own : Task) (before after : Stay) (leave : Leave) → stay.IsSame before after → o ≡ Some given → given ≡ in_epochs before.config before.epoch own → stay.IsSoLeft own (Some leave) after
    → IsLeftFor o after leave
left_for o given own before after leave same some is left = (own, some ∙ ap (λ (t : EpochTask). Some t) (same_epochs given own before after same is), left)

-- the task under way is that of the epoch where it is
pub still_for : (w : Walk) (under : IsUnderWay w) (s : Stay) (own : Task) → w.is ≡ In s → own ≡ s.task → under.task ≡ in_epochs s.config s.epoch own
still_for w under s own here same = subst (GoesFor under.task) here under.goes ∙ ap (in_epochs s.config s.epoch) (sym same)
