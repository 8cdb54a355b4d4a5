-- Calls that were heard one after another, as those of a task of a host over disks.
use Rattle.std.specs.Prelude.{IsSome, slice_index}
use Rattle.std.proofs.Common.{ℕ, ◌≡◌, ◌⊎◌, Bool, true, false, List, [], ◌∷◌, Option, Some, None, true≢false, inl, inr, refl, sym, ◌∙◌, ap, subst}
use Rattle.std.proofs.lemmas.Bool.{ltb-true, ltb-false}
use Rattle.disk.specs.declared.fault.DiskFault.TheVariants.{Failed}
use Rattle.disk.specs.Disk.{Call, Answer, Fault}
use Rattle.paxos_block.specs.Shape.{Shape}
use Rattle.epoch_deeds.specs.Deeds.{Deeds}
use Rattle.epoch_host.specs.declared.answer.EpochAnswer.{EpochAnswer}
use Rattle.epoch_host.specs.declared.task.EpochTask.{EpochTask}
use Rattle.epoch_host.specs.declared.walk.Walk.{Walk}
use Rattle.epoch_host.specs.Ending.{AreSilent, Ends, EndsSo, IsDone, IsWhereItIs}
use Rattle.epoch_host.specs.Knowing.{where_is}
use Rattle.epoch_host.specs.Leading.{LeadsTo}
use Rattle.epoch_host.specs.Walking.{call_due}
use Rattle.epoch_host.proofs.Knowing.{where_by}
use Rattle.dlm_images.specs.Operations.{Gave, GaveOne, Made}
use Rattle.epoch_images.specs.Working.{HasDoneSince, RunsBefore, Standing}
use Rattle.epoch_images.proofs.Doing.{IsOnWay, begun, has_worked, heard_one, runs_before, runs_not_before, runs_nowhere}
use Rattle.c_epochs.specs.Calls.{is_away, is_before}
use Rattle.c_epochs.specs.Steps.{AreHeard, CallsWork, IsHeard, Stands}

-- DISKS THAT TAKE NO PART YET

module _ (c : Shape) (h : ℕ) (deeds : Deeds) (first : ℕ) where
  -- in an epoch before the first one of a disk a core runs
  before_runs : (at : Option ℕ) → IsWhereItIs c h deeds at → is_before at first ≡ true → RunsBefore c h first deeds
  before_runs None is early = absurd (true≢false (sym early))
  before_runs (Some epoch) is early = runs_before c h first epoch deeds is (ltb-true epoch first early)

  -- in another one none does
  before_none : (at : Option ℕ) → IsWhereItIs c h deeds at → is_before at first ≡ false → RunsBefore c h first deeds → ⊥
  before_none None is late runs = runs_nowhere c h first deeds is runs
  before_none (Some epoch) is late runs = runs_not_before c h first epoch deeds is (ltb-false epoch first late) runs

module _ (firsts : List ℕ) (w : Walk) where
  away_runs : is_away firsts w ≡ true → (c : Shape) (h : ℕ) (deeds : Deeds) → LeadsTo c h deeds w → RunsBefore c h (slice_index firsts (call_due w).0) deeds
  away_runs away c h deeds leads = before_runs c h deeds (slice_index firsts (call_due w).0) (where_is w) (where_by w c h deeds leads) away

  here_none : is_away firsts w ≡ false → (c : Shape) (h : ℕ) (deeds : Deeds) → LeadsTo c h deeds w → RunsBefore c h (slice_index firsts (call_due w).0) deeds → ⊥
  here_none here c h deeds leads = before_none c h deeds (slice_index firsts (call_due w).0) (where_is w) (where_by w c h deeds leads) here

not_true : (b : Bool) → (b ≡ true → ⊥) → b ≡ false
not_true true never = absurd (never refl)
not_true false never = refl

-- CALLS THAT WERE HEARD

-- it is the call that was due
made_by : ℕ → Call → Answer → Made
made_by d call answer = record { disk = d; call = call; answer = answer }

x_is : (w : Walk) (x : Made) → (x.disk ≡ (call_due w).0) × (x.call ≡ (call_due w).1) → x ≡ record { disk = (call_due w).0; call = (call_due w).1; answer = x.answer }
unfolding made_by
x_is w x due = ap (λ (d : ℕ). made_by d x.call x.answer) due.0 ∙ ap (λ (c : Call). made_by (call_due w).0 c x.answer) due.1

-- where a task stands as done, so it was
done_where : (WhereDone : Type 0) (task : Option EpochTask) (w : Walk) → Stands WhereDone task w → IsDone w.said → WhereDone
done_where WhereDone task w stands done = elim stands [ inl goes ↦ goes.done done | inr given_up ↦ absurd (subst IsDone given_up.1 done) ]

fresh : (now between : Walk) (x : Made) → IsHeard now x between → IsDone between.said → AreSilent now
fresh now between x is done = done_where (AreSilent now) now.task between is.stands done

module _ {D : Type 0} (gives : D → Call → Answer → D → Type 0) (firsts : List ℕ) where
  -- the host stands so, with these disks
  abbrev at : Walk → List D → Standing D
  at w disks = record { host = w; disks = disks; firsts = firsts }

  module _ (host now between : Walk) (disks given : List D) (before : HasDoneSince gives (at host disks) (at now given) (IsOnWay now now.said)) (x : Made) (is : IsHeard now x between) where
    -- it heard the answer to a call that was made
    heard_made : is_away firsts now ≡ false → (left : List D) → GaveOne gives given x left → HasDoneSince gives (at host disks) (at between left) (IsOnWay between between.said)
    heard_made here left gave =
        heard_one gives (at host disks) (at now given) (at between left) (call_due now) x.answer false refl before refl (λ not. subst (λ (y : Made). GaveOne gives given y left) (x_is now x is.due) gave)
        (λ no. absurd (true≢false (sym no))) (λ not. here_none firsts now here) (λ no. absurd (true≢false (sym no))) is.leads (fresh now between x is)

    -- or that a disk which takes no part yet is lost
    heard_lost : is_away firsts now ≡ true → x.answer ≡ Fault Failed → HasDoneSince gives (at host disks) (at between given) (IsOnWay between between.said)
    heard_lost away gone =
        heard_one gives (at host disks) (at now given) (at between given) (call_due now) x.answer true refl before refl (λ no. absurd (true≢false no)) (λ so. (refl, gone))
        (λ no. absurd (true≢false no)) (λ so. away_runs firsts now away) is.leads (fresh now between x is)

  -- what led to the host before leads on, by all that was heard
  all_done : (host now new : Walk) (disks given left : List D) (heard made : List Made) → HasDoneSince gives (at host disks) (at now given) (IsOnWay now now.said) → AreHeard firsts now heard made new
      → Gave gives given made left → HasDoneSince gives (at host disks) (at new left) (IsOnWay new new.said)
  all_done host now new disks given left [] made before are gave =
      subst (λ (w : Walk). HasDoneSince gives (at host disks) (at w left) (IsOnWay w w.said)) (sym are.1)
      (subst (λ (ds : List D). HasDoneSince gives (at host disks) (at now ds) (IsOnWay now now.said)) (sym (subst (λ (l : List Made). Gave gives given l left) are.0 gave)) before)
  all_done host now new disks given left (x ∷ xs) made before are gave =
      elim are.2 [
        | inl is ↦
            let gave_x : Gave gives given (x ∷ is.1.0) left = subst (λ (l : List Made). Gave gives given l left) is.1.1 gave in
            all_done host are.0 new disks gave_x.0 left xs is.1.0 (heard_made host now are.0 disks given before x are.1 (not_true (is_away firsts now) is.0) gave_x.0 gave_x.1) is.1.2 gave_x.2
        | inr lost ↦ all_done host are.0 new disks given left xs made (heard_lost host now are.0 disks given before x are.1 lost.0 lost.1) lost.2 gave
      ]

-- HOW THE TASK ENDED

-- a task that stands in either way is under way or has none, and ended so
keeps_so : (WhereDone : Type 0) (task : Option EpochTask) (w : Walk) → Stands WhereDone task w → (w.task ≡ None) ⊎ (w.task ≡ task)
keeps_so WhereDone task w stands = elim stands [ inl goes ↦ goes.keeps | inr given_up ↦ inl given_up.0 ]

ends_none : (c : Shape) (h : ℕ) (deeds : Deeds) (task : Option EpochTask) → EndsSo c h deeds task None
ends_none c h deeds task = tt

ends_stand : (WhereDone : Type 0) (task : Option EpochTask) (w : Walk) → Stands WhereDone task w → Ends task w
ends_stand WhereDone task w stands =
    elim stands [
      | inl goes ↦ goes.ends
      | inr given_up ↦ (λ c h deeds leads. subst (λ (said : Option EpochAnswer). EndsSo c h deeds task said) (sym given_up.1) (ends_none c h deeds task))
    ]

-- a host that heard an answer had the task of before
had_task : (task : EpochTask) (o : Option EpochTask) → IsSome o → (o ≡ None) ⊎ (o ≡ Some task) → o ≡ Some task
had_task task None busy either = absurd (true≢false (sym busy))
had_task task (Some other) busy either = elim either [ inl none ↦ absurd cc | inr same ↦ same ]

all_end : (firsts : List ℕ) (task : EpochTask) (old new : Walk) (heard made : List Made) → (old.task ≡ None) ⊎ (old.task ≡ Some task) → Ends (Some task) old → AreHeard firsts old heard made new
    → Ends (Some task) new
all_end firsts task old new [] made keeps ends are = subst (λ (w : Walk). Ends (Some task) w) (sym are.1) ends
all_end firsts task old new (x ∷ xs) made keeps ends are =
    let had : old.task ≡ Some task = had_task task old.task are.1.busy keeps in
    let stands : Stands (AreSilent old) (Some task) are.0 = subst (λ (o : Option EpochTask). Stands (AreSilent old) o are.0) had are.1.stands in
    let keeps_on = keeps_so (AreSilent old) (Some task) are.0 stands in
    let ends_on = ends_stand (AreSilent old) (Some task) are.0 stands in
    elim are.2 [ inl is ↦ all_end firsts task are.0 new xs is.1.0 keeps_on ends_on is.1.2 | inr lost ↦ all_end firsts task are.0 new xs made keeps_on ends_on lost.2 ]

-- A task that began, whose calls were heard until it had ended.
pub calls_work : {D : Type 0} (gives : D → Call → Answer → D → Type 0) → CallsWork gives
calls_work gives task old first new heard made firsts disks left begins are gave ended =
    let since = begun gives (at gives firsts old disks) (at gives firsts first disks) refl refl begins.leads (done_where ⊥ (Some task) first begins.stands) in
    has_worked gives task new.said new.said (at gives firsts old disks) (at gives firsts new left) (all_done gives firsts old first new disks disks left heard made since are gave) begins.rests (λ done. done)
    (all_end firsts task first new heard made (keeps_so ⊥ (Some task) first begins.stands) (ends_stand ⊥ (Some task) first begins.stands) are)
