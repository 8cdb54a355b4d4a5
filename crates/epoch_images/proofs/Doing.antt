-- What a host and its disks do, one thing after another, and what is left of it between tasks.
use Rattle.std.specs.Prelude.{is_none, slice_index, IsSome, IfOk, IfErr, IsErrAnd, Result, Ok, Err}
use Rattle.std.proofs.Common.{ℕ, ◌≡◌, ◌<◌, ◌≤◌, arith, Bool, true, false, List, [], ◌∷◌, ◌++◌, length, slice_get, Option, Some, None, refl, sym, ◌∙◌, ap, subst, true≢false, ◌⊎◌, inl, inr}
use Rattle.std.proofs.lemmas.List.{append_assoc, append-nil}
use Rattle.disk.specs.declared.fault.DiskFault.TheVariants.{Failed}
use Rattle.disk.specs.Disk.{Call, Answer, Fault}
use Rattle.paxos_block.specs.Shape.{Shape}
use Rattle.standings.specs.Past as past
use Rattle.standings.specs.Past.{made}
use Rattle.epoch_deeds.specs.Deeds.{Deeds}
use Rattle.attempt.specs.declared.refusal.Refusal.TheVariants.{Outrun}
use Rattle.epoch_host.specs.declared.answer.EpochAnswer.{EpochAnswer}
use Rattle.epoch_host.specs.declared.answer.EpochAnswer.TheVariants.{Ack, Recovered, Looked, Beaten, Marked, Refused}
use Rattle.epoch_host.specs.declared.task.EpochTask.{EpochTask}
use Rattle.epoch_host.specs.declared.task.EpochTask.TheVariants.{Submit, Recover, Look, Beat, Mark}
use Rattle.epoch_host.specs.declared.walk.Walk.{Walk}
use Rattle.host.specs.Host.{Memory, Stopped, Running}
use Rattle.epoch_host.specs.Ending.{AreIdle, AreSilent, AreSilentBy, EndsSo, HasEnded, IsDone, IsWhereItIs, TableIsThere}
use Rattle.epoch_host.specs.Leading.{LeadsTo, GoesOn, MakesAndGoesOn, WalksBy, WalksOn}
use Rattle.epoch_host.specs.Walking.{IsSame, call_due}
use Rattle.dlm_images.specs.Operations.{Made, Gave, GaveOne}
use Rattle.epoch_images.specs.declared.fault.EpochFault.{EpochFault}
use Rattle.epoch_images.specs.declared.fault.EpochFault.TheVariants.{NoMemory}
use Rattle.epoch_images.specs.Working.{Standing, DidMore, HasDoneSince, HasWorked, IsKnown, IsOver, MayEnd, Rests, RunsBefore, WasSilent, room_of, said_by, said_of}
use Rattle.epoch_images.proofs.Deeds.{did_as, did_goes, did_makes, did_then, did_without}

-- what is so of a host by what it did before, and by all that it did
abbrev pub Sort : Type 1
Sort = Shape → (h : ℕ) → (before all : Deeds) → Type 0

-- as that this leads to it, and where a task was done, a core said so since then
abbrev pub IsOnWay : Walk → Option EpochAnswer → Sort
IsOnWay w said c h before all = LeadsTo c h all w × (IsDone said → WasSilent c h before all)

-- a host that is not idle has a task
pub is_busy : (o : Option EpochTask) → is_none o ≡ false → IsSome o
is_busy None is = absurd (true≢false is)
is_busy (Some task) is = refl

-- and an idle one has none
pub is_idle : (o : Option EpochTask) → is_none o ≡ true → o ≡ None
is_idle None is = refl
is_idle (Some task) is = absurd (true≢false (sym is))

-- its task is the one that it had, until it has none
pub has_task : (task : EpochTask) (o : Option EpochTask) → (o ≡ None) ⊎ (o ≡ Some task) → is_none o ≡ false → o ≡ Some task
has_task task o either busy = elim either [ inl none ↦ absurd (true≢false (sym (ap is_none none) ∙ busy)) | inr same ↦ same ]

pub keeps_then : (task : EpochTask) (old new : Option EpochTask) → old ≡ Some task → (new ≡ None) ⊎ (new ≡ old) → (new ≡ None) ⊎ (new ≡ Some task)
keeps_then task old new had either = elim either [ inl none ↦ inl none | inr same ↦ inr (same ∙ had) ]

-- HOW A TASK ENDS

pub fits : (c : Shape) (h : ℕ) (deeds : Deeds) (task : EpochTask) (answer : EpochAnswer) → HasEnded c h deeds task answer → MayEnd task answer
fits c h deeds (Submit command tries) (Ack place reply) ended = tt
fits c h deeds (Recover tries) (Recovered upto) ended = tt
fits c h deeds Look (Looked upto) ended = tt
fits c h deeds Beat (Beaten host) ended = tt
fits c h deeds (Mark place) (Marked count) ended = tt
fits c h deeds task (Refused refusal) ended = tt
fits c h deeds task other ended = absurd ended

-- any task may be refused as outrun
pub outrun_ends : (c : Shape) (h : ℕ) (deeds : Deeds) (task : EpochTask) → HasEnded c h deeds task (Refused Outrun)
outrun_ends c h deeds (Submit command tries) = inr tt
outrun_ends c h deeds (Recover tries) = inr tt
outrun_ends c h deeds Look = inr tt
outrun_ends c h deeds Beat = inr tt
outrun_ends c h deeds (Mark place) = inr tt

-- a task that is given up for memory ends without a word
pub no_memory : (result : Result EpochAnswer EpochFault) → IsErrAnd result (λ given. given ≡ NoMemory) → said_of result ≡ None
no_memory (Ok answer) is = absurd is
no_memory (Err given) is = ap said_by is

-- where it has told how much is learned, the table is there
pub there_so : (w : Walk) (result : Result EpochAnswer EpochFault) → TableIsThere w (said_of result) → IfOk result (λ answer. TableIsThere w (Some answer))
there_so w (Ok answer) there = there
there_so w (Err fault) there = tt

-- CALLS OF A TASK

-- a disk gave one answer more
gave_more : {D : Type 0} (gives : D → Call → Answer → D → Type 0) (old now new : List D) (xs : List Made) (x : Made) → Gave gives old xs now → GaveOne gives now x new → Gave gives old (xs ++ x ∷ []) new
gave_more gives old now new [] x gave last = (new, subst (λ ds. GaveOne gives ds x new) gave last, refl)
gave_more gives old now new (y ∷ ys) x gave last = (gave.0, gave.1, gave_more gives gave.0 now new ys x gave.2 last)

-- nothing is done where a task is refused
pub refused_way : (c : Shape) (h : ℕ) (before all : Deeds) (w : Walk) → GoesOn c h all (λ after. LeadsTo c h after w) → GoesOn c h all (IsOnWay w (Some (Refused Outrun)) c h before)
refused_way c h before all w on = record { more = on.more; none = on.none; may = on.may; so = (on.so, λ done. absurd done) }

-- what is said by a call, was said since
makes_since : (c : Shape) (h : ℕ) (before early : Deeds) (d : ℕ) (now : past.Made) (w : Walk) → (IsDone w.said → AreSilentBy c h (before ++ early)) → MakesAndGoesOn c h (before ++ early) d now (λ all. LeadsTo c h all w)
    → MakesAndGoesOn c h (before ++ early) d now (IsOnWay w w.said c h before)
makes_since c h before early d now w silent by =
    record {
      deed = by.deed;
      makes = by.makes;
      may = by.may;
      on = record {
        more = by.on.more;
        none = by.on.none;
        may = by.on.may;
        so = (
          by.on.so,
          λ done. record { early = early; later = by.deed ∷ by.on.more; is = append_assoc (before ++ early) (by.deed ∷ []) by.on.more; silent = silent done },
        );
      };
    }

module _ {D : Type 0} (gives : D → Call → Answer → D → Type 0) where
  -- it begins a task
  pub begun : (old new : Standing D) → new.disks ≡ old.disks → new.firsts ≡ old.firsts → WalksOn old.host new.host → (IsDone new.host.said → ⊥) → HasDoneSince gives old new (IsOnWay new.host new.host.said)
  begun old new same same_firsts walks silent =
      record {
        made = [];
        gave = same;
        firsts = same_firsts;
        leads = λ c h deeds is.
            let on : GoesOn c h deeds (λ after. LeadsTo c h after new.host) = walks c h deeds is in
            did_goes c h old.firsts deeds (IsOnWay new.host new.host.said c h deeds) (record { more = on.more; none = on.none; may = on.may; so = (on.so, λ done. absurd (silent done)) });
      }

  module _ (old now new : Standing D) (IsSo IsThen : Sort) (before : HasDoneSince gives old now IsSo) where
    -- and then a call that is made
    pub done_more : (due : ℕ × Call) (answer : Answer) → GaveOne gives now.disks (record { disk = due.0; call = due.1; answer = answer }) new.disks → new.firsts ≡ now.firsts
        → ((c : Shape) (h : ℕ) (deeds more : Deeds) → IsSo c h deeds (deeds ++ more) → RunsBefore c h (slice_index old.firsts due.0) (deeds ++ more) → ⊥)
        → ((c : Shape) (h : ℕ) (deeds more : Deeds) → IsSo c h deeds (deeds ++ more) → MakesAndGoesOn c h (deeds ++ more) due.0 (made due.1 answer) (IsThen c h deeds)) → HasDoneSince gives old new IsThen
    done_more due answer gave same part makes =
        let x : Made = record { disk = due.0; call = due.1; answer = answer } in
        record {
          made = before.made ++ x ∷ [];
          gave = gave_more gives old.disks now.disks new.disks before.made x before.gave gave;
          firsts = same ∙ before.firsts;
          leads = λ c h deeds is.
              did_then c h old.firsts deeds (IsSo c h deeds) (IsThen c h deeds) before.made (before.leads c h deeds is) (x ∷ [])
              (λ more so. did_makes c h old.firsts (deeds ++ more) (IsThen c h deeds) due.0 (made due.1 answer) (makes c h deeds more so) (part c h deeds more so));
        }

    -- and then one that is not made, since its disk takes no part yet
    pub done_without : (due : ℕ × Call) (answer : Answer) → new.disks ≡ now.disks → answer ≡ Fault Failed → new.firsts ≡ now.firsts
        → ((c : Shape) (h : ℕ) (deeds more : Deeds) → IsSo c h deeds (deeds ++ more) → RunsBefore c h (slice_index old.firsts due.0) (deeds ++ more))
        → ((c : Shape) (h : ℕ) (deeds more : Deeds) → IsSo c h deeds (deeds ++ more) → MakesAndGoesOn c h (deeds ++ more) due.0 (made due.1 answer) (IsThen c h deeds)) → HasDoneSince gives old new IsThen
    done_without due answer same gone same_firsts early makes =
        record {
          made = before.made;
          gave = subst (λ (ds : List D). Gave gives old.disks before.made ds) (sym same) before.gave;
          firsts = same_firsts ∙ before.firsts;
          leads = λ c h deeds is.
              subst (λ (l : List Made). DidMore c h old.firsts deeds l (IsThen c h deeds)) (append-nil before.made)
              (did_then c h old.firsts deeds (IsSo c h deeds) (IsThen c h deeds) before.made (before.leads c h deeds is) []
              (λ more so. did_without c h old.firsts (deeds ++ more) (IsThen c h deeds) due.0 (made due.1 answer) (makes c h deeds more so) (early c h deeds more so) gone));
        }

    -- and then something with no call
    pub done_and_goes : new.disks ≡ now.disks → new.firsts ≡ now.firsts → ((c : Shape) (h : ℕ) (deeds more : Deeds) → IsSo c h deeds (deeds ++ more) → GoesOn c h (deeds ++ more) (IsThen c h deeds)) → HasDoneSince gives old new IsThen
    done_and_goes same same_firsts on =
        record {
          made = before.made;
          gave = subst (λ (ds : List D). Gave gives old.disks before.made ds) (sym same) before.gave;
          firsts = same_firsts ∙ before.firsts;
          leads = λ c h deeds is.
              subst (λ (l : List Made). DidMore c h old.firsts deeds l (IsThen c h deeds)) (append-nil before.made)
              (did_then c h old.firsts deeds (IsSo c h deeds) (IsThen c h deeds) before.made (before.leads c h deeds is) []
              (λ more so. did_goes c h old.firsts (deeds ++ more) (IsThen c h deeds) (on c h deeds more so)));
        }

    -- and then nothing
    pub done_as : new.disks ≡ now.disks → new.firsts ≡ now.firsts → ((c : Shape) (h : ℕ) (deeds : Deeds) → LeadsTo c h deeds old.host → (all : Deeds) → IsSo c h deeds all → IsThen c h deeds all) → HasDoneSince gives old new IsThen
    done_as same same_firsts as_then =
        record {
          made = before.made;
          gave = subst (λ (ds : List D). Gave gives old.disks before.made ds) (sym same) before.gave;
          firsts = same_firsts ∙ before.firsts;
          leads = λ c h deeds is. did_as c h old.firsts deeds (IsSo c h deeds) (IsThen c h deeds) before.made (before.leads c h deeds is) (as_then c h deeds is);
        }

  -- A call of the task, heard with its answer: its disk gave that; or the call was not made, since the disk takes no part yet.
  pub heard_one : (old now new : Standing D) (due : ℕ × Call) (answer : Answer) (lost : Bool) → due ≡ call_due now.host → HasDoneSince gives old now (IsOnWay now.host now.host.said) → new.firsts ≡ now.firsts
      → (lost ≡ false → GaveOne gives now.disks (record { disk = due.0; call = due.1; answer = answer }) new.disks) → (lost ≡ true → (new.disks ≡ now.disks) × (answer ≡ Fault Failed))
      → (lost ≡ false → (c : Shape) (h : ℕ) (deeds : Deeds) → LeadsTo c h deeds now.host → RunsBefore c h (slice_index old.firsts due.0) deeds → ⊥)
      → (lost ≡ true → (c : Shape) (h : ℕ) (deeds : Deeds) → LeadsTo c h deeds now.host → RunsBefore c h (slice_index old.firsts due.0) deeds)
      → WalksBy now.host new.host (call_due now.host) answer → (IsDone new.host.said → AreSilent now.host) → HasDoneSince gives old new (IsOnWay new.host new.host.said)
  heard_one old now new due answer lost is before same gave gone part early walks fresh = by_either lost gave gone part early
    where
      makes : (c : Shape) (h : ℕ) (deeds more : Deeds) → IsOnWay now.host now.host.said c h deeds (deeds ++ more) → MakesAndGoesOn c h (deeds ++ more) due.0 (made due.1 answer) (IsOnWay new.host new.host.said c h deeds)
      makes c h deeds more so =
          subst (λ (p : ℕ × Call). MakesAndGoesOn c h (deeds ++ more) p.0 (made p.1 answer) (IsOnWay new.host new.host.said c h deeds)) (sym is)
          (makes_since c h deeds more (call_due now.host).0 (made (call_due now.host).1 answer) new.host (λ done. fresh done c h (deeds ++ more) so.0) (walks c h (deeds ++ more) so.0))

      by_either : (b : Bool) → (b ≡ false → GaveOne gives now.disks (record { disk = due.0; call = due.1; answer = answer }) new.disks) → (b ≡ true → (new.disks ≡ now.disks) × (answer ≡ Fault Failed))
          → (b ≡ false → (c : Shape) (h : ℕ) (deeds : Deeds) → LeadsTo c h deeds now.host → RunsBefore c h (slice_index old.firsts due.0) deeds → ⊥)
          → (b ≡ true → (c : Shape) (h : ℕ) (deeds : Deeds) → LeadsTo c h deeds now.host → RunsBefore c h (slice_index old.firsts due.0) deeds)
          → HasDoneSince gives old new (IsOnWay new.host new.host.said)
      by_either false gave gone part early =
          done_more old now new (IsOnWay now.host now.host.said) (IsOnWay new.host new.host.said) before due answer (gave refl) same
          (λ c h deeds more so. part refl c h (deeds ++ more) so.0) makes
      by_either true gave gone part early =
          done_without old now new (IsOnWay now.host now.host.said) (IsOnWay new.host new.host.said) before due answer (gone refl).0 (gone refl).1 same
          (λ c h deeds more so. early refl c h (deeds ++ more) so.0) makes

  -- A TASK IS OVER

  -- where it is told as done, it was done
  pub has_worked : (task : EpochTask) (said told : Option EpochAnswer) (old new : Standing D) → HasDoneSince gives old new (IsOnWay new.host told) → AreIdle old.host → (IsDone said → IsDone told)
      → ((c : Shape) (h : ℕ) (deeds : Deeds) → LeadsTo c h deeds new.host → EndsSo c h deeds (Some task) said) → HasWorked gives task said old new
  has_worked task said told old new done idle so ends =
      done_as old new new (IsOnWay new.host told) (λ c h before all. IsOver c h before all task said new.host) done refl refl
      (λ c h deeds is all led. record { leads = led.0; ended = ends c h all led.0; idle = idle c h deeds is; silent = λ was. led.1 (so was) })

  -- on the disks that were given and are kept
  pub worked_as : (task : EpochTask) (said : Option EpochAnswer) (host new : Walk) (disks given left kept : List D) (firsts : List ℕ) → given ≡ disks → kept ≡ left
      → HasWorked gives task said (record { host = host; disks = given; firsts = firsts }) (record { host = new; disks = left; firsts = firsts })
      → HasWorked gives task said (record { host = host; disks = disks; firsts = firsts }) (record { host = new; disks = kept; firsts = firsts })
  worked_as task said host new disks given left kept firsts given_is kept_is worked =
      record {
        made = worked.made;
        gave = subst (λ (ds : List D). Gave gives ds worked.made kept) given_is (subst (λ (ds : List D). Gave gives given worked.made ds) (sym kept_is) worked.gave);
        firsts = refl;
        leads = worked.leads;
      }

  -- what a caller is told of it
  module _ (task : EpochTask) (old new : Standing D) where
    pub ended_so : (result : Result EpochAnswer EpochFault) → HasWorked gives task (said_of result) old new → IfOk result (λ answer. HasWorked gives task (Some answer) old new)
    ended_so (Ok answer) worked = worked
    ended_so (Err fault) worked = tt

    pub refused_so : (result : Result EpochAnswer EpochFault) → HasWorked gives task (said_of result) old new → IfErr result (λ fault. HasWorked gives task (said_by fault) old new)
    refused_so (Ok answer) worked = tt
    refused_so (Err fault) worked = worked

    pub fits_so : IsKnown old.host → (result : Result EpochAnswer EpochFault) → HasWorked gives task (said_of result) old new → IfOk result (MayEnd task)
    fits_so known (Ok answer) worked =
        let did : DidMore known.shape known.host old.firsts known.deeds worked.made (λ after. IsOver known.shape known.host known.deeds after task (Some answer) new.host) = worked.leads known.shape known.host known.deeds known.leads in
        fits known.shape known.host (known.deeds ++ did.more) task answer did.so.ended
    fits_so known (Err fault) worked = tt

  -- BETWEEN TASKS

  pub known_then : (task : EpochTask) (said : Option EpochAnswer) (old new : Standing D) → IsKnown old.host → HasWorked gives task said old new → IsKnown new.host
  known_then task said old new known worked =
      let did : DidMore known.shape known.host old.firsts known.deeds worked.made (λ after. IsOver known.shape known.host known.deeds after task said new.host) = worked.leads known.shape known.host known.deeds known.leads in
      record { shape = known.shape; host = known.host; deeds = known.deeds ++ did.more; leads = did.so.leads }

  pub rests_then : (size : D → ℕ) (config : Shape) (task : EpochTask) (said : Option EpochAnswer) (old new : Standing D) → Rests size config old → HasWorked gives task said old new
      → new.host.task ≡ None → IsSame old.host new.host → length new.disks ≡ length old.disks → ((k : ℕ) (d : D) → slice_get new.disks k ≡ Some d → room_of old.host.config ≤ size d)
      → Rests size config new
  rests_then size config task said old new rests worked idle same as_many large =
      record {
        known = known_then task said old new rests.known worked;
        idle = idle;
        config_is = rests.config_is ∙ sym same.config;
        as_many = as_many ∙ rests.as_many ∙ ap (λ (c : Shape). c.disks) (sym same.config);
        large = λ k d is. subst (λ (c : Shape). room_of c ≤ size d) (sym same.config) (large k d is);
      }

-- a host that is started rests
pub rests_at_first : {D : Type 0} (size : D → ℕ) (config : Shape) (host : ℕ) (s : Standing D) → LeadsTo config host [] s.host → s.host.task ≡ None → s.host.config ≡ config → length s.disks ≡ config.disks
    → ((k : ℕ) (d : D) → slice_get s.disks k ≡ Some d → room_of config ≤ size d) → Rests size config s
rests_at_first size config host s leads idle of as_many large =
    record {
      known = record { shape = config; host = host; deeds = []; leads = leads };
      idle = idle;
      config_is = sym of;
      as_many = as_many ∙ ap (λ (c : Shape). c.disks) (sym of);
      large = λ k d is. subst (λ (c : Shape). room_of c ≤ size d) (sym of) (large k d is);
    }

-- one after the other
pub same_then : (old now new : Walk) → IsSame old now → IsSame now new → IsSame old new
same_then old now new first then = record { host = then.host ∙ first.host; config = then.config ∙ first.config }

-- WHERE IT IS

not_stopped : (memory : Memory) → Stopped ≡ Running memory → ⊥
not_stopped memory is = absurd (cc)

-- the core that runs is of the epoch where the host is, which is before another one or is not
pub runs_before : (c : Shape) (h first epoch : ℕ) (deeds : Deeds) → IsWhereItIs c h deeds (Some epoch) → epoch < first → RunsBefore c h first deeds
runs_before c h first epoch deeds is early = record { epoch = epoch; memory = is.0.0; runs = is.0.1; before = early }

pub runs_not_before : (c : Shape) (h first epoch : ℕ) (deeds : Deeds) → IsWhereItIs c h deeds (Some epoch) → first ≤ epoch → RunsBefore c h first deeds → ⊥
runs_not_before c h first epoch deeds is late early =
    not_stopped early.memory (sym (is.1 early.epoch (λ same. let below = early.before in omega (arith, same, below, late))) ∙ early.runs)

-- one that is nowhere has no core
pub runs_nowhere : (c : Shape) (h first : ℕ) (deeds : Deeds) → IsWhereItIs c h deeds None → RunsBefore c h first deeds → ⊥
runs_nowhere c h first deeds is early = not_stopped early.memory (sym (is early.epoch) ∙ early.runs)
