-- A host begins anew and recovers: by which entries it had stopped, and by which it has told what it learned.
use Rattle.std.specs.Prelude.{IsSome, replicate}
use Rattle.std.proofs.Common.{ℕ, zero, suc, ◌≤◌, ◌≡◌, ◌⊎◌, true≢false, List, [], ◌∷◌, ◌++◌, Option, Some, None, sym, ap, ◌∙◌, subst, inl, inr, arith}
use Rattle.paxos_block.specs.Shape.{Shape}
use Rattle.lock_script.specs.declared.event.Event.{Event}
use Rattle.lock_script.specs.declared.event.Event.TheVariants as script
use Rattle.epoch_deeds.specs.Deeds.{Deeds}
use Rattle.epoch_host.specs.declared.answer.EpochAnswer.{EpochAnswer}
use Rattle.epoch_host.specs.declared.answer.EpochAnswer.TheVariants.{Ack, Recovered, Looked, Beaten, Marked, Refused}
use Rattle.epoch_host.specs.declared.task.EpochTask.{EpochTask}
use Rattle.epoch_host.specs.declared.task.EpochTask.TheVariants.{Recover}
use Rattle.epoch_host.specs.declared.walk.Walk.{Walk}
use Rattle.epoch_host.specs.Ending.{AreSilent, Ends, HasEnded, IsTableOf, TaskGoesOn}
use Rattle.epoch_runs.specs.World.{Entry}
use Rattle.epoch_simulator.specs.Kept.{Kept, IsHost}
use Rattle.epoch_simulator.specs.Doing.{Stops}
use Rattle.epoch_player.specs.declared.happening.Said.{Said}
use Rattle.epoch_player.specs.Happening.{Takes, Undertakes}
use Rattle.epoch_sweep.specs.declared.ending.Recovery.{Recovery}
use Rattle.epoch_sweep.specs.Judging.{IsFound, told_by}
use Rattle.epoch_sweep.specs.Sweeping.{heard, Happen, Recovers}
use Rattle.epoch_sweep.proofs.Running.{same_host}
use Rattle.epochs_at_once.specs.AtOnce.{of_host, deeds_since}
use Rattle.sweep_safety.proofs.Entries.{IsBeginning, with_more, both, led_deeds, stopped_last}
use Rattle.sweep_safety.proofs.Keeping.{Keeps, ended_so, halted, happened, all_happened}

-- A HOST AT WORK

-- all that a host does is to recover
abbrev pub IsRecovering : Kept → (h : ℕ) → Type 0
IsRecovering k h = (w : Walk) × IsHost k h w × ((w.task ≡ None) ⊎ (w.task ≡ Some (Recover 255))) × Ends (Some (Recover 255)) w

-- no task is some
not_some : (task : Option EpochTask) → task ≡ None → IsSome task → ⊥
not_some task none some = true≢false (sym (subst (λ (o : Option EpochTask). IsSome o) none some))

-- a host that has stopped begins
begins_so : (h : ℕ) (old anew begun : Kept) (said : Option Said) → Stops h old anew → Undertakes h (Recover 255) anew begun said → IsRecovering begun h
begins_so h old anew begun said stops (inl begins) = (begins.0.host.after, begins.0.host.is, begins.0.host.so.keeps, begins.0.host.so.ends)
begins_so h old anew begun said stops (inr none) =
    elim none.0 [
      | inl busy ↦
          (let same : busy.0 ≡ stops.host.after = same_host anew h busy.0 stops.host.after busy.1 stops.host.is in
          absurd (not_some busy.0.task (ap (λ (w : Walk). w.task) same ∙ stops.host.so.1) busy.2))
      | inr idle ↦ absurd (let some : 1 ≤ 255 = omega arith in idle.1 some)
    ]

only_this : (task : Option EpochTask) (given : EpochTask) → IsSome task → (task ≡ None) ⊎ (task ≡ Some given) → task ≡ Some given
only_this task given some (inl none) = absurd (not_some task none some)
only_this task given some (inr is) = is

-- it makes a call, and goes on
goes_on : (h : ℕ) (old new : Kept) (said : Option Said) → Takes h old new said → IsRecovering old h → IsRecovering new h
goes_on h old new said (inl idle) at = subst (λ (k : Kept). IsRecovering k h) (sym idle.1.0) at
goes_on h old new said (inr hears) at =
    let host = hears.1.host in
    let some : IsSome host.before.task = subst (λ (w : Walk). IsSome w.task) (same_host old h hears.0.0 host.before hears.0.1 host.was) hears.0.2 in
    let keeps : (host.before.task ≡ None) ⊎ (host.before.task ≡ Some (Recover 255)) =
    subst (λ (w : Walk). (w.task ≡ None) ⊎ (w.task ≡ Some (Recover 255))) (same_host old h at.0 host.before at.1 host.was) at.2 in
    let so : TaskGoesOn (AreSilent host.before) (Some (Recover 255)) host.after =
    subst (λ (o : Option EpochTask). TaskGoesOn (AreSilent host.before) o host.after) (only_this host.before.task (Recover 255) some keeps) host.so in
    (host.after, host.is, so.keeps, so.ends)

-- so many times
works_on : (c : Shape) (h steps : ℕ) (old new : Kept) (told : List Said) → Happen c (replicate steps (script.Step h)) old new told → IsRecovering old h → IsRecovering new h
works_on c h zero old new told (same, none) at = subst (λ (k : Kept). IsRecovering k h) (sym same) at
works_on c h (suc steps) old new told (mid, said, happens, (rest, more, whole)) at = works_on c h steps mid new rest more (goes_on h old mid said happens at)

-- what it told
told_is : (answer : Option EpochAnswer) (upto : ℕ) → told_by answer ≡ Some upto → answer ≡ Some (Recovered upto)
told_is None upto is = absurd (let clash : None ≡ Some upto = is in cc)
told_is (Some (Ack place reply)) upto is = absurd (let clash : None ≡ Some upto = is in cc)
told_is (Some (Recovered other)) upto is =
    let whole : Some other ≡ Some upto = is in
    let same : other ≡ upto = cc in
    ap (λ (n : ℕ). Some (Recovered n)) same
told_is (Some (Looked other)) upto is = absurd (let clash : None ≡ Some upto = is in cc)
told_is (Some (Beaten host)) upto is = absurd (let clash : None ≡ Some upto = is in cc)
told_is (Some (Marked count)) upto is = absurd (let clash : None ≡ Some upto = is in cc)
told_is (Some (Refused refusal)) upto is = absurd (let clash : None ≡ Some upto = is in cc)

-- A RECOVERY AMONG ALL ENTRIES

-- Behind these entries a host stopped, so that it had done nothing since; and further on it has told what it recovered, and shows this table.
pub record HasTold (c : Shape) (before all : List Entry) (h : ℕ) (recovery : Recovery) : Type 0 where
  pub anew : List Entry
  pub done : List Entry
  pub since : IsBeginning before anew
  pub until : IsBeginning anew done
  pub within : IsBeginning done all
  pub stopped : deeds_since (of_host h anew) ≡ []
  pub tells : HasEnded c h (deeds_since (of_host h done)) (Recover 255) (Recovered recovery.upto)
  pub shows : (other : ℕ) × IsTableOf c h (deeds_since (of_host h done)) other recovery.table

-- so it is if it answered
abbrev pub HasToldIf : Shape → (before all : List Entry) → (h : ℕ) → Option Recovery → Type 0
HasToldIf c before all h None = Unit {0}
HasToldIf c before all h (Some recovery) = HasTold c before all h recovery

-- More entries lead to what is kept, and by them, and any further ones, it is so.
pub record HasRecoveredBy (c : Shape) (before : List Entry) (h : ℕ) (new : Kept) (found : Option Recovery) : Type 0 where
  pub events : List Event
  pub all : List Entry
  pub told : List Said
  pub begins : IsBeginning before all
  pub keeps : Keeps c events all told new
  pub so : (further : List Entry) → IsBeginning all further → HasToldIf c before further h found

module _ (c : Shape) (h : ℕ) (events : List Event) (before anew done : List Entry) (k : Kept) (told : List Said) (keeps : Keeps c events done told k) (since : IsBeginning before anew) (until : IsBeginning anew done) where
  told_so : deeds_since (of_host h anew) ≡ [] → IsRecovering k h → (found : Option Recovery) → IsFound k h found → (all : List Entry) → IsBeginning done all → HasToldIf c before all h found
  told_so stopped at None is all within = tt
  told_so stopped at (Some recovery) is all within =
      let table = is.1 done keeps.led in
      record {
        anew = anew;
        done = done;
        since = since;
        until = until;
        within = within;
        stopped = stopped;
        tells = ended_so c h done k keeps.led at.0 (Recover 255) (Recovered recovery.upto) keeps.shape at.1 at.3 (told_is at.0.said recovery.upto (is.0 at.0 at.1));
        shows = (
          table.0,
          subst (λ (l : Deeds). IsTableOf c h l table.0 recovery.table) (led_deeds h done k keeps.led)
              (subst (λ (x : Shape). IsTableOf x h (keeps.led.world.deeds h) table.0 recovery.table) keeps.shape table.1),
        );
      }

pub recovered : (c : Shape) (h : ℕ) (old new : Kept) (found : Option Recovery) (events : List Event) (before : List Entry) (told : List Said) → Recovers c h old new found → Keeps c events before told old
    → HasRecoveredBy c before h new found
recovered c h old new found events before told r keeps =
    let stops : Stops h old r.anew = r.halts.0 in
    let ends = stops.leads before keeps.led in
    let anew : List Entry = before ++ ends.0 ∷ [] in
    let stopped : List Said = told ++ heard r.said.0 in
    let halts : Keeps c events anew stopped r.anew = halted c events old r.anew r.said.0 before told keeps h _ stops.host stops.host.so.1 ends.0 ends.2 r.halts.1 in
    let begun = happened c (script.Recover h 255) r.anew r.begun r.said.1 events anew stopped r.begins halts in
    let given : List Event = events ++ script.Recover h 255 ∷ [] in
    let steps : List Event = replicate r.works.steps (script.Step h) in
    let works = all_happened c steps r.begun new r.works.told given (anew ++ begun.0) (stopped ++ heard r.said.1) r.works.happen begun.1 in
    let done : List Entry = (anew ++ begun.0) ++ works.0 in
    let since : IsBeginning before anew = with_more before (ends.0 ∷ []) in
    let until : IsBeginning anew done = both anew (anew ++ begun.0) done (with_more anew begun.0) (with_more (anew ++ begun.0) works.0) in
    record {
      events = given ++ steps;
      all = done;
      told = (stopped ++ heard r.said.1) ++ r.works.told;
      begins = both before anew done since until;
      keeps = works.1;
      so = told_so c h (given ++ steps) before anew done new ((stopped ++ heard r.said.1) ++ r.works.told) works.1 since until (stopped_last h before ends.0 ends.1)
          (works_on c h r.works.steps r.begun new r.works.told r.works.happen (begins_so h old r.anew r.begun r.said.1 stops r.begins)) found r.is;
    }
