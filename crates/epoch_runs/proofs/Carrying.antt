-- What carries a table over is one list for all hosts, it is submitted first, and it has room.
use Rattle.std.specs.Prelude.{slice_get, Option}
use Rattle.std.proofs.Common.{ℕ, zero, suc, ◌≡◌, ◌+◌, ◌≤◌, false, Some, None, List, [], length, sym, subst, ap, ◌∙◌, inl, inr}
use Rattle.lock_command.specs.declared.command.Command.{Command}
use Rattle.lock_command.specs.Command.{is_submittable}
use Rattle.lock_table.specs.declared.clients.TheConstants.{CLIENTS}
use Rattle.lock_command.specs.declared.record.TheConstants.{LOCKS}
use Rattle.lock_table.specs.Apply.{table_after}
use Rattle.lock_table.specs.Carrying.{carried_over}
use Rattle.lock_table.specs.Picture.{IsPictureOf}
use Rattle.lock_table.proofs.Unique.{one_shown}
use Rattle.paxos_block.specs.Shape.{Shape}
use Rattle.host.specs.Host.{Attempts, Memory, Running, learned_of}
use Rattle.world.specs.Entry.{Filled}
use Rattle.world.specs.Headline.{prefix_at}
use Rattle.world_safety.proofs.Claims.Renewing.{full_logs_are_final}
use Rattle.endless.specs.Headline.{learned_in, CarriesInto, SubmitsWhatIsDue}
use Rattle.endless.specs.Headline as keeping
use Rattle.endless.specs.Lived.{Lived, part, now}
use Rattle.endless.proofs.Alike.{AreAsRuns}
use Rattle.endless.proofs.Logs.{carried_by_not}
use Rattle.endless.proofs.Other.{long_epochs_have_room}
use Rattle.epoch_deeds.specs.Knowing.{HasLearned, Carries, IsDue, MaySubmit, SubmitsBy}
use Rattle.epoch_deeds.specs.Knowing as knowing
use Rattle.epoch_runs.specs.Living.{lived_of, place_of, deeds_from}
use Rattle.epoch_runs.specs.Submitting.{SubmitsByKnowing, AllSubmitByKnowing}
use Rattle.epoch_runs.specs.World.{Entry, no_deeds, Crashing, Goes}
use Rattle.epoch_runs.proofs.Due.{calls_are_due}
use Rattle.epoch_runs.proofs.Places.{core_place}
use Rattle.epoch_runs.proofs.Submitting.{what_is_due}

-- WHAT WAS LEARNED WHOLE

module _ (crashing : Crashing) (c : Shape) (entries : List Entry) (goes : Goes crashing c entries) where
  -- what a host had learned of an epoch is what it has learned there at some place
  pub learned_place : (j h e : ℕ) (learned : List Command) → HasLearned c h e (deeds_from no_deeds j entries h) learned → (i : ℕ) × (learned_in c (lived_of c entries) i e h ≡ learned)
  learned_place j h e learned has =
      let there = core_place crashing c entries goes j h has.before has.behind has.is in
      (place_of c entries there.0, ap learned_of (there.2 e ∙ has.runs) ∙ sym has.told)

  -- so what it carries over is what carries that table over
  pub carries_into : (j h e : ℕ) (over : List Command) → Carries c h e (deeds_from no_deeds j entries h) over → CarriesInto c (lived_of c entries) e over
  carries_into j h zero over is = is
  carries_into j h (suc e) over (learned, shown, has, pictured, is) =
      let there = learned_place j h e learned has in (
        there.0,
        h,
        shown,
        ap (λ (l : List Command). length l) there.1 ∙ has.whole,
        subst (λ (l : List Command). IsPictureOf shown (table_after l)) (sym there.1) pictured,
        is,
      )

  -- RUNS

  -- where each epoch is as a run, also as one whose disks tell other boot numbers
  module _ (as_runs : AreAsRuns c (lived_of c entries)) where
    abbrev lived : List Lived
    lived = lived_of c entries

    abbrev run : ℕ → List Filled
    run = as_runs.run

    learned_run : (e i h : ℕ) → prefix_at c (run e) i h ≡ prefix_at c (part e lived) i h
    learned_run e i h = (as_runs.like e i h).learned

    -- of an epoch that two have learned whole they have learned the same
    whole_same : (e i j g h : ℕ) → length (learned_in c lived i e g) ≡ c.slots → length (learned_in c lived j e h) ≡ c.slots → learned_in c lived i e g ≡ learned_in c lived j e h
    whole_same e i j g h one two =
        let first = learned_run e (now e i lived) g in
        let second = learned_run e (now e j lived) h in
        sym first
        ∙ full_logs_are_final c (run e) (as_runs.is e) (now e i lived) (now e j lived) g h (ap (λ (l : List Command). length l) first ∙ one) (ap (λ (l : List Command). length l) second ∙ two)
        ∙ second

    over_same : (e : ℕ) (over other : List Command) → CarriesInto c lived e over → CarriesInto c lived e other → over ≡ other
    over_same zero over other one two = one ∙ sym two
    over_same (suc e) over other (i, h, shown, full, pictured, is) (j, g, seen, whole, drawn, also) =
        let same : learned_in c lived j e g ≡ learned_in c lived i e h = whole_same e j i g h whole full in
        let there : IsPictureOf seen (table_after (learned_in c lived i e h)) = subst (λ (l : List Command). IsPictureOf seen (table_after l)) same drawn in
        is ∙ ap carried_over (one_shown (table_after (learned_in c lived i e h)) shown seen pictured there) ∙ sym also

    -- no client may ask for it
    carried : (e : ℕ) (over : List Command) → CarriesInto c lived e over → (k : ℕ) (wanted : Command) → slice_get over k ≡ Some wanted → is_submittable wanted ≡ false
    carried zero over into k wanted is = absurd (let none : slice_get [] k ≡ Some wanted = subst (λ (l : List Command). slice_get l k ≡ Some wanted) into is in cc)
    carried (suc e) over (i, h, shown, full, pictured, same) k wanted is =
        carried_by_not (λ d. shown) (suc e) k wanted (subst (λ (l : List Command). slice_get l k ≡ Some wanted) same is)

    -- WHO SUBMITS

    due_same : (o : Option Command) (command : Command) → IsDue o command → keeping.IsDue o command
    due_same None command is = is
    due_same (Some wanted) command is = is

    by_knowing : (e : ℕ) (over : List Command) → CarriesInto c lived e over → (j h : ℕ) (learned : List Command) (command : Command) → MaySubmit c h e (deeds_from no_deeds j entries h) learned command → SubmitsByKnowing over learned command
    by_knowing e over into j h learned command (inl (own, carries, due)) =
        inl (subst (λ (l : List Command). keeping.IsDue (slice_get l (length learned)) command) (over_same e own over (carries_into j h e own carries) into) (due_same (slice_get own (length learned)) command due))
    by_knowing e over into j h learned command (inr clients) = inr clients

    submits_so : (e : ℕ) (over : List Command) → CarriesInto c lived e over → AllSubmitByKnowing c (run e) over
    submits_so e over into i h memory doing command called running does operation =
        let here = (as_runs.like e i h).did memory doing running does in
        let due = calls_are_due crashing c entries goes e i h (as_runs.called e i h called) in
        let core : Running here.0 ≡ Running due.due.memory = sym here.2 ∙ due.same ∙ due.due.runs in
        let same : here.0 ≡ due.due.memory = cc in
        let doing_same : due.due.memory.doing ≡ Some (Attempts here.1) = ap (λ (m : Memory). m.doing) (sym same) ∙ here.4 in
        let by : knowing.SubmitsWhatIsDue c h e (deeds_from no_deeds due.entry entries h) due.due.memory.learned (Some (Attempts here.1)) =
        subst (knowing.SubmitsWhatIsDue c h e (deeds_from no_deeds due.entry entries h) due.due.memory.learned) doing_same due.due.submits in
        let may : MaySubmit c h e (deeds_from no_deeds due.entry entries h) due.due.memory.learned command =
        subst (SubmitsBy c h e (deeds_from no_deeds due.entry entries h) due.due.memory.learned) (here.5 ∙ operation) by in
        subst (λ (l : List Command). SubmitsByKnowing over l command) (ap (λ (m : Memory). m.learned) (sym same) ∙ here.3) (by_knowing e over into due.entry h due.due.memory.learned command may)

    -- so each submits what is due
    pub carries_first : (e : ℕ) (over : List Command) → CarriesInto c lived e over → SubmitsWhatIsDue c (part e lived) over
    carries_first e over into i h memory doing command called running does operation =
        let there = (as_runs.like e i h).does memory doing running does in
        let due = what_is_due c (run e) over (as_runs.is e) (as_runs.fresh e) (carried e over into) (submits_so e over into) i h there.0 there.1 command
        (as_runs.calls e i h called) there.2 there.4 (there.5 ∙ operation) in
        subst (λ (l : List Command). keeping.IsDue (slice_get over (length l)) command) there.3 due

    pub has_room : LOCKS + CLIENTS ≤ c.slots → (e : ℕ) (over : List Command) → CarriesInto c lived e over → length over ≤ c.slots
    has_room long e over into = long_epochs_have_room c lived e over long into
