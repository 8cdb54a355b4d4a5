-- What a host has under way beside its learner, or by it, goes on and ends as the host's definition says; and how a task begins.
use Rattle.std.proofs.Common.{◌≡◌, ◌≤◌, ◌*◌, ◌&&◌, ℕ, Bool, true, false, zero, suc, List, [], ◌∷◌, ◌++◌, ◌<◌, get_or, length, map, Option, Some, None, refl, sym, ◌∙◌, ap, subst, arith, length-append, if◌then◌else◌}
use Rattle.std.specs.Prelude.{is_none, slice_get, take}
use Rattle.rounds.specs.Beat.Notes as beat_notes
use Rattle.rounds.specs.Marking.Notes as mark_notes
use Rattle.rounds.specs.declared.marks.end.End as mark_end
use Rattle.rounds.specs.declared.marks.end.End.TheVariants as mark_ends
use Rattle.rounds.specs.Marking.Kept as mark_kept
use Rattle.rounds.specs.Marking.Status as mark
use Rattle.rounds.specs.declared.looks.notes.Notes as look_notes
use Rattle.rounds.specs.declared.looks.end.End as look_end
use Rattle.rounds.specs.declared.looks.end.End.TheVariants as look_ends
use Rattle.rounds.specs.Look.Kept as look_kept
use Rattle.rounds.specs.Look.Status as look
use Rattle.std.specs.Option.{option_map}
use Rattle.std.proofs.lemmas.List.{length-map}
use Rattle.std.proofs.lemmas.Bool.{lt-ltb, le-ltb}
use Rattle.torn_block.specs.Layout.{cluster_version}
use Rattle.attempt.specs.Answers.{Answered, Heard, on}
use Rattle.heartbeat.specs.Suggesting.{Readings}
use Rattle.rounds.specs.Beat.Answers as beat_answers
use Rattle.attempt.specs.DeviceCalls.{device_answer, heard_of}
use Rattle.rounds.specs.Beat.Kept as beat_kept
use Rattle.rounds.specs.Beat.Status as beat
use Rattle.rounds.specs.declared.beats.end.End as code_end
use Rattle.rounds.specs.declared.beats.end.End.TheVariants as code_ends
use Rattle.attempt.specs.declared.heard.Heard as code_heard
use Rattle.disk.specs.Disk as device
use Rattle.attempt.specs.Numbers.{count}
use Rattle.lock_command.specs.declared.command.Command.{Command}
use Rattle.lock_command.specs.Command.{spelling}
use Rattle.lock_command.specs.Reading.{decoded}
use Rattle.paxos_block.specs.Shape.{Shape}
use Rattle.slot_log.specs.Alone as log_alone
use Rattle.slot_log.specs.Kept as learners
use Rattle.slot_log.specs.Kept.{AreDoing, is_idle_with, LogTask}
use Rattle.slot_log.specs.Learning as log
use Rattle.slot_log.specs.Learning.{offered_by, offered_in}
use Rattle.slot_log.specs.declared.outcome.LogOutcome.{LogOutcome}
use Rattle.attempt.specs.declared.refusal.Refusal.TheVariants as refusal
use Rattle.host.specs.declared.answer.HostAnswer.{HostAnswer}
use Rattle.host.specs.declared.answer.HostAnswer.TheVariants.{Looked, Beaten, Marked, Refused}
use Rattle.host.specs.Alone.{IsAnsweredAlone, HasHeardFew}
use Rattle.host.specs.Host.{Memory, Attempt, Doing, Attempts, Looks, Beats, Marks, says, does, learns, takes, hears, hears_from, hears_look, hears_marking, beat_of, beat_by, suggested, next_in, next_doing, reads, looks_on, Marking, marking_of, marking_by, marking_with, starts_marking, spelled, Looking, look_of, look_by, looking_with, takes_marked}
use Rattle.host.specs.declared.host_core.HostCore.TheInside.{Inside}
use Rattle.host.specs.declared.beside.Beside.{Beside}
use Rattle.host.specs.declared.beside.Beside.TheVariants as beside
use Rattle.host.specs.Kept.{Kept, LeadsTo, attempt_in, values_with, values_of, IsDoing, BeatsAlone, IsAlone, due_by, due_call, is_nothing, is_idle}
use Rattle.host.proofs.Hosts.{values_of-learns, busy_doing, operating-hears, operating_alone, alone, and_true, heard_same, idles, idle_doing, kept_in, learner_still}

-- WHAT IS BESIDE THE LEARNER GOES ON

is_due : (st : beat.Status) → None ≡ beat_kept.end_of_status st → (d : ℕ) × (st ≡ beat.Due d)
is_due (beat.Due d) is = (d, refl)
is_due (beat.Ended end) is = absurd (cc)

is_ended : (st : beat.Status) (end : beat.End) → Some end ≡ beat_kept.end_of_status st → st ≡ beat.Ended end
is_ended (beat.Due d) end is = absurd (cc)
is_ended (beat.Ended other) end is = (let same : end ≡ other = cc in ap beat.Ended (sym same))

is_marking_due : (st : mark.Status) → None ≡ mark_kept.end_of_status st → (d : ℕ) × (st ≡ mark.Due d)
is_marking_due (mark.Due d) is = (d, refl)
is_marking_due (mark.Ended end) is = absurd (cc)

is_marking_over : (st : mark.Status) (end : mark.End) → Some end ≡ mark_kept.end_of_status st → st ≡ mark.Ended end
is_marking_over (mark.Due d) end is = absurd (cc)
is_marking_over (mark.Ended other) end is = (let same : end ≡ other = cc in ap mark.Ended (sym same))

is_look_due : (st : look.Status) → None ≡ look_kept.end_of_status st → (d : ℕ) × (st ≡ look.Due d)
is_look_due (look.Due d) is = (d, refl)
is_look_due (look.Ended end) is = absurd (cc)

is_look_over : (st : look.Status) (end : look.End) → Some end ≡ look_kept.end_of_status st → st ≡ look.Ended end
is_look_over (look.Due d) end is = absurd (cc)
is_look_over (look.Ended other) end is = (let same : end ≡ other = cc in ap look.Ended (sym same))

-- nothing is under way any more
abbrev resting : Memory → Memory
resting m = record { learned = m.learned; floor = m.floor; doing = None; said = m.said; readings = m.readings }

-- what is taken goes by nothing that the look has come to
takes_same : (c : Shape) (m : Memory) (disk : ℕ) (o : Option Command) → takes_marked c (resting m) disk o ≡ takes_marked c m disk o
takes_same c m disk None = refl
takes_same c m disk (Some command) = refl

-- The fields are what is kept, and it leads to them.
module _ (c : Shape) (h : ℕ) (m : Memory) (p : Inside) (view : Kept) (shown : kept_in p ≡ view) (led : LeadsTo c h m view) where
  pub known : LeadsTo c h m (kept_in p)
  known = subst (LeadsTo c h m) (sym shown) led

  -- this is kept once the answer is heard
  abbrev Hears : code_heard.Heard (List ℕ) → Kept → Type 0
  Hears answer new = LeadsTo c h (hears_from c h m m.doing (due_call view).0 (device_answer answer)) new

  -- the host hears what the thing hears that is under way beside its learner
  hears_beside : (k : Beside) (t : Doing) (answer : code_heard.Heard (List ℕ)) (new : Kept) (n : Memory) → p.beside ≡ k → m.doing ≡ Some t → hears_from c h m (Some t) (due_by p.learner k).0 (device_answer answer) ≡ n → LeadsTo c h n new → Hears answer new
  hears_beside k t answer new n is doing comes leads_on =
      subst (λ (v : Kept). LeadsTo c h (hears_from c h m m.doing (due_call v).0 (device_answer answer)) new) shown
      (subst (λ (b : Beside). LeadsTo c h (hears_from c h m m.doing (due_by p.learner b).0 (device_answer answer)) new) (sym is)
      (subst (λ (o : Option Doing). LeadsTo c h (hears_from c h m o (due_by p.learner k).0 (device_answer answer)) new) (sym doing)
      (subst (λ (o : Memory). LeadsTo c h o new) (sym comes) leads_on)))

  -- what is kept once something beside the learner has heard an answer
  abbrev after : Option HostAnswer → Beside → Option Readings → Kept
  after said k readings = record { learner = p.learner; prefix = p.prefix.items; said = said; beside = k; readings = readings }

  -- no attempt comes of it
  beside_on : (n : Memory) (k : Beside) (readings : Option Readings) → attempt_in m.doing ≡ None → attempt_in n.doing ≡ None → n.learned ≡ m.learned → n.floor ≡ m.floor → option_map (take c.disks) readings ≡ n.readings → IsDoing c h n n.doing k → LeadsTo c h n (after n.said k readings)
  beside_on n k readings was is learned floor read doing = record {
    learner = learner_still c h m n p.learner known.learner was is learned floor;
    prefix = known.prefix ∙ sym learned;
    said = refl;
    readings = read;
    doing = doing;
  }

  -- A LOOK

  module _ (b : look_notes.Notes) (looks : p.beside ≡ beside.Look b) (answer : code_heard.Heard (List ℕ)) where
    looking : (t : Looking) × (m.doing ≡ Some (Looks t)) × look_kept.LeadsTo (look_of c m t.first) t.heard b
    looking = subst (IsDoing c h m m.doing) looks known.doing

    abbrev look_setup : look.Setup
    look_setup = look_of c m looking.0.first

    abbrev looked : Looking
    looked = looking_with looking.0 (look_kept.answer_of b answer)

    abbrev look_stands : look.Status
    look_stands = look.status look_setup (on looked.heard)

    -- the call that is due is the look's
    pub look_next : (call : ℕ × device.Call) → ((s : look.Setup) (answers : List Answered) → look_kept.LeadsTo s answers b → look.next_call s (on answers) ≡ Some call) → next_in c h m ≡ Some call
    look_next call due = ap (next_doing c h m) looking.1 ∙ due look_setup looking.0.heard looking.2

    -- the host hears what the look hears
    of_look : (new : Kept) (n : Memory) → look_by c m looked look_stands ≡ n → LeadsTo c h n new → Hears answer new
    of_look new n comes leads_on =
        hears_beside (beside.Look b) (Looks looking.0) answer new n looks looking.1
        (ap (λ (y : Heard). hears_look c m looking.0 (record { disk = (look_kept.call_due b).0; heard = y })) (sym (heard_same answer)) ∙ comes)
        leads_on

    -- it has heard fewer than two answers a disk before this one
    pub look_few : ((s : look.Setup) (answers : List Answered) → look_kept.LeadsTo s answers b → length (answers ++ look_kept.answer_of b answer ∷ []) ≤ 2 * s.disks) → HasHeardFew c m.doing
    look_few bound =
        subst (HasHeardFew c) (sym looking.1)
        (let all = bound look_setup looking.0.heard looking.2 in omega (arith, all, length-append looking.0.heard (look_kept.answer_of b answer ∷ [])))

    pub look_alone : (x : Answered) → IsAnsweredAlone c h m m.doing x
    look_alone x = subst (λ (o : Option Doing). IsAnsweredAlone c h m o x) (sym looking.1) tt

    module _ (new : look_notes.Notes) (heard_leads : (s : look.Setup) (answers : List Answered) → look_kept.LeadsTo s answers b → look_kept.LeadsTo s (answers ++ look_kept.answer_of b answer ∷ []) new)
        (end : Option look_end.End) (ended : (s : look.Setup) (answers : List Answered) → look_kept.LeadsTo s answers new → option_map look_kept.end_of end ≡ look_kept.end_of_status (look.status s (on answers))) where
      looked_then : look_kept.LeadsTo look_setup looked.heard new
      looked_then = heard_leads look_setup looking.0.heard looking.2

      look_end_is : option_map look_kept.end_of end ≡ look_kept.end_of_status look_stands
      look_end_is = ended look_setup looked.heard looked_then

      over_by : (e : look_end.End) → end ≡ Some e → look_by c m looked look_stands ≡ look_by c m looked (look.Ended (look_kept.end_of e))
      over_by e is_end = ap (look_by c m looked) (is_look_over look_stands (look_kept.end_of e) (sym (ap (option_map look_kept.end_of) is_end) ∙ look_end_is))

      -- a call is due
      pub look_goes : end ≡ None → Hears answer (after None (beside.Look new) p.readings)
      look_goes is_none =
          let due = is_look_due look_stands (sym (ap (option_map look_kept.end_of) is_none) ∙ look_end_is) in
          of_look _ (does m (Looks looked)) (ap (look_by c m looked) due.1)
          (beside_on (does m (Looks looked)) (beside.Look new) p.readings (ap attempt_in looking.1) refl refl refl known.readings (looked, refl, looked_then))

      -- it has ended
      look_says : (said : HostAnswer) (e : look_end.End) → end ≡ Some e → look_by c m looked (look.Ended (look_kept.end_of e)) ≡ says m said → Hears answer (after (Some said) beside.Nothing p.readings)
      look_says said e is_end comes = of_look _ (says m said) (over_by e is_end ∙ comes) (beside_on (says m said) beside.Nothing p.readings (ap attempt_in looking.1) refl refl refl known.readings tt)

      pub look_fails : end ≡ Some look_ends.NoMajority → Hears answer (after (Some (Refused refusal.NoMajority)) beside.Nothing p.readings)
      look_fails is_end = look_says (Refused refusal.NoMajority) look_ends.NoMajority is_end refl

      pub look_finds_none : end ≡ Some look_ends.Unmarked → (n : ℕ) → n ≡ length p.learner.learned → Hears answer (after (Some (Looked n)) beside.Nothing p.readings)
      look_finds_none is_end n long =
          let all : n ≡ length m.learned = long ∙ ap length known.learner.learned ∙ length-map m.learned spelling in
          subst (λ (k : ℕ). Hears answer (after (Some (Looked k)) beside.Nothing p.readings)) (sym all)
          (look_says (Looked (length m.learned)) look_ends.Unmarked is_end refl)

      pub look_learns : (disk : ℕ) (value : List ℕ) → end ≡ Some (look_ends.Decided disk value) → (new_kept : Kept) → ((n : Memory) → LeadsTo c h n (after p.said beside.Nothing p.readings) → LeadsTo c h (takes_marked c n disk (decoded value)) new_kept)
          → Hears answer new_kept
      look_learns disk value is_end new_kept takes =
          let idle : LeadsTo c h (resting m) (after m.said beside.Nothing p.readings) = beside_on (resting m) beside.Nothing p.readings (ap attempt_in looking.1) refl refl refl known.readings tt in
          of_look new_kept (takes_marked c m disk (decoded value)) (over_by (look_ends.Decided disk value) is_end)
          (subst (λ (n : Memory). LeadsTo c h n new_kept) (takes_same c m disk (decoded value)) (takes (resting m) (subst (λ (said : Option HostAnswer). LeadsTo c h (resting m) (after said beside.Nothing p.readings)) (sym known.said) idle)))

  -- A BEAT

  module _ (b : beat_notes.Notes) (beats : p.beside ≡ beside.Beat b) (one : IsAlone p.learner p.beside) (answer : code_heard.Heard (List ℕ)) where
    is : BeatsAlone p.learner b
    is = subst (IsAlone p.learner) beats one

    going : (heard : List beat_answers.Answered) × (m.doing ≡ Some (Beats heard)) × beat_kept.LeadsTo (beat_of c h) heard b
    going = subst (IsDoing c h m m.doing) beats known.doing

    abbrev heard : List beat_answers.Answered
    heard = going.0 ++ beat_kept.answer_of b answer ∷ []

    abbrev behind : beat.Status
    behind = beat.status (beat_of c h) (beat_answers.on heard)

    -- the host hears what the beat hears
    of_beat : (new : Kept) (n : Memory) → beat_by h m heard behind ≡ n → LeadsTo c h n new → Hears answer new
    of_beat new n = hears_beside (beside.Beat b) (Beats going.0) answer new n beats going.1

    -- the call that is due is the beat's
    pub beat_next : (call : ℕ × device.Call) → ((s : beat.Setup) (answers : List beat_answers.Answered) → beat_kept.LeadsTo s answers b → beat.next_call s (beat_answers.on answers) ≡ Some call) → next_in c h m ≡ Some call
    beat_next call due = ap (next_doing c h m) going.1 ∙ due (beat_of c h) going.0 going.2

    -- it has heard fewer than nine answers a disk before this one
    pub beat_few : ((s : beat.Setup) (answers : List beat_answers.Answered) → beat_kept.LeadsTo s answers b → length (answers ++ beat_kept.answer_of b answer ∷ []) ≤ 9 * s.disks) → HasHeardFew c m.doing
    beat_few bound =
        subst (HasHeardFew c) (sym going.1)
        (let all = bound (beat_of c h) going.0 going.2 in omega (arith, all, length-append going.0 (beat_kept.answer_of b answer ∷ [])))

    pub beat_alone : (x : Answered) → IsAnsweredAlone c h m m.doing x
    beat_alone x = subst (λ (o : Option Doing). IsAnsweredAlone c h m o x) (sym going.1) tt

    module _ (new : beat_notes.Notes) (heard_leads : (s : beat.Setup) (answers : List beat_answers.Answered) → beat_kept.LeadsTo s answers b → beat_kept.LeadsTo s (answers ++ beat_kept.answer_of b answer ∷ []) new) (same : beat_kept.IsSameBeat b new)
        (end : Option code_end.End) (ended : (s : beat.Setup) (answers : List beat_answers.Answered) → beat_kept.LeadsTo s answers new → option_map (beat_kept.end_of new) end ≡ beat_kept.end_of_status (beat.status s (beat_answers.on answers))) where
      leads_then : beat_kept.LeadsTo (beat_of c h) heard new
      leads_then = heard_leads (beat_of c h) going.0 going.2

      end_is : option_map (beat_kept.end_of new) end ≡ beat_kept.end_of_status behind
      end_is = ended (beat_of c h) heard leads_then

      beat_over : (e : code_end.End) → end ≡ Some e → beat_by h m heard behind ≡ beat_by h m heard (beat.Ended (beat_kept.end_of new e))
      beat_over e is_end = ap (beat_by h m heard) (is_ended behind (beat_kept.end_of new e) (sym (ap (option_map (beat_kept.end_of new)) is_end) ∙ end_is))

      -- a call is due
      pub beat_goes : end ≡ None → Hears answer (after None (beside.Beat new) p.readings)
      beat_goes is_none =
          let due = is_due behind (sym (ap (option_map (beat_kept.end_of new)) is_none) ∙ end_is) in
          of_beat _ (does m (Beats heard)) (ap (beat_by h m heard) due.1)
          (beside_on (does m (Beats heard)) (beside.Beat new) p.readings (ap attempt_in going.1) refl refl refl known.readings (heard, refl, leads_then))

      -- it has ended
      pub beat_fails : end ≡ Some code_ends.NoMajority → Hears answer (after (Some (Refused refusal.NoMajority)) beside.Nothing p.readings)
      beat_fails is_end =
          of_beat _ (says m (Refused refusal.NoMajority)) (beat_over code_ends.NoMajority is_end)
          (beside_on (says m (Refused refusal.NoMajority)) beside.Nothing p.readings (ap attempt_in going.1) refl refl refl known.readings tt)

      pub beat_ends : end ≡ Some code_ends.Beaten → (read : Readings) → read ≡ new.readings → (host : ℕ) → host ≡ suggested p.learner.host (option_map (take p.learner.shape.disks) p.readings) (take p.learner.shape.disks read)
          → Hears answer (after (Some (Beaten host)) beside.Nothing (Some read))
      beat_ends is_end read read_is host host_is =
          let shape : p.learner.shape ≡ c = known.learner.shape in
          let disks : new.disks ≡ c.disks = same.disks ∙ is.as_many ∙ ap (λ (s : Shape). s.disks) shape in
          let readings : take c.disks read ≡ beat_kept.readings_of new = ap (take c.disks) read_is ∙ ap (λ (n : ℕ). take n new.readings) (sym disks) in
          let told : host ≡ suggested h m.readings (beat_kept.readings_of new) =
          host_is
          ∙ ap (λ (g : ℕ). suggested g (option_map (take p.learner.shape.disks) p.readings) (take p.learner.shape.disks read)) known.learner.is_host
          ∙ ap (λ (s : Shape). suggested h (option_map (take s.disks) p.readings) (take s.disks read)) shape
          ∙ ap (λ (o : Option Readings). suggested h o (take c.disks read)) known.readings
          ∙ ap (suggested h m.readings) readings in
          let n : Memory = says (reads m (beat_kept.readings_of new)) (Beaten (suggested h m.readings (beat_kept.readings_of new))) in
          of_beat _ n (beat_over code_ends.Beaten is_end)
          (subst (λ (g : ℕ). LeadsTo c h n (after (Some (Beaten g)) beside.Nothing (Some read))) (sym told)
          (beside_on n beside.Nothing (Some read) (ap attempt_in going.1) refl refl refl (ap Some readings) tt))

  -- A MARKING

  module _ (b : mark_notes.Notes) (marks : p.beside ≡ beside.Mark b) (answer : code_heard.Heard (List ℕ)) where
    marking : (t : Marking) × (m.doing ≡ Some (Marks t)) × mark_kept.LeadsTo (marking_of c h m t.slot) t.heard b
    marking = subst (IsDoing c h m m.doing) marks known.doing

    abbrev mark_setup : mark.Setup
    mark_setup = marking_of c h m marking.0.slot

    abbrev marked : Marking
    marked = marking_with marking.0 (mark_kept.answer_of b answer)

    abbrev mark_stands : mark.Status
    mark_stands = mark.status mark_setup (on marked.heard)

    -- the host hears what the marking hears
    of_marking : (new : Kept) (n : Memory) → marking_by m marked mark_stands ≡ n → LeadsTo c h n new → Hears answer new
    of_marking new n comes leads_on =
        hears_beside (beside.Mark b) (Marks marking.0) answer new n marks marking.1
        (ap (λ (y : Heard). hears_marking c h m marking.0 (record { disk = b.disk; heard = y })) (sym (heard_same answer)) ∙ comes)
        leads_on

    -- the call that is due is the marking's
    pub marking_next : (call : ℕ × device.Call) → ((s : mark.Setup) (answers : List Answered) → mark_kept.LeadsTo s answers b → mark.next_call s (on answers) ≡ Some call) → next_in c h m ≡ Some call
    marking_next call due = ap (next_doing c h m) marking.1 ∙ due mark_setup marking.0.heard marking.2

    -- it has heard fewer than nine answers a disk before this one
    pub marking_few : ((s : mark.Setup) (answers : List Answered) → mark_kept.LeadsTo s answers b → length (answers ++ mark_kept.answer_of b answer ∷ []) ≤ 9 * s.disks) → HasHeardFew c m.doing
    marking_few bound =
        subst (HasHeardFew c) (sym marking.1)
        (let all = bound mark_setup marking.0.heard marking.2 in omega (arith, all, length-append marking.0.heard (mark_kept.answer_of b answer ∷ [])))

    pub marking_alone : (x : Answered) → IsAnsweredAlone c h m m.doing x
    marking_alone x = subst (λ (o : Option Doing). IsAnsweredAlone c h m o x) (sym marking.1) tt

    module _ (new : mark_notes.Notes) (heard_leads : (s : mark.Setup) (answers : List Answered) → mark_kept.LeadsTo s answers b → mark_kept.LeadsTo s (answers ++ mark_kept.answer_of b answer ∷ []) new)
        (end : Option mark_end.End) (ended : (s : mark.Setup) (answers : List Answered) → mark_kept.LeadsTo s answers new → option_map mark_kept.end_of end ≡ mark_kept.end_of_status (mark.status s (on answers))) where
      marked_then : mark_kept.LeadsTo mark_setup marked.heard new
      marked_then = heard_leads mark_setup marking.0.heard marking.2

      mark_end_is : option_map mark_kept.end_of end ≡ mark_kept.end_of_status mark_stands
      mark_end_is = ended mark_setup marked.heard marked_then

      -- a call is due
      pub marking_goes : end ≡ None → Hears answer (after None (beside.Mark new) p.readings)
      marking_goes is_none =
          let due = is_marking_due mark_stands (sym (ap (option_map mark_kept.end_of) is_none) ∙ mark_end_is) in
          of_marking _ (does m (Marks marked)) (ap (marking_by m marked) due.1)
          (beside_on (does m (Marks marked)) (beside.Mark new) p.readings (ap attempt_in marking.1) refl refl refl known.readings (marked, refl, marked_then))

      -- it has ended
      marking_says : (said : HostAnswer) (e : mark_end.End) → end ≡ Some e → marking_by m marked (mark.Ended (mark_kept.end_of e)) ≡ says m said → Hears answer (after (Some said) beside.Nothing p.readings)
      marking_says said e is_end comes =
          let over = is_marking_over mark_stands (mark_kept.end_of e) (sym (ap (option_map mark_kept.end_of) is_end) ∙ mark_end_is) in
          of_marking _ (says m said) (ap (marking_by m marked) over ∙ comes) (beside_on (says m said) beside.Nothing p.readings (ap attempt_in marking.1) refl refl refl known.readings tt)

      pub marking_fails : end ≡ Some mark_ends.NoMajority → Hears answer (after (Some (Refused refusal.NoMajority)) beside.Nothing p.readings)
      marking_fails is_end = marking_says (Refused refusal.NoMajority) mark_ends.NoMajority is_end refl

      pub marking_ends : (count : ℕ) → end ≡ Some (mark_ends.Marked count) → Hears answer (after (Some (Marked count)) beside.Nothing p.readings)
      marking_ends count is_end = marking_says (Marked count) (mark_ends.Marked count) is_end refl

  -- AN ATTEMPT

  module _ (none : view.beside ≡ beside.Nothing) (busy : is_idle view ≡ false) where
    no_beside : p.beside ≡ beside.Nothing
    no_beside = ap (λ (v : Kept). v.beside) shown ∙ none

    pub attempt_doing : (t : Attempt) × (m.doing ≡ Some (Attempts t))
    attempt_doing =
        busy_doing c h m p.learner known.learner
        (and_true (learners.is_idle p.learner) (subst (λ (k : Beside). (learners.is_idle p.learner && is_nothing k) ≡ false) no_beside (ap is_idle shown ∙ busy)))

    -- the disk that is due is the learner's
    attempt_due : (P : ℕ → Type 0) → P p.learner.attempt.disk → P (due_call view).0
    attempt_due P holds =
        subst (λ (v : Kept). P (due_call v).0) shown
        (subst (λ (k : Beside). P (due_by p.learner k).0) (sym no_beside) holds)

    -- the host hears what the attempt hears
    pub attempt_hears : (answer : code_heard.Heard (List ℕ)) (new : Kept) → LeadsTo c h (hears c h m attempt_doing.0 (record { disk = p.learner.attempt.disk; heard = heard_of cluster_version answer })) new → Hears answer new
    attempt_hears answer new =
        hears_beside beside.Nothing (Attempts attempt_doing.0) answer new _ no_beside attempt_doing.1
        (ap (λ (y : Heard). hears c h m attempt_doing.0 (record { disk = p.learner.attempt.disk; heard = y })) (sym (heard_same answer)))

    pub attempt_alone : (answer : Heard) → ((n : log.Memory) → learners.LeadsTo cluster_version c h n p.learner → log_alone.IsAnsweredAlone cluster_version c h n n.doing (record { disk = p.learner.attempt.disk; heard = answer })) → IsAnsweredAlone c h m m.doing (record { disk = (due_call view).0; heard = answer })
    attempt_alone answer served = attempt_due (λ d. IsAnsweredAlone c h m m.doing (record { disk = d; heard = answer })) (alone c h m p.learner answer known.learner served)

    pub attempt_few : HasHeardFew c m.doing
    attempt_few = subst (HasHeardFew c) (sym attempt_doing.1) tt

    -- nothing comes beside it
    pub attempt_stays : (x : Answered) → IsDoing c h (hears c h m attempt_doing.0 x) (hears c h m attempt_doing.0 x).doing p.beside
    attempt_stays x = operating_alone c h (hears c h m attempt_doing.0 x) p.beside no_beside (operating-hears c h m attempt_doing.0 x).doing

-- A TASK BEGINS

-- the values learned are the spellings of the commands
value_at : (l : List Command) (i : ℕ) (d : List ℕ) → i < length l → get_or (map spelling l) i d ≡ spelled (slice_get l i)
value_at [] i d below = absurd (omega arith)
value_at (command ∷ l) zero d below = refl
value_at (command ∷ l) (suc i) d below = value_at l i d (omega arith)

module _ (c : Shape) (h : ℕ) (m : Memory) (k : Kept) (leads : LeadsTo c h m k) (idle : is_idle k ≡ true) where
  was_none : m.doing ≡ None
  was_none = idle_doing c h m k leads idle

  -- an idle host comes to this by something beside its learner
  begins_beside : (n : Memory) (now : Beside) → attempt_in n.doing ≡ None → n.learned ≡ m.learned → n.floor ≡ m.floor → n.readings ≡ m.readings → IsDoing c h n n.doing now → LeadsTo c h n (record k { said = n.said; beside = now })
  begins_beside n now none learned floor readings doing = record {
    learner = learner_still c h m n k.learner leads.learner (ap attempt_in was_none) none learned floor;
    prefix = leads.prefix ∙ sym learned;
    said = refl;
    readings = leads.readings ∙ sym readings;
    doing = doing;
  }

  -- a look at the next slot
  pub begins_look : (first : ℕ) (b : look_notes.Notes) → length m.learned < c.slots → look_kept.LeadsTo (look_of c m first) [] b → LeadsTo c h (looks_on c m first) (record k { said = None; beside = beside.Look b })
  begins_look first b there begun =
      let t : Looking = record { first = first; heard = [] } in
      subst (λ (b' : Bool). LeadsTo c h (if b' then does m (Looks t) else says m (Looked (length m.learned))) (record k { said = None; beside = beside.Look b })) (sym (lt-ltb (length m.learned) c.slots there))
      (begins_beside (does m (Looks t)) (beside.Look b) refl refl refl refl (t, refl, begun))

  -- or none, where all slots are learned
  pub looked_all : (first n : ℕ) → n ≡ length m.learned → c.slots ≤ length m.learned → LeadsTo c h (looks_on c m first) (record k { said = Some (Looked n) })
  looked_all first n all full =
      let t : Looking = record { first = first; heard = [] } in
      subst (λ (b : Bool). LeadsTo c h (if b then does m (Looks t) else says m (Looked (length m.learned))) (record k { said = Some (Looked n) })) (sym (le-ltb (length m.learned) c.slots full))
      (subst (λ (i : ℕ). LeadsTo c h (says m (Looked (length m.learned))) (record k { said = Some (Looked i) })) (sym all)
      (begins_beside (says m (Looked (length m.learned))) k.beside refl refl refl refl (operating_alone c h (says m (Looked (length m.learned))) k.beside (idles k idle).alone tt)))

  -- a marking of a slot that is learned
  pub begins_marking : (slot host disks : ℕ) (value : List ℕ) (b : mark_notes.Notes) → slot < length k.learner.learned → value ≡ get_or k.learner.learned slot value → host ≡ k.learner.host → disks ≡ k.learner.shape.disks
      → mark_kept.LeadsTo (record { host = host; slot = slot; disks = disks; value = value }) [] b → LeadsTo c h (starts_marking m slot) (record k { said = None; beside = beside.Mark b })
  begins_marking slot host disks value b inside value_is host_is disks_are begun =
      let is_learned : slot < length m.learned = (let long = ap length leads.learner.learned ∙ length-map m.learned spelling in omega arith) in
      let t : Marking = record { slot = slot; heard = [] } in
      let g = host_is ∙ leads.learner.is_host in
      let n = disks_are ∙ ap (λ (s : Shape). s.disks) leads.learner.shape in
      let v = value_is ∙ ap (λ (l : List (List ℕ)). get_or l slot value) leads.learner.learned ∙ value_at m.learned slot value is_learned in
      let setup_is : record { host = host; slot = slot; disks = disks; value = value } ≡ marking_of c h m slot = (λ i. record { host = g i; slot = slot; disks = n i; value = v i }) in
      subst (λ (b' : Bool). LeadsTo c h (if b' then does m (Marks t) else says m (Refused refusal.NotLearned)) (record k { said = None; beside = beside.Mark b })) (sym (lt-ltb slot (length m.learned) is_learned))
      (begins_beside (does m (Marks t)) (beside.Mark b) refl refl refl refl (t, refl, subst (λ (s : mark.Setup). mark_kept.LeadsTo s [] b) setup_is begun))

  -- or of none, which is refused
  pub refuses_marking : (slot : ℕ) → length k.learner.learned ≤ slot → LeadsTo c h (starts_marking m slot) (record k { said = Some (Refused refusal.NotLearned) })
  refuses_marking slot beyond =
      let long = ap length leads.learner.learned ∙ length-map m.learned spelling in
      let t : Marking = record { slot = slot; heard = [] } in
      subst (λ (b : Bool). LeadsTo c h (if b then does m (Marks t) else says m (Refused refusal.NotLearned)) (record k { said = Some (Refused refusal.NotLearned) })) (sym (le-ltb slot (length m.learned) (omega arith)))
      (begins_beside (says m (Refused refusal.NotLearned)) k.beside refl refl refl refl (operating_alone c h (says m (Refused refusal.NotLearned)) k.beside (idles k idle).alone tt))

-- A MARKED COMMAND IS LEARNED

-- one command more is learned, and nothing is said yet
abbrev pub with_command : Memory → Command → Memory
with_command m command = record { learned = m.learned ++ command ∷ []; floor = 0; doing = None; said = m.said; readings = m.readings }

-- so it is known of an idle host
module _ (c : Shape) (h : ℕ) (m : Memory) (k : Kept) (leads : LeadsTo c h m k) (idle : is_idle k ≡ true) (command : Command) (value : List ℕ) (spells : value ≡ spelling command) (learner : learners.Kept) (learned : learners.LeadsTo cluster_version c h (log.learns (values_with k.learner.said m) value) learner)
    (prefix : List Command) (prefix_is : prefix ≡ k.prefix ++ command ∷ []) where
  learner_knows : learners.LeadsTo cluster_version c h (values_of (learns m command)) learner
  learner_knows = subst (λ (l : log.Memory). learners.LeadsTo cluster_version c h l learner) (values_of-learns m command value spells) learned

  pub learned_then : LeadsTo c h (with_command m command) (record k { learner = learner; prefix = prefix })
  learned_then = record {
    learner = subst (λ (o : Option LogOutcome). learners.LeadsTo cluster_version c h (record { learned = map spelling (m.learned ++ command ∷ []); floor = 0; doing = None; said = o }) learner) (sym learner_knows.said) learner_knows;
    prefix = prefix_is ∙ ap (λ (l : List Command). l ++ command ∷ []) leads.prefix;
    said = leads.said;
    readings = leads.readings;
    doing = operating_alone c h (with_command m command) k.beside (idles k idle).alone tt;
  }
