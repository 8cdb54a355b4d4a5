-- What follows from each kind of answer, by where the attempt stands.
use Rattle.std.specs.Prelude.{slice_set}
use Rattle.std.proofs.Common.{◌≡◌, ◌≢◌, ◌+◌, ◌<◌, ◌≤◌, ℕ, pred, Bool, true, false, Option, Some, None, List, [], ◌∷◌, ◌++◌, length, inl, inr, refl, sym, subst, ap, ◌∙◌, arith, true≢false}
use Rattle.std.proofs.lemmas.Bool.{cases_lt}
use Rattle.std.proofs.lemmas.List.{get_or-set_same, get_or-set_other}
use Rattle.disk.specs.declared.boot.Boot.{Boot}
use Rattle.torn_block.specs.declared.write_steps.WriteCall.{WriteCall}
use Rattle.torn_block.specs.declared.write_steps.WriteCall.TheVariants.{CloseGate, SyncClosed, PutBody, SyncBody, OpenGate, SyncOpened}
use Rattle.torn_block.specs.Plan.{Plan, IsReading, plan_by, next_after}
use Rattle.paxos_block.specs.Saying.{Said, body_saying}
use Rattle.paxos_block.specs.declared.cell.Cell.{Cell}
use Rattle.paxos_block.specs.Row.{DecodedBlock, seen_at, IsSeenAs}
use Rattle.attempt.specs.Calls.{Phase, Opening, One, Two, start, goal}
use Rattle.attempt.specs.Answers.{Heard, Booted, Done, Told, Answers, more, is_bad, all_good, row_in, boot_of, last_row, seen_block}
use Rattle.attempt.specs.Setup.{Setup}
use Rattle.attempt.specs.Standing.{NotOutrun}
use Rattle.attempt.proofs.Lists.{last_more, row_none, positive}
use Rattle.attempt.proofs.Replies.{bad_tells}
use Rattle.attempt.proofs.Rows.{IsLast, rows_stay}
use Rattle.attempt.proofs.Visitors.{part_if}
use Rattle.phases.specs.declared.phase.Phase as code_phase
use Rattle.phases.specs.declared.phase.Phase.TheVariants as phase
use Rattle.phases.specs.declared.phase.Stage.{Stage}
use Rattle.phases.specs.declared.phase.Stage.TheVariants as stage
use Rattle.attempt.specs.declared.heard.Heard.TheVariants as answer
use Rattle.phases.specs.declared.visit.Visit.{Visit}
use Rattle.phases.specs.Calls.{phase_in}
use Rattle.phases.specs.Notes.{Notes, no_visit, visit_at}
use Rattle.attempt.specs.WriteCalls.{made}
use Rattle.phases.specs.Steps.{answered, Suits, FitsStage, write_then, stage_then}
use Rattle.phases.specs.Kept.{Remembers, KeepsRows, IsVisiting, IsWriting, Writes, Stands, Follows}
use Rattle.phases.specs.Moves.{IsInOrder, IsPassed, ArePassed, Takes}
use Rattle.phases.proofs.Visiting.{no_answers}
use Rattle.phases.proofs.Hearing.{IsDue, Stays, Ending, Dropped, Read, left_now, same_not_outrun, same_rows_kept, follows, opened_stays, remembers_more, due_there, remembers_now, boot_stays, stays_there, passes}

-- what is known where a call is due, of an attempt that goes on
pub visiting : (f : Answers) (n : Notes) → n.end ≡ None → Follows f n → IsVisiting n.phase f n
visiting f n going is = subst (Stands f n) going is.stands

module _ (q : code_phase.Phase) (f : Answers) (n : Notes) (v : IsVisiting q f n) (order : IsInOrder n.of (phase_in q) n.disk f) where
  abbrev p : Phase
  p = phase_in q

  abbrev s : Setup
  s = n.of

  abbrev d : ℕ
  d = n.disk

  abbrev visit : Visit
  visit = visit_at n.visits n.disk

  due : IsDue s p d f
  due = due_there q f n v order

  -- what is kept of the disk is replaced
  abbrev pub with_visit : Visit → List Visit
  with_visit new = slice_set n.visits n.disk new

  others : (new : Visit) (e : ℕ) → e ≢ d → visit_at (with_visit new) e ≡ visit_at n.visits e
  others new e off = get_or-set_other n.visits d e new no_visit off

  set_is : d < length n.visits → (new : Visit) → visit_at (with_visit new) d ≡ new
  set_is room new = get_or-set_same n.visits d new no_visit room

  -- THE DISK WAS ATTACHED

  pub attaches : q ≡ phase.Opening → length (f d) ≡ 0 → d < length n.visits → (boot : Boot)
      → Stays p (f d) (Booted boot.number) × IsVisiting q (more f d (Booted boot.number)) (record n { visits = with_visit (record visit { boot = boot }); stage = stage.Syncing })
  attaches first none room boot =
      let new : Visit = record visit { boot = boot } in
      let three : goal p ≡ 3 = ap (λ (r : code_phase.Phase). goal (phase_in r)) first in
      let stays : Stays p (f d) (Booted boot.number) = record { good = refl; rowless = refl; short = omega arith } in (
        stays,
        stays_there q f n v order (Booted boot.number) stays (with_visit new) stage.Syncing
            (subst (λ (r : code_phase.Phase). Suits r stage.Syncing) (sym first) tt)
            (omega arith)
            (others new)
            (ap (λ (w : Visit). w.left) (set_is room new))
            (subst (Remembers s.version s.host (f d ++ Booted boot.number ∷ [])) (sym (set_is room new))
            (remembers_more s.version s.host (f d) (Booted boot.number) visit new refl (ap (λ (a : List Heard). boot_of (a ++ Booted boot.number ∷ [])) (no_answers (f d) none)) refl (remembers_now q f n v order)))
            tt,
      )

  -- A SYNC, OR A CALL OF A WRITE, SUCCEEDED

  -- behind the first answer a success changes nothing of what is kept of the disk
  does : (st : Stage) → 1 ≤ length (f d) → length (f d) + 1 < goal p → Suits q st → length (f d) + 1 ≡ answered p st → Writes n.of.version st n.says visit
      → Stays p (f d) Done × IsVisiting q (more f d Done) (record n { stage = st })
  does st some less suits so writes =
      let stays : Stays p (f d) Done = record { good = refl; rowless = refl; short = less } in (
        stays,
        stays_there q f n v order Done stays n.visits st suits so (λ e off. refl) refl
            (remembers_more s.version s.host (f d) Done visit visit refl (boot_stays q f n v order Done some) refl (remembers_now q f n v order)) writes,
      )

  module _ (plan : Plan) (later : 3 ≤ start p) (seven : goal p ≡ start p + 7) (suits : (due : Option WriteCall) → Suits q (write_then plan due)) (plan_is : plan ≡ record (plan_by s.version visit.block (body_saying n.of.version n.says)) { due = plan.due }) where
    -- another call of the write is due
    wrote : (next : WriteCall) → made (Some next) ≤ 5 → length (f d) + 1 ≡ start p + made (Some next)
        → Stays p (f d) Done × IsVisiting q (more f d Done) (record n { stage = write_then plan (Some next) })
    wrote next most so =
        does (stage.Writing (record plan { due = Some next })) (omega arith) (omega arith) (suits (Some next)) so
        (record { call = next; is = ap (λ (x : Plan). record x { due = Some next }) plan_is })

    -- or the row is read
    step : (call : WriteCall) → length (f d) ≡ start p + made (Some call)
        → Stays p (f d) Done × IsVisiting q (more f d Done) (record n { stage = write_then plan (next_after (Some call)) })
    step CloseGate so = wrote SyncClosed (omega arith) (omega arith)
    step SyncClosed so = wrote PutBody (omega arith) (omega arith)
    step PutBody so = wrote SyncBody (omega arith) (omega arith)
    step SyncBody so = wrote OpenGate (omega arith) (omega arith)
    step OpenGate so = wrote SyncOpened (omega arith) (omega arith)
    step SyncOpened so = does stage.Reading (omega arith) (omega arith) (suits None) (let six : pred (goal p) ≡ start p + 6 = ap pred seven ∙ omega arith in omega (arith, so, six)) tt

  wrote_by : (plan : Plan) → 3 ≤ start p → goal p ≡ start p + 7 → ((due : Option WriteCall) → Suits q (write_then plan due)) → length (f d) ≡ start p + made plan.due → IsWriting s.version n.says visit plan
      → Stays p (f d) Done × IsVisiting q (more f d Done) (record n { stage = write_then plan (next_after plan.due) })
  wrote_by plan later seven suits so is =
      let due_is : plan.due ≡ Some is.call = ap (λ (x : Plan). x.due) is.is in
      subst (λ (due : Option WriteCall). Stays p (f d) Done × IsVisiting q (more f d Done) (record n { stage = write_then plan (next_after due) })) (sym due_is)
      (step plan later seven suits (is.is ∙ ap (λ (due : Option WriteCall). record (plan_by s.version visit.block (body_saying n.of.version n.says)) { due = due }) (sym due_is)) is.call (so ∙ ap (λ (due : Option WriteCall). start p + made due) due_is))

  -- THE DISK IS DROPPED

  pub drops : d < length n.visits → (x : Heard) → is_bad x ≡ true → IsPassed q (more f d x) (record n { visits = with_visit (record visit { left = false }) }) (d + 1)
  drops room x bad =
      let rowless = bad_tells x bad in
      let new : Visit = record visit { left = false } in
      passes q f n v order x (Dropped bad rowless) n.highest n.best n.decided (with_visit new)
      (same_rows_kept s f (more f d x) n.highest n.best n.decided (rows_stay f d x rowless Opening) (rows_stay f d x rowless One) v.rows)
      (same_not_outrun s f (more f d x) p (rows_stay f d x rowless Opening) (rows_stay f d x rowless p) due.at.not_outrun)
      (others new)
      (ap (λ (w : Visit). w.left) (set_is room new))
      (λ none. absurd (true≢false (sym none)))

  -- A ROW WAS READ

  module _ (at : n.stage ≡ stage.Reading) (row : List DecodedBlock) where
    pub last : length (f d) + 1 ≡ goal p
    last =
        let so : length (f d) ≡ pred (goal p) = v.answers ∙ ap (answered p) at in
        let some = positive p in
        omega (arith, so, some)

    behind : (e : ℕ) → d < e → (good : Bool) → all_good (f e) ≡ good → row_in p (f e) ≡ None
    behind e l false bad = order.unread e bad
    behind e l true good = row_none p (f e) (elim (cases_lt (length (f e)) (start p)) [
      | inl early ↦ (let less = due.waiting.short in let come = due.waiting.part.come in omega arith)
      | inr come ↦
          (let so = order.rising e l (part_if p (f e) (record { good = good; come = come })) in
          let less = due.waiting.short in
          let low = due.waiting.part.come in
          omega (arith, so))
    ])

    pub is_last : IsLast s p d f
    is_last = record { below = due.first.below; last = last; behind = λ e l u. behind e l (all_good (f e)) refl }

    abbrev pub is_read : Ending p (f d) (Told (Some row))
    is_read = Read row refl last

    some_answers : (r : Phase) → length (f d) + 1 ≡ goal r → 1 ≤ length (f d)
    some_answers Opening e = omega arith
    some_answers One e = omega arith
    some_answers Two e = omega arith

    -- the disk is done with
    pub reads : d < length n.visits → (V : Type 0) (spelled : V → List ℕ) (cell : Cell V) → IsSeenAs s.version spelled (seen_at row s.host) cell → (top : ℕ) (vote : Said) (told : Option (List ℕ))
        → KeepsRows s (more f d (Told (Some row))) top vote told → NotOutrun s p (more f d (Told (Some row)))
        → ArePassed s q (more f d (Told (Some row))) top vote told n.says (with_visit (record visit { block = cell.block })) (d + 1)
    reads room V spelled cell shows top vote told rows below =
        let new : Visit = record visit { block = cell.block } in
        let row_is : last_row (f d ++ Told (Some row) ∷ []) ≡ Some row = last_more (f d) (Told (Some row)) in
        passes q f n v order (Told (Some row)) is_read top vote told (with_visit new) rows below
        (others new)
        (ap (λ (w : Visit). w.left) (set_is room new) ∙ left_now q f n v order)
        (λ kept. subst (Remembers s.version s.host (f d ++ Told (Some row) ∷ [])) (sym (set_is room new)) (record {
          boot = boot_stays q f n v order (Told (Some row)) (some_answers p last);
          read = subst (λ (o : Option (List DecodedBlock)). IsReading s.version (seen_block o s.host).bytes cell.block) (sym row_is) shows.read;
          sequence = shows.sequence ∙ ap (λ (o : Option (List DecodedBlock)). (seen_block o s.host).sequence) (sym row_is);
        }))

-- an attach comes first in the opening
starts_opening : (q : code_phase.Phase) → Suits q stage.Attaching → q ≡ phase.Opening
starts_opening phase.Opening suits = refl
starts_opening phase.One suits = absurd suits
starts_opening phase.Two suits = absurd suits

-- a success, by where the disk stands
succeeds : (q : code_phase.Phase) (f : Answers) (n : Notes) (v : IsVisiting q f n) (order : IsInOrder n.of (phase_in q) n.disk f) (st : Stage) → FitsStage {R = List ℕ} st answer.Done → Suits q st → length (f n.disk) ≡ answered (phase_in q) st → Writes n.of.version st n.says (visit_at n.visits n.disk)
    → Stays (phase_in q) (f n.disk) Done × IsVisiting q (more f n.disk Done) (record n { stage = stage_then st })
succeeds q f n v order stage.Attaching fits suits so writes = absurd fits
succeeds q f n v order stage.Reading fits suits so writes = absurd fits
succeeds phase.Opening f n v order stage.Syncing fits suits so writes = does phase.Opening f n v order stage.Reading (omega arith) (omega arith) tt (omega arith) tt
succeeds phase.One f n v order stage.Syncing fits suits so writes = absurd suits
succeeds phase.Two f n v order stage.Syncing fits suits so writes = absurd suits
succeeds phase.Opening f n v order (stage.Writing plan) fits suits so writes = absurd suits
succeeds phase.One f n v order (stage.Writing plan) fits suits so writes = wrote_by phase.One f n v order plan (omega arith) refl reading_suits so writes
  where
    reading_suits : (due : Option WriteCall) → Suits phase.One (write_then plan due)
    reading_suits None = tt
    reading_suits (Some call) = tt
succeeds phase.Two f n v order (stage.Writing plan) fits suits so writes = wrote_by phase.Two f n v order plan (omega arith) refl reading_suits so writes
  where
    reading_suits : (due : Option WriteCall) → Suits phase.Two (write_then plan due)
    reading_suits None = tt
    reading_suits (Some call) = tt

-- ONE ANSWER MORE

pub takes_boot : (n : Notes) → n.end ≡ None → n.stage ≡ stage.Attaching → n.disk < length n.visits → (boot : Boot)
    → Takes (Booted boot.number) n (record n { visits = slice_set n.visits n.disk (record (visit_at n.visits n.disk) { boot = boot }); stage = stage.Syncing })
takes_boot n going at room boot f order is =
    let v = visiting f n going is in
    let so = attaches n.phase f n v order (starts_opening n.phase (subst (Suits n.phase) at v.suits)) (v.answers ∙ ap (answered (phase_in n.phase)) at) room boot in
    let new : List Visit = slice_set n.visits n.disk (record (visit_at n.visits n.disk) { boot = boot }) in
    follows (more f n.disk (Booted boot.number)) (record n { visits = new; stage = stage.Syncing }) going (opened_stays n.of (phase_in n.phase) n.disk f (Booted boot.number) (due_there n.phase f n v order) so.0) so.1

pub takes_done : (n : Notes) → n.end ≡ None → FitsStage {R = List ℕ} n.stage answer.Done → Takes Done n (record n { stage = stage_then n.stage })
takes_done n going fits f order is =
    let v = visiting f n going is in
    let so = succeeds n.phase f n v order n.stage fits v.suits v.answers v.writes in
    follows (more f n.disk Done) (record n { stage = stage_then n.stage }) going (opened_stays n.of (phase_in n.phase) n.disk f Done (due_there n.phase f n v order) so.0) so.1
