-- What every history is like: how the disks stand to each other, and while a call is due.
use Rattle.std.specs.Prelude.{slice_get}
use Rattle.std.proofs.Common.{ℕ, ◌<◌, ◌≤◌, ◌≡◌, inl, inr, true, false, Some, None, List, [], ◌∷◌, ◌++◌, length, is_some, refl, sym, subst, ap, ◌∙◌, arith}
use Rattle.std.proofs.lemmas.Bool.{cases_lt, both_ways}
use Rattle.attempt.specs.Calls.{Phase, Opening, One, Two, start, goal}
use Rattle.attempt.specs.Answers.{Heard, Booted, Answered, Answers, on, more, all_good, row_in}
use Rattle.attempt.specs.Setup.{Setup}
use Rattle.attempt.specs.NextCall.{next_call}
use Rattle.attempt.specs.Status.{Due, status}
use Rattle.attempt.specs.History.{IsAnswerTo, IsHistory}
use Rattle.attempt.specs.Visits.{waits, takes_part, visited}
use Rattle.attempt.specs.Standing.{IsIn}
use Rattle.attempt.proofs.Firsts.{IsFirst, some_below}
use Rattle.attempt.proofs.Lists.{length_more}
use Rattle.attempt.proofs.More.{more_there, by_disk, on_more}
use Rattle.attempt.proofs.Visitors.{IsWaiting, part_is, waiting_is}
use Rattle.attempt.proofs.Statuses.{IsDueAt, due_is, in_kept}
use Rattle.attempt.proofs.Hearing.{by_history}
use Rattle.attempt.proofs.Replies.{IsAnswer, answer_is}
use Rattle.attempt.proofs.Totals.{total, history_total}
use Rattle.attempt.proofs.OneDisk.{IsDisk, disk_new, disk_more}

-- ALL DISKS

-- who takes part in a phase: those behind a disk are at its start
abbrev Rises : Phase → ℕ → Answers → Type 0
Rises p d f = (e : ℕ) → d < e → takes_part p (f e) ≡ true → length (f e) ≡ start p

-- where an attempt stands after any history: the phase of its last call, in which no disk has come further
pub record IsReached (s : Setup) (f : Answers) : Type 0 where
  pub disk : (e : ℕ) → IsDisk (f e)
  pub inside : (e : ℕ) → s.disks ≤ e → f e ≡ []
  pub phase : Phase
  pub come : IsIn s phase f
  pub behind : (e : ℕ) → length (f e) ≤ goal phase
  pub rising : (p : Phase) (d : ℕ) → IsDueAt s p d f → Rises p d f

-- what a due call tells of its disk
pub visit : (s : Setup) (p : Phase) (d : ℕ) (f : Answers) → IsDueAt s p d f → IsFirst s.disks (λ e. waits s p (f e)) d
visit s p d f is = some_below s.disks (λ e. waits s p (f e)) d is.visits

-- of two phases one comes first
pub data Order (p q : Phase) : Type 0 where
  Same : p ≡ q → Order p q
  Before : goal p ≤ start q → Order p q
  After : goal q ≤ start p → Order p q

-- which of the three holds
pub order : (p q : Phase) → Order p q
order Opening Opening = Same refl
order One One = Same refl
order Two Two = Same refl
order Opening One = Before (omega arith)
order Opening Two = Before (omega arith)
order One Two = Before (omega arith)
order One Opening = After (omega arith)
order Two Opening = After (omega arith)
order Two One = After (omega arith)

-- the phases before are over
over_before : (s : Setup) (p q : Phase) (f : Answers) → goal q ≤ start p → IsIn s p f → visited s q f ≡ None
over_before s Opening Opening f l come = absurd (omega arith)
over_before s Opening One f l come = absurd (omega arith)
over_before s Opening Two f l come = absurd (omega arith)
over_before s One Opening f l come = come.over
over_before s One One f l come = absurd (omega arith)
over_before s One Two f l come = absurd (omega arith)
over_before s Two Opening f l come = (come.1).taken.over
over_before s Two One f l come = (come.1).over
over_before s Two Two f l come = absurd (omega arith)

-- a phase begins before it is over
begins : (p : Phase) → start p ≤ goal p
begins Opening = omega arith
begins One = omega arith
begins Two = omega arith

-- the disk on which a call is due has come to each phase that the attempt has come to
pub come_so_far : (s : Setup) (f : Answers) (p q : Phase) (d : ℕ) → IsIn s p f → IsDueAt s q d f → start p ≤ length (f d)
come_so_far s f p q d come is =
    let waiting = waiting_is s q (f d) (visit s q d f is).passes in
    elim (order p q) [
      | Same same ↦ subst (λ (r : Phase). start r ≤ length (f d)) (sym same) waiting.part.come
      | Before l ↦ omega (arith, begins p, waiting.part.come)
      | After l ↦ (let over = over_before s p q f l come in let visits = is.visits in absurd (cc))
    ]

-- while a call is due, no disk is beyond its phase
pub behind_due : (s : Setup) (f : Answers) (p : Phase) (d : ℕ) → IsReached s f → IsDueAt s p d f → (e : ℕ) → length (f e) ≤ goal p
behind_due s f p d reached is e =
    elim (order reached.phase p) [
      | Same same ↦ subst (λ (q : Phase). length (f e) ≤ goal q) same (reached.behind e)
      | Before l ↦ omega (arith, reached.behind e, begins p)
      | After l ↦ (let over = over_before s reached.phase p f l reached.come in let visits = is.visits in absurd (cc))
    ]

module _ (s : Setup) (f : Answers) (d : ℕ) (x : Heard) (p : Phase) (is : IsDueAt s p d f) (reached : IsReached s f) where
  abbrev then : Answers
  then = more f d x

  -- the disk is the first that waits
  visiting : IsFirst s.disks (λ e. waits s p (f e)) d
  visiting = visit s p d f is

  -- and waits
  waiting : IsWaiting s p (f d)
  waiting = waiting_is s p (f d) visiting.passes

  -- with its answer no disk is beyond the phase
  behind_then : (e : ℕ) → length (then e) ≤ goal p
  behind_then = by_disk f d x (λ e a. length a ≤ goal p) (omega (arith, length_more (f d) x, waiting.short)) (λ e off. behind_due s f p d reached is e)

  -- nor has the attempt left it
  come_then : IsIn s p then
  come_then = in_kept s f d x p waiting.part.come is.come

  -- in the same phase the visited disk is this one or one behind it
  rises_on : (e : ℕ) → IsFirst s.disks (λ k. waits s p (then k)) e → Rises p e then
  rises_on e next =
      elim (cases_lt e d) [
        | inl before ↦
            absurd (both_ways (waits s p (f e)) (visiting.none e before) (ap (waits s p) (sym (more_there f d x e (λ same. omega arith))) ∙ next.passes))
        | inr after ↦ (λ k l takes.
            let same : then k ≡ f k = more_there f d x k (λ e. omega arith) in
            ap length same ∙ reached.rising p d is k (omega arith) (ap (takes_part p) (sym same) ∙ takes))
      ]

  -- nor in a later phase do disks behind the visited one begin
  rises_then : (q : Phase) (e : ℕ) → IsDueAt s q e then → Rises q e then
  rises_then q e due =
      elim (order p q) [
        | Same same ↦ subst (λ (r : Phase). IsFirst s.disks (λ k. waits s r (then k)) e → Rises r e then) same (rises_on e) (visit s q e then due)
        | Before l ↦ (λ k above takes. omega (arith, (part_is q (then k) takes).come, behind_then k))
        | After l ↦ (let over = over_before s p q then l come_then in let visits = due.visits in absurd (cc))
      ]

  -- so all of it is so with the answer
  reached_then : IsAnswer s f d x → IsReached s then
  reached_then answer =
      record {
        disk = by_disk f d x (λ e a. IsDisk a) (disk_more s f d x answer waiting.part.good (reached.disk d)) (λ e off. reached.disk e);
        inside = by_disk f d x (λ e a. s.disks ≤ e → a ≡ []) (λ l. absurd (omega (arith, visiting.below))) (λ e off. reached.inside e);
        phase = p;
        come = come_then;
        behind = behind_then;
        rising = rises_then;
      }

module _ (s : Setup) where
  -- it is so at the start
  reached_start : IsReached s (on [])
  reached_start =
      record {
        disk = λ e. disk_new;
        inside = λ e l. refl;
        phase = Opening;
        come = tt;
        behind = λ e. omega arith;
        rising = λ p d is e l takes. (let part = part_is p [] takes in omega (arith, part.come));
      }

  -- and with each answer
  reached_next : (xs : List Answered) (x : Answered) → IsReached s (on xs) → IsAnswerTo (next_call s (on xs)) x → IsReached s (on (xs ++ x ∷ []))
  reached_next xs x reached answers =
      let answer = answer_is s (on xs) x answers in
      subst (IsReached s) (sym (on_more xs x)) (reached_then s (on xs) x.disk x.heard answer.phase (due_is s (on xs) answer.phase x.disk answer.due) reached answer)

  -- so it is after every history
  pub history_reached : (heard : List Answered) → IsHistory s heard → IsReached s (on heard)
  history_reached heard is = by_history (next_call s) (λ l. IsReached s (on l)) reached_next reached_start heard is

-- HOW MANY

-- a call is due on one of the cluster's disks
due_inside : (s : Setup) (xs : List Answered) (x : Answered) → IsAnswerTo (next_call s (on xs)) x → x.disk < s.disks
due_inside s xs x answers =
    let answer = answer_is s (on xs) x answers in
    let first = visit s answer.phase x.disk (on xs) (due_is s (on xs) answer.phase x.disk answer.due) in
    first.below

-- the answers of a history are those of its disks
pub all_counted : (s : Setup) (heard : List Answered) → IsHistory s heard → length heard ≡ total s.disks (on heard)
all_counted s heard is = history_total (next_call s) s.disks (due_inside s) heard is

-- WHILE A CALL IS DUE

-- while a call of a phase is due on a disk: no disk is beyond the phase, those behind the disk have not begun it,
-- a row was read wherever a phase is over on a good disk, and none of the phase where a disk was dropped
pub record IsOrderly (s : Setup) (p : Phase) (d : ℕ) (f : Answers) : Type 0 where
  pub inside : (e : ℕ) → s.disks ≤ e → f e ≡ []
  pub rising : (e : ℕ) → d < e → takes_part p (f e) ≡ true → length (f e) ≡ start p
  pub behind : (e : ℕ) → length (f e) ≤ goal p
  pub read : (q : Phase) (e : ℕ) → all_good (f e) ≡ true → goal q ≤ length (f e) → is_some (row_in q (f e)) ≡ true
  pub unread : (e : ℕ) → all_good (f e) ≡ false → row_in p (f e) ≡ None
  pub booted : (e : ℕ) → 1 ≤ length (f e) → all_good (f e) ≡ true → (boot : ℕ) × (slice_get (f e) 0 ≡ Some (Booted boot))

-- every history is orderly
pub orderly : (s : Setup) (heard : List Answered) (p : Phase) (d : ℕ) → IsHistory s heard → status s (on heard) ≡ Due p d → IsOrderly s p d (on heard)
orderly s heard p d is due =
    let reached = history_reached s heard is in
    let at = due_is s (on heard) p d due in
    record {
      inside = reached.inside;
      rising = reached.rising p d at;
      behind = behind_due s (on heard) p d reached at;
      read = λ q e. (reached.disk e).read q;
      unread = λ e bad. (reached.disk e).unread p bad (behind_due s (on heard) p d reached at e);
      booted = λ e l good. (reached.disk e).booted good l;
    }
