-- What is answered goes by one log.
use Rattle.std.specs.Prelude.{All, Contains, IfSome, option_map}
use Rattle.std.proofs.Common.{ℕ, ◌+◌, ◌<◌, ◌≤◌, ◌≡◌, ◌⊎◌, inl, inr, Option, Some, None, List, [], ◌∷◌, ◌++◌, length, slice_get, map, take, get_or, refl, sym, ap, ◌∙◌, subst, length-append, arith}
use Rattle.std.proofs.Math.Seq.{take-length}
use Rattle.std.proofs.lemmas.Bool.{cases_lt}
use Rattle.std.proofs.lemmas.List.{take-take}
use Rattle.std.proofs.lemmas.Option.{slice_get-get_or, slice_get_read, slice_get-map, slice_get_within}
use Rattle.lock_command.specs.declared.command.Command.{Command}
use Rattle.lock_command.specs.Command.{spelling}
use Rattle.lock_table.specs.Apply.{table_after}
use Rattle.paxos_block.specs.Shape.{Shape}
use Rattle.host.specs.declared.answer.HostAnswer.{HostAnswer}
use Rattle.host.specs.declared.answer.HostAnswer.TheVariants.{Ack, Recovered, Looked, Beaten, Marked, Refused}
use Rattle.host.specs.declared.task.Task.TheVariants.{Submit}
use Rattle.host.specs.Host.{idles, learned_of}
use Rattle.host.specs.Kept as hosts
use Rattle.world.specs.Entry.{Filled, Begin, Migrated}
use Rattle.world.specs.World.{World, world, IsRun}
use Rattle.world.specs.Happens.{Event, Line, happen}
use Rattle.world.specs.Opening.{Opening, begun, run_of, world_after, answers_to}
use Rattle.world.specs.Chosen.{at, SaysAt, Submits, IsSubmittedBefore as IsSubmittedIn}
use Rattle.world.specs.Headline.{IsPrefix, prefix_at, IsSafe}
use Rattle.world.specs.Told.{prefix_before, IsMoved, IsGivenBefore, IsRecovered, ShowsTable, goes_by, MissesNothing, KeepsMoved}
use Rattle.world.proofs.Runs.{beginning}
use Rattle.world_safety.specs.Tracks.{Counts}
use Rattle.simulator.specs.declared.answer.Answer.{Answer}
use Rattle.simulator.specs.Answers.{line_of, IsPicturedBy, IsPictured, IsPicturedIn}
use Rattle.simulator.specs.Kept.{IsHost}
use Rattle.simulator.specs.OneLog.{IsChosenBy, IsOneLog, GoesBy, HoldsLearned, TellsOneLog, GoesByOneLog, BeginsTheLog}
use Rattle.simulator.specs.Past.{Past, world_of, answers_of}
use Rattle.simulator.proofs.Entries.{get_behind, From, from_event, before, begins_with, fewer, earlier, after, Told, told, says_at, left_at}
use Rattle.simulator.proofs.Opened.{no_migration, at_first, moved_is}
use Rattle.simulator.proofs.Safety as safety
use Rattle.simulator.proofs.Shown.{running_by}
use Rattle.simulator.proofs.Submitting.{of_submission}

-- of two beginnings of one list, the shorter begins the longer
shorter_begins : {A : Type 0} (a b l : List A) → IsPrefix a l → IsPrefix b l → length a ≤ length b → IsPrefix a b
shorter_begins a b l is_a is_b le = is_a ∙ sym (take-take (length a) (length b) l le) ∙ ap (take (length a)) (sym is_b)

one_begins : {A : Type 0} (a b l : List A) → IsPrefix a l → IsPrefix b l → IsPrefix a b ⊎ IsPrefix b a
one_begins a b l is_a is_b = elim (cases_lt (length a) (length b)) [
  | inl less ↦ inl (shorter_begins a b l is_a is_b (omega (arith, less)))
  | inr not_less ↦ inr (shorter_begins b a l is_b is_a not_less)
]

-- a line is of an entry that an event brings
pub told_at : (o : Opening) (events : List Event) (x : Line) → Contains (answers_to o events) x → Told o.shape (begun o) events x.place x
told_at o events x is = told o.shape (begun o) events is.0 x (slice_get_read (answers_to o events) (length (answers_to o events)) is.0 x refl is.1 (sym is.2))

module _ (o : Opening) (events : List Event) (r : IsRun o.shape (run_of o events)) where
  abbrev c : Shape
  c = o.shape

  abbrev first : List Filled
  first = begun o

  abbrev log : List Command
  log = safety.logged c (run_of o events) r

  safe : IsSafe c (run_of o events) log
  safe = safety.safe c (run_of o events) r

  -- the world before event i is the one before the entries of that event and of those behind it
  world_at : (i : ℕ) → at c (run_of o events) (length (before c first events i)) ≡ world c (before c first events i)
  world_at i = ap (world c) (begins_with c first events i)

  -- THE LOG

  begins : (i h : ℕ) → IsPrefix (prefix_before o events i h) log
  begins i h =
      subst (λ (w : World). IsPrefix (learned_of (w.host h)) log) (world_at i)
      (safety.begins c (run_of o events) r (length (before c first events i)) h)

  -- what is submitted in the run was moved, or is submitted by an event
  submitted_by : (p i : ℕ) (value : List ℕ) → IsSubmittedIn (run_of o events) p value
      → ((n : ℕ) (e : Event) → slice_get events n ≡ Some e → length (before c first events n) < p → n < i) → IsGivenBefore o events i value
  submitted_by p i value s bound = elim (from_event c first events s.place s.entry s.is) [
    | inl there ↦ inl (moved_there (subst (λ (e : Filled). Submits e s.command) (at_first c o.moved s.place s.entry there) s.submits))
    | inr f ↦ by_entry s.entry f s.submits
  ] where
    moved_there : Submits (Migrated c.disks o.moved) s.command → IsMoved o value
    moved_there is = (is.0, slice_get-map spelling o.moved is.0 ∙ ap (option_map spelling) is.1 ∙ ap Some (sym s.spelled))

    by_entry : (e : Filled) → From c first events s.place e → Submits e s.command → IsGivenBefore o events i value
    by_entry (Begin h (Submit given tries)) f is =
        let by = of_submission c (world c (happen c first (take f.n events))) h given tries f.event f.brings in
        inr (record {
          place = f.n;
          host = h;
          command = by.given;
          tries = tries;
          before = bound f.n f.event f.is (omega (arith, f.at, s.before));
          event = f.is ∙ ap Some by.is;
          spelled = s.spelled ∙ ap spelling (sym is) ∙ sym by.spelled;
        })
    by_entry (Migrated disks log) f is =
        let run_there : IsRun c (before c first events f.n) = subst (IsRun c) (begins_with c first events f.n) (beginning c (run_of o events) (length (before c first events f.n)) r) in
        absurd (no_migration c (before c first events f.n) f.event disks log run_there f.brings)
    by_entry other f is = absurd is

  -- the commands that were moved begin the log
  moved_first : IsPrefix o.moved log
  moved_first = subst (λ (l : List Command). IsPrefix l log) (moved_is o events) safe.begun

  each : (slot : ℕ) (command : Command) → slice_get log slot ≡ Some command → IsGivenBefore o events (length events) (spelling command)
  each slot command found =
      elim (safe.is_log.chosen slot (spelling command) (slice_get-map spelling log slot ∙ ap (option_map spelling) found)) [
        | inl chosen ↦ submitted_by chosen.0 (length events) (spelling command) (safe.submitted chosen.0 slot (spelling command) chosen.1) (λ n e is less. slice_get_within events n e is)
        | inr there ↦ inl (slot, subst (λ (l : List Command). slice_get (map spelling l) slot ≡ Some (spelling command)) (moved_is o events) there)
      ]

  submitted : (i slot : ℕ) (value : List ℕ) → IsChosenBy o events i slot value → IsGivenBefore o events i value
  submitted i slot value chosen =
      submitted_by (length (before c first events i)) i value (safe.submitted (length (before c first events i)) slot value chosen)
      (λ n e is less. earlier c first events n i less)

  pub one : IsOneLog o events log
  one =
      record {
        is_log = safe.is_log;
        begun = moved_first;
        no_other = safety.no_other c (run_of o events) r;
        each = each;
        chosen = λ i slot value is. safe.one slot value (inl (length (before c first events i), is));
        submitted = submitted;
        begins = begins;
        prefixes = λ i j g h. one_begins (prefix_before o events i g) (prefix_before o events j h) log (begins i g) (begins j h);
      }

  -- ANSWERS

  module _ (a : Answer) (is_told : Told c first events a.place (line_of a)) (pictured : IsPicturedIn o events a) where
    says : (said : HostAnswer) → a.said ≡ said → SaysAt c (run_of o events) (length (before c first events a.place)) a.host said
    says said is = subst (SaysAt c (run_of o events) (length (before c first events a.place)) a.host) is (says_at c first events a.place (line_of a) is_told)

    -- what its host has learned by then
    abbrev known : List Command
    known = learned_of ((world c (before c first events (a.place + 1))).host a.host)

    pictured_as : (said : HostAnswer) → a.said ≡ said → IsPicturedBy said a.picture (table_after known)
    pictured_as said is = subst (λ (s : HostAnswer). IsPicturedBy s a.picture (table_after known)) is pictured

    -- if that is the first n commands of the log, the picture is of the table after these
    shows_first : (n : ℕ) → (n ≤ length log) × (prefix_at c (run_of o events) (length (before c first events a.place) + 1) a.host ≡ take n log)
        → ShowsTable a.picture (table_after known) → IsRecovered log a.picture n
    shows_first n found shown =
        let left : known ≡ take n log = ap (λ (w : World). learned_of (w.host a.host)) (left_at c first events a.place (line_of a) is_told) ∙ found.1 in
        record { within = found.0; table = subst (λ (l : List Command). ShowsTable a.picture (table_after l)) left shown }

    goes_as : (said : HostAnswer) → a.said ≡ said → goes_by o events log (line_of a) a.picture said
    goes_as (Ack slot reply) is =
        let i = length (before c first events a.place) in
        let placed = safe.placed i a.host slot reply (says (Ack slot reply) is) in
        let acked = placed.1 in
        record {
          command = placed.0;
          submitting = record {
            memory = acked.memory;
            doing = acked.doing;
            running = ap (λ (w : World). w.host a.host) (sym (world_at a.place)) ∙ acked.running;
            does = acked.does;
            is = acked.submitting;
          };
          in_log = safe.acknowledged i a.host slot placed.0 reply acked;
          replied = safe.reply i a.host slot placed.0 reply acked;
        }
    goes_as (Recovered n) is =
        shows_first n (safe.recovered (length (before c first events a.place)) a.host n (says (Recovered n) is)) (pictured_as (Recovered n) is)
    goes_as (Looked n) is =
        shows_first n (safe.looked (length (before c first events a.place)) a.host n (says (Looked n) is)) (pictured_as (Looked n) is)
    goes_as (Beaten host) is = tt
    goes_as (Marked count) is = tt
    goes_as (Refused refusal) is = tt

    goes : GoesBy o events log a
    goes = goes_as a.said refl

  -- an answer whose line is among those of the world goes by the log
  pub answer_goes : (k : ℕ) (a : Answer) → slice_get (answers_to o events) k ≡ Some (line_of a) → IsPicturedIn o events a → GoesBy o events log a
  answer_goes k a is pictured = goes a (told c first events k (line_of a) is) pictured

  -- RECOVERIES

  pub misses_nothing : MissesNothing o events (answers_to o events)
  misses_nothing x y i n slot reply in_x x_says since in_y y_says early =
      let all = run_of o events in
      let told_x = told_at o events x in_x in
      let told_y = told_at o events y in_y in
      let here = ap length (after c first events y.place told_y.entry told_y.brought) in
      let there = fewer c first events (y.place + 1) i (omega (arith, early)) in
      safety.misses_nothing c all r
      (length (before c first events i)) (length (before c first events x.place)) x.host n (length (before c first events y.place)) y.host slot reply
      (ap (λ (w : World). idles (w.host x.host)) (world_at i) ∙ since.idle)
      (fewer c first events i x.place since.order)
      (subst (SaysAt c all (length (before c first events x.place)) x.host) x_says (says_at c first events x.place x told_x))
      (omega (arith, here, there, length-append (before c first events y.place) (told_y.entry ∷ [])))
      (subst (SaysAt c all (length (before c first events y.place)) y.host) y_says (says_at c first events y.place y told_y))

  -- what a host has learned before an event, in the words of the list
  learned_before : (j h : ℕ) → prefix_at c (run_of o events) (length (before c first events j)) h ≡ prefix_before o events j h
  learned_before j h = ap (λ (w : World). learned_of (w.host h)) (world_at j)

  pub holds_learned : HoldsLearned o events (answers_to o events)
  holds_learned x i n j h in_x x_says since early =
      let all = run_of o events in
      let told_x = told_at o events x in_x in
      subst (λ (l : List Command). length l ≤ n) (learned_before j h)
      (safety.holds_learned c all r
      (length (before c first events i)) (length (before c first events x.place)) x.host n (length (before c first events j)) h
      (ap (λ (w : World). idles (w.host x.host)) (world_at i) ∙ since.idle)
      (fewer c first events i x.place since.order)
      (subst (SaysAt c all (length (before c first events x.place)) x.host) x_says (says_at c first events x.place x told_x))
      (fewer c first events j i early))

  pub keeps : KeepsMoved o (answers_to o events)
  keeps x n in_x x_says =
      let told_x = told_at o events x in_x in
      subst (λ (l : List Command). length l ≤ n) (moved_is o events)
      (safe.keeps (length (before c first events x.place)) x.host n (subst (SaysAt c (run_of o events) (length (before c first events x.place)) x.host) x_says (says_at c first events x.place x told_x)))

  -- a line that counts what its host has learned by then counts all
  pub counted : (x : Line) → Contains (answers_to o events) x → Counts (Some x.said) (length (prefix_before o events (x.place + 1) x.host))
  counted x in_x =
      let told_x = told_at o events x in_x in
      subst (λ (w : World). Counts (Some x.said) (length (learned_of (w.host x.host)))) (sym (left_at c first events x.place x told_x))
      (safety.counts c (run_of o events) r (length (before c first events x.place)) x.host x.said (says_at c first events x.place x told_x))

-- THE WHOLE REPORT

pub tells : (o : Opening) (events : List Event) → IsRun o.shape (run_of o events) → (report : List Answer) → map line_of report ≡ answers_to o events → All (IsPicturedIn o events) report → TellsOneLog o events report
tells o events r report lines pictures =
    record {
      log = _;
      one = one o events r;
      answers = λ k other within.
          answer_goes o events r k (get_or report k other)
          (ap (λ (l : List Line). slice_get l k) (sym lines) ∙ slice_get-map line_of report k ∙ ap (option_map line_of) (slice_get-get_or report k other within))
          (pictures k other within);
      recoveries = subst (MissesNothing o events) (sym lines) (misses_nothing o events r);
      learned = subst (HoldsLearned o events) (sym lines) (holds_learned o events r);
      moved = subst (KeepsMoved o) (sym lines) (keeps o events r);
    }

-- SO FAR

-- what was answered with the last event goes by the log
pub goes_with : (p : Past) → IsRun p.opening.shape (run_of p.opening p.events) → (a : Answer) (earlier : List Line) → answers_of p ≡ earlier ++ line_of a ∷ [] → a.place + 1 ≡ length p.events → IsPictured (world_of p) a
    → GoesByOneLog p (Some a)
goes_with p r a earlier lines last pictured =
    let whole : p.events ≡ take (a.place + 1) p.events = sym (ap (λ (n : ℕ). take n p.events) last ∙ take-length p.events) in
    record {
      log = _;
      one = one p.opening p.events r;
      goes = answer_goes p.opening p.events r (length earlier) a
          (ap (λ (l : List Line). slice_get l (length earlier)) lines ∙ get_behind earlier (line_of a) [])
          (subst (λ (l : List Event). IsPictured (world_after p.opening l) a) whole pictured);
      recoveries = misses_nothing p.opening p.events r;
      moved = keeps p.opening p.events r;
    }

pub goes_without : (p : Past) → IsRun p.opening.shape (run_of p.opening p.events) → GoesByOneLog p None
goes_without p r = record { log = _; one = one p.opening p.events r; goes = tt; recoveries = misses_nothing p.opening p.events r; moved = keeps p.opening p.events r }

-- what a host has learned begins the log
begins_so_far : (p : Past) (h : ℕ) (k : hosts.Kept) → IsHost p.opening.shape h ((world_of p).host h) (Some k) → BeginsTheLog p k.prefix
begins_so_far p h k is logged by =
    let r = running_by p.opening.shape h ((world_of p).host h) k is in
    let all : prefix_before p.opening p.events (length p.events) h ≡ k.prefix =
    ap (λ (l : List Event). learned_of ((world_after p.opening l).host h)) (take-length p.events) ∙ ap learned_of r.1 ∙ sym r.2.prefix in
    subst (λ (l : List Command). IsPrefix l logged) all (by.begins (length p.events) h)

pub begins_if : {X : Type 0} (p : Past) (h : ℕ) (o : Option X) (now : X → hosts.Kept) → IsHost p.opening.shape h ((world_of p).host h) (option_map now o)
    → IfSome o (λ x. BeginsTheLog p (now x).prefix)
begins_if p h None now is = tt
begins_if p h (Some x) now is = begins_so_far p h (now x) is
