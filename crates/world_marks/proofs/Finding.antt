-- What is marked on more than half of the disks is found by each attempt that begins later, and so by each look.
use Rattle.std.specs.Prelude.{IsTrue, is_none, slice_get, ◌*◌, if◌then◌else◌}
use Rattle.std.proofs.Common.{ℕ, zero, suc, ◌+◌, ◌<◌, ◌≤◌, ◌≡◌, inl, inr, Bool, true, false, cond, Option, Some, None, List, [], ◌∷◌, length, refl, sym, subst, ap, ◌∙◌, arith}
use Rattle.std.proofs.lemmas.Bool.{cases_lt, cases_eq, ltb-true, both_ways}
use Rattle.torn_block.specs.Layout.{hosts_in}
use Rattle.torn_block.specs.declared.layout.TheConstants.{HOSTS}
use Rattle.paxos_block.specs.Saying.{Said as PBlock}
use Rattle.paxos_block.specs.Row.{DecodedBlock}
use Rattle.paxos_block.specs.Votes.{says_in, marked}
use Rattle.attempt.specs.Answers.{Answered, Answers, on, heard_as, row_in}
use Rattle.attempt.specs.Calls.{Opening}
use Rattle.attempt.specs.History.{IsHistory}
use Rattle.attempt.specs.Numbers.{count}
use Rattle.attempt.specs.Proposal.{decided}
use Rattle.attempt.specs.Setup.{Setup}
use Rattle.attempt.specs.Status.{Ended, NoMajority, next_or, unless_decided, balloting, status}
use Rattle.attempt.specs.Visits.{visited, is_left, are_enough}
use Rattle.attempt.proofs.Firsts.{count_all}
use Rattle.attempt.proofs.Histories.{history_reached}
use Rattle.attempt.proofs.Visitors.{left_is, left_over}
use Rattle.lock_command.specs.Command.{spelling}
use Rattle.rounds.specs.Look.Status as look
use Rattle.rounds.specs.Marking.Status as mark
use Rattle.rounds.proofs.Look.Ends.{no_mark_read, unmarked_is}
use Rattle.paxos_block.specs.Shape.{Shape}
use Rattle.host.specs.declared.answer.HostAnswer.TheVariants.{Looked}
use Rattle.host.specs.declared.task.Task.TheVariants.{Look, Mark}
use Rattle.host.specs.Host.{Doing, Attempts, Looks, Memory, Host, Stopped, Running, marking_of, marking_with, look_of, looking_with, idles}
use Rattle.world.specs.Entry.{Filled, Begin, Migrated}
use Rattle.world.specs.World.{World, IsRun}
use Rattle.world.specs.Chosen.{at, migrated, Hears}
use Rattle.world.specs.Looks.{HearsLooking}
use Rattle.world.proofs.Histories.{heard_then}
use Rattle.world.proofs.Runs.{each, begins_migrated, migrated_fits}
use Rattle.world_safety.specs.Claims.{HasHeardNothing}
use Rattle.world_safety.proofs.Moves.Moving.{running_at}
use Rattle.world_safety.proofs.Runs.Commands.{map_there}
use Rattle.world_safety.proofs.Runs.Migrated.{is_next, marked_first}
use Rattle.world_safety.proofs.Runs.Tracks.{moves_at, tied_at}
use Rattle.world_marks.specs.Found.{IsMarkedOn, IsMarkedOnMany, IsMarkedBefore, IsFoundBefore, FindsMark, AttemptsFind, SeesMark, HasSeenNothing, LooksSee, HasLooked, LooksFind, LooksFindMigrated}
use Rattle.world_marks.proofs.Counting.{counts_marked}
use Rattle.world_marks.proofs.Keeping.{some_row, undecided_block}
use Rattle.world_marks.proofs.Places.{stays_marked}
use Rattle.world_marks.proofs.Saying.{IsSaidBy, ByBeginning, ByLook, ByMarking, said_by, marking_looks, on_looks, look_answers}
use Rattle.world_marks.proofs.Showing.{IsMarkShown, IsShown, shown_at, attempt_more, look_more}
use Rattle.world_marks.proofs.Steps.{does_at}

-- a list has an item at each place below its length
item_below : {A : Type 0} (l : List A) (k : ℕ) → k < length l → (x : A) × (slice_get l k ≡ Some x)
item_below [] k less = absurd (omega arith)
item_below (x ∷ l) zero less = (x, refl)
item_below (x ∷ l) (suc k) less = item_below l k (omega arith)

-- TWO MAJORITIES MEET

record Shared (n : ℕ) (f g : ℕ → Bool) : Type 0 where
  disk : ℕ
  inside : disk < n
  first : f disk ≡ true
  second : g disk ≡ true

overlap : (n : ℕ) (f g : ℕ → Bool) → n < count n f + count n g → Shared n f g
overlap zero f g many = absurd (omega arith)
overlap (suc n) f g many = go (f n) (g n) refl refl many (overlap n f g)
  where
    longer : Shared n f g → Shared (suc n) f g
    longer is = record { disk = is.disk; inside = (let less = is.inside in omega arith); first = is.first; second = is.second }

    go : (x y : Bool) → f n ≡ x → g n ≡ y → suc n < (count n f + cond x 1 0) + (count n g + cond y 1 0) → (n < count n f + count n g → Shared n f g) → Shared (suc n) f g
    go true true here there many before = record { disk = n; inside = omega arith; first = here; second = there }
    go true false here there many before = longer (before (omega arith))
    go false true here there many before = longer (before (omega arith))
    go false false here there many before = longer (before (omega arith))

-- a marked input is one
shown_marked : (says : PBlock) → IsMarkShown says → marked says ≡ None → ⊥
shown_marked says is none = by says.mark is.mark none
  where
    by : (b : Bool) → b ≡ true → (if b then says.inp else None) ≡ None → ⊥
    by true has none = (let known = is.inp in let both : Some is.value ≡ None = sym known ∙ none in absurd (cc))
    by false has none = absurd (both_ways false refl has)

-- AN ATTEMPT THAT IS SHOWN A MARK ON MORE THAN HALF OF THE DISKS

module _ (s : Setup) (heard : List Answered) (is : IsHistory s heard) (g n : ℕ) (below : g < hosts_in s.version) (those : ℕ → Bool) (many : count s.disks those ≡ n) (most : s.disks < 2 * n)
    (shown : (d : ℕ) → d < s.disks → those d ≡ true → (row : List DecodedBlock) → row_in Opening (on heard d) ≡ Some row → IsMarkShown (says_in row g)) where
  abbrev f : Answers
  f = on heard

  -- behind its opening something is decided
  not_undecided : are_enough s (is_left s Opening f) ≡ true → visited s Opening f ≡ None → decided s f ≡ None → ⊥
  not_undecided enough over none =
      let half = ltb-true s.disks (2 * count s.disks (is_left s Opening f)) enough in
      let both = overlap s.disks those (is_left s Opening f) (omega (arith, many, most, half)) in
      let d = both.disk in
      let row = some_row (row_in Opening (f both.disk)) (((history_reached s heard is).disk both.disk).read Opening (left_is s Opening (visited s Opening f) f both.disk both.second).good (left_over s Opening f both.disk over both.inside both.second)) in
      shown_marked (says_in row.0 g) (shown both.disk both.inside both.first row.0 row.1) (undecided_block s f none both.disk both.inside row.0 row.1 g below)

  pub finds : FindsMark (status s f)
  finds = by (are_enough s (is_left s Opening f)) refl (visited s Opening f) refl (decided s f) refl
    where
      by : (b : Bool) → are_enough s (is_left s Opening f) ≡ b → (o : Option ℕ) → visited s Opening f ≡ o → (v : Option (List ℕ)) → decided s f ≡ v
          → FindsMark (if b then next_or Opening o (unless_decided v (balloting s f)) else Ended NoMajority)
      by false short o at v is = tt
      by true enough (Some d) at v is = tt
      by true enough None at (Some value) is = tt
      by true enough None at None is = absurd (not_undecided enough at is)

-- A LOOK THAT IS SHOWN A MARK ON MORE THAN HALF OF THE DISKS

module _ (s : look.Setup) (f : Answers) (g n : ℕ) (below : g < HOSTS) (those : ℕ → Bool) (many : count s.disks those ≡ n) (most : s.disks < 2 * n)
    (shown : (d : ℕ) → d < s.disks → those d ≡ true → (row : List DecodedBlock) → look.row_of (f d) ≡ Some row → IsMarkShown (says_in row g)) where
  not_unmarked : look.status s f ≡ look.Ended look.Unmarked → ⊥
  not_unmarked ended =
      let half = unmarked_is s f ended in
      let both = overlap s.disks those (λ d. look.shows_no_mark (f d)) (omega (arith, many, most, half)) in
      let none = no_mark_read (f both.disk) both.second in
      shown_marked (says_in none.row g) (shown both.disk both.inside both.first none.row none.read) (none.none g below)

  pub sees : SeesMark (look.status s f)
  sees = by (look.status s f) refl
    where
      by : (st : look.Status) → look.status s f ≡ st → SeesMark st
      by (look.Due d) is = tt
      by (look.Ended (look.Decided d value)) is = tt
      by (look.Ended look.Unmarked) is = absurd (not_unmarked is)
      by (look.Ended look.NoMajority) is = tt

module _ (c : Shape) (log : List Filled) (run : IsRun c log) where
  -- what is marked before a place is a slot, marked by a host
  slot_is : (i slot : ℕ) → IsMarkedBefore c log i slot → slot < c.slots
  slot_is i slot marked = (each c log marked.from (Begin marked.host (Mark slot)) run marked.marking.begins).1

  idle_runs : (host : Host) → IsTrue (idles host) → (m : Memory) × (host ≡ Running m)
  idle_runs Stopped idle = absurd (cc)
  idle_runs (Running m) idle = (m, refl)

  marker_is : (i slot : ℕ) (marked : IsMarkedBefore c log i slot) → marked.host < HOSTS
  marker_is i slot marked =
      let w = at c log marked.from in
      let idle = idle_runs (w.host marked.host) (each c log marked.from (Begin marked.host (Mark slot)) run marked.marking.begins).0 in
      (running_at c w (moves_at c log run marked.from) (tied_at c log run marked.from) marked.host idle.0 idle.1).below

  -- on these disks, which are more than half, a host's block of the slot is marked at place i
  record IsMarkedThere (i slot : ℕ) : Type 0 where
    pub host : ℕ
    pub below : host < HOSTS
    pub slot_below : slot < c.slots
    pub n : ℕ
    pub most : c.disks < 2 * n
    pub those : ℕ → Bool
    pub many : count c.disks those ≡ n
    pub firm : (d : ℕ) → d < c.disks → those d ≡ true → IsMarkedOn (at c log i) slot host d

  marked_there : (i slot : ℕ) → IsFoundBefore c log i slot → IsMarkedThere i slot
  marked_there i slot (inl marked) =
      let many : IsMarkedOnMany c (at c log (marked.to + 1)) slot marked.host marked.n = counts_marked c log run marked.from marked.to marked.host slot marked.n marked.marking in
      record {
        host = marked.host;
        below = marker_is i slot marked;
        slot_below = slot_is i slot marked;
        n = marked.n;
        most = marked.most;
        those = many.those;
        many = many.many;
        firm = λ d inside those. stays_marked c log run (marked.to + 1) i slot marked.host d (let before = marked.before in omega arith) (slot_is i slot marked) (marker_is i slot marked) (many.each d inside those);
      }
  marked_there i slot (inr found) =
      let item = item_below (migrated log) slot found.1 in
      let first = begins_migrated log slot (spelling item.0) (map_there (migrated log) slot item.0 item.1) in
      let may = each c log 0 (Migrated first.disks first.commands) run first.first in
      let begins : slice_get log 0 ≡ Some (Migrated c.disks first.commands) = first.first ∙ ap (λ (n : ℕ). Some (Migrated n first.commands)) may.0 in
      let fits = migrated_fits c log run in
      record {
        host = 0;
        below = omega arith;
        slot_below = (let within = found.1 in omega arith);
        n = c.disks;
        most = (let some = may.1.disk in omega arith);
        those = λ d. true;
        many = count_all c.disks;
        firm = λ d inside those. stays_marked c log run 1 i slot 0 d (let behind = found.0 in omega arith) (let within = found.1 in omega arith) (omega arith)
            (subst (λ (w : World). IsMarkedOn w slot 0 d) (sym (is_next c log first.commands begins may.1)) (marked_first c log first.commands begins may.1 slot d (spelling item.0) inside first.there));
      }

  attempt_finds : (i j : ℕ) (s : Setup) (heard : List Answered) (hears : Hears c log j s heard) → i ≤ j → IsFoundBefore c log i s.slot → HasHeardNothing (at c log i) hears.host s.slot → FindsMark (status s (on heard))
  attempt_finds i j s heard hears later found nothing =
      let m = hears.memory in
      let t = hears.doing in
      let h = hears.host in
      let marked = marked_there i s.slot found in
      let g = marked.host in
      let below = marked.below in
      let slot_below = marked.slot_below in
      let on_slot : length m.learned ≡ s.slot = ap (λ (q : Setup). q.slot) (sym hears.is_setup) in
      let disks : s.disks ≡ c.disks = ap (λ (q : Setup). q.disks) hears.is_setup in
      let within : g < hosts_in s.version = omega (arith, below, ap (λ (q : Setup). hosts_in q.version) hears.is_setup) in
      let before = does_at (IsShown c log run i s.slot g slot_below below h) ((at c log j).host h) m (Attempts t) (shown_at c log run i s.slot g slot_below below h j later) hears.running hears.does nothing in
      let behind = attempt_more c log run i s.slot g slot_below below h j later m hears.running hears.disk hears.call hears.answer hears.left hears.entry t hears.does before in
      finds s heard (heard_then c log j s heard run hears) g marked.n within marked.those (ap (λ (q : ℕ). count q marked.those) disks ∙ marked.many) (let most = marked.most in omega (arith, most, disks))
      (λ d inside those row read. behind on_slot d (marked.firm d (omega (arith, inside, disks)) those) row (ap (λ (xs : List Answered). row_in Opening (on xs d)) (sym hears.is_heard) ∙ read))

  -- LOOKS

  look_sees_it : (i j : ℕ) (s : look.Setup) (heard : List Answered) (hears : HearsLooking c log j s heard) → i ≤ j → IsFoundBefore c log i s.slot → HasSeenNothing (at c log i) hears.host s.slot → SeesMark (look.status s (on heard))
  look_sees_it i j s heard hears later found nothing =
      let m = hears.memory in
      let t = hears.looking in
      let h = hears.host in
      let marked = marked_there i s.slot found in
      let on_slot : length m.learned ≡ s.slot = ap (λ (q : look.Setup). q.slot) (sym hears.is_setup) in
      let disks : s.disks ≡ c.disks = ap (λ (q : look.Setup). q.disks) hears.is_setup in
      let before = does_at (IsShown c log run i s.slot marked.host marked.slot_below marked.below h) ((at c log j).host h) m (Looks t) (shown_at c log run i s.slot marked.host marked.slot_below marked.below h j later) hears.running hears.looks nothing in
      let behind = look_more c log run i s.slot marked.host marked.slot_below marked.below h j later m hears.running hears.disk hears.call hears.answer hears.left hears.entry t hears.looks before in
      sees s (on heard) marked.host marked.n marked.below marked.those (ap (λ (q : ℕ). count q marked.those) disks ∙ marked.many) (let most = marked.most in omega (arith, most, disks))
      (λ d inside those row read. behind on_slot d (marked.firm d (omega (arith, inside, disks)) those) row (ap (λ (xs : List Answered). look.row_of (on xs d)) (sym hears.is_heard) ∙ read))

  module _ (i j host n k : ℕ) (looked : HasLooked c log i j host n) (marked : (slot : ℕ) → slot ≤ k → IsFoundBefore c log i slot) where
    -- the host was idle where the look begins
    nothing_yet : (slot : ℕ) → HasSeenNothing (at c log i) host slot
    nothing_yet slot m t running looks same =
        let idle : IsTrue (is_none m.doing) = subst (λ (old : Host). IsTrue (idles old)) running (each c log i (Begin host Look) run looked.begins).0 in
        let never : IsTrue (is_none (Some (Looks t))) = subst (λ (o : Option Doing). IsTrue (is_none o)) looks idle in
        absurd (cc)

    -- it does not end behind a slot up to k that no mark tells
    module _ (short : n ≤ k) where
      not_full : c.slots ≤ n → ⊥
      not_full full = let fits = (marked_there i k (marked k (omega arith))).slot_below in omega (arith, full, fits, short)

      not_said : IsSaidBy c log j host (Looked n) → ⊥
      not_said (ByBeginning m is) = not_full (on_looks c m 0 n is)
      not_said (ByMarking t there is) =
          let longer = marking_with t (record { disk = there.disk; heard = heard_as there.answer }) in
          marking_looks there.memory longer (mark.status (marking_of c host there.memory t.slot) (on longer.heard)) n is
      not_said (ByLook t there is) =
          let longer = looking_with t (record { disk = there.disk; heard = heard_as there.answer }) in
          let s = look_of c there.memory t.first in
          let hears : HearsLooking c log j s longer.heard = record {
            host = host;
            disk = there.disk;
            call = there.call;
            answer = there.answer;
            left = there.left;
            entry = there.entry;
            memory = there.memory;
            running = there.running;
            looking = t;
            looks = there.does;
            is_setup = refl;
            is_heard = refl;
          } in
          elim (look_answers c there.memory longer (look.status s (on longer.heard)) n is) [
            | inl full ↦ not_full full
            | inr unmarked ↦
                subst SeesMark unmarked.0 (look_sees_it i j s longer.heard hears looked.order (subst (IsFoundBefore c log i) (sym unmarked.1) (marked n short)) (nothing_yet s.slot))
          ]

      not_short : ⊥
      not_short = not_said (said_by c log j host (Looked n) tt run looked.says)

    look_finds : k < n
    look_finds = elim (cases_lt k n) [ inl less ↦ less | inr over ↦ absurd (not_short over) ]

pub looks_see : (c : Shape) (log : List Filled) → IsRun c log → LooksSee c log
looks_see c log run i j s heard hears later found nothing = look_sees_it c log run i j s heard hears later found nothing

pub attempts_find : (c : Shape) (log : List Filled) → IsRun c log → AttemptsFind c log
attempts_find c log run i j s heard hears later marked nothing = attempt_finds c log run i j s heard hears later marked nothing

pub looks_find_migrated : (c : Shape) (log : List Filled) → IsRun c log → LooksFindMigrated c log
looks_find_migrated c log run i j host n look = elim (cases_lt n (length (migrated log))) [
  | inr over ↦ over
  | inl short ↦
      (let item = item_below (migrated log) n short in
      let first = begins_migrated log n (spelling item.0) (map_there (migrated log) n item.0 item.1) in
      let behind : 0 < i = elim (cases_eq i 0) [
        | inr other ↦ omega arith
        | inl zero_is ↦ absurd (let both : Some (Migrated first.disks first.commands) ≡ Some (Begin host Look) = sym first.first ∙ ap (slice_get log) (sym zero_is) ∙ look.begins in cc)
      ] in
      absurd (let more = look_finds c log run i j host n n look (λ slot le. inr (behind, omega arith)) in omega arith))
]

pub looks_find : (c : Shape) (log : List Filled) → IsRun c log → LooksFind c log
looks_find c log run i j host n k look marked = look_finds c log run i j host n k look marked
