-- A host's account: what it has learned, its floor and its refusals follow from how its attempts ended and what its looks were told, and its
-- readings from how its beats did.
use Rattle.std.specs.Prelude.{◌-◌, max, nat_lt, nat_le, if◌then◌else◌}
use Rattle.std.proofs.Common.{ℕ, ◌+◌, ◌<◌, ◌≤◌, ◌≡◌, ◌==◌, ◌↔◌, Bool, true, false, Option, Some, None, List, [], ◌∷◌, ◌++◌, length, refl, sym, ap, ◌∙◌, subst, arith, append_assoc, append-nil, length-append}
use Rattle.std.proofs.lemmas.Bool.{eq-eqb, ne_eqb, leb-true, leb-false}
use Rattle.std.specs.Option.{option_or}
use Rattle.attempt.specs.Answers.{Answered, on, heard_as}
use Rattle.attempt.specs.Setup.{Setup}
use Rattle.attempt.specs.Status.{Status, Due, Ended, End, status, taken}
use Rattle.attempt.specs.Status as attempt
use Rattle.heartbeat.specs.Suggesting.{Readings}
use Rattle.rounds.specs.Beat.Answers as beat_answers
use Rattle.rounds.specs.Beat.Status as beat
use Rattle.rounds.specs.Marking.Status as mark
use Rattle.rounds.specs.Look.Status as look
use Rattle.disk.specs.Disk.{Answer}
use Rattle.lock_command.specs.declared.command.Command.{Command}
use Rattle.lock_command.specs.Reading.{decoded}
use Rattle.paxos_block.specs.Shape.{Shape}
use Rattle.attempt.specs.declared.refusal.Refusal.TheVariants as refusal
use Rattle.host.specs.declared.answer.HostAnswer.{HostAnswer}
use Rattle.host.specs.declared.answer.HostAnswer.TheVariants.{Looked, Marked, Refused}
use Rattle.host.specs.declared.task.Task.{Task}
use Rattle.host.specs.declared.task.Task.TheVariants.{Submit, Recover, Look, Beat, Mark}
use Rattle.host.specs.Host.{Operation, Submitting, Recovering, Attempt, Marking, Looking, Doing, Attempts, Looks, Beats, Marks, Memory, Host, Stopped, Running, fresh, says, does, begins, goes_on, full_answer, learns, is_submitted, after_learning, takes, tries_again, with_floor, ended, by_status, with_heard, setup_of, look_of, look_by, looking_with, looks_on, takes_marked, beat_of, beat_by, marking_of, marking_by, marking_with, starts_marking, starts, hears_from, said_of, learned_of}
use Rattle.host.proofs.Hosts.{operating-hears}
use Rattle.world.specs.Entry as entries
use Rattle.world.specs.Entry.{Filled, Called, Torn, Crashed, Lost, Migrated, host_step, host_after}
use Rattle.world.specs.Account.{Ending, told_by, ending_by, ending_in, ending_at, endings, read_as, committed_by, committed, outran, greatest_on, one_if_outrun, outruns, beat_ended_by, beat_ended_in, beat_ended_at, beats_ended, read_by, last_read, floor_of, readings_of, GoesOn, AllGoOn, AccountsFor, BeginsWith, IsCalled, AllCalled, GivesUp}
use Rattle.world.proofs.Enduring.{on_either}

-- SUMS OF ENDINGS

committed_more : (xs ys : List Ending) → committed (xs ++ ys) ≡ committed xs ++ committed ys
committed_more [] ys = refl
committed_more (x ∷ xs) ys = ap (λ (l : List Command). committed_by x.end ++ l) (committed_more xs ys) ∙ sym (append_assoc (committed_by x.end) (committed xs) (committed ys))

max_max : (a b d : ℕ) → max a (max b d) ≡ max (max a b) d
max_max a b d = omega arith

greatest_more : (slot : ℕ) (xs ys : List Ending) → greatest_on slot (xs ++ ys) ≡ max (greatest_on slot xs) (greatest_on slot ys)
greatest_more slot [] ys = omega arith
greatest_more slot (x ∷ xs) ys =
    let one = if x.slot == slot then max x.ballot (outran x.end) else 0 in
    ap (max one) (greatest_more slot xs ys) ∙ max_max one (greatest_on slot xs) (greatest_on slot ys)

outruns_more : (xs ys : List Ending) → outruns (xs ++ ys) ≡ outruns xs + outruns ys
outruns_more [] ys = omega arith
outruns_more (x ∷ xs) ys = omega (arith, outruns_more xs ys)

-- all of them are for slots up to this one
abbrev AreUpTo : ℕ → List Ending → Type 0
AreUpTo n [] = Unit {0}
AreUpTo n (x ∷ xs) = (x.slot ≤ n) × AreUpTo n xs

up_to_more : (n : ℕ) (xs ys : List Ending) → AreUpTo n xs → AreUpTo n ys → AreUpTo n (xs ++ ys)
up_to_more n [] ys a b = b
up_to_more n (x ∷ xs) ys a b = (a.0, up_to_more n xs ys a.1 b)

up_to_next : (n : ℕ) (xs : List Ending) → AreUpTo n xs → AreUpTo (n + 1) xs
up_to_next n [] a = tt
up_to_next n (x ∷ xs) a = (omega (arith, a.0), up_to_next n xs a.1)

-- none of them is for the slot behind
none_behind : (n : ℕ) (xs : List Ending) → AreUpTo n xs → greatest_on (n + 1) xs ≡ 0
none_behind n [] a = refl
none_behind n (x ∷ xs) a =
    let low = a.0 in
    let other : (x.slot == n + 1) ≡ false = ne_eqb x.slot (n + 1) (λ same. omega (arith, low, same)) in
    ap (λ (b : Bool). max (if b then max x.ballot (outran x.end) else 0) (greatest_on (n + 1) xs)) other ∙ ap (max 0) (none_behind n xs a.1)

-- WHAT IS LEARNED, AND THE FLOOR

record Accounts (m : Memory) (past : List Ending) : Type 0 where
  learned : m.learned ≡ committed past
  floor : m.floor ≡ greatest_on (length m.learned) past
  up_to : AreUpTo (length m.learned) past

abbrev AccountsAt : Host → List Ending → Type 0
AccountsAt Stopped past = ⊥
AccountsAt (Running m) past = Accounts m past

-- what is under way and what is said may differ, and nothing else
record Stays (m new : Memory) : Type 0 where
  learned : new.learned ≡ m.learned
  floor : new.floor ≡ m.floor
  readings : new.readings ≡ m.readings

-- so the account is the same
same_account : (m new : Memory) (past : List Ending) → Stays m new → Accounts m past → Accounts new (past ++ [])
same_account m new past stays is = subst (Accounts new) (sym (append-nil past)) (record {
  learned = stays.learned ∙ is.learned;
  floor = stays.floor ∙ is.floor ∙ ap (λ (l : List Command). greatest_on (length l) past) (sym stays.learned);
  up_to = subst (λ (l : List Command). AreUpTo (length l) past) (sym stays.learned) is.up_to;
})

module _ (m new : Memory) (past : List Ending) (is : Accounts m past) where
  -- an attempt on the next slot has ended, and its ballots count
  counts : (ballot : ℕ) (end : End) → committed_by end ≡ [] → new.learned ≡ m.learned → new.floor ≡ max m.floor (max ballot (outran end))
      → Accounts new (past ++ record { slot = length m.learned; ballot = ballot; end = end } ∷ [])
  counts ballot end none learned floor =
      let x : Ending = record { slot = length m.learned; ballot = ballot; end = end } in
      let here : (length m.learned == length m.learned) ≡ true = eq-eqb (length m.learned) (length m.learned) refl in
      let own : greatest_on (length m.learned) (x ∷ []) ≡ max (max ballot (outran end)) 0 = ap (λ (b : Bool). max (if b then max ballot (outran end) else 0) 0) here in
      let all : greatest_on (length m.learned) (past ++ x ∷ []) ≡ max (greatest_on (length m.learned) past) (greatest_on (length m.learned) (x ∷ [])) = greatest_more (length m.learned) past (x ∷ []) in
      let nothing : committed (x ∷ []) ≡ [] = append-nil (committed_by end) ∙ none in
      record {
        learned = learned ∙ is.learned ∙ sym (committed_more past (x ∷ []) ∙ ap (λ (l : List Command). committed past ++ l) nothing ∙ append-nil (committed past));
        floor = omega (arith, floor, is.floor, all, own) ∙ ap (λ (l : List Command). greatest_on (length l) (past ++ x ∷ [])) (sym learned);
        up_to = subst (λ (l : List Command). AreUpTo (length l) (past ++ x ∷ [])) (sym learned) (up_to_more (length m.learned) past (x ∷ []) is.up_to (omega arith, tt));
      }

  -- it has told a command, which is learned
  learns_one : (ballot : ℕ) (end : End) (command : Command) → committed_by end ≡ command ∷ [] → new.learned ≡ m.learned ++ command ∷ [] → new.floor ≡ 0
      → Accounts new (past ++ record { slot = length m.learned; ballot = ballot; end = end } ∷ [])
  learns_one ballot end command tells_it learned floor =
      let x : Ending = record { slot = length m.learned; ballot = ballot; end = end } in
      let long : length new.learned ≡ length m.learned + 1 = ap length learned ∙ length-append m.learned (command ∷ []) in
      let both : AreUpTo (length m.learned) (past ++ x ∷ []) = up_to_more (length m.learned) past (x ∷ []) is.up_to (omega arith, tt) in
      let one : committed (x ∷ []) ≡ command ∷ [] = append-nil (committed_by end) ∙ tells_it in
      record {
        learned = learned ∙ ap (λ (l : List Command). l ++ command ∷ []) is.learned ∙ sym (committed_more past (x ∷ []) ∙ ap (λ (l : List Command). committed past ++ l) one);
        floor = floor ∙ sym (none_behind (length m.learned) (past ++ x ∷ []) both) ∙ ap (λ (n : ℕ). greatest_on n (past ++ x ∷ [])) (sym long);
        up_to = subst (λ (n : ℕ). AreUpTo n (past ++ x ∷ [])) (sym long) (up_to_next (length m.learned) (past ++ x ∷ []) both);
      }

module _ (m : Memory) where
  still : Stays m m
  still = record { learned = refl; floor = refl; readings = refl }

  says_so : (said : HostAnswer) → Stays m (says m said)
  says_so said = record { learned = refl; floor = refl; readings = refl }

  does_so : (doing : Doing) → Stays m (does m doing)
  does_so doing = record { learned = refl; floor = refl; readings = refl }

  -- the next slot is tried or looked at, or there is none
  goes_so : (c : Shape) (operation : Operation) (tries : ℕ) → Stays m (goes_on c m operation tries)
  goes_so c operation tries =
      on_either (nat_lt (length m.learned) c.slots) (begins m operation tries) (says m (full_answer operation (length m.learned))) (Stays m)
      (λ e. does_so (Attempts (record { operation = operation; tries = tries; heard = [] }))) (λ e. says_so (full_answer operation (length m.learned)))

  again_so : (operation : Operation) (tries : ℕ) → Stays m (tries_again m operation tries)
  again_so operation tries =
      on_either (nat_le tries 1) (says m (Refused refusal.Outrun)) (begins m operation (tries - 1)) (Stays m)
      (λ e. says_so (Refused refusal.Outrun)) (λ e. does_so (Attempts (record { operation = operation; tries = tries - 1; heard = [] })))

  looks_so : (c : Shape) (first : ℕ) → Stays m (looks_on c m first)
  looks_so c first =
      on_either (nat_lt (length m.learned) c.slots) (does m (Looks (record { first = first; heard = [] }))) (says m (Looked (length m.learned))) (Stays m)
      (λ e. does_so (Looks (record { first = first; heard = [] }))) (λ e. says_so (Looked (length m.learned)))

  marks_so : (slot : ℕ) → Stays m (starts_marking m slot)
  marks_so slot =
      on_either (nat_lt slot (length m.learned)) (does m (Marks (record { slot = slot; heard = [] }))) (says m (Refused refusal.NotLearned)) (Stays m)
      (λ e. does_so (Marks (record { slot = slot; heard = [] }))) (λ e. says_so (Refused refusal.NotLearned))

  -- so it is where a task begins
  begins_so : (c : Shape) (task : Task) → Stays m (starts c m task)
  begins_so c (Submit command tries) = goes_so c (Submitting command) tries
  begins_so c (Recover tries) = goes_so c Recovering tries
  begins_so c Look = looks_so c 0
  begins_so c Beat = does_so (Beats [])
  begins_so c (Mark slot) = marks_so slot

  -- and where a marking goes on, or ends
  marking_so : (t : Marking) (st : mark.Status) → Stays m (marking_by m t st)
  marking_so t (mark.Due disk) = does_so (Marks t)
  marking_so t (mark.Ended (mark.Marked count)) = says_so (Marked count)
  marking_so t (mark.Ended mark.NoMajority) = says_so (Refused refusal.NoMajority)

module _ (c : Shape) (h : ℕ) (m : Memory) (past : List Ending) (is : Accounts m past) where
  learning : (t : Attempt) (ballot : ℕ) (end : End) (command : Command) → committed_by end ≡ command ∷ [] → (b : Bool)
      → Accounts (after_learning c m t command b) (past ++ record { slot = length m.learned; ballot = ballot; end = end } ∷ [])
  learning t ballot end command told true = learns_one m (after_learning c m t command true) past is ballot end command told refl refl
  learning t ballot end command told false =
      let stays = goes_so (learns m command) c t.operation t.tries in
      learns_one m (after_learning c m t command false) past is ballot end command told stays.learned stays.floor

  taking : (t : Attempt) (ballot : ℕ) (value : List ℕ) (end : End) → outran end ≡ 0 → (read : Option Command) → committed_by end ≡ read_as read
      → Accounts (takes c m t ballot value read) (past ++ record { slot = length m.learned; ballot = ballot; end = end } ∷ [])
  taking t ballot value end calm None told = counts m (takes c m t ballot value None) past is ballot end told refl (omega (arith, calm))
  taking t ballot value end calm (Some command) told = learning t ballot end command told (is_submitted t.operation value)

  ending : (t : Attempt) (ballot : ℕ) (end : End) → Accounts (ended c m t ballot end) (past ++ record { slot = length m.learned; ballot = ballot; end = end } ∷ [])
  ending t ballot (attempt.Committed value) = taking t ballot value (attempt.Committed value) refl (decoded value) refl
  ending t ballot (attempt.Decided value) = taking t ballot value (attempt.Decided value) refl (decoded value) refl
  ending t ballot attempt.Empty = counts m (ended c m t ballot attempt.Empty) past is ballot attempt.Empty refl refl (omega arith)
  ending t ballot attempt.NoMajority = counts m (ended c m t ballot attempt.NoMajority) past is ballot attempt.NoMajority refl refl (omega arith)
  ending t ballot attempt.BallotsSpent = counts m (ended c m t ballot attempt.BallotsSpent) past is ballot attempt.BallotsSpent refl refl (omega arith)
  ending t ballot (attempt.Outrun mbal) =
      let m' = with_floor (with_floor m ballot) mbal in
      let same : max (max m.floor ballot) mbal ≡ max m.floor (max ballot mbal) = omega arith in
      let stays = again_so m' t.operation t.tries in
      counts m (ended c m t ballot (attempt.Outrun mbal)) past is ballot (attempt.Outrun mbal) refl stays.learned (stays.floor ∙ same)

  by_ending : (t : Attempt) (s : Setup) (heard : List Answered) → s.slot ≡ length m.learned → (st : Status) → Accounts (by_status c m t (taken s (on heard)) st) (past ++ ending_by s heard st)
  by_ending t s heard slot (Due phase d) = same_account m (does m (Attempts t)) past (does_so m (Attempts t)) is
  by_ending t s heard slot (Ended end) =
      subst (λ (n : ℕ). Accounts (ended c m t (taken s (on heard)) end) (past ++ record { slot = n; ballot = taken s (on heard); end = end } ∷ [])) (sym slot) (ending t (taken s (on heard)) end)

  by_beat : (heard : List beat_answers.Answered) (st : beat.Status) → Accounts (beat_by h m heard st) (past ++ [])
  by_beat heard (beat.Due disk) = same_account m (does m (Beats heard)) past (does_so m (Beats heard)) is
  by_beat heard (beat.Ended (beat.Beaten readings)) = subst (Accounts (beat_by h m heard (beat.Ended (beat.Beaten readings)))) (sym (append-nil past)) (record { learned = is.learned; floor = is.floor; up_to = is.up_to })
  by_beat heard (beat.Ended beat.NoMajority) = same_account m (says m (Refused refusal.NoMajority)) past (says_so m (Refused refusal.NoMajority)) is

  -- a look that is told what a mark says
  told_one : (d : ℕ) (value : List ℕ) (read : Option Command) → committed_by (attempt.Decided value) ≡ read_as read
      → Accounts (takes_marked c m d read) (past ++ record { slot = length m.learned; ballot = 0; end = attempt.Decided value } ∷ [])
  told_one d value None told = counts m (takes_marked c m d None) past is 0 (attempt.Decided value) told refl (omega arith)
  told_one d value (Some command) told =
      let stays = looks_so (learns m command) c d in
      learns_one m (takes_marked c m d (Some command)) past is 0 (attempt.Decided value) command told stays.learned stays.floor

  by_look : (t : Looking) (st : look.Status) → Accounts (look_by c m t st) (past ++ told_by (look_of c m t.first) st)
  by_look t (look.Due disk) = same_account m (does m (Looks t)) past (does_so m (Looks t)) is
  by_look t (look.Ended (look.Decided disk value)) = told_one disk value (decoded value) refl
  by_look t (look.Ended look.Unmarked) = same_account m (says m (Looked (length m.learned))) past (says_so m (Looked (length m.learned))) is
  by_look t (look.Ended look.NoMajority) = same_account m (says m (Refused refusal.NoMajority)) past (says_so m (Refused refusal.NoMajority)) is

  hearing : (o : Option Doing) (d : ℕ) (answer : Answer) → Accounts (hears_from c h m o d answer) (past ++ ending_in c h m o (record { disk = d; heard = heard_as answer }))
  hearing None d answer = same_account m m past (still m) is
  hearing (Some (Attempts t)) d answer =
      let more = with_heard t (record { disk = d; heard = heard_as answer }) in
      let s = setup_of c h m t.operation in
      by_ending more s more.heard refl (status s (on more.heard))
  hearing (Some (Looks t)) d answer = let more = looking_with t (record { disk = d; heard = heard_as answer }) in by_look more (look.status (look_of c m t.first) (on more.heard))
  hearing (Some (Beats heard)) d answer =
      let more = heard ++ record { disk = d; heard = beat_answers.heard_as answer } ∷ [] in by_beat more (beat.status (beat_of c h) (beat_answers.on more))
  hearing (Some (Marks t)) d answer =
      let more = marking_with t (record { disk = d; heard = heard_as answer }) in
      let st = mark.status (marking_of c h m t.slot) (on more.heard) in
      same_account m (marking_by m more st) past (marking_so m more st) is

-- each entry by which the host does not stop
one_accounts : (c : Shape) (h : ℕ) (host : Host) (past : List Ending) (e : Filled) → GoesOn e → AccountsAt host past → AccountsAt (host_step c h host e) (past ++ ending_at c h host e)
one_accounts c h Stopped past e on is = absurd is
one_accounts c h (Running m) past (entries.Start g) on is = same_account m m past (still m) is
one_accounts c h (Running m) past (entries.Stop g) on is = absurd on
one_accounts c h (Running m) past (entries.Begin g task) on is = same_account m (starts c m task) past (begins_so m c task) is
one_accounts c h (Running m) past (Called g d call answer left) on is = hearing c h m past is m.doing d answer
one_accounts c h (Running m) past (Torn g d call left) on is = absurd on
one_accounts c h (Running m) past (Crashed d left) on is = same_account m m past (still m) is
one_accounts c h (Running m) past (Lost d) on is = same_account m m past (still m) is
one_accounts c h (Running m) past (Migrated disks log) on is = same_account m m past (still m) is

all_account : (c : Shape) (h : ℕ) (es : List Filled) (host : Host) (past : List Ending) → AllGoOn es → AccountsAt host past → AccountsAt (host_after c h host es) (past ++ endings c h host es)
all_account c h [] host past on is = subst (AccountsAt host) (sym (append-nil past)) is
all_account c h (e ∷ es) host past on is =
    subst (AccountsAt (host_after c h (host_step c h host e) es)) (append_assoc past (ending_at c h host e) (endings c h (host_step c h host e) es))
    (all_account c h es (host_step c h host e) (past ++ ending_at c h host e) on.1 (one_accounts c h host past e on.0 is))

learned_told : (host : Host) (past : List Ending) → AccountsAt host past → learned_of host ≡ committed past
learned_told Stopped past is = absurd is
learned_told (Running m) past is = is.learned

floor_told : (host : Host) (past : List Ending) → AccountsAt host past → floor_of host ≡ greatest_on (length (learned_of host)) past
floor_told Stopped past is = absurd is
floor_told (Running m) past is = is.floor

-- READINGS

or_or : (a b d : Option Readings) → option_or (option_or a b) d ≡ option_or a (option_or b d)
or_or None b d = refl
or_or (Some a) b d = refl

or_none : (a : Option Readings) → option_or a None ≡ a
or_none None = refl
or_none (Some a) = refl

last_more : (xs ys : List beat.End) → last_read (xs ++ ys) ≡ option_or (last_read ys) (last_read xs)
last_more [] ys = sym (or_none (last_read ys))
last_more (x ∷ xs) ys = ap (λ (o : Option Readings). option_or o (read_by x)) (last_more xs ys) ∙ or_or (last_read ys) (last_read xs) (read_by x)

-- a beat that ends well leaves its own, and nothing else changes them
module _ (c : Shape) (h : ℕ) (m : Memory) where
  read_by_beat : (heard : List beat_answers.Answered) (st : beat.Status) → (beat_by h m heard st).readings ≡ option_or (last_read (beat_ended_by st)) m.readings
  read_by_beat heard (beat.Due disk) = refl
  read_by_beat heard (beat.Ended (beat.Beaten readings)) = refl
  read_by_beat heard (beat.Ended beat.NoMajority) = refl

  read_told : (d : ℕ) (read : Option Command) → (takes_marked c m d read).readings ≡ m.readings
  read_told d None = refl
  read_told d (Some command) = (looks_so (learns m command) c d).readings

  read_by_look : (t : Looking) (st : look.Status) → (look_by c m t st).readings ≡ m.readings
  read_by_look t (look.Due disk) = refl
  read_by_look t (look.Ended (look.Decided disk value)) = read_told disk (decoded value)
  read_by_look t (look.Ended look.Unmarked) = refl
  read_by_look t (look.Ended look.NoMajority) = refl

  read_hearing : (o : Option Doing) (d : ℕ) (answer : Answer)
      → (hears_from c h m o d answer).readings ≡ option_or (last_read (beat_ended_in c h o (record { disk = d; heard = beat_answers.heard_as answer }))) m.readings
  read_hearing None d answer = refl
  read_hearing (Some (Attempts t)) d answer = (operating-hears c h m t (record { disk = d; heard = heard_as answer })).readings
  read_hearing (Some (Looks t)) d answer = let more = looking_with t (record { disk = d; heard = heard_as answer }) in read_by_look more (look.status (look_of c m t.first) (on more.heard))
  read_hearing (Some (Beats heard)) d answer =
      let more = heard ++ record { disk = d; heard = beat_answers.heard_as answer } ∷ [] in read_by_beat more (beat.status (beat_of c h) (beat_answers.on more))
  read_hearing (Some (Marks t)) d answer =
      let more = marking_with t (record { disk = d; heard = heard_as answer }) in (marking_so m more (mark.status (marking_of c h m t.slot) (on more.heard))).readings

-- each entry by which the host does not stop
one_read : (c : Shape) (h : ℕ) (host : Host) (e : Filled) → GoesOn e → readings_of (host_step c h host e) ≡ option_or (last_read (beat_ended_at c h host e)) (readings_of host)
one_read c h Stopped (entries.Start g) on = refl
one_read c h Stopped (entries.Stop g) on = refl
one_read c h Stopped (entries.Begin g task) on = refl
one_read c h Stopped (Called g d call answer left) on = refl
one_read c h Stopped (Torn g d call left) on = refl
one_read c h Stopped (Crashed d left) on = refl
one_read c h Stopped (Lost d) on = refl
one_read c h Stopped (Migrated disks log) on = refl
one_read c h (Running m) (entries.Start g) on = refl
one_read c h (Running m) (entries.Stop g) on = absurd on
one_read c h (Running m) (entries.Begin g task) on = (begins_so m c task).readings
one_read c h (Running m) (Called g d call answer left) on = read_hearing c h m m.doing d answer
one_read c h (Running m) (Torn g d call left) on = absurd on
one_read c h (Running m) (Crashed d left) on = refl
one_read c h (Running m) (Lost d) on = refl
one_read c h (Running m) (Migrated disks log) on = refl

all_read : (c : Shape) (h : ℕ) (es : List Filled) (host : Host) → AllGoOn es → readings_of (host_after c h host es) ≡ option_or (last_read (beats_ended c h host es)) (readings_of host)
all_read c h [] host on = refl
all_read c h (e ∷ es) host on =
    let first = beat_ended_at c h host e in
    let rest = beats_ended c h (host_step c h host e) es in
    all_read c h es (host_step c h host e) on.1
    ∙ ap (option_or (last_read rest)) (one_read c h host e on.0)
    ∙ sym (or_or (last_read rest) (last_read first) (readings_of host))
    ∙ ap (λ (o : Option Readings). option_or o (readings_of host)) (sym (last_more first rest))

pub accounts_for : AccountsFor
accounts_for c h since on =
    let is = all_account c h since (Running fresh) [] on (record { learned = refl; floor = refl; up_to = tt }) in
    record { learned = learned_told _ _ is; floor = floor_told _ _ is; readings = all_read c h since (Running fresh) on ∙ or_none (last_read (beats_ended c h (Running fresh) since)) }

-- TRIES

-- so many attempts of an operation were outrun: its tries and these make all that it began with; or it has ended, by the last of them
abbrev IsTried : ℕ → Option Doing → Option HostAnswer → ℕ → Type 0
IsTried tries None said n = (n ≤ tries) × ((said ≡ Some (Refused refusal.Outrun)) ↔ (n ≡ tries))
IsTried tries (Some (Attempts t)) said n = (t.tries + n ≡ tries) × (1 ≤ t.tries) × (said ≡ None)
IsTried tries (Some other) said n = ⊥

abbrev Tried : ℕ → Memory → ℕ → Type 0
Tried tries m n = IsTried tries m.doing m.said n

abbrev TriedAt : ℕ → Host → ℕ → Type 0
TriedAt tries Stopped n = ⊥
TriedAt tries (Running m) n = Tried tries m n

-- an operation that ends otherwise leaves tries
ends_so : (tries n : ℕ) (said : HostAnswer) → n < tries → (Some said ≡ Some (Refused refusal.Outrun) → ⊥) → IsTried tries None (Some said) n
ends_so tries n said left other = (omega arith, (λ is. absurd (other is), λ is. absurd (omega arith)))

not_full : (operation : Operation) (learned : ℕ) → Some (full_answer operation learned) ≡ Some (Refused refusal.Outrun) → ⊥
not_full (Submitting command) learned is = cc
not_full Recovering learned is = cc

tried_on : (c : Shape) (m : Memory) (operation : Operation) (k tries n : ℕ) → k + n ≡ tries → 1 ≤ k → Tried tries (goes_on c m operation k) n
tried_on c m operation k tries n all some =
    on_either (nat_lt (length m.learned) c.slots) (begins m operation k) (says m (full_answer operation (length m.learned))) (λ x. Tried tries x n)
    (λ e. (all, some, refl))
    (λ e. ends_so tries n (full_answer operation (length m.learned)) (omega arith) (not_full operation (length m.learned)))

module _ (c : Shape) (tries : ℕ) (m : Memory) (t : Attempt) (n : ℕ) (all : t.tries + n ≡ tries) (some : 1 ≤ t.tries) where
  tries_left : n < tries
  tries_left = omega (arith, all, some)

  tried_learning : (command : Command) (b : Bool) → Tried tries (after_learning c m t command b) n
  tried_learning command true = ends_so tries n _ tries_left (λ is. cc)
  tried_learning command false = tried_on c (learns m command) t.operation t.tries tries n all some

  tried_taking : (ballot : ℕ) (value : List ℕ) (read : Option Command) → Tried tries (takes c m t ballot value read) n
  tried_taking ballot value None = ends_so tries n _ tries_left (λ is. cc)
  tried_taking ballot value (Some command) = tried_learning command (is_submitted t.operation value)

  tried_again : (m' : Memory) → Tried tries (tries_again m' t.operation t.tries) (n + 1)
  tried_again m' =
      on_either (nat_le t.tries 1) (says m' (Refused refusal.Outrun)) (begins m' t.operation (t.tries - 1)) (λ x. Tried tries x (n + 1))
      (λ last. let one : t.tries ≤ 1 = leb-true t.tries 1 last in (omega (arith, all, some), (λ is. omega (arith, all, some, one), λ is. refl)))
      (λ more. let two : 1 < t.tries = leb-false t.tries 1 more in (omega (arith, all, two), omega (arith, two), refl))

  tried_ending : (ballot : ℕ) (end : End) → Tried tries (ended c m t ballot end) (n + (one_if_outrun end + 0))
  tried_ending ballot (attempt.Committed value) = subst (Tried tries (ended c m t ballot (attempt.Committed value))) (omega arith) (tried_taking ballot value (decoded value))
  tried_ending ballot (attempt.Decided value) = subst (Tried tries (ended c m t ballot (attempt.Decided value))) (omega arith) (tried_taking ballot value (decoded value))
  tried_ending ballot attempt.Empty = subst (Tried tries (ended c m t ballot attempt.Empty)) (omega arith) (ends_so tries n _ tries_left (λ is. cc))
  tried_ending ballot attempt.NoMajority = subst (Tried tries (ended c m t ballot attempt.NoMajority)) (omega arith) (ends_so tries n _ tries_left (λ is. cc))
  tried_ending ballot attempt.BallotsSpent = subst (Tried tries (ended c m t ballot attempt.BallotsSpent)) (omega arith) (ends_so tries n _ tries_left (λ is. cc))
  tried_ending ballot (attempt.Outrun mbal) = subst (Tried tries (ended c m t ballot (attempt.Outrun mbal))) (omega arith) (tried_again (with_floor (with_floor m ballot) mbal))

  tried_status : (s : Setup) (heard : List Answered) (st : Status) → Tried tries (by_status c m t (taken s (on heard)) st) (n + outruns (ending_by s heard st))
  tried_status s heard (Due phase d) = subst (Tried tries (by_status c m t (taken s (on heard)) (Due phase d))) (omega arith) (all, some, refl)
  tried_status s heard (Ended end) = tried_ending (taken s (on heard)) end

tried_hearing : (c : Shape) (h tries : ℕ) (m : Memory) (n : ℕ) (o : Option Doing) → m.doing ≡ o → IsTried tries o m.said n → (d : ℕ) (answer : Answer)
    → Tried tries (hears_from c h m o d answer) (n + outruns (ending_in c h m o (record { disk = d; heard = heard_as answer })))
tried_hearing c h tries m n None doing is d answer = subst (Tried tries m) (omega arith) (subst (λ (o : Option Doing). IsTried tries o m.said n) (sym doing) is)
tried_hearing c h tries m n (Some (Attempts t)) doing is d answer =
    let more = with_heard t (record { disk = d; heard = heard_as answer }) in
    let s = setup_of c h m t.operation in
    tried_status c tries m more n is.0 is.1 s more.heard (status s (on more.heard))
tried_hearing c h tries m n (Some other) doing is d answer = absurd is

one_tried : (c : Shape) (h tries : ℕ) (host : Host) (n : ℕ) (e : Filled) → IsCalled e → TriedAt tries host n → TriedAt tries (host_step c h host e) (n + outruns (ending_at c h host e))
one_tried c h tries Stopped n e called is = absurd is
one_tried c h tries (Running m) n (Called g d call answer left) called is = tried_hearing c h tries m n m.doing refl is d answer
one_tried c h tries (Running m) n other called is = absurd called

all_tried : (c : Shape) (h tries : ℕ) (es : List Filled) (host : Host) (n : ℕ) → AllCalled es → TriedAt tries host n → TriedAt tries (host_after c h host es) (n + outruns (endings c h host es))
all_tried c h tries [] host n called is = subst (TriedAt tries host) (omega arith) is
all_tried c h tries (e ∷ es) host n called is =
    let more = outruns_more (ending_at c h host e) (endings c h (host_step c h host e) es) in
    subst (TriedAt tries (host_after c h (host_step c h host e) es)) (omega (arith, more))
    (all_tried c h tries es (host_step c h host e) (n + outruns (ending_at c h host e)) called.1 (one_tried c h tries host n e called.0 is))

-- the count tells the refusal
tells : (tries n : ℕ) (doing : Option Doing) (said : Option HostAnswer) → IsTried tries doing said n → ((said ≡ Some (Refused refusal.Outrun)) ↔ (n ≡ tries)) × (n ≤ tries)
tells tries n None said is = (is.1, is.0)
tells tries n (Some (Attempts t)) said is = ((λ refused. absurd (let none = is.2 in cc), λ same. absurd (omega (arith, is.0, is.1, same))), omega (arith, is.0))
tells tries n (Some other) said is = absurd is

told : (tries n : ℕ) (host : Host) → TriedAt tries host n → ((said_of host ≡ Some (Refused refusal.Outrun)) ↔ (n ≡ tries)) × (n ≤ tries)
told tries n Stopped is = absurd is
told tries n (Running m) is = tells tries n m.doing m.said is

begins_tried : (c : Shape) (h tries : ℕ) (m : Memory) (e : Filled) → 1 ≤ tries → BeginsWith tries e → TriedAt tries (host_step c h (Running m) e) (outruns (ending_at c h (Running m) e))
begins_tried c h tries m (entries.Begin g (Submit command k)) some same = tried_on c m (Submitting command) k tries 0 (omega (arith, same)) (omega (arith, same))
begins_tried c h tries m (entries.Begin g (Recover k)) some same = tried_on c m Recovering k tries 0 (omega (arith, same)) (omega (arith, same))
begins_tried c h tries m other some same = absurd same

pub gives_up : GivesUp
gives_up c h tries m e calls idle some begun called =
    let host = host_step c h (Running m) e in
    let more = outruns_more (ending_at c h (Running m) e) (endings c h host calls) in
    let is = told tries _ _ (subst (TriedAt tries (host_after c h host calls)) (sym more) (all_tried c h tries calls host (outruns (ending_at c h (Running m) e)) called (begins_tried c h tries m e some begun))) in
    record { exactly = is.0; no_more = is.1 }
