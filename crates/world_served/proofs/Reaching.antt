-- Two submissions over one disk, of which the second finds a slot open: their calls are computed, and with them the premises of the law hold.
use Rattle.std.specs.Prelude.{not, ◌&&◌, nat_lt, take, drop, slice_get, option_map, option_and_then}
use Rattle.std.proofs.Common.{ℕ, zero, suc, ◌+◌, ◌<◌, ◌≤◌, ◌≡◌, inl, inr, Bool, false, Option, Some, None, List, [], ◌∷◌, ◌++◌, length, length-append, refl, sym, subst, ap, ◌∙◌, arith}
use Rattle.std.proofs.lemmas.Bool.{cases_lt}
use Rattle.std.proofs.lemmas.List.{take-take, take-append-le, drop_all}
use Rattle.std.proofs.lemmas.Option.{slice_get_within}
use Rattle.std.proofs.Math.Seq.{take-length, take-append_seam}
use Rattle.disk.specs.Disk.{DiskState, Call, Answer}
use Rattle.disk.specs.Simulated.{fresh_disk}
use Rattle.torn_block.specs.Block.{sequence_of, body_of, number_bytes, tail_with}
use Rattle.torn_block.specs.Place.{copy_in}
use Rattle.torn_block.specs.declared.layout.TheConstants.{HOSTS}
use Rattle.paxos_block.specs.Row.{decoded_row}
use Rattle.paxos_block.specs.Saying.{zeros, heading, body_saying, number_at, claim_of, is_said}
use Rattle.attempt.specs.Answers.{Answered}
use Rattle.attempt.specs.Setup.{Setup}
use Rattle.lock_command.specs.declared.command.Command.{Command}
use Rattle.lock_command.specs.Command.{number}
use Rattle.lock_command.specs.Reading.{lock_at, request_at, mode_of, name_at, enqueue_at, convert_at, action_at, command_at}
use Rattle.lock_table.specs.Apply.{applied, granted, without_value}
use Rattle.lock_command.specs.Locks.{settled}
use Rattle.lock_command.specs.declared.reply.Answer.TheVariants.{Queued}
use Rattle.paxos_block.specs.Shape.{Shape}
use Rattle.host.specs.declared.answer.HostAnswer.{HostAnswer}
use Rattle.host.specs.declared.answer.HostAnswer.TheVariants.{Ack}
use Rattle.host.specs.Host.{Host, Stopped, Running, fresh, is_stopped, idles, said_of}
use Rattle.host.specs.declared.task.Task.TheVariants.{Submit}
use Rattle.world.specs.Entry.{Filled, Start, Stop, Begin, Called, Torn, of_host, host_step}
use Rattle.world.specs.World.{world}
use Rattle.world.specs.Happens as events
use Rattle.world.specs.Happens.{Event, entry_of, with_entry, happens, happen}
use Rattle.world.specs.Chosen.{at, migrated, Hears, IsCallOf}
use Rattle.world.proofs.Projections.{disk_there, host_here}
use Rattle.world_safety.specs.Claims.{IsProposedAt}
use Rattle.world_served.specs.Reached.{one_disk, first_command, steps, first_submission, none_open, second_command, second_submission, first_open}
use Rattle.world_served.specs.Served.{MarksOpen, IsLeftAlone, calls_between}
use Rattle.world_served.proofs.Playing.{Plays, played, plays_on, get_old, get_last}

-- WHAT FOLLOWS FROM THE CALLS

-- what stands in front stands in the whole
get_take : {A : Type 0} (l : List A) (n k : ℕ) → k < n → slice_get (take n l) k ≡ slice_get l k
get_take l zero k less = absurd (omega arith)
get_take [] (suc n) k less = refl
get_take (x ∷ l) (suc n) zero less = refl
get_take (x ∷ l) (suc n) (suc k) less = get_take l n k (omega arith)

-- behind these entries there is nothing yet
plays_none : (c : Shape) (last : ℕ) (begin : List Filled) (disk : DiskState) (host : Host) → (world c begin).disk 0 ≡ disk → (world c begin).host 0 ≡ host → Plays c last begin begin disk host 0
plays_none c last begin disk host disk_is host_is =
    record {
      disk_is = disk_is;
      host_is = host_is;
      long = omega arith;
      begins = take-length begin;
      own = λ k e behind found. absurd (let within = slice_get_within begin k e found in omega arith);
      well = λ k s heard hears behind. absurd (let within = slice_get_within begin k _ hears.entry in omega arith);
      counted = ap (λ (l : List Filled). length (of_host 0 l)) (drop_all (length begin) begin (omega arith));
    }

-- a call of host 0 is no other host's
own_host : (g d : ℕ) (call : Call) (answer : Answer) (left : List ℕ) → IsCallOf 0 (Called g d call answer left) → g ≡ 0
own_host g d call answer left is = let same = is.is in cc

-- and no torn write
no_tear : (g d : ℕ) (call : Call) (left : List ℕ) → IsCallOf 0 (Torn g d call left) → ⊥
no_tear g d call left is = let same = is.is in cc

-- A submission is the last entry before the calls.
module _ (c : Shape) (last : ℕ) (begin log : List Filled) (disk : DiskState) (host : Host) (i n : ℕ) (size : length begin ≡ i + 1) (plays : Plays c last begin log disk host n) where
  long : length log ≡ i + 1 + n
  long = let all = plays.long in omega arith

  whole : take (i + 1 + n) log ≡ log
  whole = ap (λ (k : ℕ). take k log) (sym long) ∙ take-length log

  left_alone_by : (command : Command) (tries : ℕ) (marks : ℕ → Bool) → slice_get begin i ≡ Some (Begin 0 (Submit command tries)) → MarksOpen c log i 0 marks → IsLeftAlone c log i (i + 1 + n) 0 tries command marks
  left_alone_by command tries marks submitted marked =
      record {
        submitted = sym (get_take log (length begin) i (omega arith)) ∙ ap (λ (l : List Filled). slice_get l i) plays.begins ∙ submitted;
        order = omega arith;
        alone = record {
          calls = λ k g d call answer left behind before found. inl (own_host g d call answer left (plays.own k (Called g d call answer left) (omega arith) found));
          tears = λ k g d call left behind before found. absurd (no_tear g d call left (plays.own k (Torn g d call left) (omega arith) found));
          goes_on = λ k e behind before found of. plays.own k e (omega arith) found;
        };
        answered = λ k s heard hears behind before same. (plays.well k s heard hears (omega arith)).0;
        marked = marked;
      }

  calls_by : calls_between log i (i + 1 + n) 0 ≡ n
  calls_by = ap (λ (l : List Filled). length (of_host 0 (drop (i + 1) l))) whole ∙ ap (λ (k : ℕ). length (of_host 0 (drop k log))) (sym size) ∙ plays.counted

  host_by : (at c log (i + 1 + n)).host 0 ≡ host
  host_by = ap (λ (l : List Filled). (world c l).host 0) whole ∙ plays.host_is

-- THE FIRST SUBMISSION

abbrev first_two : List Filled
first_two = Start 0 ∷ Begin 0 (Submit first_command 1) ∷ []

-- the disk and the host behind its first two entries
abbrev disk_then : DiskState
disk_then = (world one_disk first_two).disk 0

abbrev host_then : Host
host_then = (world one_disk first_two).host 0

-- the first two events bring them
begun : (es : List Event) → happen one_disk [] (events.Start 0 ∷ events.Begin 0 (Submit first_command 1) ∷ es) ≡ happen one_disk first_two es
unfolding fresh_disk sequence_of body_of number_bytes tail_with copy_in decoded_row zeros heading body_saying number_at claim_of is_said number lock_at request_at mode_of name_at enqueue_at convert_at action_at command_at
begun es = refl

-- by computing: behind seventeen calls the host has acknowledged the command
said_then : option_map (λ (q : DiskState × Host). said_of q.1) (played one_disk 0 17 disk_then host_then) ≡ Some (Some (Ack 0 granted))
unfolding played fresh_disk sequence_of body_of number_bytes tail_with copy_in decoded_row zeros heading body_saying number_at claim_of is_said number lock_at request_at mode_of name_at enqueue_at convert_at action_at command_at applied settled
said_then = refl

-- what is said of a value is said of one that there is
found_in : (o : Option (DiskState × Host)) (said : Option HostAnswer) → option_map (λ (q : DiskState × Host). said_of q.1) o ≡ Some said → (q : DiskState × Host) × (o ≡ Some q) × (said_of q.1 ≡ said)
found_in None said is = absurd (cc)
found_in (Some q) said is = (q, refl, (let same = is in cc))

-- where disk and host come to
first_last : (q : DiskState × Host) × (played one_disk 0 17 disk_then host_then ≡ Some q) × (said_of q.1 ≡ Some (Ack 0 granted))
first_last = found_in (played one_disk 0 17 disk_then host_then) (Some (Ack 0 granted)) said_then

-- the events make this list
is_happened : happen one_disk first_two (steps 17) ≡ first_submission
unfolding first_submission
is_happened = sym (begun (steps 17))

-- so all holds of the submission
first_plays : Plays one_disk 0 first_two first_submission first_last.0.0 first_last.0.1 17
first_plays =
    subst (λ (l : List Filled). Plays one_disk 0 first_two l first_last.0.0 first_last.0.1 17) is_happened
    (plays_on one_disk 0 first_two refl 17 first_two disk_then host_then 0 first_last.0 (plays_none one_disk 0 first_two disk_then host_then refl refl) first_last.1)

-- an attempt that hears an answer at a place hears it in each beginning of the list that has the place
hears_in : (c : Shape) (log short : List Filled) (n k : ℕ) (s : Setup) (heard : List Answered) → take n log ≡ short → k < n → Hears c log k s heard → Hears c short k s heard
hears_in c log short n k s heard begins less hears =
    record {
      host = hears.host;
      disk = hears.disk;
      call = hears.call;
      answer = hears.answer;
      left = hears.left;
      entry = ap (λ (l : List Filled). slice_get l k) (sym begins) ∙ get_take log n k less ∙ hears.entry;
      memory = hears.memory;
      running = subst (λ (l : List Filled). (world c l).host hears.host ≡ Running hears.memory) (sym (take-take k n log (omega arith)) ∙ ap (take k) begins) hears.running;
      doing = hears.doing;
      does = hears.does;
      is_setup = hears.is_setup;
      is_heard = hears.is_heard;
    }

-- neither of the first two entries is a call
not_first : (k g d : ℕ) (call : Call) (answer : Answer) (left : List ℕ) → k < 2 → slice_get first_two k ≡ Some (Called g d call answer left) → ⊥
not_first zero g d call answer left less is = cc
not_first (suc zero) g d call answer left less is = cc
not_first (suc (suc k)) g d call answer left less is = omega arith

-- whoever hears an answer in it tries slot 0
first_slot : (k : ℕ) (s : Setup) (heard : List Answered) → Hears one_disk first_submission k s heard → s.slot ≡ 0
first_slot k s heard hears = elim (cases_lt k 2) [
  | inl early ↦ absurd (let there = hears_in one_disk first_submission first_two 2 k s heard first_plays.begins early hears in not_first k there.host there.disk there.call there.answer there.left early there.entry)
  | inr late ↦ (let low = (first_plays.well k s heard hears late).1 in omega arith)
]

-- before the submission nobody had a proposal
none_proposed : (k slot b : ℕ) (value : List ℕ) → k < 1 → IsProposedAt one_disk first_submission k slot b value → ⊥
none_proposed k slot b value less is =
    let there = hears_in one_disk first_submission first_two 2 k is.setup is.heard first_plays.begins (omega arith) is.hears in
    not_first k there.host there.disk there.call there.answer there.left (omega arith) there.entry

-- a list that begins with a start has nothing migrated
none_migrated : (log : List Filled) (h : ℕ) → slice_get log 0 ≡ Some (Start h) → migrated log ≡ []
none_migrated [] h is = refl
none_migrated (e ∷ es) h is = let same : e ≡ Start h = cc in ap (λ (x : Filled). migrated (x ∷ es)) same

first_is : slice_get first_submission 0 ≡ Some (Start 0)
first_is = sym (get_take first_submission 2 0 (omega arith)) ∙ ap (λ (l : List Filled). slice_get l 0) first_plays.begins

-- it is left alone and answered
pub left_alone : IsLeftAlone one_disk first_submission 1 19 0 1 first_command none_open
left_alone =
    left_alone_by one_disk 0 first_two first_submission first_last.0.0 first_last.0.1 1 17 refl first_plays first_command 1 none_open refl
    (record {
      proposed = λ slot k b value less proposed le. absurd (none_proposed k slot b value less proposed);
      migrated = λ slot within le. absurd (let none = ap length (none_migrated first_submission 0 first_is) in omega arith);
    })

-- by seventeen calls
pub seventeen : calls_between first_submission 1 19 0 ≡ 17
seventeen = calls_by one_disk 0 first_two first_submission first_last.0.0 first_last.0.1 1 17 refl first_plays

-- of which the last brings the answer
pub acknowledged : said_of ((at one_disk first_submission 19).host 0) ≡ Some (Ack 0 granted)
acknowledged = ap said_of (host_by one_disk 0 first_two first_submission first_last.0.0 first_last.0.1 1 17 refl first_plays) ∙ first_last.2

-- THE HOST FORGETS, AND SUBMITS AGAIN

abbrev stopped : List Filled
stopped = first_submission ++ Stop 0 ∷ []

abbrev started : List Filled
started = stopped ++ Start 0 ∷ []

abbrev begun_again : List Filled
begun_again = started ++ Begin 0 (Submit second_command 1) ∷ []

abbrev host_again : Host
host_again = host_step one_disk 0 (Running fresh) (Begin 0 (Submit second_command 1))

first_long : length first_submission ≡ 19
first_long = first_plays.long

stopped_long : length stopped ≡ 20
stopped_long = let before = first_long in omega (arith, length-append first_submission (Stop 0 ∷ []))

started_long : length started ≡ 21
started_long = let before = stopped_long in omega (arith, length-append stopped (Start 0 ∷ []))

begun_long : length begun_again ≡ 22
begun_long = let before = started_long in omega (arith, length-append started (Begin 0 (Submit second_command 1) ∷ []))

-- who says something runs
runs : (host : Host) (said : HostAnswer) → said_of host ≡ Some said → is_stopped host ≡ false
runs Stopped said is = absurd (cc)
runs (Running m) said is = refl

-- each of the three events brings its entry
stops : happens one_disk first_submission (events.Stop 0) ≡ stopped
stops =
    let running : is_stopped ((world one_disk first_submission).host 0) ≡ false = ap is_stopped first_plays.host_is ∙ runs first_last.0.1 (Ack 0 granted) first_last.2 in
    ap (λ (b : Bool). with_entry first_submission (events.brings_if (not b) (Some (Stop 0)))) running

host_stopped : (world one_disk stopped).host 0 ≡ Stopped
host_stopped = host_here one_disk first_submission (Stop 0) 0 refl

starts : happens one_disk stopped (events.Start 0) ≡ started
starts = ap (λ (host : Host). with_entry stopped (events.brings_if (nat_lt 0 HOSTS && is_stopped host) (Some (Start 0)))) host_stopped

host_started : (world one_disk started).host 0 ≡ Running fresh
host_started = host_here one_disk stopped (Start 0) 0 refl ∙ ap (λ (host : Host). host_step one_disk 0 host (Start 0)) host_stopped

-- the command is what its spelling reads as
submits_so : events.brings_if (idles (Running fresh)) (events.task_entry one_disk 0 (Submit second_command 1)) ≡ Some (Begin 0 (Submit second_command 1))
unfolding fresh_disk sequence_of body_of number_bytes tail_with copy_in decoded_row zeros heading body_saying number_at claim_of is_said number lock_at request_at mode_of name_at enqueue_at convert_at action_at command_at
submits_so = refl

submits : happens one_disk started (events.Begin 0 (Submit second_command 1)) ≡ begun_again
submits = ap (with_entry started) (ap (λ (host : Host). events.brings_if (idles host) (events.task_entry one_disk 0 (Submit second_command 1))) host_started ∙ submits_so)

-- the events go on from there
happen_both : (c : Shape) (log : List Filled) (first second : List Event) → happen c log (first ++ second) ≡ happen c (happen c log first) second
happen_both c log [] second = refl
happen_both c log (e ∷ first) second = happen_both c (happens c log e) first second

goes_on : happen one_disk begun_again (steps 34) ≡ second_submission
unfolding first_submission second_submission
goes_on =
    ap (λ (l : List Filled). happen one_disk l (steps 34)) (sym (ap (λ (l : List Filled). happens one_disk l (events.Begin 0 (Submit second_command 1))) (ap (λ (l : List Filled). happens one_disk l (events.Start 0)) stops ∙ starts) ∙ submits))
    ∙ sym (happen_both one_disk [] (events.Start 0 ∷ events.Begin 0 (Submit first_command 1) ∷ steps 17) (events.Stop 0 ∷ events.Start 0 ∷ events.Begin 0 (Submit second_command 1) ∷ steps 34))

-- by computing: behind thirty-four calls the host has acknowledged the second command, behind the first
said_again : option_map (λ (q : DiskState × Host). said_of q.1) (option_and_then (λ (p : DiskState × Host). played one_disk 3 34 p.0 host_again) (played one_disk 0 17 disk_then host_then)) ≡ Some (Some (Ack 1 (without_value Queued)))
unfolding played fresh_disk sequence_of body_of number_bytes tail_with copy_in decoded_row zeros heading body_saying number_at claim_of is_said number lock_at request_at mode_of name_at enqueue_at convert_at action_at command_at applied settled
said_again = refl

second_last : (q : DiskState × Host) × (played one_disk 3 34 first_last.0.0 host_again ≡ Some q) × (said_of q.1 ≡ Some (Ack 1 (without_value Queued)))
second_last =
    found_in (played one_disk 3 34 first_last.0.0 host_again) (Some (Ack 1 (without_value Queued)))
    (ap (λ (o : Option (DiskState × Host)). option_map (λ (q : DiskState × Host). said_of q.1) (option_and_then (λ (p : DiskState × Host). played one_disk 3 34 p.0 host_again) o)) (sym first_last.1) ∙ said_again)

disk_again : (world one_disk begun_again).disk 0 ≡ first_last.0.0
disk_again = disk_there one_disk started (Begin 0 (Submit second_command 1)) 0 refl ∙ disk_there one_disk stopped (Start 0) 0 refl ∙ disk_there one_disk first_submission (Stop 0) 0 refl ∙ first_plays.disk_is

host_then_again : (world one_disk begun_again).host 0 ≡ host_again
host_then_again = host_here one_disk started (Begin 0 (Submit second_command 1)) 0 refl ∙ ap (λ (host : Host). host_step one_disk 0 host (Begin 0 (Submit second_command 1))) host_started

second_plays : Plays one_disk 3 begun_again second_submission second_last.0.0 second_last.0.1 34
second_plays =
    subst (λ (l : List Filled). Plays one_disk 3 begun_again l second_last.0.0 second_last.0.1 34) goes_on
    (plays_on one_disk 3 begun_again refl 34 begun_again first_last.0.0 host_again 0 second_last.0 (plays_none one_disk 3 begun_again first_last.0.0 host_again disk_again host_then_again) second_last.1)

-- SLOT 0 IS OPEN

-- what is heard before the second submission was heard in the first
stopped_first : take 19 begun_again ≡ first_submission
stopped_first =
    let a = first_long in let b = stopped_long in let d = started_long in
    take-append-le 19 started (Begin 0 (Submit second_command 1) ∷ []) (omega arith) ∙ take-append-le 19 stopped (Start 0 ∷ []) (omega arith)
    ∙ ap (λ (n : ℕ). take n stopped) (sym first_long) ∙ take-append_seam first_submission (Stop 0 ∷ [])

-- and neither of the two entries behind that is a call
not_between : (k g d : ℕ) (call : Call) (answer : Answer) (left : List ℕ) → 19 ≤ k → k < 21 → slice_get begun_again k ≡ Some (Called g d call answer left) → ⊥
not_between k g d call answer left low high is =
    let a = first_long in let b = stopped_long in let e = started_long in
    let in_started : slice_get started k ≡ Some (Called g d call answer left) = sym (get_old started (Begin 0 (Submit second_command 1)) k (omega arith)) ∙ is in
    elim (cases_lt k 20) [
      | inl first ↦
          (let here : k ≡ length first_submission = omega arith in
          let stop : Some (Stop 0) ≡ Some (Called g d call answer left) =
          sym (get_last first_submission (Stop 0)) ∙ ap (slice_get stopped) (sym here) ∙ sym (get_old stopped (Start 0) k (omega arith)) ∙ in_started in
          cc)
      | inr second ↦
          (let here : k ≡ length stopped = omega arith in
          let start : Some (Start 0) ≡ Some (Called g d call answer left) = sym (get_last stopped (Start 0)) ∙ ap (slice_get started) (sym here) ∙ in_started in
          cc)
    ]

before_slot : (k : ℕ) (s : Setup) (heard : List Answered) → k < 21 → Hears one_disk second_submission k s heard → s.slot ≡ 0
before_slot k s heard less hears =
    let size = begun_long in
    let there = hears_in one_disk second_submission begun_again (length begun_again) k s heard second_plays.begins (omega arith) hears in
    elim (cases_lt k 19) [
      | inl first ↦ first_slot k s heard (hears_in one_disk begun_again first_submission 19 k s heard stopped_first first there)
      | inr behind ↦ absurd (not_between k there.host there.disk there.call there.answer there.left behind less there.entry)
    ]

second_starts : slice_get second_submission 0 ≡ Some (Start 0)
second_starts =
    let size = begun_long in
    sym (get_take second_submission (length begun_again) 0 (omega arith)) ∙ ap (λ (l : List Filled). slice_get l 0) second_plays.begins
    ∙ sym (get_take begun_again 19 0 (omega arith)) ∙ ap (λ (l : List Filled). slice_get l 0) stopped_first ∙ first_is

marks_first : MarksOpen one_disk second_submission 21 0 first_open
marks_first = record {
  proposed = λ slot k b value less proposed le. ap first_open (sym proposed.on_slot ∙ before_slot k proposed.setup proposed.heard less proposed.hears);
  migrated = λ slot within le. absurd (let none = ap length (none_migrated second_submission 0 second_starts) in omega arith);
}

-- THE SECOND SUBMISSION

second_is : slice_get begun_again 21 ≡ Some (Begin 0 (Submit second_command 1))
second_is = ap (slice_get begun_again) (sym started_long) ∙ get_last started (Begin 0 (Submit second_command 1))

pub second_left_alone : IsLeftAlone one_disk second_submission 21 56 0 1 second_command first_open
second_left_alone = left_alone_by one_disk 3 begun_again second_submission second_last.0.0 second_last.0.1 21 34 begun_long second_plays second_command 1 first_open second_is marks_first

pub thirty_four : calls_between second_submission 21 56 0 ≡ 34
thirty_four = calls_by one_disk 3 begun_again second_submission second_last.0.0 second_last.0.1 21 34 begun_long second_plays

pub second_acknowledged : said_of ((at one_disk second_submission 56).host 0) ≡ Some (Ack 1 (without_value Queued))
second_acknowledged = ap said_of (host_by one_disk 3 begun_again second_submission second_last.0.0 second_last.0.1 21 34 begun_long second_plays) ∙ second_last.2
