-- The same of a beat, of a marking and of a look.
use Rattle.std.specs.Prelude.{if◌then◌else◌, ◌&&◌, ◌||◌, ◌*◌, not, nat_lt, nat_le, slice_get, is_some, is_none, option_and_then, option_map}
use Rattle.std.specs.List.{range_with_len}
use Rattle.std.proofs.Common.{ℕ, ◌≡◌, ◌==◌, Bool, true, false, List, Option, Some, None, map, length, refl, ap, ◌∙◌}
use Rattle.disk.specs.Disk as device
use Rattle.torn_block.specs.Layout.{cluster_version, area_place}
use Rattle.torn_block.specs.declared.layout.TheConstants.{LAST_SEQUENCE, ROW_LENGTH}
use Rattle.torn_block.specs.Stage.{call_of}
use Rattle.paxos_block.specs.Places.{place_of, VoteOf, BeatOf, row_place}
use Rattle.paxos_block.specs.Saying.{body_saying}
use Rattle.paxos_block.specs.Row.{DecodedBlock}
use Rattle.paxos_block.specs.Votes.{marked_in}
use Rattle.heartbeat.specs.Beat.{counters_in, counter_of, beat_body}
use Rattle.attempt.specs.Calls as attempt
use Rattle.attempt.specs.Heard.{boot_of}
use Rattle.attempt.specs.Answers as attempt_answers
use Rattle.attempt.specs.Answers.{row_in, seen_block}
use Rattle.attempt.specs.Numbers.{count, first_below}
use Rattle.attempt.specs.NextCall.{with_disk}
use Rattle.rounds.specs.Beat.Answers as beat_answers
use Rattle.rounds.specs.Beat.Answers.{area_in, reading_of, own_block_in}
use Rattle.rounds.specs.Beat.Status as beat
use Rattle.rounds.specs.Marking.Status as mark
use Rattle.rounds.specs.Look.Status as look
use Rattle.at_once.specs.Power.{call_later}
use Rattle.at_once.proofs.Renumbering.{each_later, good_later, told_at, boot_later, length_later, call_of_later, kind_later, due_later, with_disk_later}

-- A BEAT

module _ (s : beat.Setup) (losses : ℕ → ℕ) (f : beat_answers.Answers) where
  abbrev g : beat_answers.Answers
  g = each_later losses f

  area : (d : ℕ) → area_in (g d) ≡ area_in (f d)
  area d = told_at (losses d) (f d) 2

  stuck : (d : ℕ) → beat.is_stuck s (g d) ≡ beat.is_stuck s (f d)
  stuck d = λ i. (length_later losses f d i == 3) && true && nat_le LAST_SEQUENCE (counter_of (own_block_in s.host (area d i)))

  left : (d : ℕ) → beat.is_left s (g d) ≡ beat.is_left s (f d)
  left d = λ i. good_later (losses d) (f d) i && not (stuck d i)

  visiting : beat.visited s g ≡ beat.visited s f
  visiting = λ i. first_below s.disks (λ d. left d i && nat_lt (length_later losses f d i) beat.nine_calls)

  pub beat_status_later : beat.status s g ≡ beat.status s f
  beat_status_later =
      λ i. if nat_lt s.disks (2 * count s.disks (λ d. left d i)) then beat.due_or (visiting i) (beat.Ended (beat.Beaten (map (λ d. option_map counters_in (area d i)) (range_with_len 0 s.disks)))) else beat.Ended beat.NoMajority

  calling : (d : ℕ) (kind : beat.Kind) → beat.call_by s (g d) kind ≡ call_later (losses d) (beat.call_by s (f d) kind)
  calling d beat.Attaching = refl
  calling d beat.Syncing = λ i. device.Sync (boot_later (losses d) (f d) i)
  calling d beat.Reading = λ i. device.Read (boot_later (losses d) (f d) i) (area_place cluster_version) ROW_LENGTH
  calling d (beat.Putting p call) =
      (λ i. call_of call (record { version = cluster_version; place = place_of cluster_version (BeatOf s.host); block = own_block_in s.host (area d i); body = beat_body }) (boot_later (losses d) (f d) i))
      ∙ call_of_later (losses d) call (beat.write_on s (f d)) (boot_of (f d))

  calls : (d : ℕ) → beat.call_on s (g d) ≡ option_map (call_later (losses d)) (beat.call_on s (f d))
  calls d = ap (λ (n : ℕ). option_map (beat.call_by s (g d)) (slice_get attempt.seventeen n)) (length_later losses f d) ∙ kind_later (losses d) (beat.call_by s (f d)) (beat.call_by s (g d)) (calling d) (slice_get attempt.seventeen (length (f d)))

  by_status : (st : beat.Status) → beat.next_in s g st ≡ due_later losses (beat.next_in s f st)
  by_status (beat.Due d) = ap (with_disk d) (calls d) ∙ with_disk_later losses d (beat.call_on s (f d))
  by_status (beat.Ended end) = refl

  pub beat_next_later : beat.next_call s g ≡ due_later losses (beat.next_call s f)
  beat_next_later = ap (beat.next_in s g) beat_status_later ∙ by_status (beat.status s f)

-- A MARKING

module _ (s : mark.Setup) (losses : ℕ → ℕ) (f : attempt_answers.Answers) where
  abbrev m : attempt_answers.Answers
  m = each_later losses f

  own : (d : ℕ) → mark.own_block s (m d) ≡ mark.own_block s (f d)
  own d = λ i. seen_block (told_at (losses d) (f d) 2 i) s.host

  to_mark : (d : ℕ) → mark.is_to_mark s (m d) ≡ mark.is_to_mark s (f d)
  to_mark d = λ i. not (own d i).says.mark && mark.is_value (own d i).says.inp s.value

  spent : (d : ℕ) → mark.is_stuck s (m d) ≡ mark.is_stuck s (f d)
  spent d = λ i. (length_later losses f d i == mark.three_calls) && to_mark d i && nat_le LAST_SEQUENCE (own d i).sequence

  stays : (d : ℕ) → mark.is_left s (m d) ≡ mark.is_left s (f d)
  stays d = λ i. good_later (losses d) (f d) i && not (spent d i)

  waiting : (d : ℕ) → mark.waits s (m d) ≡ mark.waits s (f d)
  waiting d = λ i. stays d i && nat_lt (length_later losses f d i) (if to_mark d i then mark.nine_calls else mark.three_calls)

  marked : (d : ℕ) → mark.is_marked s (m d) ≡ mark.is_marked s (f d)
  marked d = λ i. stays d i && ((own d i).says.mark || nat_le mark.nine_calls (length_later losses f d i))

  pub mark_status_later : mark.status s m ≡ mark.status s f
  mark_status_later =
      λ i. if nat_lt s.disks (2 * count s.disks (λ d. stays d i)) then mark.due_or (first_below s.disks (λ d. waiting d i)) (mark.Ended (mark.Marked (count s.disks (λ d. marked d i)))) else mark.Ended mark.NoMajority

  making : (d : ℕ) (kind : attempt.Kind) → mark.call_by s (m d) kind ≡ call_later (losses d) (mark.call_by s (f d) kind)
  making d attempt.Attaching = refl
  making d attempt.Syncing = λ i. device.Sync (boot_later (losses d) (f d) i)
  making d attempt.Reading = λ i. device.Read (boot_later (losses d) (f d) i) (row_place cluster_version s.slot) ROW_LENGTH
  making d (attempt.Putting p call) =
      (λ i. call_of call (record { version = cluster_version; place = place_of cluster_version (VoteOf s.slot s.host); block = (own d i).bytes; body = body_saying cluster_version (mark.with_mark (own d i).says) }) (boot_later (losses d) (f d) i))
      ∙ call_of_later (losses d) call (mark.write_on s (f d)) (boot_of (f d))

  makes : (d : ℕ) → mark.call_on s (m d) ≡ option_map (call_later (losses d)) (mark.call_on s (f d))
  makes d = ap (λ (n : ℕ). option_map (mark.call_by s (m d)) (slice_get attempt.seventeen n)) (length_later losses f d) ∙ kind_later (losses d) (mark.call_by s (f d)) (mark.call_by s (m d)) (making d) (slice_get attempt.seventeen (length (f d)))

  by_standing : (st : mark.Status) → mark.next_in s m st ≡ due_later losses (mark.next_in s f st)
  by_standing (mark.Due d) = ap (with_disk d) (makes d) ∙ with_disk_later losses d (mark.call_on s (f d))
  by_standing (mark.Ended end) = refl

  pub mark_next_later : mark.next_call s m ≡ due_later losses (mark.next_call s f)
  mark_next_later = ap (mark.next_in s m) mark_status_later ∙ by_standing (mark.status s f)

-- A LOOK

module _ (s : look.Setup) (losses : ℕ → ℕ) (f : attempt_answers.Answers) where
  abbrev r : attempt_answers.Answers
  r = each_later losses f

  row : (d : ℕ) → look.row_of (r d) ≡ look.row_of (f d)
  row d = told_at (losses d) (f d) 1

  told_there : (d : ℕ) → look.mark_of (r d) ≡ look.mark_of (f d)
  told_there d = ap (λ (o : Option (List DecodedBlock)). option_and_then (marked_in cluster_version) o) (row d)

  none_shown : (d : ℕ) → look.shows_no_mark (r d) ≡ look.shows_no_mark (f d)
  none_shown d = λ i. is_some (row d i) && is_none (told_there d i)

  still_waits : (d : ℕ) → look.waits (r d) ≡ look.waits (f d)
  still_waits d = λ i. good_later (losses d) (f d) i && nat_lt (length_later losses f d i) look.two_calls

  visits : look.visited s r ≡ look.visited s f
  visits = λ i. if still_waits s.first i then Some s.first else first_below s.disks (λ d. still_waits d i)

  marking_on : look.marked_on s r ≡ look.marked_on s f
  marking_on = λ i. first_below s.disks (λ d. is_some (told_there d i))

  enough : look.are_unmarked s r ≡ look.are_unmarked s f
  enough = λ i. nat_lt s.disks (2 * count s.disks (λ d. none_shown d i))

  lacking : look.are_too_few s r ≡ look.are_too_few s f
  lacking = λ i. nat_le s.disks (2 * count s.disks (λ d. not (good_later (losses d) (f d) i)))

  asks : look.asking s r ≡ look.asking s f
  asks = λ i. if enough i then look.Ended look.Unmarked else if lacking i then look.Ended look.NoMajority else look.due_or (visits i) (look.Ended look.NoMajority)

  unless_so : (o : Option ℕ) (rest : look.Status) → look.unless_told r o rest ≡ look.unless_told f o rest
  unless_so None rest = refl
  unless_so (Some d) rest = ap (λ (o : Option (List ℕ)). look.told_on d o rest) (told_there d)

  pub look_status_later : look.status s r ≡ look.status s f
  look_status_later = (λ i. look.unless_told r (marking_on i) (asks i)) ∙ unless_so (look.marked_on s f) (look.asking s f)

  asking_by : (d : ℕ) (b : Bool) → (if b then device.Attach else device.Read (boot_of (r d)) (row_place cluster_version s.slot) ROW_LENGTH) ≡ call_later (losses d) (if b then device.Attach else device.Read (boot_of (f d)) (row_place cluster_version s.slot) ROW_LENGTH)
  asking_by d true = refl
  asking_by d false = λ i. device.Read (boot_later (losses d) (f d) i) (row_place cluster_version s.slot) ROW_LENGTH

  asking_call : (d : ℕ) → look.call_on s (r d) ≡ call_later (losses d) (look.call_on s (f d))
  asking_call d =
      (λ i. if nat_lt (length_later losses f d i) 1 then device.Attach else device.Read (boot_of (r d)) (row_place cluster_version s.slot) ROW_LENGTH)
      ∙ asking_by d (nat_lt (length (f d)) 1)

  by_look : (st : look.Status) → look.next_in s r st ≡ due_later losses (look.next_in s f st)
  by_look (look.Due d) = ap (λ (call : device.Call). Some (d, call)) (asking_call d)
  by_look (look.Ended end) = refl

  pub look_next_later : look.next_call s r ≡ due_later losses (look.next_call s f)
  look_next_later = ap (look.next_in s r) look_status_later ∙ by_look (look.status s f)
