-- What a core calls on the image of its epoch: it reads whole rows, and writes within its own block of a row.
use Rattle.std.specs.Prelude.{nat_lt, slice_get, if◌then◌else◌}
use Rattle.std.specs.Option.{option_map}
use Rattle.std.proofs.Common.{◌≡◌, ◌+◌, ◌*◌, ◌≤◌, ◌<◌, ℕ, Bool, true, false, List, [], ◌∷◌, length, Option, Some, None, refl, sym, ◌∙◌, ap, subst, arith}
use Rattle.disk.specs.Disk.{Call, Attach, Read}
use Rattle.torn_block.specs.Layout.{cluster_version}
use Rattle.torn_block.specs.declared.layout.TheConstants.{HOSTS, BODY_LENGTH, ROW_LENGTH, BLOCK_LENGTH}
use Rattle.torn_block.specs.declared.write_steps.WriteCall.{WriteCall}
use Rattle.torn_block.specs.declared.write_steps.WriteCall.TheVariants.{CloseGate, SyncClosed, PutBody, SyncBody, OpenGate, SyncOpened}
use Rattle.torn_block.specs.Block.{is_open, copy_of, target_of, next_sequence}
use Rattle.torn_block.specs.Stage.{call_of}
use Rattle.torn_block.proofs.PlaceLaws.{offset_fits, length-tail_with}
use Rattle.heartbeat.proofs.BeatLaws.{length-beat_body}
use Rattle.paxos_block.specs.Places.{BeatOf, VoteOf, place_of, row_place, image_length}
use Rattle.paxos_block.specs.Row.{DecodedBlock}
use Rattle.paxos_block.specs.Saying.{body_saying}
use Rattle.paxos_block.specs.Shape.{Shape}
use Rattle.attempt.specs.Calls.{Phase, Opening, One, Two, Kind, Attaching, Syncing, Reading, Putting, seventeen}
use Rattle.attempt.specs.Answers.{Heard, Answers, on, boot_of, row_in, seen_block}
use Rattle.attempt.specs.Setup.{Setup}
use Rattle.attempt.specs.Standing.{IsIn}
use Rattle.attempt.specs.Status.{Status, Due, Ended, status}
use Rattle.attempt.specs.NextCall.{with_disk, write_on, call_by, next_in, says_for}
use Rattle.attempt.specs.Visits.{waits}
use Rattle.attempt.specs.Votes.{IsLong, TellsVotes}
use Rattle.attempt.proofs.Firsts.{some_below}
use Rattle.attempt.proofs.Statuses.{due_is}
use Rattle.attempt.proofs.Visitors.{waiting_is}
use Rattle.attempt.proofs.Votes.{fills, own_votes, may_write_two, row_told}
use Rattle.attempt_safety.proofs.Stages.{putting}
use Rattle.rounds.specs.Beat.Answers as beat_answers
use Rattle.rounds.specs.Beat.Status as beat
use Rattle.rounds.specs.Marking.Status as mark
use Rattle.rounds.specs.Look.Status as look
use Rattle.host.specs.Host.{Operation, Doing, Attempts, Looks, Beats, Marks, Memory, setup_of, beat_of, marking_of, look_of, input_of, next_doing}
use Rattle.standings.specs.Past.{IsRow}
use Rattle.window.specs.Calls.{IsOwn}
use Rattle.epoch_host.specs.Working.{IsAt}

-- ONE CALL

closing_short : (opened : Bool) → length {A = ℕ} (if opened then 0 ∷ [] else []) ≤ 1
closing_short true = omega arith
closing_short false = omega arith

module _ (n h row : ℕ) (is_row : IsRow n row) (place : ℕ) (here : place ≡ ROW_LENGTH * row + BLOCK_LENGTH * h) (block body : List ℕ) (full : length body ≡ BODY_LENGTH) (boot : ℕ) where
  -- a call of the write of the own block in the row
  puts_own : (call : WriteCall) → IsOwn n h (call_of call (record { version = cluster_version; place = place; block = block; body = body }) boot)
  puts_own CloseGate =
      let a = offset_fits cluster_version (target_of cluster_version block) in
      let b = closing_short (is_open (copy_of cluster_version (target_of cluster_version block) block)) in
      (row, is_row, omega (arith, here), omega (arith, here, a, b))
  puts_own SyncClosed = tt
  puts_own PutBody =
      let a = offset_fits cluster_version (target_of cluster_version block) in
      let b = length-tail_with cluster_version (next_sequence cluster_version block) body full in
      (row, is_row, omega (arith, here), omega (arith, here, a, b))
  puts_own SyncBody = tt
  puts_own OpenGate =
      let a = offset_fits cluster_version (target_of cluster_version block) in
      (row, is_row, omega (arith, here), omega (arith, here, a))
  puts_own SyncOpened = tt

same_call : (n h d k : ℕ) (call due : Call) → ◌≡◌ {A = Option (ℕ × Call)} (Some (d, call)) (Some (k, due)) → IsOwn n h call → IsOwn n h due
same_call n h d k call due is own = (let pair : (d, call) ≡ (k, due) = cc in subst (IsOwn n h) (ap (λ (q : ℕ × Call). q.1) pair) own)

-- ROWS OF THE IMAGE

row_of_slot : (slots slot : ℕ) → slot < slots → IsRow (image_length cluster_version slots) (slot + 2)
row_of_slot slots slot less = (omega arith, omega (arith, less))

row_of_area : (slots : ℕ) → IsRow (image_length cluster_version slots) 1
row_of_area slots = (omega arith, omega arith)

reads_slot : (slots h slot boot : ℕ) → slot < slots → IsOwn (image_length cluster_version slots) h (Read boot (row_place cluster_version slot) ROW_LENGTH)
reads_slot slots h slot boot less = (slot + 2, row_of_slot slots slot less, omega arith, refl)

vote_place : (slot h : ℕ) → place_of cluster_version (VoteOf slot h) ≡ ROW_LENGTH * (slot + 2) + BLOCK_LENGTH * h
vote_place slot h = omega arith

-- AN ATTEMPT

module _ (c : Shape) (h : ℕ) (below : h < HOSTS) (m : Memory) (o : Operation) (f : Answers) (votes : (d : ℕ) → TellsVotes cluster_version (f d)) (input : IsLong cluster_version (input_of o)) (less : length m.learned < c.slots) where
  abbrev s : Setup
  s = setup_of c h m o

  abbrev Full : Phase → Type 0
  Full p = length (body_saying cluster_version (says_for s p f)) ≡ BODY_LENGTH

  -- what is written in a phase fills a body
  says_full : (q : Phase) (d : ℕ) → status s f ≡ Due q d → (p : Phase) (call : WriteCall) → slice_get seventeen (length (f d)) ≡ Some (Putting p call) → Full p
  says_full q d due p call next =
      let at = due_is s f q d due in
      let waiting = waiting_is s q (f d) (some_below s.disks (λ e. waits s q (f e)) d at.visits).passes in
      by p at.come (putting q (length (f d)) (record { come = waiting.part.come; short = waiting.short }) p call next)
    where
      by : (p : Phase) → IsIn s q f → p ≡ q → Full p
      by Opening come same = fills cluster_version (says_for s Opening f) tt
      by One come same = fills cluster_version (says_for s One f) (own_votes s f below votes).long
      by Two come same = (may_write_two s f below votes input (subst (λ (p : Phase). IsIn s p f) (sym same) come)).fills

  attempt_kind : (d : ℕ) (kind : Kind) → ((p : Phase) (call : WriteCall) → kind ≡ Putting p call → Full p) → IsOwn (image_length cluster_version c.slots) h (call_by s d f kind)
  attempt_kind d Attaching full = tt
  attempt_kind d Syncing full = tt
  attempt_kind d Reading full = reads_slot c.slots h (length m.learned) (boot_of (f d)) less
  attempt_kind d (Putting p put) full =
      let w = write_on s p d f in
      puts_own (image_length cluster_version c.slots) h (length m.learned + 2) (row_of_slot c.slots (length m.learned) less) w.place (vote_place (length m.learned) h) w.block w.body (full p put refl) (boot_of (f d)) put

  attempt_by : (k d : ℕ) (call : Call) (p : Phase) → status s f ≡ Due p d → (o : Option Kind) → slice_get seventeen (length (f d)) ≡ o → with_disk d (option_map (call_by s d f) o) ≡ Some (k, call) → IsOwn (image_length cluster_version c.slots) h call
  attempt_by k d call p due None is next = absurd (cc)
  attempt_by k d call p due (Some kind) is next =
      same_call (image_length cluster_version c.slots) h d k (call_by s d f kind) call next
      (attempt_kind d kind (λ q put same. says_full p d due q put (is ∙ ap Some same)))

  attempt_in : (k : ℕ) (call : Call) (st : Status) → status s f ≡ st → next_in s f st ≡ Some (k, call) → IsOwn (image_length cluster_version c.slots) h call
  attempt_in k call (Due p d) is next = attempt_by k d call p is (slice_get seventeen (length (f d))) refl next
  attempt_in k call (Ended end) is next = absurd (cc)

-- A MARKING, A BEAT, A LOOK

module _ (c : Shape) (h : ℕ) (below : h < HOSTS) where
  abbrev n : ℕ
  n = image_length cluster_version c.slots

  -- what a host reads of its own block has a long input
  own_long : (s : mark.Setup) (a : List Heard) → s.host < HOSTS → TellsVotes cluster_version a → IsLong cluster_version (mark.own_block s a).says.inp
  own_long s a less votes = by (row_in Opening a) refl
    where
      by : (o : Option (List DecodedBlock)) → row_in Opening a ≡ o → IsLong cluster_version (seen_block o s.host).says.inp
      by None is = tt
      by (Some row) is = (row_told cluster_version Opening a row votes is s.host less).long

  mark_kind : (m : Memory) (slot : ℕ) (a : List Heard) (kind : Kind) → slot < c.slots → TellsVotes cluster_version a → IsOwn n h (mark.call_by (marking_of c h m slot) a kind)
  mark_kind m slot a Attaching less votes = tt
  mark_kind m slot a Syncing less votes = tt
  mark_kind m slot a Reading less votes = reads_slot c.slots h slot (boot_of a) less
  mark_kind m slot a (Putting p put) less votes =
      let s = marking_of c h m slot in
      let w = mark.write_on s a in
      puts_own n h (slot + 2) (row_of_slot c.slots slot less) w.place (vote_place slot h) w.block w.body
      (fills cluster_version (mark.with_mark (mark.own_block s a).says) (own_long s a below votes)) (boot_of a) put

  mark_by : (k d : ℕ) (call : Call) (m : Memory) (slot : ℕ) (a : List Heard) (o : Option Kind) → slot < c.slots → TellsVotes cluster_version a → with_disk d (option_map (mark.call_by (marking_of c h m slot) a) o) ≡ Some (k, call) → IsOwn n h call
  mark_by k d call m slot a None less votes next = absurd (cc)
  mark_by k d call m slot a (Some kind) less votes next = same_call n h d k (mark.call_by (marking_of c h m slot) a kind) call next (mark_kind m slot a kind less votes)

  mark_in : (k : ℕ) (call : Call) (m : Memory) (slot : ℕ) (f : Answers) (st : mark.Status) → slot < c.slots → ((d : ℕ) → TellsVotes cluster_version (f d)) → mark.next_in (marking_of c h m slot) f st ≡ Some (k, call) → IsOwn n h call
  mark_in k call m slot f (mark.Due d) less votes next = mark_by k d call m slot (f d) (slice_get seventeen (length (f d))) less (votes d) next
  mark_in k call m slot f (mark.Ended end) less votes next = absurd (cc)

  beat_place : place_of cluster_version (BeatOf h) ≡ ROW_LENGTH * 1 + BLOCK_LENGTH * h
  beat_place = omega arith

  beat_kind : (a : List beat_answers.Heard) (kind : beat.Kind) → IsOwn n h (beat.call_by (beat_of c h) a kind)
  beat_kind a beat.Attaching = tt
  beat_kind a beat.Syncing = tt
  beat_kind a beat.Reading = (1, row_of_area c.slots, refl, refl)
  beat_kind a (beat.Putting p put) =
      let w = beat.write_on (beat_of c h) a in
      puts_own n h 1 (row_of_area c.slots) w.place beat_place w.block w.body length-beat_body (beat_answers.boot_of a) put

  beat_by : (k d : ℕ) (call : Call) (a : List beat_answers.Heard) (o : Option beat.Kind) → with_disk d (option_map (beat.call_by (beat_of c h) a) o) ≡ Some (k, call) → IsOwn n h call
  beat_by k d call a None next = absurd (cc)
  beat_by k d call a (Some kind) next = same_call n h d k (beat.call_by (beat_of c h) a kind) call next (beat_kind a kind)

  beat_in : (k : ℕ) (call : Call) (f : beat_answers.Answers) (st : beat.Status) → beat.next_in (beat_of c h) f st ≡ Some (k, call) → IsOwn n h call
  beat_in k call f (beat.Due d) next = beat_by k d call (f d) (slice_get seventeen (length (f d))) next
  beat_in k call f (beat.Ended end) next = absurd (cc)

  look_kind : (slot boot : ℕ) (b : Bool) → slot < c.slots → IsOwn n h (if b then Attach else Read boot (row_place cluster_version slot) ROW_LENGTH)
  look_kind slot boot true less = tt
  look_kind slot boot false less = reads_slot c.slots h slot boot less

  look_in : (k : ℕ) (call : Call) (m : Memory) (first : ℕ) (f : Answers) (st : look.Status) → length m.learned < c.slots → look.next_in (look_of c m first) f st ≡ Some (k, call) → IsOwn n h call
  look_in k call m first f (look.Due d) less next =
      same_call n h d k (look.call_on (look_of c m first) (f d)) call next (look_kind (length m.learned) (boot_of (f d)) (nat_lt (length (f d)) 1) less)
  look_in k call m first f (look.Ended end) less next = absurd (cc)

  -- the call that is due
  pub due_is_own : (m : Memory) (k : ℕ) (call : Call) (o : Option Doing) → IsAt c m o → next_doing c h m o ≡ Some (k, call) → IsOwn n h call
  due_is_own m k call None here next = absurd (cc)
  due_is_own m k call (Some (Attempts t)) here next =
      attempt_in c h below m t.operation (on t.heard) here.1 here.2 here.0 k call (status (setup_of c h m t.operation) (on t.heard)) refl next
  due_is_own m k call (Some (Looks t)) here next = look_in k call m t.first (on t.heard) (look.status (look_of c m t.first) (on t.heard)) here next
  due_is_own m k call (Some (Beats heard)) here next = beat_in k call (beat_answers.on heard) (beat.status (beat_of c h) (beat_answers.on heard)) next
  due_is_own m k call (Some (Marks t)) here next = mark_in k call m t.slot (on t.heard) (mark.status (marking_of c h m t.slot) (on t.heard)) here.0 here.1 next
