-- Which calls write a number: none but those of a beat, and these in the area and over the row that was read last.
use Rattle.std.proofs.Common.{ℕ, ◌<◌, ◌≡◌, Option, Some, None, List, [], ◌∷◌, ◌++◌, length, refl, sym, subst, ap, ◌∙◌, arith}
use Rattle.std.proofs.lemmas.List.{length-replicate}
use Rattle.disk.specs.Disk.{Call, Attach, Read, Write, Sync, Answer, Booted, Told, Done, Fault}
use Rattle.torn_block.specs.Layout.{cluster_version}
use Rattle.torn_block.specs.declared.layout.TheConstants.{BLOCK_LENGTH, ROW_LENGTH}
use Rattle.torn_block.specs.declared.write_steps.WriteCall.{WriteCall}
use Rattle.torn_block.specs.declared.write_steps.WriteCall.TheVariants.{CloseGate, SyncClosed, PutBody, SyncBody, OpenGate, SyncOpened}
use Rattle.torn_block.specs.Block.{is_open, copy_of, target_of, next_sequence}
use Rattle.torn_block.specs.Damage.{block_of}
use Rattle.torn_block.specs.Stage.{call_of}
use Rattle.torn_block.proofs.PlaceLaws.{length-tail_with}
use Rattle.heartbeat.specs.Beat.{beat_body}
use Rattle.heartbeat.proofs.BeatLaws.{length-beat_body}
use Rattle.standings.specs.Epochs.{standings_place}
use Rattle.standings.specs.Reading.{zero_block, numbers_in}
use Rattle.standings.specs.Past.{Made, Past, reading, number_write, IsBeating, WritesNumber}
use Rattle.rounds.specs.declared.round.Stage.{Stage as RoundStage}
use Rattle.rounds.specs.declared.round.Stage.TheVariants as call
use Rattle.coming.specs.declared.notes.Notes.{Notes}
use Rattle.coming.specs.declared.notes.Stage.{Stage}
use Rattle.coming.specs.declared.notes.Stage.TheVariants as stage
use Rattle.coming.specs.declared.search.Search.{Search}
use Rattle.coming.specs.declared.search.Step.{Step}
use Rattle.coming.specs.declared.search.Step.TheVariants as step
use Rattle.coming.specs.Coming.{image_of, call_at, call_due, IsSound, IsOfClearing, IsKept, Knows, RaisesTowards}
use Rattle.coming.specs.Finding as finding
use Rattle.coming.proofs.Pasts.{closing_length}
use Rattle.coming.proofs.Going.{at, in_round}

-- THE CALLS OF A BEAT

-- it writes less than a block
IsShortWrite : Call → Type 0
IsShortWrite Attach = ⊥
IsShortWrite (Read boot at len) = ⊥
IsShortWrite (Write boot at from) = length from < BLOCK_LENGTH
IsShortWrite (Sync boot) = ⊥

-- or is a sync
IsShort : Call → Type 0
IsShort Attach = ⊥
IsShort (Read boot at len) = ⊥
IsShort (Write boot at from) = length from < BLOCK_LENGTH
IsShort (Sync boot) = Unit {0}

module _ (n area host : ℕ) (row : List ℕ) (boot : ℕ) where
  abbrev beat_call : WriteCall → Call
  beat_call due = call_of due (number_write n area host row) boot

  closes_short : IsShortWrite (beat_call CloseGate)
  unfolding IsShortWrite
  closes_short = (let block = block_of cluster_version host row in let short = closing_length (is_open (copy_of cluster_version (target_of cluster_version block) block)) in omega (arith, short))

  puts_short : IsShortWrite (beat_call PutBody)
  unfolding IsShortWrite
  puts_short = (let block = block_of cluster_version host row in let long = length-tail_with cluster_version (next_sequence cluster_version block) beat_body length-beat_body in omega (arith, long))

  opens_short : IsShortWrite (beat_call OpenGate)
  unfolding IsShortWrite
  opens_short = omega arith

  beat_short : (due : WriteCall) → IsShort (beat_call due)
  unfolding IsShortWrite IsShort
  beat_short CloseGate = closes_short
  beat_short SyncClosed = tt
  beat_short PutBody = puts_short
  beat_short SyncBody = tt
  beat_short OpenGate = opens_short
  beat_short SyncOpened = tt

-- so a write of a number is
writes_short : (n host : ℕ) (past : Past) (call : Call) → WritesNumber n host past call → IsShort call
writes_short n host past call w = subst IsShort (sym w.is) (beat_short n w.area host w.row w.boot w.due)

-- and no attach
pub attach_writes_none : (n host : ℕ) (past : Past) → WritesNumber n host past Attach → ⊥
unfolding IsShort
attach_writes_none n host past w = writes_short n host past Attach w

-- nor a read
pub read_writes_none : (n host : ℕ) (past : Past) (boot at len : ℕ) → WritesNumber n host past (Read boot at len) → ⊥
unfolding IsShort
read_writes_none n host past boot at len w = writes_short n host past (Read boot at len) w

-- nor a write of a whole block
pub whole_writes_none : (n host : ℕ) (past : Past) (boot at : ℕ) (from : List ℕ) → length from ≡ BLOCK_LENGTH → WritesNumber n host past (Write boot at from) → ⊥
unfolding IsShort
whole_writes_none n host past boot at from whole w = (let short = writes_short n host past (Write boot at from) w in absurd (omega (arith, whole, short)))

-- WHAT A SYNC OF A BEAT IS BEHIND

-- the last call, behind this one
last_call : Call → Past → Call
last_call call [] = call
last_call call (m ∷ past) = last_call m.call past

last_of_two : (call : Call) (past more : Past) → last_call call (past ++ more) ≡ last_call (last_call call past) more
unfolding last_call
last_of_two call [] more = refl
last_of_two call (m ∷ past) more = last_of_two m.call past more

last_made : (past before : Past) (m : Made) → past ≡ before ++ m ∷ [] → last_call Attach past ≡ m.call
unfolding last_call
last_made past before m is = ap (last_call Attach) is ∙ last_of_two Attach before (m ∷ [])

-- it is behind a short write
sync_behind : (n area host boot : ℕ) (row : List ℕ) (due : WriteCall) (past : Past) (b : ℕ) → IsBeating n area host boot row due past → Sync b ≡ call_of due (number_write n area host row) boot → IsShortWrite (last_call Attach past)
unfolding last_call
sync_behind n area host boot row due past b beats is = by due beats is
  where
    by : (due : WriteCall) → IsBeating n area host boot row due past → Sync b ≡ call_of due (number_write n area host row) boot → IsShortWrite (last_call Attach past)
    by CloseGate beats is = absurd cc
    by SyncClosed beats is = subst IsShortWrite (sym (ap (last_call Attach) beats.is ∙ last_of_two Attach beats.before _)) (closes_short n area host row boot)
    by PutBody beats is = absurd cc
    by SyncBody beats is = subst IsShortWrite (sym (ap (last_call Attach) beats.is ∙ last_of_two Attach beats.before _)) (puts_short n area host row boot)
    by OpenGate beats is = absurd cc
    by SyncOpened beats is = subst IsShortWrite (sym (ap (last_call Attach) beats.is ∙ last_of_two Attach beats.before _)) (opens_short n area host row boot)

-- so a sync writes no number where the last call is another one
sync_writes_none : (n host : ℕ) (past before : Past) (m : Made) (boot : ℕ) → past ≡ before ++ m ∷ [] → (IsShortWrite m.call → ⊥) → WritesNumber n host past (Sync boot) → ⊥
sync_writes_none n host past before m boot is other w = other (subst IsShortWrite (last_made past before m is) (sync_behind n w.area host w.boot w.row w.due past boot w.beats w.is))

attach_not_short : IsShortWrite Attach → ⊥
unfolding IsShortWrite
attach_not_short short = short

clearing_not_short : (call : Call) → IsOfClearing call → IsShortWrite call → ⊥
unfolding IsShortWrite
clearing_not_short Attach clears short = short
clearing_not_short (Read boot at len) clears short = short
clearing_not_short (Write boot at from) clears short = absurd (omega (arith, clears, short))
clearing_not_short (Sync boot) clears short = short

-- THE ROW THAT WAS READ LAST

-- a call that was told bytes, else the one before
read_or : Answer → Made → Option Made → Option Made
read_or (Booted boot) m found = found
read_or (Told row) m found = Some m
read_or Done m found = found
read_or (Fault fault) m found = found

last_read : Option Made → Past → Option Made
last_read found [] = found
last_read found (m ∷ past) = last_read (read_or m.answer m found) past

last_read_of_two : (found : Option Made) (past more : Past) → last_read found (past ++ more) ≡ last_read (last_read found past) more
unfolding last_read
last_read_of_two found [] more = refl
last_read_of_two found (m ∷ past) more = last_read_of_two (read_or m.answer m found) past more

-- In a beat it is the row of standings.
beat_read : (n area host boot : ℕ) (row : List ℕ) (due : WriteCall) (past : Past) → IsBeating n area host boot row due past → last_read None past ≡ Some (reading n area boot row)
unfolding last_read read_or
beat_read n area host boot row due past beats = by due beats
  where
    by : (due : WriteCall) → IsBeating n area host boot row due past → last_read None past ≡ Some (reading n area boot row)
    by CloseGate beats = ap (last_read None) beats.is ∙ last_read_of_two None beats.before _
    by SyncClosed beats = ap (last_read None) beats.is ∙ last_read_of_two None beats.before _
    by PutBody beats = ap (last_read None) beats.is ∙ last_read_of_two None beats.before _
    by SyncBody beats = ap (last_read None) beats.is ∙ last_read_of_two None beats.before _
    by OpenGate beats = ap (last_read None) beats.is ∙ last_read_of_two None beats.before _
    by SyncOpened beats = ap (last_read None) beats.is ∙ last_read_of_two None beats.before _

-- Two readings that are the same one are of the same area, and of the same row.
same_reading : (n area other boot boot' : ℕ) (row row' : List ℕ) → reading n area boot row ≡ reading n other boot' row' → (area ≡ other) × (row ≡ row')
same_reading n area other boot boot' row row' is =
    let places : Read boot (standings_place n area) ROW_LENGTH ≡ Read boot' (standings_place n other) ROW_LENGTH = ap (λ (m : Made). m.call) is in
    let rows : Told row ≡ Told row' = ap (λ (m : Made). m.answer) is in
    let same : standings_place n area ≡ standings_place n other = cc in
    (omega (arith, same), cc)

-- So two beats that are under way by the same past are of the same area and row.
same_beat : (n area other host boot boot' : ℕ) (row row' : List ℕ) (due due' : WriteCall) (past : Past) → IsBeating n area host boot row due past → IsBeating n other host boot' row' due' past → (area ≡ other) × (row ≡ row')
same_beat n area other host boot boot' row row' due due' past one two =
    let both : Some (reading n area boot row) ≡ Some (reading n other boot' row') = sym (beat_read n area host boot row due past one) ∙ beat_read n other host boot' row' due' past two in
    same_reading n area other boot boot' row row' (let e : reading n area boot row ≡ reading n other boot' row' = cc in e)

-- A HOST THAT COMES

module _ (c : Notes) (sound : IsSound c) (going : c.end ≡ None) (past : Past) (kept : IsKept c past) where
  pub rises : RaisesTowards (image_of c) c.host past c (call_due c)
  rises = by c.stage refl c.round.stage refl
    where
      by : (s : Stage) → c.stage ≡ s → (r : RoundStage) → c.round.stage ≡ r → RaisesTowards (image_of c) c.host past c (call_at s (record c { round = record c.round { stage = r } }))
      by stage.Beating st call.Attaching rst = λ w. absurd (attach_writes_none (image_of c) c.host past w)
      by stage.Beating st call.Syncing rst =
          λ w. (let was = in_round c sound going past kept call.Syncing st rst in absurd (sync_writes_none (image_of c) c.host past was.0 _ _ was.1 attach_not_short w))
      by stage.Beating st call.Reading rst = λ w. absurd (read_writes_none (image_of c) c.host past _ _ _ w)
      by stage.Beating st call.Writing rst =
          λ w.
          (let own = in_round c sound going past kept call.Writing st rst in
          let same = same_beat (image_of c) w.area c.epoch.area c.host w.boot c.round.boot.number w.row own.row w.due own.due past w.beats own.beats in
          (same.0, subst (λ (row : List ℕ). numbers_in row c.host < c.epoch.number) (sym same.1) own.smaller))
      by (stage.Looking row) st r rst = λ w. absurd (read_writes_none (image_of c) c.host past _ _ _ w)
      by (stage.Clearing row) st r rst = λ w. absurd (whole_writes_none (image_of c) c.host past _ _ zero_block (length-replicate {A = ℕ} BLOCK_LENGTH 0) w)
      by stage.Settling st r rst =
          λ w.
          (let ends = (at c sound going past kept stage.Settling st).ends in
          absurd (sync_writes_none (image_of c) c.host past ends.before ends.last _ ends.is (clearing_not_short ends.last.call ends.clears) w))

-- told of every past that leads there
pub rises_by : (c : Notes) → IsSound c → c.end ≡ None → (n host : ℕ) (past : Past) → Knows n host past c → RaisesTowards n host past c (call_due c)
rises_by c sound going n host past knows =
    subst (λ (k : ℕ). RaisesTowards k host past c (call_due c)) knows.image (subst (λ (h : ℕ). RaisesTowards (image_of c) h past c (call_due c)) knows.own (rises c sound going past knows.kept))

-- A SEARCH

pub search_writes_none : (s : Search) (n host : ℕ) (past : Past) → WritesNumber n host past (finding.call_due s).1 → ⊥
search_writes_none s n host past = by s.step
  where
    by : (q : Step) → WritesNumber n host past (finding.call_at q s) → ⊥
    by step.Attaching w = attach_writes_none n host past w
    by (step.First boot) w = read_writes_none n host past _ _ _ w
    by (step.Second boot first) w = read_writes_none n host past _ _ _ w
