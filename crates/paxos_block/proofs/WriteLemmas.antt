-- A block that its owner writes is damaged at no moment of the write.
use Rattle.std.specs.Prelude.{◌≡◌, ◌≢◌, ◌⊎◌, ◌+◌, ◌-◌, ◌≤◌, ℕ, Bool, true, false, List, [], ◌∷◌, length, drop, replicate, slice_index, Option, Some, None, if◌then◌else◌}
use Rattle.std.proofs.Common.{refl, sym, ap, ◌∙◌, subst, arith, inl, inr, get_or}
use Rattle.std.proofs.lemmas.List.{drop_more, length-replicate, get_or-replicate}
use Rattle.std.proofs.lemmas.Bool.{cases_lt, eqb-true, both_ways}
use Rattle.disk.specs.Disk.{DiskState, Step, Done, Torn, FailureLeaves, put_at, written, done_by}
use Rattle.disk.specs.Crash.{MayLeave, IsWhole}
use Rattle.disk.proofs.CrashLemmas.{put-below, put-inside, put-above, length-put}
use Rattle.torn_block.specs.declared.block.Half.{Half}
use Rattle.torn_block.specs.declared.block.Half.TheVariants.{First, Second}
use Rattle.torn_block.specs.declared.write_steps.WriteCall.{WriteCall}
use Rattle.torn_block.specs.declared.write_steps.WriteCall.TheVariants.{CloseGate, SyncClosed, PutBody, SyncBody, OpenGate, SyncOpened}
use Rattle.torn_block.specs.Block.{is_open, sequence_of, tail_with, other, copy_of, choice, value_at, target_at, target_of, next_sequence_at, next_sequence, value_of}
use Rattle.torn_block.specs.Damage.{IsSoundBlock, first_of, second_of}
use Rattle.torn_block.specs.Place.{block_in, copy_in}
use Rattle.torn_block.proofs.PlaceLaws.{offset_fits, length-copy_in, length-tail_with, reads_sequence}
use Rattle.torn_block.specs.Stage.{Write128, MayBe, IsWritten, Copies, IsDue, IsDone, IsPlaced, Stands, gate_of, closing, new_tail, call_of, next_call}
use Rattle.torn_block.proofs.StageLaws.{done_leads_on}
use Rattle.torn_block.specs.declared.block.TheConstants.{OPEN_GATE}
use Rattle.paxos_block.specs.Saying.{Said}
use Rattle.paxos_block.specs.Row.{copy_saying, IsSound}
use Rattle.paxos_block.specs.Places.{IsSoundAt, IsWriteOf}
use Rattle.torn_block.specs.Layout.{Version, copy_length, block_length, body_length}
use Rattle.torn_block.proofs.LayoutLaws.{long_copy}

-- ---- the copy that a write keeps is the current one, where it is open

kept_second : (p q z : Bool) (a b : List ℕ) → target_at (choice p q z) ≡ First → q ≡ true → next_sequence_at (value_at (choice p q z) a b) ≡ sequence_of b + 1
kept_second true true true a b is opened = refl
kept_second true true false a b is opened = cc
kept_second true false z a b is opened = cc
kept_second false true z a b is opened = refl
kept_second false false z a b is opened = cc

kept_first : (p q z : Bool) (a b : List ℕ) → target_at (choice p q z) ≡ Second → p ≡ true → next_sequence_at (value_at (choice p q z) a b) ≡ sequence_of a + 1
kept_first true true true a b is opened = cc
kept_first true true false a b is opened = refl
kept_first true false z a b is opened = refl
kept_first false q z a b is opened = cc

kept_at : (v : Version) (half : Half) (block : List ℕ) → target_of v block ≡ half → is_open (copy_of v (other half) block) ≡ true → next_sequence v block ≡ sequence_of (copy_of v (other half) block) + 1
kept_at v First block is opened = kept_second (is_open (first_of v block)) (is_open (second_of v block)) _ (first_of v block) (second_of v block) is opened
kept_at v Second block is opened = kept_first (is_open (first_of v block)) (is_open (second_of v block)) _ (first_of v block) (second_of v block) is opened

next_from_one : (value : Option (ℕ × List ℕ)) → 1 ≤ next_sequence_at value
next_from_one None = omega arith
next_from_one (Some value) = omega arith

-- ---- a block by one of its copies and the other

module _ (v : Version) (P : List ℕ → Type 0) where
  by_copies : (half : Half) (block : List ℕ) → (is_open (copy_of v half block) ≡ true → P (copy_of v half block)) → (is_open (copy_of v (other half) block) ≡ true → P (copy_of v (other half) block)) → (is_open (copy_of v half block) ≡ true → is_open (copy_of v (other half) block) ≡ true → sequence_of (copy_of v half block) ≢ sequence_of (copy_of v (other half) block)) → IsSoundBlock v P block
  by_copies First block f s differ = record { copies = λ half. each half; apart = differ }
    where
      each : (half : Half) → is_open (copy_of v half block) ≡ true → P (copy_of v half block)
      each First = f
      each Second = s
  by_copies Second block f s differ = record { copies = λ half. each half; apart = λ o p same. differ p o (sym same) }
    where
      each : (half : Half) → is_open (copy_of v half block) ≡ true → P (copy_of v half block)
      each First = s
      each Second = f

  apart_by : (half : Half) (block : List ℕ) → IsSoundBlock v P block → is_open (copy_of v half block) ≡ true → is_open (copy_of v (other half) block) ≡ true → sequence_of (copy_of v half block) ≢ sequence_of (copy_of v (other half) block)
  apart_by First block sound o p same = sound.apart o p same
  apart_by Second block sound o p same = sound.apart p o (sym same)

-- ---- what a write makes of the copies is sound

-- the copy to be written is as it was, or closed, or it has the new tail
abbrev Target : Write128 → List ℕ → Type 0
Target w copy = (copy ≡ copy_of w.version (target_of w.version w.block) w.block) ⊎ ((is_open copy ≡ false) ⊎ (drop 1 copy ≡ new_tail w))

target_is : (call : WriteCall) (w : Write128) (copy : List ℕ) → MayBe call w copy → Target w copy
target_is CloseGate w copy may = inl may
target_is SyncClosed w copy (inl same) = inl same
target_is SyncClosed w copy (inr closed) = inr (inl closed)
target_is PutBody w copy may = inr (inl may)
target_is SyncBody w copy may = inr (inl may)
target_is OpenGate w copy may = inr (inl may.0)
target_is SyncOpened w copy may = inr (inr may)

module _ (host : ℕ) (w : Write128) (says : Said) (is : IsWriteOf host says w) (bytes : List ℕ) (room : w.place + block_length w.version ≤ length bytes) (long : length w.body ≡ body_length w.version) where
  abbrev half : Half
  half = target_of w.version w.block

  abbrev target : List ℕ
  target = copy_of w.version half (block_in w.version w.place bytes)

  abbrev kept : List ℕ
  kept = copy_of w.version (other half) (block_in w.version w.place bytes)

  long_target : length target ≡ copy_length w.version
  unfolding copy_in
  long_target = length-copy_in w.version half w.place bytes room

  new_number : drop 1 target ≡ new_tail w → sequence_of target ≡ next_sequence w.version w.block
  new_number tail = reads_sequence w.version (next_sequence w.version w.block) w.body long target (let most = is.number in omega arith) tail

  new_sound : drop 1 target ≡ new_tail w → is_open target ≡ true → IsSound w.version host target
  new_sound tail opened =
      let gate : slice_index target 0 ≡ OPEN_GATE = eqb-true (slice_index target 0) OPEN_GATE opened in
      let spelled : target ≡ copy_saying w.version (next_sequence w.version w.block) says =
      drop_more target 0 0 (omega (arith, long_target, long_copy w.version))
      ∙ ap (λ (g : ℕ). g ∷ drop 1 target) gate
      ∙ ap (λ (l : List ℕ). OPEN_GATE ∷ l) (tail ∙ ap (tail_with (next_sequence w.version w.block)) is.body) in
      record {
        sequence = next_sequence w.version w.block;
        says = says;
        so = record {
          is_sequence = record { from_one = next_from_one (value_of w.version w.block); within = is.number };
          may_say = is.may_say;
          spelled = spelled;
        };
      }

  kept_sound : kept ≡ copy_of w.version (other half) w.block → is_open kept ≡ true → IsSound w.version host kept
  kept_sound same opened = subst (IsSound w.version host) (sym same) (is.sound.copies (other half) (ap is_open (sym same) ∙ opened))

  new_apart : drop 1 target ≡ new_tail w → kept ≡ copy_of w.version (other half) w.block → is_open kept ≡ true → sequence_of target ≢ sequence_of kept
  new_apart tail same opened equal =
      let next = kept_at w.version half w.block refl (ap is_open (sym same) ∙ opened) in
      let number = new_number tail in
      let old = ap sequence_of same in
      absurd (omega arith)

  stays : Target w target → kept ≡ copy_of w.version (other half) w.block → IsSoundBlock w.version (IsSound w.version host) (block_in w.version w.place bytes)
  stays (inl as_before) same =
      by_copies w.version (IsSound w.version host) half (block_in w.version w.place bytes)
      (λ o. subst (IsSound w.version host) (sym as_before) (is.sound.copies half (ap is_open (sym as_before) ∙ o)))
      (kept_sound same)
      (λ o p equal. apart_by w.version (IsSound w.version host) half w.block is.sound (ap is_open (sym as_before) ∙ o) (ap is_open (sym same) ∙ p) (ap sequence_of (sym as_before) ∙ equal ∙ ap sequence_of same))
  stays (inr (inl closed)) same =
      by_copies w.version (IsSound w.version host) half (block_in w.version w.place bytes) (λ o. absurd (both_ways (is_open target) closed o)) (kept_sound same) (λ o p. absurd (both_ways (is_open target) closed o))
  stays (inr (inr tail)) same =
      by_copies w.version (IsSound w.version host) half (block_in w.version w.place bytes) (new_sound tail) (kept_sound same) (λ o p. new_apart tail same p)

  pub due_is_sound : (call : WriteCall) → Copies w (MayBe call w) bytes → IsSoundBlock w.version (IsSound w.version host) (block_in w.version w.place bytes)
  unfolding copy_in
  due_is_sound call c = stays (target_is call w target c.target) c.kept

  pub done_is_sound : Copies w (IsWritten w) bytes → IsSoundBlock w.version (IsSound w.version host) (block_in w.version w.place bytes)
  unfolding copy_in
  done_is_sound c = stays (inr (inr c.target.1)) c.kept

-- ---- at each moment of the write

-- Whatever a crash may leave after a torn write, it may leave after the whole one.
torn_left : (disk : DiskState) (at : ℕ) (from left bytes : List ℕ) → IsWhole disk → at + length from ≤ length disk.bytes → length left ≡ length from → MayLeave (written disk at left) bytes → MayLeave (written disk at from) bytes
torn_left disk at from left bytes whole fits as_many may =
    record {
      as_many = may.as_many ∙ length-put disk.bytes at left fits' 0 ∙ sym (length-put disk.bytes at from fits 0);
      same = same;
    }
  where
    n : length (replicate (length from) true) ≡ length from
    n = length-replicate (length from) true

    fits' : at + length left ≤ length disk.bytes
    fits' = omega (arith, as_many)

    marks : at + length (replicate (length from) true) ≤ length disk.unsynced
    marks = omega (arith, n, whole)

    same : (k : ℕ) → get_or (put_at disk.unsynced at (replicate (length from) true)) k false ≡ false → get_or bytes k 0 ≡ get_or (put_at disk.bytes at from) k 0
    same k is_synced =
        let here : get_or bytes k 0 ≡ get_or (put_at disk.bytes at left) k 0 = may.same k (ap (λ (m : ℕ). get_or (put_at disk.unsynced at (replicate m true)) k false) as_many ∙ is_synced) in
        elim (cases_lt k at) [
          | inl below ↦ here ∙ put-below disk.bytes at left fits' 0 k below ∙ sym (put-below disk.bytes at from fits 0 k below)
          | inr from_at ↦
              elim (cases_lt k (at + length from)) [
                | inl inside ↦
                    (let e : at + (k - at) ≡ k = omega arith in
                    let flag : get_or (put_at disk.unsynced at (replicate (length from) true)) k false ≡ true =
                    ap (λ (j : ℕ). get_or (put_at disk.unsynced at (replicate (length from) true)) j false) (sym e)
                    ∙ put-inside disk.unsynced at (replicate (length from) true) marks false (k - at) (omega (arith, n))
                    ∙ get_or-replicate (length from) (k - at) true false (omega arith) in
                    absurd (both_ways (get_or (put_at disk.unsynced at (replicate (length from) true)) k false) is_synced flag))
                | inr above ↦
                    here ∙ put-above disk.bytes at left fits' 0 k (omega (arith, as_many)) ∙ sym (put-above disk.bytes at from fits 0 k above)
              ]
        ]

closing_fits : (opened : Bool) → length {A = ℕ} (if opened then 0 ∷ [] else []) ≤ 1
closing_fits true = omega arith
closing_fits false = omega arith

module _ (host : ℕ) (w : Write128) (says : Said) (disk : DiskState) (placed : IsPlaced w disk) (is : IsWriteOf host says w) where
  pub sound_while_due : (call : WriteCall) → IsDue call w disk → IsSoundAt w.version host w.place disk
  sound_while_due call due bytes left =
      due_is_sound host w says is bytes (omega (arith, left.as_many, placed.within)) placed.body call (due.left bytes left)

  pub sound_when_done : IsDone w disk → IsSoundAt w.version host w.place disk
  sound_when_done done bytes left =
      done_is_sound host w says is bytes (omega (arith, left.as_many, placed.within)) placed.body (done.left bytes left)

  -- the disk, were it not lost
  abbrev here : DiskState
  here = record disk { gone = false }

  leads : (call : WriteCall) → IsDue call w disk → Step here (call_of call w disk.boot) Done (done_by here (call_of call w disk.boot)) → Stands (next_call call) w (done_by here (call_of call w disk.boot))
  leads call due step =
      done_leads_on w here
      (record { whole = placed.whole; within = placed.within; block = placed.block; body = placed.body; fits = placed.fits })
      call disk.boot (done_by here (call_of call w disk.boot)) (record { now = due.now; left = due.left }) step

  torn_sound : (next : WriteCall) (at : ℕ) (from : List ℕ) (new : DiskState) → at + length from ≤ length disk.bytes → IsDue next w (written here at from) → Torn at (length from) disk new → IsSoundAt w.version host w.place new
  torn_sound next at from new fits due torn bytes left =
      let may = torn_left disk at from torn.left bytes placed.whole fits torn.as_many (subst (λ (d : DiskState). MayLeave d bytes) torn.leaves left) in
      due_is_sound host w says is bytes (omega (arith, may.as_many, length-put disk.bytes at from fits 0, placed.within)) placed.body next (due.left bytes may)

  gate_fits : gate_of w + copy_length w.version ≤ length disk.bytes
  gate_fits = omega (arith, offset_fits w.version (target_of w.version w.block), placed.within)

  pub sound_when_failed : (call : WriteCall) (boot : ℕ) (new : DiskState) → IsDue call w disk → FailureLeaves (call_of call w boot) disk new → IsSoundAt w.version host w.place new
  sound_when_failed CloseGate boot new due torn =
      torn_sound SyncClosed (gate_of w) (closing w) new (omega (arith, gate_fits, long_copy w.version, closing_fits (is_open (copy_of w.version (target_of w.version w.block) w.block)))) (leads CloseGate due (refl, refl, (refl, refl))) torn
  sound_when_failed SyncClosed boot new due same = subst (IsSoundAt w.version host w.place) (sym same) (sound_while_due SyncClosed due)
  sound_when_failed PutBody boot new due torn =
      torn_sound SyncBody (gate_of w + 1) (new_tail w) new (omega (arith, gate_fits, long_copy w.version, length-tail_with w.version (next_sequence w.version w.block) w.body placed.body)) (leads PutBody due (refl, refl, (refl, refl))) torn
  sound_when_failed SyncBody boot new due same = subst (IsSoundAt w.version host w.place) (sym same) (sound_while_due SyncBody due)
  sound_when_failed OpenGate boot new due torn =
      torn_sound SyncOpened (gate_of w) (165 ∷ []) new (omega (arith, gate_fits, long_copy w.version)) (leads OpenGate due (refl, refl, (refl, refl))) torn
  sound_when_failed SyncOpened boot new due same = subst (IsSoundAt w.version host w.place) (sym same) (sound_while_due SyncOpened due)
