-- How the disk's steps lead from one due call to the next.
use Rattle.std.specs.Prelude.{◌≡◌, ◌⊎◌, ◌+◌, ◌≤◌, ◌<◌, ◌^◌, ◌==◌, ℕ, Bool, true, false, List, [], ◌∷◌, length, drop, slice_index, Option, Some, if◌then◌else◌, slice_range}
use Rattle.std.proofs.Common.{refl, sym, ◌∙◌, ap, subst, arith, inl, inr, get_or, length-drop}
use Rattle.std.proofs.lemmas.List.{ext_get_or, get_or-drop}
use Rattle.std.proofs.lemmas.Bool.Decides.{nat_tests}
use Rattle.disk.specs.Disk.{DiskState, Read, Told, Answer, Call, Step, Done, Torn, FailureLeaves, put_at, written, synced}
use Rattle.disk.specs.Crash.{MayLeave, ChangesOnly}
use Rattle.disk.proofs.CrashLemmas.{may_leave_now, may_leave_synced, may_leave_written, put-inside, put-below, put-above, length-put}
use Rattle.torn_block.specs.Layout.{Version, block_length, body_length, copy_length, tail_length}
use Rattle.torn_block.proofs.LayoutLaws.{long_copy}
use Rattle.torn_block.specs.declared.block.Half.{Half}
use Rattle.torn_block.specs.declared.block.Half.TheVariants.{First, Second}
use Rattle.torn_block.specs.declared.write_steps.WriteCall.{WriteCall}
use Rattle.torn_block.specs.declared.write_steps.WriteCall.TheVariants.{CloseGate, SyncClosed, PutBody, SyncBody, OpenGate, SyncOpened}
use Rattle.torn_block.specs.Block.{is_open, sequence_of, body_of, other, copy_of, value_by, value_of, target_of, next_sequence}
use Rattle.torn_block.specs.Place.{block_in, copy_in}
use Rattle.torn_block.proofs.PlaceLaws.{offset_fits, other_same, tail_same, gate_same, elsewhere_same, nothing_same, length-copy_in, get_or-copy_in, length-tail_with, reads_sequence, reads_body}
use Rattle.torn_block.proofs.Writing.{closed_first, closed_second, opened_first, opened_second}
use Rattle.disk.specs.Steps.{WritesOn}
use Rattle.disk.proofs.StepLemmas.{step_keeps}
use Rattle.torn_block.proofs.PlaceLaws.{block_read}
use Rattle.torn_block.specs.Register.{Reads, StandsFor, IsAtRest, LeavesBlock}
use Rattle.torn_block.proofs.RegisterLaws.{ranges}
use Rattle.torn_block.specs.Stage.{Write128, gate_of, closing, new_tail, call_of, next_call, old_value, new_value, MayBe, IsWritten, IsNow, Copies, IsDue, IsDone, Stands, IsPlaced, IsDurable, in_writing}

-- the value by the copy that is written and the other one
abbrev value_with : Half → List ℕ → List ℕ → Option (ℕ × List ℕ)
value_with First kept target = value_by target kept
value_with Second kept target = value_by kept target

value_in : (v : Version) (half : Half) (place : ℕ) (bytes : List ℕ) → value_of v (block_in v place bytes) ≡ value_with half (copy_in v (other half) place bytes) (copy_in v half place bytes)
unfolding copy_in
value_in v First place bytes = refl
value_in v Second place bytes = refl

-- The block reads as before where the copy to be written is closed, and as the new value where it is written.
module _ (w : Write128) where
  reads_closed_at : (half : Half) (kept target : List ℕ) → target_of w.version w.block ≡ half → kept ≡ copy_of w.version (other half) w.block → is_open target ≡ false → value_with half kept target ≡ old_value w
  reads_closed_at First kept target is same closed = ap (λ (l : List ℕ). value_by target l) same ∙ closed_first (copy_of w.version First w.block) (copy_of w.version Second w.block) target is closed
  reads_closed_at Second kept target is same closed = ap (λ (l : List ℕ). value_by l target) same ∙ closed_second (copy_of w.version First w.block) (copy_of w.version Second w.block) target is closed

  reads_written_at : (half : Half) (kept target : List ℕ) → target_of w.version w.block ≡ half → kept ≡ copy_of w.version (other half) w.block → is_open target ≡ true → sequence_of target ≡ next_sequence w.version w.block → value_with half kept target ≡ Some (sequence_of target, body_of target)
  reads_written_at First kept target is same opened next = ap (λ (l : List ℕ). value_by target l) same ∙ opened_first (copy_of w.version First w.block) (copy_of w.version Second w.block) target is opened next
  reads_written_at Second kept target is same opened next = ap (λ (l : List ℕ). value_by l target) same ∙ opened_second (copy_of w.version First w.block) (copy_of w.version Second w.block) target is opened next

  reads_same_at : (half : Half) (kept target : List ℕ) → kept ≡ copy_of w.version (other half) w.block → target ≡ copy_of w.version half w.block → value_with half kept target ≡ old_value w
  reads_same_at First kept target same is = ap (λ (l : List ℕ). value_by target l) same ∙ ap (λ (l : List ℕ). value_by l (copy_of w.version Second w.block)) is
  reads_same_at Second kept target same is = ap (λ (l : List ℕ). value_by l target) same ∙ ap (λ (l : List ℕ). value_by (copy_of w.version First w.block) l) is

module _ (w : Write128) (bytes : List ℕ) where
  pub reads_closed : Copies w (λ target. is_open target ≡ false) bytes → value_of w.version (block_in w.version w.place bytes) ≡ old_value w
  reads_closed c = value_in w.version (target_of w.version w.block) w.place bytes ∙ reads_closed_at w (target_of w.version w.block) _ _ refl c.kept c.target

  pub reads_same : Copies w (λ target. target ≡ copy_of w.version (target_of w.version w.block) w.block) bytes → value_of w.version (block_in w.version w.place bytes) ≡ old_value w
  reads_same c = value_in w.version (target_of w.version w.block) w.place bytes ∙ reads_same_at w (target_of w.version w.block) _ _ c.kept c.target

  pub reads_written : length w.body ≡ body_length w.version → next_sequence w.version w.block < 2 ^ 64 → Copies w (IsWritten w) bytes → value_of w.version (block_in w.version w.place bytes) ≡ new_value w
  reads_written long fits c =
      let target = copy_in w.version (target_of w.version w.block) w.place bytes in
      let sequence = reads_sequence w.version (next_sequence w.version w.block) w.body long target fits c.target.1 in
      value_in w.version (target_of w.version w.block) w.place bytes
      ∙ reads_written_at w (target_of w.version w.block) _ _ refl c.kept c.target.0 sequence
      ∙ ap (λ (n : ℕ). Some (n, body_of target)) sequence
      ∙ ap (λ (l : List ℕ). Some (next_sequence w.version w.block, l)) (reads_body w.version (next_sequence w.version w.block) w.body long target c.target.1)

either : (b : Bool) → (b ≡ true) ⊎ (b ≡ false)
either true = inl refl
either false = inr refl

-- bytes whose copies have P have Q where P says Q
copies_by : (w : Write128) (P Q : List ℕ → Type 0) (bytes : List ℕ) → ((target : List ℕ) → P target → Q target) → Copies w P bytes → Copies w Q bytes
copies_by w P Q bytes f c = record { kept = c.kept; target = f _ c.target }

-- what is there now is one of what a crash may leave
now_may_be : (call : WriteCall) (w : Write128) (target : List ℕ) → IsNow call w target → MayBe call w target
now_may_be CloseGate w target now = now
now_may_be SyncClosed w target now = inr now
now_may_be PutBody w target now = now
now_may_be SyncBody w target now = now.0
now_may_be OpenGate w target now = now
now_may_be SyncOpened w target now = now.1

-- At every moment, and after a crash at any moment: the old value, or the new one.
may_be_reads : (call : WriteCall) (w : Write128) (bytes : List ℕ) → length w.body ≡ body_length w.version → next_sequence w.version w.block < 2 ^ 64 → Copies w (MayBe call w) bytes → Reads (in_writing w) (value_of w.version (block_in w.version w.place bytes))
may_be_reads CloseGate w bytes long fits c = inl (reads_same w bytes c)
may_be_reads SyncClosed w bytes long fits c =
    elim c.target [
      | inl same ↦ inl (reads_same w bytes (record { kept = c.kept; target = same }))
      | inr closed ↦ inl (reads_closed w bytes (record { kept = c.kept; target = closed }))
    ]
may_be_reads PutBody w bytes long fits c = inl (reads_closed w bytes c)
may_be_reads SyncBody w bytes long fits c = inl (reads_closed w bytes c)
may_be_reads OpenGate w bytes long fits c = inl (reads_closed w bytes (record { kept = c.kept; target = c.target.0 }))
may_be_reads SyncOpened w bytes long fits c =
    let target = copy_in w.version (target_of w.version w.block) w.place bytes in
    elim (either (is_open target)) [
      | inl opened ↦ inr (ap Some (reads_written w bytes long fits (record { kept = c.kept; target = (opened, c.target) })))
      | inr closed ↦ inl (reads_closed w bytes (record { kept = c.kept; target = closed }))
    ]

pub due_reads : (call : WriteCall) (w : Write128) (disk : DiskState) → IsPlaced w disk → IsDue call w disk → StandsFor w.version w.place (in_writing w) disk
due_reads call w disk placed due bytes left = may_be_reads call w bytes placed.body placed.fits (due.left bytes left)

pub done_reads : (w : Write128) (disk : DiskState) → IsPlaced w disk → IsDone w disk → (bytes : List ℕ) → MayLeave disk bytes → value_of w.version (block_in w.version w.place bytes) ≡ new_value w
done_reads w disk placed done bytes left = reads_written w bytes placed.body placed.fits (done.left bytes left)

-- a list is its first item and the rest
head_tail : (xs ys : List ℕ) → length xs ≡ length ys → 0 < length ys → slice_index xs 0 ≡ slice_index ys 0 → drop 1 xs ≡ drop 1 ys → xs ≡ ys
head_tail [] ys long some head tail = absurd (omega arith)
head_tail (x ∷ xs) [] long some head tail = absurd (omega arith)
head_tail (x ∷ xs) (y ∷ ys) long some head tail = ap (λ (h : ℕ). h ∷ xs) head ∙ ap (λ (t : List ℕ). y ∷ t) tail

gate_is : (copy : List ℕ) → is_open copy ≡ true → slice_index copy 0 ≡ 165
gate_is copy opened = grind (arith, nat_tests)

abbrev closing_by : Bool → List ℕ
closing_by opened = if opened then 0 ∷ [] else []

closing_length : (opened : Bool) → length (closing_by opened) ≤ 1
closing_length true = omega arith
closing_length false = omega arith

-- What one write, whole or torn, makes of the copies: `old` had them, and only the range may differ.
module _ (w : Write128) (old new : List ℕ) (room : w.place + block_length w.version ≤ length old) where
  abbrev target_then : List ℕ
  target_then = copy_in w.version (target_of w.version w.block) w.place old

  abbrev target_now : List ℕ
  target_now = copy_in w.version (target_of w.version w.block) w.place new

  closes : length w.block ≡ block_length w.version → ChangesOnly (gate_of w) (length (closing w)) old new → Copies w (MayBe CloseGate w) old → Copies w (MayBe SyncClosed w) new
  closes long changes c =
      record {
        kept = other_same w.version (target_of w.version w.block) w.place _ _ old new room changes (omega (arith, long_copy w.version)) (omega (arith, long_copy w.version, closing_short)) ∙ c.kept;
        target =
            elim (either (is_open (copy_of w.version (target_of w.version w.block) w.block))) [
              | inl was_open ↦
                  elim (either (is_open target_now)) [
                    | inl opened ↦ inl (
                        head_tail target_now target_then
                        (length-copy_in w.version (target_of w.version w.block) w.place new room_now ∙ sym (length-copy_in w.version (target_of w.version w.block) w.place old room))
                        (omega (arith, long_copy w.version, length-copy_in w.version (target_of w.version w.block) w.place old room))
                        (gate_is target_now opened ∙ sym (gate_is target_then (ap is_open c.target ∙ was_open)))
                        (tail_same w.version (target_of w.version w.block) w.place _ _ old new room changes refl closing_short)
                        ∙ c.target)
                    | inr closed ↦ inr closed
                  ]
              | inr was_closed ↦
                  inl (nothing_same w.version (target_of w.version w.block) w.place _ _ old new room changes (target_of w.version w.block) (closing_none was_closed) ∙ c.target)
            ];
      }
    where
      room_now : w.place + block_length w.version ≤ length new
      room_now = omega (arith, long_copy w.version, changes.as_many)

      closing_short : length (closing w) ≤ 1
      closing_short = closing_length (is_open (copy_of w.version (target_of w.version w.block) w.block))

      closing_none : is_open (copy_of w.version (target_of w.version w.block) w.block) ≡ false → length (closing w) ≡ 0
      closing_none e = ap (λ (b : Bool). length (closing_by b)) e

  fills : ChangesOnly (gate_of w + 1) (length (new_tail w)) old new → length w.body ≡ body_length w.version → Copies w (MayBe PutBody w) old → Copies w (MayBe SyncBody w) new
  fills changes long c =
      let gate = gate_same w.version (target_of w.version w.block) w.place (gate_of w + 1) _ old new room changes refl in
      record {
        kept = other_same w.version (target_of w.version w.block) w.place _ _ old new room changes (omega (arith, long_copy w.version)) (omega (arith, long_copy w.version, length-tail_with w.version (next_sequence w.version w.block) w.body long)) ∙ c.kept;
        target = ap (λ (g : ℕ). g == 165) gate ∙ c.target;
      }

  opens : ChangesOnly (gate_of w) 1 old new → Copies w (MayBe OpenGate w) old → Copies w (MayBe SyncOpened w) new
  opens changes c =
      record {
        kept = other_same w.version (target_of w.version w.block) w.place _ _ old new room changes (omega (arith, long_copy w.version)) (omega (arith, long_copy w.version)) ∙ c.kept;
        target = tail_same w.version (target_of w.version w.block) w.place _ _ old new room changes refl (omega (arith, long_copy w.version)) ∙ c.target.1;
      }

elsewhere : (w : Write128) (at n : ℕ) (P : List ℕ → Type 0) (old new : List ℕ) → w.place + block_length w.version ≤ length old → ChangesOnly at n old new → (at + n ≤ w.place) ⊎ (w.place + block_length w.version ≤ at) → Copies w P old → Copies w P new
elsewhere w at n P old new room changes outside c =
    record {
      kept = elsewhere_same w.version (target_of w.version w.block) w.place at n old new room changes (other (target_of w.version w.block)) outside ∙ c.kept;
      target = subst P (sym (elsewhere_same w.version (target_of w.version w.block) w.place at n old new room changes (target_of w.version w.block) outside)) c.target;
    }

settled_copies : (w : Write128) (bytes : List ℕ) → block_in w.version w.place bytes ≡ w.block → Copies w (MayBe CloseGate w) bytes
unfolding copy_in
settled_copies w bytes same = record { kept = ap (copy_of w.version (other (target_of w.version w.block))) same; target = ap (copy_of w.version (target_of w.version w.block)) same }

not_open : (copy : List ℕ) → slice_index copy 0 ≡ 0 → is_open copy ≡ false
not_open copy zero_gate = ap (λ (g : ℕ). g == 165) zero_gate

is_opened : (copy : List ℕ) → slice_index copy 0 ≡ 165 → is_open copy ≡ true
is_opened copy gate = ap (λ (g : ℕ). g == 165) gate

-- Each step of the disk, where a call is due.
module _ (w : Write128) (disk : DiskState) (placed : IsPlaced w disk) where
  abbrev gate : ℕ
  gate = gate_of w

  gate_within : gate_of w + copy_length w.version ≤ length disk.bytes
  gate_within = omega (arith, long_copy w.version, offset_fits w.version (target_of w.version w.block), placed.within)

  tail_long : length (new_tail w) ≡ tail_length w.version
  tail_long = length-tail_with w.version (next_sequence w.version w.block) w.body placed.body

  closing_short : length (closing w) ≤ 1
  closing_short = closing_length (is_open (copy_of w.version (target_of w.version w.block) w.block))

  -- a write, whole or torn: what a crash may leave then
  left_by : (at : ℕ) (from : List ℕ) (P Q : List ℕ → Type 0) → at + length from ≤ length disk.bytes → ((old new : List ℕ) → w.place + block_length w.version ≤ length old → ChangesOnly at (length from) old new → Copies w P old → Copies w Q new) → ((bytes : List ℕ) → MayLeave disk bytes → Copies w P bytes) → (bytes : List ℕ) → MayLeave (written disk at from) bytes → Copies w Q bytes
  left_by at from P Q within step due bytes left =
      let a = may_leave_written disk at from bytes placed.whole within left in
      step a.0 bytes (omega (arith, long_copy w.version, a.1.as_many, placed.within)) a.2 (due a.0 a.1)

  changed : (at : ℕ) (from : List ℕ) → at + length from ≤ length disk.bytes → ChangesOnly at (length from) disk.bytes (put_at disk.bytes at from)
  changed at from within =
      record {
        as_many = length-put disk.bytes at from within 0;
        below = put-below disk.bytes at from within 0;
        above = put-above disk.bytes at from within 0;
      }

  -- the byte k of the copy to be written, where byte i of what was put stands
  put_byte : (at : ℕ) (from : List ℕ) → at + length from ≤ length disk.bytes → (k i : ℕ) → k < copy_length w.version → i < length from → gate_of w + k ≡ at + i → get_or (copy_in w.version (target_of w.version w.block) w.place (put_at disk.bytes at from)) k 0 ≡ get_or from i 0
  put_byte at from within k i low inside same =
      get_or-copy_in w.version (target_of w.version w.block) w.place (put_at disk.bytes at from) k low
      ∙ ap (λ (j : ℕ). get_or (put_at disk.bytes at from) j 0) same
      ∙ put-inside disk.bytes at from within 0 i inside

  after_close : IsDue CloseGate w disk → IsDue SyncClosed w (written disk (gate_of w) (closing w))
  after_close due =
      let within : gate_of w + length (closing w) ≤ length disk.bytes = omega (arith, long_copy w.version, gate_within, closing_short) in
      let changes = changed (gate_of w) (closing w) within in
      let c = closes w disk.bytes (put_at disk.bytes (gate_of w) (closing w)) placed.within placed.block changes due.now in
      record {
        now = record {
          kept = c.kept;
          target = elim (either (is_open (copy_of w.version (target_of w.version w.block) w.block))) [
            | inl was_open ↦
                (let one : closing w ≡ 0 ∷ [] = ap closing_by was_open in
                not_open (copy_in w.version (target_of w.version w.block) w.place (put_at disk.bytes (gate_of w) (closing w))) (put_byte (gate_of w) (closing w) within 0 0 (omega (arith, long_copy w.version)) (omega (arith, long_copy w.version, ap (length {A = ℕ}) one)) (omega (arith, long_copy w.version)) ∙ ap (λ (l : List ℕ). get_or l 0 0) one))
            | inr was_closed ↦
                ap is_open (nothing_same w.version (target_of w.version w.block) w.place _ _ disk.bytes _ placed.within changes (target_of w.version w.block) (ap (λ (b : Bool). length (closing_by b)) was_closed) ∙ due.now.target) ∙ was_closed
          ];
        };
        left = left_by (gate_of w) (closing w) (MayBe CloseGate w) (MayBe SyncClosed w) within (λ old new room changes c. closes w old new room placed.block changes c) due.left;
      }

  after_fill : IsDue PutBody w disk → IsDue SyncBody w (written disk (gate_of w + 1) (new_tail w))
  after_fill due =
      let within : gate_of w + 1 + length (new_tail w) ≤ length disk.bytes = omega (arith, long_copy w.version, gate_within, tail_long) in
      let changes = changed (gate_of w + 1) (new_tail w) within in
      let bytes = put_at disk.bytes (gate_of w + 1) (new_tail w) in
      let c = fills w disk.bytes bytes placed.within changes placed.body due.now in
      let long = length-copy_in w.version (target_of w.version w.block) w.place bytes (omega (arith, long_copy w.version, changes.as_many, placed.within)) in
      let size : length (drop 1 (copy_in w.version (target_of w.version w.block) w.place bytes)) ≡ tail_length w.version = omega (arith, long_copy w.version, length-drop 1 (copy_in w.version (target_of w.version w.block) w.place bytes), long) in
      record {
        now = record {
          kept = c.kept;
          target = (
            c.target,
            ext_get_or 0 _ _ (size ∙ sym tail_long) (λ k inside.
                get_or-drop 1 (copy_in w.version (target_of w.version w.block) w.place bytes) k 0
                ∙ put_byte (gate_of w + 1) (new_tail w) within (1 + k) k (omega (arith, long_copy w.version, size)) (omega (arith, long_copy w.version, size, tail_long)) (omega (arith, long_copy w.version))),
          );
        };
        left = left_by (gate_of w + 1) (new_tail w) (MayBe PutBody w) (MayBe SyncBody w) within (λ old new room changes c. fills w old new room changes placed.body c) due.left;
      }

  after_open : IsDue OpenGate w disk → IsDue SyncOpened w (written disk (gate_of w) (165 ∷ []))
  after_open due =
      let within : gate_of w + 1 ≤ length disk.bytes = omega (arith, long_copy w.version, gate_within) in
      let changes = changed (gate_of w) (165 ∷ []) within in
      let c = opens w disk.bytes (put_at disk.bytes (gate_of w) (165 ∷ [])) placed.within changes due.now in
      record {
        now = record {
          kept = c.kept;
          target = (is_opened (copy_in w.version (target_of w.version w.block) w.place (put_at disk.bytes (gate_of w) (165 ∷ []))) (put_byte (gate_of w) (165 ∷ []) within 0 0 (omega (arith, long_copy w.version)) (omega (arith, long_copy w.version)) (omega (arith, long_copy w.version))), c.target);
        };
        left = left_by (gate_of w) (165 ∷ []) (MayBe OpenGate w) (MayBe SyncOpened w) within (λ old new room changes c. opens w old new room changes c) due.left;
      }

  -- a sync leaves what is there now
  synced_left : (P : List ℕ → Type 0) → Copies w P disk.bytes → (bytes : List ℕ) → MayLeave (synced disk) bytes → Copies w P bytes
  synced_left P now bytes left = subst (Copies w P) (sym (may_leave_synced disk bytes left)) now

  -- A call that succeeds leads to the next.
  pub done_leads_on : (call : WriteCall) (boot : ℕ) (new : DiskState) → IsDue call w disk → Step disk (call_of call w boot) Done new → Stands (next_call call) w new
  done_leads_on CloseGate boot new due step = subst (IsDue SyncClosed w) (sym step.2.1) (after_close due)
  done_leads_on SyncClosed boot new due step = subst (IsDue PutBody w) (sym step.2.1) (record { now = due.now; left = synced_left (MayBe PutBody w) due.now })
  done_leads_on PutBody boot new due step = subst (IsDue SyncBody w) (sym step.2.1) (after_fill due)
  done_leads_on SyncBody boot new due step = subst (IsDue OpenGate w) (sym step.2.1) (record { now = due.now; left = synced_left (MayBe OpenGate w) due.now })
  done_leads_on OpenGate boot new due step = subst (IsDue SyncOpened w) (sym step.2.1) (after_open due)
  done_leads_on SyncOpened boot new due step = subst (IsDone w) (sym step.2.1) (record { left = synced_left (IsWritten w) due.now })

  reads_where : (call : WriteCall) (new : DiskState) → ((bytes : List ℕ) → MayLeave new bytes → Copies w (MayBe call w) bytes) → StandsFor w.version w.place (in_writing w) new
  reads_where call new left bytes may = may_be_reads call w bytes placed.body placed.fits (left bytes may)

  -- the range of a torn write holds some bytes, of which there are as many
  torn_reads : (call next : WriteCall) (at n : ℕ) (new : DiskState) → at + n ≤ length disk.bytes → ((old after : List ℕ) → w.place + block_length w.version ≤ length old → ChangesOnly at n old after → Copies w (MayBe call w) old → Copies w (MayBe next w) after) → IsDue call w disk → Torn at n disk new → StandsFor w.version w.place (in_writing w) new
  torn_reads call next at n new within step due torn =
      subst (StandsFor w.version w.place (in_writing w)) (sym torn.leaves) (reads_where next (written disk at torn.left) (
      left_by at torn.left (MayBe call w) (MayBe next w) (omega (arith, long_copy w.version, torn.as_many))
      (λ old after room changes c. step old after room (subst (λ (k : ℕ). ChangesOnly at k old after) torn.as_many changes) c) due.left))

  -- A call that fails, or a write that is torn, leaves the old value or the new one.
  pub failure_reads : (call : WriteCall) (boot : ℕ) (new : DiskState) → IsDue call w disk → FailureLeaves (call_of call w boot) disk new → StandsFor w.version w.place (in_writing w) new
  failure_reads CloseGate boot new due torn = torn_reads CloseGate SyncClosed (gate_of w) (length (closing w)) new (omega (arith, long_copy w.version, gate_within, closing_short)) (λ old after room changes c. closes w old after room placed.block changes c) due torn
  failure_reads SyncClosed boot new due same = subst (StandsFor w.version w.place (in_writing w)) (sym same) (due_reads SyncClosed w disk placed due)
  failure_reads PutBody boot new due torn = torn_reads PutBody SyncBody (gate_of w + 1) (length (new_tail w)) new (omega (arith, long_copy w.version, gate_within, tail_long)) (λ old after room changes c. fills w old after room changes placed.body c) due torn
  failure_reads SyncBody boot new due same = subst (StandsFor w.version w.place (in_writing w)) (sym same) (due_reads SyncBody w disk placed due)
  failure_reads OpenGate boot new due torn = torn_reads OpenGate SyncOpened (gate_of w) 1 new (omega (arith, long_copy w.version, gate_within)) (λ old after room changes c. opens w old after room changes c) due torn
  failure_reads SyncOpened boot new due same = subst (StandsFor w.version w.place (in_writing w)) (sym same) (due_reads SyncOpened w disk placed due)

  -- A sync by anyone leaves the same call due.
  pub due_through_sync : (call : WriteCall) → IsDue call w disk → IsDue call w (synced disk)
  due_through_sync call due =
      record { now = due.now; left = synced_left (MayBe call w) (copies_by w (IsNow call w) (MayBe call w) disk.bytes (now_may_be call w) due.now) }

  -- A write elsewhere, whole or torn, leaves the same call due.
  pub due_through_write : (call : WriteCall) (at : ℕ) (from : List ℕ) → at + length from ≤ length disk.bytes → (at + length from ≤ w.place) ⊎ (w.place + block_length w.version ≤ at) → IsDue call w disk → IsDue call w (written disk at from)
  due_through_write call at from within outside due =
      let kept = (λ (P : List ℕ → Type 0) (old new : List ℕ) (room : w.place + block_length w.version ≤ length old) (changes : ChangesOnly at (length from) old new) (c : Copies w P old). elsewhere w at (length from) P old new room changes outside c) in
      record {
        now = kept (IsNow call w) disk.bytes (put_at disk.bytes at from) placed.within (changed at from within) due.now;
        left = left_by at from (MayBe call w) (MayBe call w) within (kept (MayBe call w)) due.left;
      }

  -- A write begins where the block is settled.
  pub settled_begins : IsDurable w disk → IsDue CloseGate w disk
  settled_begins settled =
      let same = (λ (bytes : List ℕ) (left : MayLeave disk bytes). settled_copies w bytes (settled bytes left)) in
      record { now = same disk.bytes (may_leave_now disk); left = same }

  -- Any call that leaves the block, by anyone and whatever it answers, leaves the same call due.
  pub due_elsewhere : (due_call : WriteCall) (call : Call) (answer : Answer) (new : DiskState) → WritesOn disk call → LeavesBlock w.version w.place call → Step disk call answer new → IsDue due_call w disk → IsDue due_call w new
  due_elsewhere due_call call answer new fits leaves step due =
      step_keeps (IsDue due_call w) disk new call answer
      (record {
        writes =
            λ boot at from left is as_many.
            let range = ranges w.version w.place disk placed.whole placed.within call answer new fits leaves step boot at from left is as_many in
            due_through_write due_call at left range.0 range.1 due;
        syncs = due_through_sync due_call due;
        stays = due;
      })
      step

-- What was read of a block at rest is settled.
pub read_settles : (w : Write128) (disk new : DiskState) (boot at q len : ℕ) (bytes : List ℕ) → IsAtRest w.version (at + q) disk → q + block_length w.version ≤ len → at + len ≤ length disk.bytes → Step disk (Read boot at len) (Told bytes) new → w.place ≡ at + q → w.block ≡ block_in w.version q bytes → IsDurable w new
read_settles w disk new boot at q len bytes rests inside fits step is has left may =
    let told : bytes ≡ slice_range disk.bytes at (at + len) = cc in
    let before : MayLeave disk left = subst (λ (d : DiskState). MayLeave d left) step.2.1 may in
    ap (λ (p : ℕ). block_in w.version p left) is ∙ rests left before ∙ sym (block_read w.version at q len disk.bytes inside fits) ∙ ap (block_in w.version q) (sym told) ∙ sym has
