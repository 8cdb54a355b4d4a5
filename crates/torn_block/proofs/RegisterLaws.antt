-- What stands on the disk of a register through everyone's steps.
use Rattle.std.specs.Prelude.{◌≡◌, ◌+◌, ◌≤◌, ◌==◌, ℕ, zero, suc, Bool, false, nat_lt, List, length, replicate, Option, Some, None}
use Rattle.std.proofs.Common.{refl, sym, ◌∙◌, ap, subst, arith, inl, inr, get_or}
use Rattle.std.proofs.lemmas.List.{length-replicate}
use Rattle.disk.specs.Disk.{DiskState, KeepsSynced, Call, Write, Sync, Answer, Done, Step, Crashes, put_at, written, synced}
use Rattle.disk.specs.Crash.{MayLeave, IsWhole}
use Rattle.disk.proofs.CrashLemmas.{may_leave_now, may_leave_synced, may_leave_written, may_leave_crashed, put-below, put-above, length-put}
use Rattle.disk.specs.Simulated.{fresh_disk}
use Rattle.disk.specs.Steps.{WritesOn}
use Rattle.disk.proofs.StepLemmas.{step_keeps}
use Rattle.torn_block.specs.declared.block.Half.{Half}
use Rattle.torn_block.specs.declared.block.Half.TheVariants.{First, Second}
use Rattle.torn_block.specs.Block.{is_open, sequence_of, choice, value_at, value_by, value_of}
use Rattle.torn_block.specs.Place.{block_in, copy_in, offset_of}
use Rattle.torn_block.proofs.PlaceLaws.{block_elsewhere, get_or-copy_in}
use Rattle.torn_block.specs.Register.{Value, Register, Reads, at_rest, Settles, StandsFor, IsAtRest, LiesOn, IsOutside, LeavesBlock}
use Rattle.torn_block.specs.Layout.{Version}
use Rattle.torn_block.proofs.LayoutLaws.{long_copy}

settles_kept : (confirmed : Value) (writing : Option Value) (value : Value) → value ≡ confirmed → Settles (record { confirmed = confirmed; writing = writing }) (at_rest value)
settles_kept confirmed None value kept = inr (inr (refl, ap at_rest kept))
settles_kept confirmed (Some other) value kept = inr (inl (record { value = other; written = refl; dropped = ap at_rest kept }))

-- a read of a register that is put to rest settles it
pub settles : (r : Register) (value : Value) → Reads r value → Settles r (at_rest value)
settles r value (inr written) = inl (record { value = value; written = sym written; confirmed = refl })
settles r value (inl kept) = settles_kept r.confirmed r.writing value kept

-- a call that leaves the block, as a fact of its range
outside_of : (v : Version) → (place : ℕ) (call : Call) (boot at : ℕ) (from : List ℕ) → LeavesBlock v place call → call ≡ Write boot at from → IsOutside v place at (length from)
outside_of v place call boot at from leaves is = subst (LeavesBlock v place) is leaves

within_of : (disk : DiskState) (call : Call) (boot at : ℕ) (from : List ℕ) → WritesOn disk call → call ≡ Write boot at from → at + length from ≤ length disk.bytes
within_of disk call boot at from fits is = subst (WritesOn disk) is fits

module _ (v : Version) (place : ℕ) (disk : DiskState) (whole : IsWhole disk) (lies : LiesOn v place disk) where
  -- an outcome of a crash after a write elsewhere has the block of an outcome before it
  before_write : (at : ℕ) (from bytes : List ℕ) → at + length from ≤ length disk.bytes → IsOutside v place at (length from) → MayLeave (written disk at from) bytes → (old : List ℕ) × MayLeave disk old × (block_in v place bytes ≡ block_in v place old)
  before_write at from bytes fits outside left =
      let a = may_leave_written disk at from bytes whole fits left in
      (a.0, a.1, block_elsewhere v place at (length from) a.0 bytes (omega (arith, a.1.as_many)) a.2 outside)

  now_elsewhere : (at : ℕ) (from : List ℕ) → at + length from ≤ length disk.bytes → IsOutside v place at (length from) → block_in v place (put_at disk.bytes at from) ≡ block_in v place disk.bytes
  now_elsewhere at from fits outside =
      block_elsewhere v place at (length from) disk.bytes (put_at disk.bytes at from) lies
      (record { as_many = length-put disk.bytes at from fits 0; below = put-below disk.bytes at from fits 0; above = put-above disk.bytes at from fits 0 })
      outside

  -- through a sync
  pub stands_synced : (r : Register) → StandsFor v place r disk → StandsFor v place r (synced disk)
  stands_synced r stands bytes left = stands bytes (subst (MayLeave disk) (sym (may_leave_synced disk bytes left)) (may_leave_now disk))

  pub rests_synced : IsAtRest v place (synced disk)
  rests_synced bytes left = ap (block_in v place) (may_leave_synced disk bytes left)

  module _ (call : Call) (answer : Answer) (new : DiskState) (fits : WritesOn disk call) (leaves : LeavesBlock v place call) (step : Step disk call answer new) where
    pub ranges : (boot at : ℕ) (from left : List ℕ) → call ≡ Write boot at from → length left ≡ length from → (at + length left ≤ length disk.bytes) × IsOutside v place at (length left)
    ranges boot at from left is as_many = (
      omega (arith, as_many, within_of disk call boot at from fits is),
      subst (IsOutside v place at) (sym as_many) (outside_of v place call boot at from leaves is),
    )

    -- through any call that leaves the block, whatever it answers
    pub stands_elsewhere : (r : Register) → StandsFor v place r disk → StandsFor v place r new
    stands_elsewhere r stands =
        step_keeps (StandsFor v place r) disk new call answer
        (record {
          writes =
              λ boot at from left is as_many bytes may.
              let range = ranges boot at from left is as_many in
              let a = before_write at left bytes range.0 range.1 may in
              subst (Reads r) (sym (ap (value_of v) a.2)) (stands a.0 a.1);
          syncs = stands_synced r stands;
          stays = stands;
        })
        step

    pub rests_elsewhere : IsAtRest v place disk → IsAtRest v place new
    rests_elsewhere rests =
        step_keeps (IsAtRest v place) disk new call answer
        (record {
          writes =
              λ boot at from left is as_many bytes may.
              let range = ranges boot at from left is as_many in
              let a = before_write at left bytes range.0 range.1 may in
              a.2 ∙ rests a.0 a.1 ∙ sym (now_elsewhere at left range.0 range.1);
          syncs = rests_synced;
          stays = rests;
        })
        step

-- after a crash the block is at rest, and its register is settled
pub rests_crashed : (v : Version) → (place : ℕ) (disk new : DiskState) → Crashes disk new → IsAtRest v place new
rests_crashed v place disk new crash bytes left = ap (block_in v place) (may_leave_crashed disk new bytes crash left)

pub stands_at_rest : (v : Version) → (place : ℕ) (disk : DiskState) → IsAtRest v place disk → StandsFor v place (at_rest (value_of v (block_in v place disk.bytes))) disk
stands_at_rest v place disk rests bytes left = inl (ap (value_of v) (rests bytes left))

pub reads_crashed : (v : Version) → (place : ℕ) (r : Register) (disk new : DiskState) → StandsFor v place r disk → Crashes disk new → Reads r (value_of v (block_in v place new.bytes))
reads_crashed v place r disk new stands crash = stands new.bytes crash.bytes

pub reads_now : (v : Version) → (place : ℕ) (r : Register) (disk : DiskState) → StandsFor v place r disk → Reads r (value_of v (block_in v place disk.bytes))
reads_now v place r disk stands = stands disk.bytes (may_leave_now disk)

-- after a sync the block is at rest, and its register is settled
pub after_sync : (v : Version) → (place : ℕ) (r : Register) (disk new : DiskState) (boot : ℕ) → StandsFor v place r disk → Step disk (Sync boot) Done new → (s : Register) × Settles r s × StandsFor v place s new × IsAtRest v place new
after_sync v place r disk new boot stands step =
    let value = value_of v (block_in v place disk.bytes) in
    let P : DiskState → Type 0 = λ d. (s : Register) × Settles r s × StandsFor v place s d × IsAtRest v place d in
    let rests : IsAtRest v place (synced disk) = λ bytes left. ap (block_in v place) (may_leave_synced disk bytes left) in
    subst P (sym step.2.1) (at_rest value, settles r value (reads_now v place r disk stands), stands_at_rest v place (synced disk) rests, rests)

-- the same of a block of any history
pub known_synced : (v : Version) → (place : ℕ) (disk new : DiskState) (boot : ℕ) → Step disk (Sync boot) Done new → IsAtRest v place new × StandsFor v place (at_rest (value_of v (block_in v place new.bytes))) new
known_synced v place disk new boot step =
    let P : DiskState → Type 0 = λ d. IsAtRest v place d × StandsFor v place (at_rest (value_of v (block_in v place d.bytes))) d in
    let rests : IsAtRest v place (synced disk) = λ bytes left. ap (block_in v place) (may_leave_synced disk bytes left) in
    subst P (sym step.2.1) (rests, stands_at_rest v place (synced disk) rests)

-- A FRESH DISK

zero_at : (size k : ℕ) → ◌≡◌ {A = ℕ} (get_or (replicate size 0) k 0) 0
zero_at zero k = refl
zero_at (suc size) zero = refl
zero_at (suc size) (suc k) = zero_at size k

-- among zeros both copies are closed
closed_in_zeros : (v : Version) → (half : Half) (place size : ℕ) → is_open (copy_in v half place (replicate size 0)) ≡ false
closed_in_zeros v half place size =
    ap (λ (gate : ℕ). gate == 165) (get_or-copy_in v half place (replicate size 0) 0 (omega (arith, long_copy v)) ∙ zero_at size (place + offset_of v half + 0))

blank_by : (first second : List ℕ) → is_open first ≡ false → is_open second ≡ false → value_by first second ≡ None
blank_by first second a b =
    let later = nat_lt (sequence_of first) (sequence_of second) in
    ap (λ (x : Bool). value_at (choice x (is_open second) later) first second) a
    ∙ ap (λ (x : Bool). value_at (choice false x later) first second) b

blank_in_zeros : (v : Version) → (place size : ℕ) → value_of v (block_in v place (replicate size 0)) ≡ None
unfolding copy_in
blank_in_zeros v place size =
    blank_by (copy_in v First place (replicate size 0)) (copy_in v Second place (replicate size 0)) (closed_in_zeros v First place size) (closed_in_zeros v Second place size)

fresh_leaves : (size : ℕ) (bytes : List ℕ) → MayLeave (fresh_disk size) bytes → bytes ≡ replicate size 0
unfolding fresh_disk
fresh_leaves size bytes left =
    let P : ℕ → Type 0 = λ n. KeepsSynced (replicate n false) (replicate size 0) bytes in
    may_leave_synced (fresh_disk size) bytes (subst P (sym (length-replicate size 0)) left)

pub fresh_rests : (v : Version) → (place size : ℕ) → StandsFor v place (at_rest None) (fresh_disk size) × IsAtRest v place (fresh_disk size)
unfolding fresh_disk
fresh_rests v place size = (
  λ bytes left. inl (ap (λ (l : List ℕ). value_of v (block_in v place l)) (fresh_leaves size bytes left) ∙ blank_in_zeros v place size),
  λ bytes left. ap (block_in v place) (fresh_leaves size bytes left),
)
