-- A number through calls, syncs, crashes and its own write.
use Rattle.std.specs.Prelude.{◌⊎◌, Some, None}
use Rattle.std.proofs.Common.{ℕ, ◌≡◌, ◌+◌, ◌≤◌, Bool, true, false, List, length, refl, sym, ◌∙◌, ap, subst, inl, inr, arith}
use Rattle.disk.specs.declared.fault.DiskFault.TheVariants.{Reset, Failed, Gone}
use Rattle.disk.specs.Disk.{DiskState, Call, Write, Answer, Booted, Told, Done, Fault, Step, written, synced}
use Rattle.disk.specs.Crash.{IsWhole, MayLeave}
use Rattle.disk.specs.Simulated.{fresh_disk}
use Rattle.disk.specs.Steps.{WritesOn}
use Rattle.disk.proofs.CrashLemmas.{length-put, put-below, put-above, may_leave_now, may_leave_synced, may_leave_crashed, may_leave_written}
use Rattle.disk.proofs.StepLemmas.{step_keeps}
use Rattle.torn_block.specs.Layout.{cluster_version}
use Rattle.torn_block.specs.declared.write_steps.WriteCall.{WriteCall}
use Rattle.torn_block.specs.declared.write_steps.WriteCall.TheVariants.{CloseGate, SyncClosed, PutBody, SyncBody, OpenGate, SyncOpened}
use Rattle.torn_block.specs.Block.{value_of, number_in, next_number}
use Rattle.torn_block.specs.Place.{block_in}
use Rattle.torn_block.specs.Register.{Value, IsOutside, LiesOn, LeavesBlock, Reads, at_rest}
use Rattle.torn_block.specs.Stage.{Write128, call_of, next_call, in_writing, new_value, IsPlaced, IsDue, Stands}
use Rattle.torn_block.proofs.PlaceLaws.{block_elsewhere}
use Rattle.torn_block.proofs.RegisterLaws.{fresh_rests}
use Rattle.torn_block.proofs.StageLaws.{due_reads, done_reads, done_leads_on, failure_reads}
use Rattle.heartbeat.specs.Beat.{counter_at, counter_of}
use Rattle.epochs.specs.Numbers.{number_at, IsNumber, IsTried, write_over, ZerosAreNone, OthersLeaveNumbers, SyncsMakeSure, CrashesLeaveOne, WritesAreNext, WritesRaise}

-- ZEROS

-- a blank value, at rest, is number 0
rests_at : (place : ℕ) (disk : DiskState) (bytes : List ℕ) → Reads (at_rest None) (value_of cluster_version (block_in cluster_version place bytes)) → number_at place bytes ≡ 0
rests_at place disk bytes (inl is) = ap counter_at is
rests_at place disk bytes (inr is) = absurd (cc)

pub zeros_are_none : ZerosAreNone
zeros_are_none place size =
    let rests = fresh_rests cluster_version place size in
    record {
      now = rests_at place (fresh_disk size) (fresh_disk size).bytes (rests.0 (fresh_disk size).bytes (may_leave_now (fresh_disk size)));
      left = λ bytes may. inl (rests_at place (fresh_disk size) bytes (rests.0 bytes may));
    }

-- CALLS ELSEWHERE

module _ (place sure seen : ℕ) (writing : Bool) (disk new : DiskState) (whole : IsWhole disk) (lies : LiesOn cluster_version place disk) (is : IsNumber place disk sure seen writing) where
  abbrev IsLeft : ℕ → Type 0
  IsLeft m = (m ≡ sure) ⊎ (m ≡ seen) ⊎ ((m ≡ seen + 1) × (writing ≡ true))

  same_block : (one other : List ℕ) → block_in cluster_version place other ≡ block_in cluster_version place one → number_at place other ≡ number_at place one
  same_block one other same = ap counter_of same

  written_elsewhere : (at : ℕ) (from : List ℕ) → at + length from ≤ length disk.bytes → IsOutside cluster_version place at (length from) → IsNumber place (written disk at from) sure seen writing
  written_elsewhere at from fits off =
      record {
        now =
            same_block disk.bytes (written disk at from).bytes
            (block_elsewhere cluster_version place at (length from) disk.bytes (written disk at from).bytes lies
            (record {
              as_many = length-put disk.bytes at from fits 0;
              below = λ k below. put-below disk.bytes at from fits 0 k below;
              above = λ k above. put-above disk.bytes at from fits 0 k above;
            })
            off)
            ∙ is.now;
        left =
            λ bytes may.
            let a = may_leave_written disk at from bytes whole fits may in
            let many = a.1.as_many in
            let same = block_elsewhere cluster_version place at (length from) a.0 bytes (omega (arith, many, lies)) a.2 off in
            subst IsLeft (sym (same_block a.0 bytes same)) (is.left a.0 a.1);
      }

  all_synced : IsNumber place (synced disk) sure seen writing
  all_synced = record { now = is.now; left = λ bytes may. inr (inl (ap (number_at place) (may_leave_synced disk bytes may) ∙ is.now)) }

  module _ (call : Call) (answer : Answer) (writes : WritesOn disk call) (leaves : LeavesBlock cluster_version place call) (step : Step disk call answer new) where
    fits_by : (boot at : ℕ) (from : List ℕ) → call ≡ Write boot at from → at + length from ≤ length disk.bytes
    fits_by boot at from same = subst (WritesOn disk) same writes

    off_by : (boot at : ℕ) (from : List ℕ) → call ≡ Write boot at from → IsOutside cluster_version place at (length from)
    off_by boot at from same = subst (LeavesBlock cluster_version place) same leaves

    elsewhere : IsNumber place new sure seen writing
    elsewhere =
        step_keeps (λ (d : DiskState). IsNumber place d sure seen writing) disk new call answer
        (record {
          writes =
              λ boot at from left same as_many.
              written_elsewhere at left (let fits = fits_by boot at from same in omega (arith, fits, as_many)) (subst (IsOutside cluster_version place at) (sym as_many) (off_by boot at from same));
          syncs = all_synced;
          stays = is;
        })
        step

pub others_leave_numbers : OthersLeaveNumbers
others_leave_numbers place sure seen writing disk new call answer whole lies writes leaves step is = elsewhere place sure seen writing disk new whole lies is call answer writes leaves step

-- SYNCS AND CRASHES

pub syncs_make_sure : SyncsMakeSure
syncs_make_sure place sure seen boot writing disk new step is =
    let to : new ≡ synced disk = step.2.1 in
    subst (λ (d : DiskState). IsNumber place d seen seen false) (sym to) (record { now = is.now; left = λ bytes may. inl (ap (number_at place) (may_leave_synced disk bytes may) ∙ is.now) })

pub crashes_leave_one : CrashesLeaveOne
crashes_leave_one place sure seen writing disk new crash is = (
  number_at place new.bytes,
  record { now = refl; left = λ bytes may. inl (ap (number_at place) (may_leave_crashed disk new bytes crash may)) },
  is.left new.bytes crash.bytes,
)

-- THE WRITE

-- the number of the new value is the next one
next_is : (value : Value) → next_number (number_in value) ≡ counter_at value + 1
next_is None = refl
next_is (Some value) = refl

module _ (place : ℕ) (block body : List ℕ) (new : DiskState) where
  abbrev w : Write128
  w = write_over place block body

  -- what is read is the old value or the new one
  abbrev IsEither : Type 0
  IsEither = (bytes : List ℕ) → MayLeave new bytes → (number_at place bytes ≡ counter_of block) ⊎ (number_at place bytes ≡ counter_of block + 1)

  either_by : (bytes : List ℕ) → Reads (in_writing w) (value_of cluster_version (block_in cluster_version place bytes)) → (number_at place bytes ≡ counter_of block) ⊎ (number_at place bytes ≡ counter_of block + 1)
  either_by bytes (inl old) = inl (ap counter_at old)
  either_by bytes (inr some) =
      let next : value_of cluster_version (block_in cluster_version place bytes) ≡ new_value w = cc in
      inr (ap counter_at next ∙ next_is (value_of cluster_version block))

  found : IsEither → (seen : ℕ) × ((seen ≡ counter_of block) ⊎ (seen ≡ counter_of block + 1)) × IsNumber place new (counter_of block) seen true
  found either =
      let now = number_at place new.bytes in (
        now,
        either new.bytes (may_leave_now new),
        record {
          now = refl;
          left =
              λ bytes may. elim (either bytes may) [
                | inl old ↦ inl old
                | inr next ↦
                    elim (either new.bytes (may_leave_now new)) [
                      | inl still ↦ inr (inr (next ∙ ap (λ (m : ℕ). m + 1) (sym still), refl))
                      | inr already ↦ inr (inl (next ∙ sym already))
                    ]
              ];
        },
      )

  module _ (disk : DiskState) (placed : IsPlaced w disk) (placed_new : IsPlaced w new) where
    due_either : (call : WriteCall) → IsDue call w new → IsEither
    due_either call due bytes may = either_by bytes (due_reads call w new placed_new due bytes may)

    stands_either : (call : WriteCall) → Stands (next_call call) w new → IsEither
    stands_either CloseGate due = due_either SyncClosed due
    stands_either SyncClosed due = due_either PutBody due
    stands_either PutBody due = due_either SyncBody due
    stands_either SyncBody due = due_either OpenGate due
    stands_either OpenGate due = due_either SyncOpened due
    stands_either SyncOpened done = λ bytes may. inr (ap counter_at (done_reads w new placed_new done bytes may) ∙ next_is (value_of cluster_version block))

    pub tried : (call : WriteCall) (boot : ℕ) (answer : Answer) → IsDue call w disk → IsTried answer → Step disk (call_of call w boot) answer new → IsEither
    tried call boot Done due is step = stands_either call (done_leads_on w disk placed call boot new due step)
    tried call boot (Fault Failed) due is step = λ bytes may. either_by bytes (failure_reads w disk placed call boot new due step.2 bytes may)
    tried call boot (Fault Reset) due is step = absurd is
    tried call boot (Fault Gone) due is step = absurd is
    tried call boot (Booted b) due is step = absurd is
    tried call boot (Told bytes) due is step = absurd is

pub writes_are_next : WritesAreNext
writes_are_next place block body call boot disk new answer placed placed_new due is step = found place block body new (tried place block body new disk placed placed_new call boot answer due is step)

pub writes_raise : WritesRaise
writes_raise place block body boot disk new placed placed_new due step bytes may =
    let w = write_over place block body in
    ap counter_at (done_reads w new placed_new (done_leads_on w disk placed SyncOpened boot new due step) bytes may) ∙ next_is (value_of cluster_version block)
