-- What an answer to an attempt's call makes of its own block on that disk, and of what it knows of it.
use Rattle.world_safety.specs.Cluster.{at_cluster}
use Rattle.std.specs.Prelude.{nat_le, ◌^◌}
use Rattle.std.proofs.Common.{ℕ, ◌+◌, ◌<◌, ◌≤◌, ◌≡◌, inl, inr, false, true≢false, Option, Some, None, List, [], ◌∷◌, ◌++◌, length, refl, sym, subst, ap, ◌∙◌, arith}
use Rattle.std.proofs.lemmas.Bool.Decides.{nat_tests}
use Rattle.disk.specs.declared.fault.DiskFault.TheVariants.{Failed}
use Rattle.disk.specs.Disk.{DiskState, Call, Attach, Read, Write, Sync, Answer, Booted, Told, Done, Fault, IsUnder, success_of, Step}
use Rattle.disk.proofs.CrashLemmas.{may_leave_now}
use Rattle.disk.proofs.StepLemmas.{step_keeps}
use Rattle.torn_block.specs.Layout.{cluster_version}
use Rattle.torn_block.specs.declared.layout.TheConstants.{HOSTS, BLOCK_LENGTH, BODY_LENGTH, ROW_LENGTH, LAST_SEQUENCE}
use Rattle.torn_block.specs.declared.write_steps.WriteCall.{WriteCall}
use Rattle.torn_block.specs.declared.write_steps.WriteCall.TheVariants.{CloseGate, SyncClosed, PutBody, SyncBody, OpenGate, SyncOpened}
use Rattle.torn_block.specs.Block.{value_of, next_sequence_at}
use Rattle.torn_block.specs.Damage.{IsSoundBlock}
use Rattle.torn_block.specs.Place.{block_in}
use Rattle.torn_block.proofs.PlaceLaws.{length-block_in}
use Rattle.torn_block.specs.Register.{Value, StandsFor}
use Rattle.torn_block.specs.Stage.{Write128, call_of, old_value, new_value, in_writing, IsDue, IsPlaced}
use Rattle.torn_block.proofs.StageLaws.{due_reads, failure_reads, settled_begins}
use Rattle.paxos_block.specs.Places.{VoteOf, place_of, row_place, row_of, IsImage, IsSoundAt}
use Rattle.paxos_block.specs.Row.{IsSound, DecodedBlock, seen_in, sequence_or_zero, decoded_row}
use Rattle.paxos_block.specs.Saying.{MaySay, body_saying}
use Rattle.paxos_block.proofs.PlaceLemmas.{spot_fits}
use Rattle.paxos_block.proofs.SayingLemmas.{claims_back}
use Rattle.paxos_block.proofs.WriteLemmas.{sound_while_due, sound_when_failed}
use Rattle.attempt.specs.Calls.{Phase, Putting}
use Rattle.attempt.specs.Answers as answers
use Rattle.attempt.specs.Answers.{Heard, Answers, heard_as, is_bad, last_row, boot_of, seen_block}
use Rattle.attempt.specs.Setup.{Setup}
use Rattle.attempt.specs.NextCall.{says_for, write_on}
use Rattle.agreement.specs.State.{Block, Cell}
use Rattle.attempt_safety.specs.Machine.{block_said}
use Rattle.attempt_safety.specs.Leads.{IsBegun}
use Rattle.world_safety.specs.Blocks.{said, Stands}
use Rattle.world_safety.specs.Knows.{own_place, CanWrite, KnowsFor}

-- BOOT NUMBERS

pub boot_kept : (disk new : DiskState) (call : Call) (answer : Answer) → Step disk call answer new → new.boot ≡ disk.boot
boot_kept disk new call answer step =
    step_keeps (λ (d : DiskState). d.boot ≡ disk.boot) disk new call answer (record { writes = λ boot at from left is as_many. refl; syncs = refl; stays = refl }) step

-- a boot number that is told is the disk's
booted_by : (disk : DiskState) (call : Call) (number boot : ℕ) → Booted number ≡ success_of disk call → heard_as (Booted number) ≡ answers.Booted boot → boot ≤ disk.boot
booted_by disk Attach number boot is same = let one : number ≡ disk.boot = cc in let two : number ≡ boot = cc in omega arith
booted_by disk (Read under at len) number boot is same = absurd (cc)
booted_by disk (Write under at from) number boot is same = absurd (cc)
booted_by disk (Sync under) number boot is same = absurd (cc)

pub booted_is : (disk new : DiskState) (call : Call) (answer : Answer) (boot : ℕ) → Step disk call answer new → heard_as answer ≡ answers.Booted boot → boot ≤ disk.boot
booted_is disk new call (Booted number) boot step is = booted_by disk call number boot step.2.0 is
booted_is disk new call (Told bytes) boot step is = absurd (cc)
booted_is disk new call Done boot step is = absurd (cc)
booted_is disk new call (Fault fault) boot step is = absurd (cc)

pub boot_at_most : (a : List Heard) (x : Heard) (n : ℕ) → boot_of a ≤ n → ((b : ℕ) → x ≡ answers.Booted b → b ≤ n) → boot_of (a ++ x ∷ []) ≤ n
boot_at_most [] (answers.Booted b) n before new = new b refl
boot_at_most [] answers.Done n before new = omega arith
boot_at_most [] (answers.Told row) n before new = omega arith
boot_at_most [] (answers.Fault fault) n before new = omega arith
boot_at_most (answers.Booted b ∷ a) x n before new = before
boot_at_most (answers.Done ∷ a) x n before new = boot_at_most a x n before new
boot_at_most (answers.Told row ∷ a) x n before new = boot_at_most a x n before new
boot_at_most (answers.Fault fault ∷ a) x n before new = boot_at_most a x n before new

-- a call that is answered well was made under the disk's boot number
pub under : (disk new : DiskState) (call : Call) (answer : Answer) → Step disk call answer new → is_bad (heard_as answer) ≡ false → IsUnder call disk.boot
under disk new call (Booted number) step good = step.1
under disk new call (Told bytes) step good = step.1
under disk new call Done step good = step.1
under disk new call (Fault fault) step good = absurd (true≢false good)

-- THE ROW

-- the answer to a read of a row
pub row_told : (disk new : DiskState) (boot slot : ℕ) (answer : Answer) (row : List DecodedBlock) → Step disk (Read boot (row_place cluster_version slot) ROW_LENGTH) answer new → heard_as answer ≡ answers.Told (Some row)
    → decoded_row cluster_version (row_of cluster_version slot disk.bytes) ≡ Some row
row_told disk new boot slot (Booted number) row step is = absurd (cc)
row_told disk new boot slot Done row step is = absurd (cc)
row_told disk new boot slot (Fault fault) row step is = absurd (cc)
row_told disk new boot slot (Told bytes) row step is =
    let read : bytes ≡ row_of cluster_version slot disk.bytes = (let all = step.2.0 in cc) in
    let says : decoded_row cluster_version bytes ≡ Some row = cc in
    ap (decoded_row cluster_version) (sym read) ∙ says

-- WRITES

-- the device calls of a write succeed with Done
pub done_is : (call : WriteCall) (w : Write128) (boot : ℕ) (disk : DiskState) → success_of disk (call_of call w boot) ≡ Done
done_is CloseGate w boot disk = refl
done_is SyncClosed w boot disk = refl
done_is PutBody w boot disk = refl
done_is SyncBody w boot disk = refl
done_is OpenGate w boot disk = refl
done_is SyncOpened w boot disk = refl

pub under_is : (call : WriteCall) (w : Write128) (boot now : ℕ) → IsUnder (call_of call w boot) now → boot ≡ now
under_is CloseGate w boot now is = is
under_is SyncClosed w boot now is = is
under_is PutBody w boot now is = is
under_is SyncBody w boot now is = is
under_is OpenGate w boot now is = is
under_is SyncOpened w boot now is = is

pub number_fits : (value : Option (ℕ × List ℕ)) (n : ℕ) → sequence_or_zero value ≡ n → nat_le LAST_SEQUENCE n ≡ false → next_sequence_at value ≤ 2 ^ 62
number_fits None n is fits = omega arith
number_fits (Some value) n is fits = grind (arith, nat_tests)

-- a cell in which nothing is in writing reads as its confirmed value
confirmed_is : (disk : DiskState) (slot host : ℕ) (cell : Cell (List ℕ)) (is : Stands disk slot host cell) → cell.writing ≡ None → cell.confirmed ≡ said (value_of cluster_version (block_in cluster_version (place_of cluster_version (VoteOf slot host)) disk.bytes))
confirmed_is disk slot host cell is rests = elim (is.reads disk.bytes (may_leave_now disk)) [ inl kept ↦ sym kept | inr written ↦ absurd (cc) ]

-- a value more that is not on the disk does no harm
pub stands_more : (disk : DiskState) (slot host : ℕ) (x : Block (List ℕ)) (old new : Cell (List ℕ)) → old.writing ≡ None → IsBegun x old new → Stands disk slot host old → Stands disk slot host new
stands_more disk slot host x old new rests begun is =
    record { reads = λ bytes left. elim (is.reads bytes left) [ inl kept ↦ inl (kept ∙ sym begun.confirmed) | inr written ↦ absurd (cc) ]; sound = is.sound }

some_is : (value other : Value) → Some value ≡ Some other → value ≡ other
some_is value other is = cc

-- THE OWN BLOCK

module _ (slots : ℕ) (any : Setup) (p : Phase) (d : ℕ) (f : Answers) (disk : DiskState) (image : IsImage cluster_version slots disk) (slot_below : (at_cluster any).slot < slots) (host_below : (at_cluster any).host < HOSTS) where
  abbrev s : Setup
  s = at_cluster any

  abbrev w : Write128
  w = write_on s p d f

  lies : own_place s + BLOCK_LENGTH ≤ length disk.bytes
  lies = omega (arith, image.long, spot_fits cluster_version slots (VoteOf s.slot s.host) (slot_below, host_below))

  -- the write lies on the disk
  pub placed : CanWrite s.host (says_for s p f) w → IsPlaced w disk
  placed can =
      record { whole = image.whole; within = lies; block = can.long; body = can.full; fits = (let number = can.is_write.number in omega (arith, number)) }

  -- what is in writing says what the attempt writes
  pub new_says : MaySay cluster_version s.host (says_for s p f) → said (new_value w) ≡ block_said (says_for s p f)
  new_says may = ap block_said (claims_back cluster_version (says_for s p f) s.host may)

  stands_writing : (new : DiskState) (cell : Cell (List ℕ)) → StandsFor cluster_version (own_place s) (in_writing w) new → IsSoundAt cluster_version s.host (own_place s) new → cell.confirmed ≡ said (old_value w) → cell.writing ≡ Some (said (new_value w)) → Stands new s.slot s.host cell
  stands_writing new cell holds sound confirmed writing =
      record {
        reads = λ bytes left. elim (holds bytes left) [
          | inl kept ↦ inl (ap said kept ∙ sym confirmed)
          | inr written ↦ inr (writing ∙ ap (λ (b : Block (List ℕ)). Some b) (sym (ap said (some_is _ _ written))))
        ];
        sound = sound;
      }

  module _ (can : CanWrite s.host (says_for s p f) w) where
    -- while a call is due
    pub due_stands : (new : DiskState) (image' : IsImage cluster_version slots new) (call : WriteCall) (cell : Cell (List ℕ)) → IsPlaced w new → IsDue call w new → cell.confirmed ≡ said (old_value w) → cell.writing ≡ Some (said (new_value w)) → Stands new s.slot s.host cell
    due_stands new image' call cell place due confirmed writing =
        stands_writing new cell (due_reads call w new place due) (sound_while_due s.host w (says_for s p f) new place can.is_write call due) confirmed writing

    -- a call that fails
    pub failed_stands : (new : DiskState) (call : WriteCall) (boot : ℕ) (cell : Cell (List ℕ)) → IsDue call w disk → Step disk (call_of call w boot) (Fault Failed) new → cell.confirmed ≡ said (old_value w) → cell.writing ≡ Some (said (new_value w)) → Stands new s.slot s.host cell
    failed_stands new call boot cell due step confirmed writing =
        stands_writing new cell (failure_reads w disk (placed can) call boot new due step.2) (sound_when_failed s.host w (says_for s p f) disk (placed can) can.is_write call boot new due step.2) confirmed writing

  -- WHERE IT BEGINS

  module _ (old : Cell (List ℕ)) (stands : Stands disk s.slot s.host old) (settled : KnowsFor (Putting p CloseGate) disk s f d old) where
    now : seen_in cluster_version (block_in cluster_version (own_place s) disk.bytes) ≡ seen_block (last_row (f d)) s.host
    now = settled disk.bytes (may_leave_now disk)

    same_bytes : block_in cluster_version (own_place s) disk.bytes ≡ w.block
    same_bytes = ap (λ (b : DecodedBlock). b.bytes) now

    -- over the block as it was read it may write
    pub can_begin : MaySay cluster_version s.host (says_for s p f) → length (body_saying cluster_version (says_for s p f)) ≡ BODY_LENGTH → nat_le LAST_SEQUENCE (seen_block (last_row (f d)) s.host).sequence ≡ false → CanWrite s.host (says_for s p f) w
    can_begin may full unspent =
        record {
          is_write = record {
            sound = subst (IsSoundBlock cluster_version (IsSound cluster_version s.host)) same_bytes (stands.sound disk.bytes (may_leave_now disk));
            may_say = may;
            body = refl;
            number = number_fits (value_of cluster_version w.block) (seen_block (last_row (f d)) s.host).sequence (ap (λ (b : List ℕ). sequence_or_zero (value_of cluster_version b)) (sym same_bytes) ∙ ap (λ (b : DecodedBlock). b.sequence) now) unspent;
          };
          long = ap length (sym same_bytes) ∙ length-block_in cluster_version (own_place s) disk.bytes lies;
          full = full;
        }

    pub begins_due : CanWrite s.host (says_for s p f) w → IsDue CloseGate w disk
    begins_due can = settled_begins w disk (placed can) (λ bytes left. ap (λ (b : DecodedBlock). b.bytes) (settled bytes left))

    -- the old value is the confirmed one
    pub old_is : old.writing ≡ None → old.confirmed ≡ said (old_value w)
    old_is rests = confirmed_is disk s.slot s.host old stands rests ∙ ap (λ (b : List ℕ). said (value_of cluster_version b)) same_bytes
