-- A complete image of a migration holds its log, as the world has it.
use Rattle.std.specs.Prelude.{map, take, replicate, ◌-◌}
use Rattle.std.proofs.Common.{ℕ, ◌*◌, ◌≡◌, Bool, false, List, ◌++◌, length, length-append, append_assoc, sym, ap, ◌∙◌, arith}
use Rattle.std.proofs.Math.Seq.{take-length}
use Rattle.std.proofs.lemmas.List.{drop_at}
use Rattle.disk.specs.Disk.{DiskState, put_at}
use Rattle.disk.specs.Simulated.{fresh_disk}
use Rattle.torn_block.specs.Layout.{cluster_version}
use Rattle.torn_block.specs.declared.layout.TheConstants.{HEADER_LENGTH, ROW_LENGTH}
use Rattle.paxos_block.specs.Headers.{header_saying}
use Rattle.paxos_block.specs.Places.{row_place, image_length}
use Rattle.paxos_block.specs.Saying.{zeros}
use Rattle.paxos_block.proofs.SayingLemmas.{zeros_joined, length-zeros}
use Rattle.migration.specs.Fits.{Fits}
use Rattle.paxos_block.specs.Image.{Setup, header_of, rows_for, image_of}
use Rattle.migration.specs.Run.{IsMigrated}
use Rattle.migration.proofs.Lengths.{length-header}
use Rattle.migration.proofs.Reading.{length-image, length-rows}
use Rattle.migration.proofs.Rows.{with_rows, part_by_part}
use Rattle.lock_command.specs.declared.command.Command.{Command}
use Rattle.lock_command.specs.Command.{spelling}
use Rattle.world.specs.Entry.{migrated_to}
use Rattle.at_once.specs.Images.{headed, HoldsLog, MigratedHoldsLog}
use Rattle.at_once.proofs.Headless.{take_same, same_headed}

module _ (s : Setup) (d : ℕ) (commands : List Command) (disk : DiskState) (fits : Fits s) (log : s.log ≡ map spelling commands) (is : IsMigrated s d disk) (boot : disk.boot ≡ 1) (there : disk.gone ≡ false) where
  abbrev n : ℕ
  n = image_length cluster_version s.slots

  abbrev behind : List ℕ
  behind = rows_for s.log ++ zeros (ROW_LENGTH * (s.slots - length s.log))

  long : length (image_of s d) ≡ n
  long = length-image s d fits

  -- its header counts as zeros
  bytes_so : headed HEADER_LENGTH 0 (take n (image_of s d)) ≡ with_rows s.slots s.log fits.room.log fits.values
  unfolding headed zeros
  bytes_so =
      let gap = row_place cluster_version 0 - HEADER_LENGTH in
      ap (λ (k : ℕ). headed HEADER_LENGTH 0 (take k (image_of s d))) (sym long)
      ∙ ap (headed HEADER_LENGTH 0) (take-length (image_of s d))
      ∙ ap (λ (l : List ℕ). zeros HEADER_LENGTH ++ l) (drop_at (header_saying cluster_version (header_of s d)) (zeros gap ++ behind) HEADER_LENGTH (length-header (header_of s d)))
      ∙ sym (append_assoc (zeros HEADER_LENGTH) (zeros gap) behind)
      ∙ ap (λ (l : List ℕ). l ++ behind) (sym (zeros_joined HEADER_LENGTH gap))
      ∙ sym (part_by_part s.slots s.log fits.room.log fits.values)

  rows_so : with_rows s.slots s.log fits.room.log fits.values ≡ (migrated_to (fresh_disk n) commands).bytes
  unfolding fresh_disk zeros
  rows_so = ap (λ (l : List (List ℕ)). put_at (zeros n) (row_place cluster_version 0) (rows_for l)) log

  long_rows : length (migrated_to (fresh_disk n) commands).bytes ≡ n
  long_rows =
      ap length (sym rows_so ∙ part_by_part s.slots s.log fits.room.log fits.values)
      ∙ omega (arith, length-append (zeros (row_place cluster_version 0)) behind, length-append (rows_for s.log) (zeros (ROW_LENGTH * (s.slots - length s.log))), length-zeros (row_place cluster_version 0), length-zeros (ROW_LENGTH * (s.slots - length s.log)), length-rows s.log fits.values, fits.room.log)

  flags_so : headed HEADER_LENGTH false (take n disk.unsynced) ≡ (migrated_to (fresh_disk n) commands).unsynced
  flags_so =
      let size : length (image_of s d) ≡ length (migrated_to (fresh_disk n) commands).bytes = long ∙ sym long_rows in
      ap (λ (l : List Bool). headed HEADER_LENGTH false (take n l)) (is.synced ∙ ap (λ (k : ℕ). replicate k false) (ap length is.bytes ∙ long))
      ∙ ap (headed HEADER_LENGTH false) (take_same false n n (omega arith))
      ∙ same_headed false HEADER_LENGTH n (omega arith)
      ∙ ap (λ (k : ℕ). replicate k false) (sym long ∙ size)

  holds_log : HoldsLog s.slots commands disk
  unfolding fresh_disk
  holds_log = λ i. record {
    bytes = (ap (λ (l : List ℕ). headed HEADER_LENGTH 0 (take n l)) is.bytes ∙ bytes_so ∙ rows_so) i;
    unsynced = flags_so i;
    boot = boot i;
    gone = there i;
  }

pub migrated_holds_log : MigratedHoldsLog
migrated_holds_log s d commands disk fits log is boot there = holds_log s d commands disk fits log is boot there
