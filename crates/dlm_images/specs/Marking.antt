-- A recovery, and then a marking of each slot that it learned.
use Rattle.std.specs.Prelude.{◌≡◌, ◌≤◌, ◌+◌, ◌*◌, ℕ, zero, suc, Bool, false, length, nat_lt, if◌then◌else◌, Option, Some}
use Rattle.disk.specs.Disk.{Call, Answer}
use Rattle.host.specs.Host.{Recovering}
use Rattle.host.specs.declared.answer.HostAnswer.{HostAnswer}
use Rattle.host.specs.declared.answer.HostAnswer.TheVariants.{Marked}
use Rattle.dlm_images.specs.Operations.{Standing, HasOperated, HasMarked}

-- whether a marking has ended with the host's block marked on some disk
abbrev pub leaves_a_mark : Option HostAnswer → Bool
leaves_a_mark (Some (Marked count)) = nat_lt 0 count
leaves_a_mark other = false

-- Each slot from this one on, so many of them, was marked, one after another.
abbrev pub MarksFrom : {D : Type 0} → (D → Call → Answer → D → Type 0) → (from slots : ℕ) → (old new : Standing D) → Type 0
MarksFrom gives from zero old new = new ≡ old
MarksFrom {D} gives from (suc n) old new = (between : Standing D) × MarksFrom gives from n old between × HasMarked gives (from + n) between new

-- of how many of them the host's block is marked since then
abbrev pub marked_of : {D : Type 0} → (gives : D → Call → Answer → D → Type 0) → (from slots : ℕ) → (old new : Standing D) → MarksFrom gives from slots old new → ℕ
marked_of gives from zero old new marks = 0
marked_of gives from (suc n) old new marks = marked_of gives from n old marks.0 marks.1 + (if leaves_a_mark new.core.said then 1 else 0)

-- how many calls that took
abbrev pub calls_of : {D : Type 0} → (gives : D → Call → Answer → D → Type 0) → (from slots : ℕ) → (old new : Standing D) → MarksFrom gives from slots old new → ℕ
calls_of gives from zero old new marks = 0
calls_of gives from (suc n) old new marks = calls_of gives from n old marks.0 marks.1 + length marks.2.made

-- So many slots were marked from this one on, of so many the host's block is marked, and what was learned stayed. That took at most
-- nine calls a disk and slot.
pub record HasMarkedFrom {D : Type 0} (gives : D → Call → Answer → D → Type 0) (from slots marked : ℕ) (old new : Standing D) : Type 0 where
  pub marks : MarksFrom gives from slots old new
  pub counted : marked ≡ marked_of gives from slots old new marks
  pub kept : new.core.prefix ≡ old.core.prefix
  pub calls : calls_of gives from slots old new marks ≤ 9 * length old.disks * slots

-- The host recovered. Then it marked each slot that it had learned so, and of so many of them its block is marked. That took at most
-- 26 calls a disk for each of these slots, and 17 for each try.
pub record RecoversAndMarks {D : Type 0} (gives : D → Call → Answer → D → Type 0) (tries marked : ℕ) (old new : Standing D) : Type 0 where
  pub recovered : Standing D
  pub recovers : HasOperated gives Recovering tries old recovered
  pub slots : ℕ
  pub learned : length recovered.core.prefix ≡ length old.core.prefix + slots
  pub marks : HasMarkedFrom gives (length old.core.prefix) slots marked recovered new
  pub calls :
      length recovers.made + calls_of gives (length old.core.prefix) slots recovered new marks.marks ≤ length old.disks * (26 * slots + 17 * tries)
