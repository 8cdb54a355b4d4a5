-- A migration over disks that may fail, crash and be lost: what may happen, and what is claimed of the disks then.
use Rattle.std.specs.Prelude.{◌≡◌, ◌⊎◌, ◌<◌, ◌==◌, ℕ, false, List, [], ◌∷◌, drop, Some, length, replicate, if◌then◌else◌}
use Rattle.disk.specs.Disk.{DiskState, Call, Attach, Read, Write, Sync, Answer, Step, Torn, Crashes, lost}
use Rattle.disk.specs.Simulated.{fresh_disk}
use Rattle.torn_block.specs.Layout.{cluster_version}
use Rattle.paxos_block.specs.Headers.{IsFormatted}
use Rattle.paxos_block.specs.Places.{image_length}
use Rattle.migration.specs.Heard.{Progress, at_first, given_up, hears, next}
use Rattle.paxos_block.specs.Image.{Setup, image_of}

-- the disks, and how far the migration has come
pub record Migration : Type 0 where
  pub disk : ℕ → DiskState
  pub progress : Progress

-- it begins on images of zeros
abbrev pub begun : Setup → Migration
begun s = record { disk = λ d. fresh_disk (image_length cluster_version s.slots); progress = at_first s }

-- WHAT MAY HAPPEN

pub data Entry : Type 0 where
  -- the call that is due is made, gets this answer, and leaves its disk so
  Called : (disk : ℕ) → (call : Call) → (answer : Answer) → (new : DiskState) → Entry
  -- the program stops within the call that is due, a write
  Stopped : (disk : ℕ) → (call : Call) → (new : DiskState) → Entry
  Crashed : (disk : ℕ) → (new : DiskState) → Entry
  Lost : (disk : ℕ) → Entry

-- the call is a write that its disk does not refuse, and it is torn
abbrev pub Tears : Call → DiskState → DiskState → Type 0
Tears Attach old new = ⊥
Tears (Read boot at len) old new = ⊥
Tears (Write boot at from) old new = (old.gone ≡ false) × (boot ≡ old.boot) × Torn at (length from) old new
Tears (Sync boot) old new = ⊥

abbrev pub MayHappen : Migration → Entry → Type 0
MayHappen w (Called d call answer new) = (next w.progress ≡ Some (d, call)) × Step (w.disk d) call answer new
MayHappen w (Stopped d call new) = (next w.progress ≡ Some (d, call)) × Tears call (w.disk d) new
MayHappen w (Crashed d new) = Crashes (w.disk d) new
MayHappen w (Lost d) = Unit {0}

abbrev pub with_disk : (ℕ → DiskState) → ℕ → DiskState → ℕ → DiskState
with_disk disks d new e = if e == d then new else disks e

abbrev pub after : Migration → Entry → Migration
after w (Called d call answer new) = record { disk = with_disk w.disk d new; progress = hears w.progress answer }
after w (Stopped d call new) = record { disk = with_disk w.disk d new; progress = given_up w.progress }
after w (Crashed d new) = record { disk = with_disk w.disk d new; progress = w.progress }
after w (Lost d) = record { disk = with_disk w.disk d (lost (w.disk d)); progress = w.progress }

abbrev pub all_after : Migration → List Entry → Migration
all_after w [] = w
all_after w (e ∷ es) = all_after (after w e) es

abbrev pub AllMayHappen : Migration → List Entry → Type 0
AllMayHappen w [] = Unit {0}
AllMayHappen w (e ∷ es) = MayHappen w e × AllMayHappen (after w e) es

-- WHAT IS CLAIMED

-- no header's gate stands open
abbrev pub NoneOpen : Setup → (ℕ → DiskState) → Type 0
NoneOpen s disk = (d : ℕ) → d < s.disks → IsFormatted (disk d).bytes → ⊥

-- all bytes of every disk are those of its complete image, but perhaps the gate
abbrev pub AllFilled : Setup → (ℕ → DiskState) → Type 0
AllFilled s disk = (d : ℕ) → d < s.disks → drop 1 (disk d).bytes ≡ drop 1 (image_of s d)

-- either no header's gate stands open, or every disk holds its complete image
abbrev pub IsAllOrNothing : Setup → (ℕ → DiskState) → Type 0
IsAllOrNothing s disk = NoneOpen s disk ⊎ AllFilled s disk

-- a disk is its complete image, and synced
pub record IsMigrated (s : Setup) (d : ℕ) (disk : DiskState) : Type 0 where
  pub bytes : disk.bytes ≡ image_of s d
  pub synced : disk.unsynced ≡ replicate (length disk.bytes) false

-- no call is left, none has failed, and every disk is its complete image
pub record HasEnded (s : Setup) (w : Migration) : Type 0 where
  pub rest : w.progress.rest ≡ []
  pub good : w.progress.failed ≡ false
  pub disks : (d : ℕ) → d < s.disks → IsMigrated s d (w.disk d)
