-- What a crash may make of a block, and what leaves that as it was.
use Rattle.std.proofs.Common.{ℕ, ◌≡◌, List, refl, sym, subst, ap, ◌∙◌}
use Rattle.disk.specs.Disk.{DiskState, Call, Attach, Read, Write, Sync, Answer, Step}
use Rattle.disk.specs.Crash.{MayLeave}
use Rattle.disk.proofs.CrashLemmas.{may_leave_now, may_leave_synced}
use Rattle.disk.proofs.StepLemmas.{step_keeps}
use Rattle.torn_block.specs.Place.{block_in}
use Rattle.torn_block.specs.Register.{IsAtRest}
use Rattle.torn_block.specs.Layout.{Version}

-- whatever a crash may make of the block on the new disk, it may on the old one
abbrev pub Outcomes : (v : Version) → DiskState → ℕ → DiskState → Type 0
Outcomes v old place new =
    (bytes : List ℕ) → MayLeave new bytes → (before : List ℕ) × MayLeave old before × (block_in v place bytes ≡ block_in v place before)

-- so it is of a disk itself
pub same_outcomes : (v : Version) → (disk new : DiskState) (place : ℕ) → new ≡ disk → Outcomes v disk place new
same_outcomes v disk new place is = subst (Outcomes v disk place) (sym is) (λ bytes may. (bytes, may, refl))

-- the call writes nothing
abbrev pub IsCalm : Call → Type 0
IsCalm Attach = Unit {0}
IsCalm (Read boot at len) = Unit {0}
IsCalm (Write boot at from) = ⊥
IsCalm (Sync boot) = Unit {0}

-- a calm call is no write
no_write : (call : Call) (boot at : ℕ) (from : List ℕ) → IsCalm call → call ≡ Write boot at from → ⊥
no_write call boot at from calm is = subst IsCalm is calm

-- and leaves no other outcome
pub calm_outcomes : (v : Version) → (disk new : DiskState) (place : ℕ) (call : Call) (answer : Answer) → IsCalm call → Step disk call answer new → Outcomes v disk place new
calm_outcomes v disk new place call answer calm step =
    step_keeps (Outcomes v disk place) disk new call answer
    (record {
      writes = λ boot at from left is as_many. absurd (no_write call boot at from calm is);
      syncs = λ bytes may. (disk.bytes, may_leave_now disk, ap (block_in v place) (may_leave_synced disk bytes may));
      stays = λ bytes may. (bytes, may, refl);
    })
    step

-- what is at rest stays so
pub rests_by : (v : Version) → (disk new : DiskState) (place : ℕ) → Outcomes v disk place new → IsAtRest v place disk → IsAtRest v place new
rests_by v disk new place o rests bytes may =
    let then = o bytes may in
    let now = o new.bytes (may_leave_now new) in
    then.2 ∙ rests then.0 then.1 ∙ sym (rests now.0 now.1) ∙ sym now.2
