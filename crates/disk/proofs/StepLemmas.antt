-- What every step of a disk keeps.
use Rattle.std.specs.Prelude.{◌≡◌, ◌+◌, ◌≤◌, ℕ, true, false, List, length, replicate}
use Rattle.std.proofs.Common.{refl, sym, ◌∙◌, subst, arith}
use Rattle.std.proofs.lemmas.List.{length-replicate}
use Rattle.disk.specs.declared.fault.DiskFault.TheVariants.{Reset, Failed, Gone}
use Rattle.disk.specs.Disk.{DiskState, Call, Attach, Read, Write, Sync, Answer, Booted, Told, Done, Fault, written, synced, FailureLeaves, Succeeds, Step}
use Rattle.disk.proofs.CrashLemmas.{length-put}
use Rattle.disk.specs.Simulated.{fresh_disk}
use Rattle.disk.specs.Steps.{WritesOn, HasShape}

-- Whatever a write of the call's range and a sync keep, the call keeps, whatever it answers.
pub record Keeps (P : DiskState → Type 0) (disk : DiskState) (call : Call) : Type 0 where
  pub writes : (boot at : ℕ) (from left : List ℕ) → call ≡ Write boot at from → length left ≡ length from → P (written disk at left)
  pub syncs : P (synced disk)
  pub stays : P disk

module _ (P : DiskState → Type 0) (disk new : DiskState) where
  same : P disk → new ≡ disk → P new
  same holds is = subst P (sym is) holds

  succeeded : (call : Call) (answer : Answer) → Keeps P disk call → Succeeds call disk answer new → P new
  succeeded Attach answer keeps step = same keeps.stays step.1
  succeeded (Read boot at len) answer keeps step = same keeps.stays step.1
  succeeded (Write boot at from) answer keeps step = subst P (sym step.1) (keeps.writes boot at from from refl refl)
  succeeded (Sync boot) answer keeps step = subst P (sym step.1) keeps.syncs

  failed : (call : Call) → Keeps P disk call → FailureLeaves call disk new → P new
  failed Attach keeps left = same keeps.stays left
  failed (Read boot at len) keeps left = same keeps.stays left
  failed (Write boot at from) keeps torn = subst P (sym torn.leaves) (keeps.writes boot at from torn.left refl torn.as_many)
  failed (Sync boot) keeps left = same keeps.stays left

  pub step_keeps : (call : Call) (answer : Answer) → Keeps P disk call → Step disk call answer new → P new
  step_keeps call (Booted boot) keeps step = succeeded call (Booted boot) keeps step.2
  step_keeps call (Told bytes) keeps step = succeeded call (Told bytes) keeps step.2
  step_keeps call Done keeps step = succeeded call Done keeps step.2
  step_keeps call (Fault Reset) keeps step = same keeps.stays step.2
  step_keeps call (Fault Failed) keeps step = failed call keeps step.2
  step_keeps call (Fault Gone) keeps step = same keeps.stays step.1

-- THE SHAPE OF A DISK

pub shape_written : (size : ℕ) (disk : DiskState) (at : ℕ) (from : List ℕ) → at + length from ≤ length disk.bytes → HasShape size disk → HasShape size (written disk at from)
shape_written size disk at from fits shape =
    let n : length (replicate (length from) true) ≡ length from = length-replicate (length from) true in
    let flags = length-put disk.unsynced at (replicate (length from) true) (omega (arith, n, shape.0)) false in
    let bytes = length-put disk.bytes at from fits 0 in (
      flags ∙ shape.0 ∙ sym bytes,
      bytes ∙ shape.1,
    )

shape_synced : (size : ℕ) (disk : DiskState) → HasShape size disk → HasShape size (synced disk)
shape_synced size disk shape = (length-replicate (length disk.bytes) false, shape.1)

fits_write : (disk : DiskState) (call : Call) (boot at : ℕ) (from : List ℕ) → WritesOn disk call → call ≡ Write boot at from → at + length from ≤ length disk.bytes
fits_write disk call boot at from fits is = subst (WritesOn disk) is fits

pub shape_keeps : (size : ℕ) (disk new : DiskState) (call : Call) (answer : Answer) → HasShape size disk → WritesOn disk call → Step disk call answer new → HasShape size new
shape_keeps size disk new call answer shape fits step =
    step_keeps (HasShape size) disk new call answer
    (record {
      writes = λ boot at from left is as_many. shape_written size disk at left (omega (arith, as_many, fits_write disk call boot at from fits is)) shape;
      syncs = shape_synced size disk shape;
      stays = shape;
    })
    step

pub shape_fresh : (size : ℕ) → HasShape size (fresh_disk size)
unfolding fresh_disk
shape_fresh size = (length-replicate size false ∙ sym (length-replicate size 0), length-replicate size 0)
