-- The old image stays at the front of a disk behind which something is written.
use Rattle.std.specs.Prelude.{◌≡◌, ◌+◌, ◌≤◌, ◌<◌, ℕ, true, false, List, length, take, replicate}
use Rattle.std.proofs.Common.{sym, ◌∙◌, ap, subst, arith}
use Rattle.std.proofs.lemmas.List.{ext_get_or, get_or-take, length-take-le, length-replicate}
use Rattle.disk.specs.Disk.{DiskState, Call, Write, Answer, Step, written, synced}
use Rattle.disk.specs.Crash.{ChangesOnly}
use Rattle.disk.proofs.CrashLemmas.{length-put, may_leave_now, may_leave_synced, may_leave_written}
use Rattle.disk.proofs.StepLemmas.{Keeps, step_keeps}
use Rattle.endless_image.specs.InPlace.{BeginsSurely, IsBehind}

-- bytes that change only from there on begin alike
same_front : (n at m : ℕ) (old new : List ℕ) → n ≤ at → n ≤ length old → ChangesOnly at m old new → take n new ≡ take n old
same_front n at m old new behind room only =
    let many_new : length (take n new) ≡ n = length-take-le n new (omega (arith, only.as_many, room)) in
    let many_old : length (take n old) ≡ n = length-take-le n old room in
    ext_get_or 0 (take n new) (take n old) (many_new ∙ sym many_old)
    (λ k inside.
    let below : k < n = omega (arith, inside, many_new) in
    get_or-take n new k 0 below ∙ only.below k (omega (arith, below, behind)) ∙ sym (get_or-take n old k 0 below))

module _ (old : List ℕ) where
  begins_synced : (disk : DiskState) → BeginsSurely old disk → BeginsSurely old (synced disk)
  begins_synced disk is =
      record {
        whole = length-replicate (length disk.bytes) false;
        room = is.room;
        same = λ bytes left. ap (take (length old)) (may_leave_synced disk bytes left) ∙ is.same disk.bytes (may_leave_now disk);
      }

  begins_written : (disk : DiskState) (at : ℕ) (left : List ℕ) → BeginsSurely old disk → length old ≤ at → at + length left ≤ length disk.bytes → BeginsSurely old (written disk at left)
  begins_written disk at left is behind within =
      let long = length-put disk.bytes at left within 0 in
      let marks : length (replicate (length left) true) ≡ length left = length-replicate (length left) true in
      record {
        whole = length-put disk.unsynced at (replicate (length left) true) (omega (arith, within, marks, is.whole)) false ∙ is.whole ∙ sym long;
        room = omega (arith, is.room, long);
        same =
            λ bytes may.
            (let before = may_leave_written disk at left bytes is.whole within may in
            same_front (length old) at (length left) before.0 bytes behind (omega (arith, before.1.as_many, is.room)) before.2 ∙ is.same before.0 before.1);
      }

  keeps_begun : (disk : DiskState) → BeginsSurely old disk → (call : Call) → IsBehind old disk call → Keeps (BeginsSurely old) disk call
  keeps_begun disk is call behind =
      record {
        writes =
            λ boot at from left made as_many.
            (let where_is : IsBehind old disk (Write boot at from) = subst (IsBehind old disk) made behind in begins_written disk at left is where_is.0 (omega (arith, where_is.1, as_many)));
        syncs = begins_synced disk is;
        stays = is;
      }

pub begins_still : (old : List ℕ) (start new : DiskState) (call : Call) (answer : Answer) → BeginsSurely old start → IsBehind old start call → Step start call answer new → BeginsSurely old new
begins_still old start new call answer is behind step = step_keeps (BeginsSurely old) start new call answer (keeps_begun old start is call behind) step
