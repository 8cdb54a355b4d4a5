-- What holds in every outcome of a crash now, through the steps of a disk.
use Rattle.std.specs.Prelude.{slice_index}
use Rattle.std.proofs.Common.{ℕ, ◌+◌, ◌≤◌, ◌≡◌, ◌≢◌, ◌==◌, ◌⊎◌, inl, inr, Bool, true, false, cond, List, length, drop, refl, sym, subst, ◌∙◌, arith, length-drop}
use Rattle.std.proofs.lemmas.List.{ext_get_or, get_or-drop}
use Rattle.std.proofs.lemmas.Bool.{eqb-true, eqb-false}
use Rattle.disk.specs.declared.fault.DiskFault.{DiskFault}
use Rattle.disk.specs.Disk.{DiskState, Call, Attach, Read, Write, Sync, Answer, Booted, Told, Done, Fault, IsUnder, Step, Crashes, Torn, written, synced, lost, success_of, done_by}
use Rattle.disk.specs.Crash.{MayLeave, IsWhole, ChangesOnly}
use Rattle.disk.proofs.CrashLemmas.{may_leave_now, may_leave_synced, may_leave_crashed, may_leave_written}
use Rattle.disk.proofs.StepLemmas.{step_keeps}
use Rattle.migration.specs.Run.{with_disk}

abbrev pub AllOutcomes : (List ℕ → Type 0) → DiskState → Type 0
AllOutcomes P disk = (bytes : List ℕ) → MayLeave disk bytes → P bytes

-- a change of this range keeps P
abbrev pub Bears : (List ℕ → Type 0) → ℕ → ℕ → Type 0
Bears P at n = (old new : List ℕ) → ChangesOnly at n old new → P old → P new

module _ (P : List ℕ → Type 0) (disk : DiskState) (all : AllOutcomes P disk) where
  pub out_written : (at : ℕ) (from : List ℕ) → IsWhole disk → at + length from ≤ length disk.bytes → Bears P at (length from) → AllOutcomes P (written disk at from)
  out_written at from whole within bears bytes may = let x = may_leave_written disk at from bytes whole within may in bears x.0 bytes x.2 (all x.0 x.1)

  pub out_synced : AllOutcomes P (synced disk)
  out_synced bytes may = subst P (sym (may_leave_synced disk bytes may)) (all disk.bytes (may_leave_now disk))

  pub out_crashed : (new : DiskState) → Crashes disk new → AllOutcomes P new
  out_crashed new crash bytes may = subst P (sym (may_leave_crashed disk new bytes crash may)) (all new.bytes crash.bytes)

  pub out_lost : AllOutcomes P (lost disk)
  out_lost bytes may = all bytes may

  -- the call writes where P bears it, and on the disk
  abbrev pub BearsCall : Call → Type 0
  BearsCall Attach = Unit {0}
  BearsCall (Read boot at len) = Unit {0}
  BearsCall (Write boot at from) = (at + length from ≤ length disk.bytes) × Bears P at (length from)
  BearsCall (Sync boot) = Unit {0}

  out_left : (call : Call) → IsWhole disk → BearsCall call → (boot at : ℕ) (from left : List ℕ) → call ≡ Write boot at from → length left ≡ length from → AllOutcomes P (written disk at left)
  out_left call whole bears boot at from left is as_many =
      let b = subst BearsCall is bears in
      out_written at left whole (omega (arith, as_many, b.0)) (subst (Bears P at) (sym as_many) b.1)

  pub out_step : (call : Call) (answer : Answer) (new : DiskState) → IsWhole disk → BearsCall call → Step disk call answer new → AllOutcomes P new
  out_step call answer new whole bears step =
      step_keeps (AllOutcomes P) disk new call answer (record { writes = out_left call whole bears; syncs = out_synced; stays = all }) step

  pub out_torn : (boot at : ℕ) (from : List ℕ) (new : DiskState) → IsWhole disk → BearsCall (Write boot at from) → Torn at (length from) disk new → AllOutcomes P new
  out_torn boot at from new whole bears torn = subst (AllOutcomes P) (sym torn.leaves) (out_left (Write boot at from) whole bears boot at from torn.left refl torn.as_many)

-- A GATE IS CLOSED, OR THE REST STANDS

abbrev pub IsClosed : List ℕ → Type 0
IsClosed bytes = slice_index bytes 0 ≡ 0

pub closed_bears : (at n : ℕ) → 1 ≤ at → Bears IsClosed at n
closed_bears at n behind old new changes closed = changes.below 0 (omega arith) ∙ closed

abbrev pub HasTail : List ℕ → List ℕ → Type 0
HasTail tail bytes = drop 1 bytes ≡ tail

pub tail_bears : (tail : List ℕ) → Bears (HasTail tail) 0 1
tail_bears tail old new changes is =
    (let same : length (drop 1 new) ≡ length (drop 1 old) = length-drop 1 new ∙ sym (length-drop 1 old ∙ (let n = changes.as_many in omega (arith, n))) in
    ext_get_or 0 (drop 1 new) (drop 1 old) same (λ k within. get_or-drop 1 new k 0 ∙ changes.above (1 + k) (omega arith) ∙ sym (get_or-drop 1 old k 0)))
    ∙ is

-- WHAT A CALL IS ANSWERED

pub record IsGood (old : DiskState) (call : Call) (answer : Answer) (new : DiskState) : Type 0 where
  pub under : IsUnder call old.boot
  pub answer_is : answer ≡ success_of old call
  pub new_is : new ≡ done_by old call

abbrev pub IsFault : Answer → Type 0
IsFault answer = (fault : DiskFault) × (answer ≡ Fault fault)

pub good_or_bad : (old : DiskState) (call : Call) (answer : Answer) (new : DiskState) → Step old call answer new → IsFault answer ⊎ IsGood old call answer new
good_or_bad old call (Fault fault) new step = inl (fault, refl)
good_or_bad old call (Booted boot) new step = inr (record { under = step.1; answer_is = step.2.0; new_is = step.2.1 })
good_or_bad old call (Told bytes) new step = inr (record { under = step.1; answer_is = step.2.0; new_is = step.2.1 })
good_or_bad old call Done new step = inr (record { under = step.1; answer_is = step.2.0; new_is = step.2.1 })

-- ALL DISKS

pub all_with : (P : ℕ → DiskState → Type 0) (disks : ℕ → DiskState) (d : ℕ) (new : DiskState) → P d new → ((e : ℕ) → e ≢ d → P e (disks e)) → (e : ℕ) → P e (with_disk disks d new e)
all_with P disks d new here there e = go (e == d) refl
  where
    go : (b : Bool) → (e == d) ≡ b → P e (cond b new (disks e))
    go true is = subst (λ j. P j new) (sym (eqb-true e d is)) here
    go false is = there e (eqb-false e d is)
