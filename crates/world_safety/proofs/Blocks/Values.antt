-- What a call of a write makes of its block: it says what it said before, or the new value, now and after a crash now.
use Rattle.std.proofs.Common.{ℕ, ◌≡◌, ◌⊎◌, inl, inr, Some, List, refl, sym, subst, ap, ◌∙◌}
use Rattle.disk.specs.declared.fault.DiskFault.TheVariants.{Reset, Failed, Gone}
use Rattle.disk.specs.Crash.{MayLeave}
use Rattle.disk.specs.Disk.{DiskState, Call, Sync, Answer, Booted, Told, Done, Fault, Step}
use Rattle.disk.proofs.CrashLemmas.{may_leave_now}
use Rattle.disk.proofs.StepLemmas.{step_keeps}
use Rattle.torn_block.specs.Layout.{cluster_version}
use Rattle.torn_block.specs.declared.write_steps.WriteCall.{WriteCall}
use Rattle.torn_block.specs.declared.write_steps.WriteCall.TheVariants.{CloseGate, SyncClosed, PutBody, SyncBody, OpenGate, SyncOpened}
use Rattle.torn_block.specs.Block.{value_of}
use Rattle.torn_block.specs.Place.{block_in}
use Rattle.torn_block.specs.Register.{Value, StandsFor}
use Rattle.torn_block.specs.Stage.{Write128, call_of, next_call, old_value, new_value, in_writing, IsDue, IsPlaced, Stands as Next}
use Rattle.torn_block.proofs.StageLaws.{reads_closed, reads_same, due_reads, failure_reads, done_leads_on}
use Rattle.paxos_block.specs.Saying.{Said as PBlock}
use Rattle.paxos_block.specs.Row.{says_of}
use Rattle.paxos_block.proofs.Outcomes.{Outcomes, same_outcomes, calm_outcomes}
use Rattle.attempt.specs.Looking.{LeavesBytes}
use Rattle.world_safety.specs.Marks.{AllSay}
use Rattle.world_safety.proofs.Blocks.Owning.{done_is}

-- whatever a crash may make of the block on the new disk, its value is one that it may have on the old one, or the new one, and then the
-- block reads as the old one on the old disk
abbrev pub Adds : (old value : Value) → ℕ → DiskState → DiskState → Type 0
Adds old value place disk new =
    (bytes : List ℕ) → MayLeave new bytes
    → ((before : List ℕ) × MayLeave disk before × (value_of cluster_version (block_in cluster_version place bytes) ≡ value_of cluster_version (block_in cluster_version place before)))
    ⊎ ((value_of cluster_version (block_in cluster_version place bytes) ≡ value) × (value_of cluster_version (block_in cluster_version place disk.bytes) ≡ old))

-- where there are no other outcomes, no value is added
pub adds_none : (old value : Value) (place : ℕ) (disk new : DiskState) → Outcomes cluster_version disk place new → Adds old value place disk new
adds_none old value place disk new o bytes left = let b = o bytes left in inl (b.0, b.1, ap (value_of cluster_version) b.2)

pub all_say_by : (P : PBlock → Type 0) (place : ℕ) (disk new : DiskState) → Outcomes cluster_version disk place new → AllSay P place disk → AllSay P place new
all_say_by P place disk new o all bytes left = let b = o bytes left in subst (λ (block : List ℕ). P (says_of cluster_version (value_of cluster_version block))) (sym b.2) (all b.0 b.1)

pub all_say_added : (P : PBlock → Type 0) (old value : Value) (place : ℕ) (disk new : DiskState) → Adds old value place disk new → (P (says_of cluster_version old) → P (says_of cluster_version value)) → AllSay P place disk → AllSay P place new
all_say_added P old value place disk new adds added all bytes left = elim (adds bytes left) [
  | inl b ↦ subst (λ (v : Value). P (says_of cluster_version v)) (sym b.2) (all b.0 b.1)
  | inr is ↦ subst (λ (v : Value). P (says_of cluster_version v)) (sym is.0) (added (subst (λ (v : Value). P (says_of cluster_version v)) is.1 (all disk.bytes (may_leave_now disk))))
]

-- what only reads leaves the bytes
pub bytes_left : (old new : DiskState) (call : Call) (answer : Answer) → LeavesBytes call → Step old call answer new → new.bytes ≡ old.bytes
bytes_left old new call answer reads step =
    step_keeps (λ (d : DiskState). d.bytes ≡ old.bytes) old new call answer
    (record { writes = λ boot at from left is as_many. absurd (subst LeavesBytes is reads); syncs = refl; stays = refl })
    step

module _ (any : Write128) (disk : DiskState) (placed : IsPlaced (record any { version = cluster_version }) disk) (boot : ℕ) (new : DiskState) (placed_then : IsPlaced (record any { version = cluster_version }) new) where
  abbrev w : Write128
  w = record any { version = cluster_version }

  -- a call of the write leaves the block as it was; or the block reads as its owner read it, and then as that or the new value
  data IsPut : Type 0 where
    Leaves : (bytes : new.bytes ≡ disk.bytes) → (outcomes : Outcomes cluster_version disk w.place new) → IsPut
    Puts : (now : value_of cluster_version (block_in cluster_version w.place disk.bytes) ≡ old_value w) → (reads : StandsFor cluster_version w.place (in_writing w) new) → IsPut

  -- a sync
  syncs : (answer : Answer) → Step disk (Sync boot) answer new → IsPut
  syncs answer step = Leaves (bytes_left disk new (Sync boot) answer tt step) (calm_outcomes cluster_version disk new w.place (Sync boot) answer tt step)

  -- a write
  module _ (call next : WriteCall) (due : IsDue call w disk) (leads : Next (next_call call) w new → IsDue next w new) (now : value_of cluster_version (block_in cluster_version w.place disk.bytes) ≡ old_value w) where
    writes : (answer : Answer) → Step disk (call_of call w boot) answer new → IsPut
    writes Done step = Puts now (due_reads next w new placed_then (leads (done_leads_on w disk placed call boot new due step)))
    writes (Booted number) step = absurd (let one = step.2.0 in let two = done_is call w boot disk in cc)
    writes (Told bytes) step = absurd (let one = step.2.0 in let two = done_is call w boot disk in cc)
    writes (Fault Reset) step = Leaves (ap (λ (d : DiskState). d.bytes) step.2) (same_outcomes cluster_version disk new w.place step.2)
    writes (Fault Gone) step = Leaves (ap (λ (d : DiskState). d.bytes) step.1) (same_outcomes cluster_version disk new w.place step.1)
    writes (Fault Failed) step = Puts now (failure_reads w disk placed call boot new due step.2)

  put_is : (call : WriteCall) (answer : Answer) → IsDue call w disk → Step disk (call_of call w boot) answer new → IsPut
  put_is CloseGate answer due step = writes CloseGate SyncClosed due (λ l. l) (reads_same w disk.bytes due.now) answer step
  put_is SyncClosed answer due step = syncs answer step
  put_is PutBody answer due step = writes PutBody SyncBody due (λ l. l) (reads_closed w disk.bytes due.now) answer step
  put_is SyncBody answer due step = syncs answer step
  put_is OpenGate answer due step = writes OpenGate SyncOpened due (λ l. l) (reads_closed w disk.bytes (record { kept = due.now.kept; target = due.now.target.0 })) answer step
  put_is SyncOpened answer due step = syncs answer step

  some_is : (value other : Value) → Some value ≡ Some other → value ≡ other
  some_is value other is = cc

  -- so no crash then makes more of it than the new value
  adds_by : IsPut → Adds (old_value w) (new_value w) w.place disk new
  adds_by (Leaves bytes outcomes) = adds_none (old_value w) (new_value w) w.place disk new outcomes
  adds_by (Puts now reads) = λ bytes left. elim (reads bytes left) [
    | inl kept ↦ inl (disk.bytes, may_leave_now disk, kept ∙ sym now)
    | inr written ↦ inr (some_is (value_of cluster_version (block_in cluster_version w.place bytes)) (new_value w) written, now)
  ]

  pub put_adds : (call : WriteCall) (answer : Answer) → IsDue call w disk → Step disk (call_of call w boot) answer new → Adds (old_value w) (new_value w) w.place disk new
  put_adds call answer due step = adds_by (put_is call answer due step)

  -- and it reads as before, or as the new value where it read as its owner read it
  abbrev pub ReadsOn : Type 0
  ReadsOn = (value_of cluster_version (block_in cluster_version w.place new.bytes) ≡ value_of cluster_version (block_in cluster_version w.place disk.bytes)) ⊎ ((value_of cluster_version (block_in cluster_version w.place new.bytes) ≡ new_value w) × (value_of cluster_version (block_in cluster_version w.place disk.bytes) ≡ old_value w))

  reads_by : IsPut → ReadsOn
  reads_by (Leaves bytes outcomes) = inl (ap (λ (l : List ℕ). value_of cluster_version (block_in cluster_version w.place l)) bytes)
  reads_by (Puts now reads) = elim (reads new.bytes (may_leave_now new)) [
    | inl kept ↦ inl (kept ∙ sym now)
    | inr written ↦ inr (some_is (value_of cluster_version (block_in cluster_version w.place new.bytes)) (new_value w) written, now)
  ]

  pub put_reads : (call : WriteCall) (answer : Answer) → IsDue call w disk → Step disk (call_of call w boot) answer new → ReadsOn
  put_reads call answer due step = reads_by (put_is call answer due step)
