-- What an attempt's call makes of its own block: beside what it said before it may say what the attempt writes, and nothing else.
use Rattle.world_safety.specs.Cluster.{at_cluster}
use Rattle.std.proofs.Common.{ℕ, ◌≡◌, List, refl, sym, subst}
use Rattle.disk.specs.declared.fault.DiskFault.TheVariants.{Reset, Failed, Gone}
use Rattle.disk.specs.Disk.{DiskState, Attach, Sync, Answer, Booted, Told, Done, Fault, IsUnder, Step}
use Rattle.torn_block.specs.Layout.{cluster_version}
use Rattle.torn_block.specs.declared.write_steps.WriteCall.{WriteCall}
use Rattle.torn_block.specs.declared.write_steps.WriteCall.TheVariants.{CloseGate, SyncClosed, PutBody, SyncBody, OpenGate, SyncOpened}
use Rattle.torn_block.specs.Stage.{Write128, call_of, old_value, new_value, IsDue}
use Rattle.paxos_block.specs.Saying.{Said as PBlock}
use Rattle.paxos_block.proofs.Outcomes.{calm_outcomes, same_outcomes}
use Rattle.paxos_block.proofs.SayingLemmas.{claims_back}
use Rattle.attempt.specs.Calls.{Phase, Kind, Attaching, Syncing, Reading, Putting}
use Rattle.attempt.specs.Answers.{Answers, boot_of}
use Rattle.attempt.specs.Setup.{Setup}
use Rattle.attempt.specs.NextCall.{says_for, write_on, call_by}
use Rattle.agreement.specs.State.{Cell}
use Rattle.attempt_safety.specs.Registers.{IsNext}
use Rattle.world_safety.specs.Knows.{own_place, CanWrite, IsCurrent}
use Rattle.world_safety.specs.Marks.{AllSay}
use Rattle.world_safety.proofs.Blocks.Owned.{IsOwnCall}
use Rattle.world_safety.proofs.Blocks.Owning.{done_is, under_is, placed, can_begin, begins_due}
use Rattle.world_safety.proofs.Blocks.Putting.{CanBegin}
use Rattle.world_safety.proofs.Blocks.Values.{all_say_by, all_say_added, put_adds}

module _ (slots : ℕ) (any : Setup) (p : Phase) (d : ℕ) (f : Answers) (disk new : DiskState) (answer : Answer) (old cell : Cell (List ℕ)) (own : IsOwnCall slots (at_cluster any) p d f disk new old) where
  abbrev s : Setup
  s = at_cluster any

  open own use {image, image_then, slot_below, host_below, good, stands, knows}

  abbrev w : Write128
  w = write_on s p d f

  abbrev boot : ℕ
  boot = boot_of (f d)

  abbrev Ready : Type 0
  Ready = IsNext (f d) (Putting p CloseGate) → CanBegin slots s p d f disk new answer old cell own

  -- the call is due
  record DueNow (call : WriteCall) : Type 0 where
    pub due : IsDue call w disk
    pub can : CanWrite s.host (says_for s p f) w

  current : (call : WriteCall) → IsUnder (call_of call w boot) disk.boot → IsCurrent disk (f d)
  current call is = record { good = good; boot = under_is call w boot disk.boot is }

  due_first : Ready → IsNext (f d) (Putting p CloseGate) → IsUnder (call_of CloseGate w boot) disk.boot → DueNow CloseGate
  due_first ready is under =
      let begin = ready is in
      let settled = knows.next (current CloseGate under) (Putting p CloseGate) is in
      let can = can_begin slots s p d f disk image slot_below host_below old stands settled begin.may begin.full begin.unspent in
      record { due = begins_due slots s p d f disk image slot_below host_below old stands settled can; can = can }

  due_now : (call : WriteCall) → Ready → IsNext (f d) (Putting p call) → IsUnder (call_of call w boot) disk.boot → DueNow call
  due_now CloseGate ready is under = due_first ready is under
  due_now SyncClosed ready is under = let now = knows.next (current SyncClosed under) (Putting p SyncClosed) is in record { due = now.due; can = now.can }
  due_now PutBody ready is under = let now = knows.next (current PutBody under) (Putting p PutBody) is in record { due = now.due; can = now.can }
  due_now SyncBody ready is under = let now = knows.next (current SyncBody under) (Putting p SyncBody) is in record { due = now.due; can = now.can }
  due_now OpenGate ready is under = let now = knows.next (current OpenGate under) (Putting p OpenGate) is in record { due = now.due; can = now.can }
  due_now SyncOpened ready is under = let now = knows.next (current SyncOpened under) (Putting p SyncOpened) is in record { due = now.due; can = now.can }

  module _ (P : PBlock → Type 0) (written : P (says_for s p f)) (before : AllSay P (own_place s) disk) where
    -- a call that was carried out, or failed
    put_says : (call : WriteCall) (a : Answer) → DueNow call → Step disk (call_of call w boot) a new → AllSay P (own_place s) new
    put_says call a now step =
        all_say_added P (old_value w) (new_value w) (own_place s) disk new
        (put_adds w disk (placed slots s p d f disk image slot_below host_below now.can) boot new (placed slots s p d f new image_then slot_below host_below now.can) call a now.due step)
        (λ was. subst P (sym (claims_back cluster_version (says_for s p f) s.host now.can.is_write.may_say)) written)
        before

    write_says : (call : WriteCall) → Ready → IsNext (f d) (Putting p call) → (a : Answer) → Step disk (call_of call w boot) a new → AllSay P (own_place s) new
    write_says call ready is (Booted number) step = absurd (let one = step.2.0 in let two = done_is call w boot disk in cc)
    write_says call ready is (Told bytes) step = absurd (let one = step.2.0 in let two = done_is call w boot disk in cc)
    write_says call ready is Done step = put_says call Done (due_now call ready is step.1) step
    write_says call ready is (Fault Reset) step = all_say_by P (own_place s) disk new (same_outcomes cluster_version disk new (own_place s) step.2) before
    write_says call ready is (Fault Gone) step = all_say_by P (own_place s) disk new (same_outcomes cluster_version disk new (own_place s) step.1) before
    write_says call ready is (Fault Failed) step = put_says call (Fault Failed) (due_now call ready is step.1) step

    pub own_says : (kind : Kind) → ((q : Phase) (call : WriteCall) → kind ≡ Putting q call → q ≡ p) → Ready → IsNext (f d) kind → Step disk (call_by s d f kind) answer new → AllSay P (own_place s) new
    own_says Attaching phase ready is step = all_say_by P (own_place s) disk new (calm_outcomes cluster_version disk new (own_place s) Attach answer tt step) before
    own_says Syncing phase ready is step = all_say_by P (own_place s) disk new (calm_outcomes cluster_version disk new (own_place s) (Sync boot) answer tt step) before
    own_says Reading phase ready is step = all_say_by P (own_place s) disk new (calm_outcomes cluster_version disk new (own_place s) (call_by s d f Reading) answer tt step) before
    own_says (Putting q call) phase ready is step = by_phase q (sym (phase q call refl)) is step
      where
        by_phase : (q : Phase) → p ≡ q → IsNext (f d) (Putting q call) → Step disk (call_by s d f (Putting q call)) answer new → AllSay P (own_place s) new
        by_phase q same = subst (λ (k : Phase). IsNext (f d) (Putting k call) → Step disk (call_by s d f (Putting k call)) answer new → AllSay P (own_place s) new) same (λ next go. write_says call ready next answer go)
