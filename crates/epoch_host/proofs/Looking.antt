-- What a host calls that only looks: it attaches disks, and reads.
use Rattle.std.specs.Prelude.{nat_lt, if◌then◌else◌}
use Rattle.std.proofs.Common.{◌≡◌, ℕ, Bool, true, false, length, Option, Some, None, refl, ap, subst}
use Rattle.disk.specs.Disk.{Call, Attach, Read, Write, Sync}
use Rattle.paxos_block.specs.Shape.{Shape}
use Rattle.attempt.specs.Answers.{Answers, on}
use Rattle.attempt.specs.Looking.{OnlyReads}
use Rattle.rounds.specs.Look.Status as look
use Rattle.coming.specs.declared.search.Search.{Search}
use Rattle.coming.specs.declared.search.Step.{Step as Asking}
use Rattle.coming.specs.declared.search.Step.TheVariants as asking
use Rattle.coming.specs.Finding.{call_at, call_due}
use Rattle.host.specs.Host.{Doing, Attempts, Looks, Beats, Marks, Memory, look_of, next_doing, next_in}
use Rattle.host.specs.Kept as cores
use Rattle.window.specs.declared.step.Step.{Step}
use Rattle.window.specs.declared.step.Step.TheVariants.{First, Row, Second}
use Rattle.window.specs.declared.window.Window.{Window}
use Rattle.window.specs.Calls.{due_for}
use Rattle.window.specs.Steps.{read_due}
use Rattle.epoch_host.specs.declared.over.Over.{Over}
use Rattle.epoch_host.specs.declared.stay.Stay.{Stay}
use Rattle.epoch_host.specs.declared.stay.Doing.{Doing as StayDoing}
use Rattle.epoch_host.specs.declared.stay.Doing.TheVariants as stay
use Rattle.epoch_host.specs.declared.stay.Work.{Work}
use Rattle.epoch_host.specs.declared.stay.Work.TheVariants as work
use Rattle.epoch_host.specs.Staying as staying
use Rattle.epoch_host.specs.Staying.{IsBusy, IsDoing, IsLooking, IsSound, due_by, only_looks_for}
use Rattle.epoch_host.specs.Submitting.{SubmitsFor}

-- THE WINDOW

-- whatever is due in a read is one
reads_due : (n area boot at len : ℕ) (step : Step) → OnlyReads (read_due n area boot at len step)
reads_due n area boot at len First = tt
reads_due n area boot at len (Row first is_last) = tt
reads_due n area boot at len (Second first is_last) = tt

window_reads : (w : Window) (d : ℕ) (call : Call) → OnlyReads call → OnlyReads (due_for w d call)
window_reads w d Attach reads = tt
window_reads w d (Read boot at len) reads = reads_due _ _ boot at len _
window_reads w d (Write boot at from) reads = absurd reads
window_reads w d (Sync boot) reads = absurd reads

-- A CORE THAT LOOKS

same_reads : (d k : ℕ) (call due : Call) → ◌≡◌ {A = Option (ℕ × Call)} (Some (d, call)) (Some (k, due)) → OnlyReads call → OnlyReads due
same_reads d k call due is reads = (let pair : (d, call) ≡ (k, due) = cc in subst OnlyReads (ap (λ (q : ℕ × Call). q.1) pair) reads)

kind_reads : (b : Bool) (boot at len : ℕ) → OnlyReads (if b then Attach else Read boot at len)
kind_reads true boot at len = tt
kind_reads false boot at len = tt

look_reads : (c : Shape) (m : Memory) (first : ℕ) (f : Answers) (st : look.Status) (k : ℕ) (call : Call) → look.next_in (look_of c m first) f st ≡ Some (k, call) → OnlyReads call
look_reads c m first f (look.Due d) k call next = same_reads d k (look.call_on (look_of c m first) (f d)) call next (kind_reads (nat_lt (length (f d)) 1) _ _ _)
look_reads c m first f (look.Ended end) k call next = absurd (cc)

core_reads : (c : Shape) (h : ℕ) (m : Memory) (over : Over) (o : Option Doing) (k : ℕ) (call : Call) → SubmitsFor over work.Looks m.learned o → next_doing c h m o ≡ Some (k, call) → OnlyReads call
core_reads c h m over None k call only next = absurd (cc)
core_reads c h m over (Some (Attempts t)) k call only next = absurd only
core_reads c h m over (Some (Looks t)) k call only next = look_reads c m t.first (on t.heard) (look.status (look_of c m t.first) (on t.heard)) k call next
core_reads c h m over (Some (Beats heard)) k call only next = absurd only
core_reads c h m over (Some (Marks t)) k call only next = absurd only

-- IN AN EPOCH

pub stay_reads : (s : Stay) → IsSound s → IsBusy s.doing → only_looks_for s.errand ≡ true
    → ((what : Work) → s.doing ≡ stay.Works what → (c : Shape) (h : ℕ) (m : Memory) → cores.LeadsTo c h m s.core → next_in c h m ≡ Some (cores.due_call s.core)) → OnlyReads (staying.call_due s).1
stay_reads s is busy only next = go s.doing refl is.doing busy (is.looks only).1
  where
    go : (doing : StayDoing) → s.doing ≡ doing → IsDoing s doing → IsBusy doing → IsLooking doing → OnlyReads (due_by s doing).1
    go stay.Nothing at does busy alone = absurd busy
    go stay.Leaves at does busy alone = absurd busy
    go (stay.Comes disk notes) at does busy alone = absurd alone
    go (stay.Works what) at does busy alone =
        let submits : SubmitsFor s.over work.Looks does.works.memory.learned does.works.memory.doing = subst (λ (w : Work). SubmitsFor s.over w does.works.memory.learned does.works.memory.doing) alone does.submits in
        window_reads s.window (cores.due_call s.core).0 (cores.due_call s.core).1
        (core_reads does.works.shape does.works.host does.works.memory s.over does.works.memory.doing (cores.due_call s.core).0 (cores.due_call s.core).1 submits
        (next what at does.works.shape does.works.host does.works.memory does.works.leads))

-- ON ITS WAY

at_reads : (s : Search) (due : Asking) → OnlyReads (call_at due s)
at_reads s asking.Attaching = tt
at_reads s (asking.First boot) = tt
at_reads s (asking.Second boot first) = tt

-- a search reads, too
pub finding_reads : (s : Search) → OnlyReads (call_due s).1
finding_reads s = at_reads s s.step
