use Rattle.std.specs.Prelude.{IsTrue}
use Rattle.std.proofs.Common.{◌≡◌, ℕ, Bool, true, Some, sym, subst}
use Rattle.torn_block.specs.Layout.{cluster_version}
use Rattle.attempt.specs.DeviceCalls.{call_of_need, device_call_of}
use Rattle.attempt.specs.declared.need.DeviceCall.{DeviceCall}
use Rattle.attempt.specs.declared.need.Need.{Need}
use Rattle.paxos_block.specs.Shape.{Shape}
use Rattle.host.specs.Host.{Memory, next_in}
use Rattle.host.specs.Kept.{Kept, LeadsTo, due_call}
use Rattle.window.specs.declared.window.Window.{Window}
use Rattle.window.specs.Calls.{sight_of}
use Rattle.window.specs.Hearing.{IsReady}
use Rattle.epoch_host.specs.Leading.{IsReadyFor}
use Rattle.epoch_host.proofs.Hearing.{ready_by}
use Rattle.epoch_host.proofs.stay.Stay.may_call.Goals as goal

-- where the answer says so, the call may be made
may_by : (sure : Bool) (core : Kept) (w : Window) (need : Need) → call_of_need cluster_version need ≡ due_call core → ((c : Shape) (h : ℕ) (m : Memory) → LeadsTo c h m core → next_in c h m ≡ Some (due_call core))
    → (IsTrue sure → IsReady (device_call_of cluster_version need.call) (sight_of w need.disk)) → IsTrue sure → (c : Shape) (h : ℕ) (m : Memory) → LeadsTo c h m core → IsReadyFor c h m w
may_by sure core w need due next ready is = ready_by core w need due next (ready is)

pub returns-in-Write : goal.returns-in-Write
returns-in-Write c =
    let s = c.args.self.now in
    let need = c.wanted-due.result in
    record {
      ready = may_by c.is_sure.result s.core s.window need c.wanted-due.ensures.due c.wanted-due.ensures.next
          (λ sure. subst (λ (x : DeviceCall). IsReady (device_call_of cluster_version x) (sight_of s.window need.disk)) (sym c.in-Write.is) (c.is_sure.ensures.0 sure));
    }

pub returns-in-Attach : goal.returns-in-Attach
returns-in-Attach c =
    let s = c.args.self.now in
    let need = c.wanted-due.result in
    record {
      ready = may_by true s.core s.window need c.wanted-due.ensures.due c.wanted-due.ensures.next
          (λ sure. subst (λ (x : DeviceCall). IsReady (device_call_of cluster_version x) (sight_of s.window need.disk)) (sym c.in-Attach.is) tt);
    }

pub returns-in-Read : goal.returns-in-Read
returns-in-Read c =
    let s = c.args.self.now in
    let need = c.wanted-due.result in
    record {
      ready = may_by true s.core s.window need c.wanted-due.ensures.due c.wanted-due.ensures.next
          (λ sure. subst (λ (x : DeviceCall). IsReady (device_call_of cluster_version x) (sight_of s.window need.disk)) (sym c.in-Read.is) tt);
    }

pub returns-in-Sync : goal.returns-in-Sync
returns-in-Sync c =
    let s = c.args.self.now in
    let need = c.wanted-due.result in
    record {
      ready = may_by true s.core s.window need c.wanted-due.ensures.due c.wanted-due.ensures.next
          (λ sure. subst (λ (x : DeviceCall). IsReady (device_call_of cluster_version x) (sight_of s.window need.disk)) (sym c.in-Sync.is) tt);
    }
