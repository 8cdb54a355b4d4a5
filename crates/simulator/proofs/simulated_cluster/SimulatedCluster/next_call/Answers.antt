use Rattle.std.proofs.Common.{◌≡◌, ℕ, None, Some, Option, get_or, sym, ap, ◌∙◌, subst, Bool}
use Rattle.std.specs.Prelude.{◌&&◌, is_none}
use Rattle.disk.specs.declared.fault.DiskFault.{DiskFault}
use Rattle.torn_block.specs.Layout.{cluster_version}
use Rattle.attempt.specs.DeviceCalls.{device_call_of}
use Rattle.simulator.specs.Calls.{is_write}
use Rattle.simulator.specs.Kept.{TellsNext}
use Rattle.simulator.proofs.NextCall.{tells_none, tells_next}
use Rattle.simulator.proofs.Owed as owed
use Rattle.simulator.proofs.Owed.{kept_in}
use Rattle.simulator.proofs.simulated_cluster.SimulatedCluster.next_call.Goals as goal

pub returns-then-not-is_busy-clause-next : goal.returns-then-not-is_busy-clause-next
returns-then-not-is_busy-clause-next c =
    let old = kept_in c.self.inside in
    let p = owed.place_of old c.self.invariant c.args.host c.get.result c.from-at.result c.get.ensures.value c.get.ensures.range c.from-at.ensures in
    subst (TellsNext c.args.host None) c.self.view_is
    (tells_none old c.args.host c.index.result.now (owed.stands old c.args.host p c.index.result.now c.index.ensures) (sym c.is_busy.ensures ∙ c.if-not-is_busy.true))

pub returns-clause-next : goal.returns-clause-next
returns-clause-next c =
    let old = kept_in c.self.inside in
    let p = owed.place_of old c.self.invariant c.args.host c.get.result c.from-at.result c.get.ensures.value c.get.ensures.range c.from-at.ensures in
    let found = owed.stood old c.args.host p c.index-2.result.now c.index-2.ensures ∙ c.in-Some.is in
    let inside = owed.on_disk old c.self.invariant p.i c.in-Some.core found c.call-need.result.disk c.call-need.ensures.disk in
    let call = device_call_of cluster_version c.call-need.result.call in
    let value = subst (λ (k : ℕ). c.index_mut-disk.result.now ≡ get_or old.disks k c.index_mut-disk.result.now) c.from.ensures c.index_mut-disk.ensures.value in
    subst (TellsNext c.args.host (Some (c.call-need.result.disk, c.may_tear-tears.result))) c.self.view_is
    (tells_next old c.args.host c.in-Some.core c.call-need.result.disk call c.index_mut-disk.result.now c.may_tear-tears.result
    (owed.stands old c.args.host p c.index-2.result.now c.index-2.ensures ∙ c.in-Some.is) c.call-need.ensures.next inside value
    (c.may_tear-tears.ensures ∙ ap (λ (b : Bool). b && is_none c.refusal_of-refusal.result) c.is_write.ensures ∙ ap (λ (o : Option DiskFault). is_write call && is_none o) c.refusal_of-refusal.ensures.refusal))
