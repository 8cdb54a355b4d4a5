use Rattle.std.proofs.Common.{Some, None, length, sym, ap, ◌∙◌, subst, arith, List}
use Rattle.std.proofs.Math.ListN.{set}
use Rattle.disk.specs.declared.fault.DiskFault.{DiskFault}
use Rattle.world.specs.Happens.{Event, Tear}
use Rattle.simulator.specs.Kept.{Kept, LeadsTo, Brings}
use Rattle.simulator.proofs.Changes.{reached, seen, unseen}
use Rattle.simulator.proofs.Owed as owed
use Rattle.simulator.proofs.Owed.{kept_in, Due}
use Rattle.disk.specs.Disk.{Fault}
use Rattle.disk.specs.declared.fault.DiskFault.TheVariants.{Failed}
use Rattle.disk.specs.Simulated.{SimState}
use Rattle.torn_block.specs.Layout.{cluster_version}
use Rattle.attempt.specs.DeviceCalls.{device_call_of, IsWithin}
use Rattle.world.specs.Entry.{Filled, called_by}
use Rattle.world.specs.Happens.{spread_over}
use Rattle.simulator.proofs.simulated_cluster.SimulatedCluster.tear.Goals as goal
use Rattle.simulator.proofs.simulated_cluster.SimulatedCluster.tear.Goals.{After-index_mut-disk}

pub returns-then-not-is_busy : goal.returns-then-not-is_busy
returns-then-not-is_busy c =
    let old = kept_in c.self.inside in
    let p = owed.place_of old c.self.invariant c.args.host c.get.result c.from-at.result c.get.ensures.value c.get.ensures.range c.from-at.ensures in
    let event = Tear c.args.host c.args.given.now in
    unseen event old c.args.self.now None c.self.view_is
    (owed.tears_idle old c.args.host p c.index.result.now c.index.ensures c.args.given.now c.requires (sym c.is_busy.ensures ∙ c.if-not-is_busy.true))

pub returns-then-not-is_write : goal.returns-then-not-is_write
returns-then-not-is_write c =
    let old = kept_in c.self.inside in
    let p = owed.place_of old c.self.invariant c.args.host c.get.result c.from-at.result c.get.ensures.value c.get.ensures.range c.from-at.ensures in
    let event = Tear c.args.host c.args.given.now in
    unseen event old c.args.self.now None c.self.view_is
    (owed.tears_no_write old c.args.host p c.index-2.result.now c.index-2.ensures c.self.invariant c.in-Some.core c.in-Some.is c.call-need.result c.call-need.ensures.next
    c.call-need.ensures.disk c.args.given.now c.requires (sym c.is_write.ensures ∙ c.if-not-is_write.true))

pub index_mut-disk-requires : goal.index_mut-disk-requires
index_mut-disk-requires c =
    let there = owed.is_there (kept_in c.self.inside) c.self.invariant c.args.host (owed.place_of (kept_in c.self.inside) c.self.invariant c.args.host c.get.result c.from-at.result c.get.ensures.value c.get.ensures.range c.from-at.ensures)
    c.index-2.result.now c.index-2.ensures c.in-Some.core c.in-Some.is c.call-need.result c.call-need.ensures.disk c.from.result c.from.ensures in
    omega (arith, there)

-- the call
abbrev due : (c : After-index_mut-disk) → Due (kept_in c.self.inside) c.args.host
due c = owed.due_of (kept_in c.self.inside) c.self.invariant c.args.host (owed.place_of (kept_in c.self.inside) c.self.invariant c.args.host c.get.result c.from-at.result c.get.ensures.value c.get.ensures.range c.from-at.ensures)
    c.index-2.result.now c.index-2.ensures c.in-Some.core c.in-Some.is c.call-need.result c.call-need.ensures.disk c.from.result c.from.ensures
    c.call-need.ensures.next c.call-need.ensures.due c.index_mut-disk.result.now c.index_mut-disk.ensures.value

pub refusal_of-requires : goal.refusal_of-requires
refusal_of-requires c = record { calm = owed.is_calm _ _ (due (goal.at.refusal_of-requires c).After-index_mut-disk) c.self.invariant }

pub returns-then-is_some : goal.returns-then-is_some
returns-then-is_some c =
    let old = kept_in c.self.inside in
    let d = due (goal.at.returns-then-is_some c).After-index_mut-disk in
    let event = Tear c.args.host c.args.given.now in
    seen event old c.args.self.now _ None c.self.view_is
    (owed.disk_only_back old d.at.i d.j (Some d.core) d.x c.refusal_of.new.disk d.found c.refusal_of.ensures.same d.value event
    (λ log leads. owed.some_of DiskFault (Brings log event old old None) c.refusal_of.result (sym c.is_some.ensures ∙ c.if-is_some.true)
    (λ fault is. owed.tears_refused old c.args.host d c.args.given.now fault c.requires (sym c.refusal_of.ensures.refusal ∙ is) log leads)))

pub spoil-requires-clause-range : goal.spoil-requires-clause-range
spoil-requires-clause-range c =
    subst (λ (s : SimState). IsWithin cluster_version (length s.disk.bytes) c.call-need.result.call) (sym c.refusal_of.ensures.same)
    (owed.is_within _ _ (due (goal.at.spoil-requires-clause-range c).After-index_mut-disk) c.self.invariant c.call-need.ensures.range)

-- what the call brings
module _ (c : goal.Joined-index_mut) where
  abbrev event : Event
  event = Tear c.args.host c.args.given.now

  abbrev old : Kept
  old = kept_in c.self.inside

  abbrev new : Kept
  new = record { shape = old.shape; disks = set old.disks c.from.result c.spoil.new.disk; hosts = set old.hosts c.from-at.result None }

  brings : (log : List Filled) → LeadsTo log old → Brings log event old new None
  brings =
      let call = device_call_of cluster_version c.call-need.result.call in
      let clear = sym c.refusal_of.ensures.refusal ∙ owed.none_of c.refusal_of.result (sym c.is_some.ensures ∙ c.if-is_some.false) in
      let left = c.spoil.ensures.disk ∙ ap (λ (s : SimState). record s { disk = called_by s.disk call (Fault Failed) (spread_over call c.args.given.now) }) c.refusal_of.ensures.same in
      let as_long = c.spoil.ensures.size ∙ ap (λ (s : SimState). length s.disk.bytes) c.refusal_of.ensures.same in
      owed.tears old c.args.host (due (goal.at.invariant_of-self-2 c).After-index_mut-disk) c.args.given.now c.spoil.new.disk (sym c.is_write.ensures ∙ c.if-not-is_write.false) c.requires clear left as_long

pub invariant_of-self-2 : goal.invariant_of-self-2
invariant_of-self-2 c = reached (event c) (old c) (new c) None c.self.invariant (brings c)

pub returns : goal.returns
returns c = seen (event c) (old c) c.args.self.now (new c) None c.self.view_is (brings c)
