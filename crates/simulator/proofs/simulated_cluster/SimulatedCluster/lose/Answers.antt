use Rattle.std.proofs.Common.{◌<◌, None, arith}
use Rattle.world.specs.Happens.{DiskGone}
use Rattle.simulator.proofs.Changes.{reached, seen, unseen}
use Rattle.simulator.proofs.Owed as owed
use Rattle.simulator.proofs.Owed.{kept_in}
use Rattle.simulator.proofs.Calls.{is_lost_out}
use Rattle.simulator.proofs.simulated_cluster.SimulatedCluster.lose.Goals as goal

pub invariant_of-self : goal.invariant_of-self
invariant_of-self c =
    let old = kept_in c.self.inside in
    let i = c.from-at.result in
    let event = DiskGone c.args.disk in
    let inside : i < old.shape.disks = omega (arith, c.if-at-len.true, c.len.ensures, c.self.invariant.leads.shows.disk_count) in
    reached event old _ None c.self.invariant
    (owed.is_lost old c.args.disk i c.from-at.ensures inside c.index_mut-disk.result.now c.lose_disk.new.disk c.index_mut-disk.ensures.value c.lose_disk.ensures)

pub returns-then-at-len : goal.returns-then-at-len
returns-then-at-len c =
    let old = kept_in c.self.inside in
    let i = c.from-at.result in
    let event = DiskGone c.args.disk in
    let inside : i < old.shape.disks = omega (arith, c.if-at-len.true, c.len.ensures, c.self.invariant.leads.shows.disk_count) in
    seen event old c.args.self.now _ None c.self.view_is
    (owed.is_lost old c.args.disk i c.from-at.ensures inside c.index_mut-disk.result.now c.lose_disk.new.disk c.index_mut-disk.ensures.value c.lose_disk.ensures)

pub returns-else-at-len : goal.returns-else-at-len
returns-else-at-len c =
    let old = kept_in c.self.inside in
    let event = DiskGone c.args.disk in
    unseen event old c.args.self.now None c.self.view_is
    (λ log leads. is_lost_out log old leads c.args.disk (omega (arith, c.if-at-len.false, c.len.ensures, c.from-at.ensures, leads.shows.disk_count)))
