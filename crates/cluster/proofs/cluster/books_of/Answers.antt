use Rattle.std.proofs.Common.{◌≡◌, ◌≤◌, arith}
use Rattle.std.specs.Prelude.{IsTrue}
use Rattle.torn_block.specs.Layout.{cluster_version}
use Rattle.paxos_block.specs.Places.{image_length}
use Rattle.world.specs.World.{opening_disk}
use Rattle.cluster.specs.Book.{image_on}
use Rattle.cluster.proofs.Journals.{all_less, of_last, fresh_last, fresh_rest}
use Rattle.cluster.proofs.cluster.books_of.Goals as goal

pub new-requires : goal.new-requires
new-requires g c =
    let i = c.loop-k.invariant in
    let p = c.in-Some.ensures in
    let q = c.in-Some-pop.ensures in
    let shape = g.N.ClusterName.shape in
    record {
      tie = fresh_last _ _ c.loop-k.marks.items c.pop-in-loop-k.new.self.items c.in-Some-pop.mark q.items (omega (arith, i.left, i.marks, p.cases, c.len-number.ensures)) i.dealt;
      number = omega (arith, i.left, p.cases, c.len-number.ensures, c.requires.as_many);
      tells = of_last (λ d. IsTrue (g.D.Disk.device d).tells) c.loop-k.disks.items c.pop.new.self.items c.in-Some.disk p.items i.tell;
      large = of_last (λ d. image_length cluster_version shape.slots ≤ (g.D.Disk.device d).size) c.loop-k.disks.items c.pop.new.self.items c.in-Some.disk p.items i.large;
      fresh = of_last (λ d. image_on shape (g.D.Disk.state d) ≡ opening_disk shape) c.loop-k.disks.items c.pop.new.self.items c.in-Some.disk p.items i.fresh;
    }

pub loop-k-preserved : goal.loop-k-preserved
loop-k-preserved g c =
    let i = c.loop-k.invariant in
    let p = c.in-Some.ensures in
    let q = c.in-Some-pop.ensures in
    let r = c.push_reserved.ensures in
    let shape = g.N.ClusterName.shape in
    record {
      left = omega (arith, i.left, p.cases);
      marks = omega (arith, i.marks, q.cases);
      made = omega (arith, i.made, r.len);
      room = omega (arith, i.room, r.len, r.capacity, p.cases);
      dealt = fresh_rest _ _ c.loop-k.marks.items c.pop-in-loop-k.new.self.items c.in-Some-pop.mark q.items q.cases i.dealt;
      tell = all_less (λ d. IsTrue (g.D.Disk.device d).tells) c.loop-k.disks.items c.pop.new.self.items c.in-Some.disk p.items i.tell;
      large = all_less (λ d. image_length cluster_version shape.slots ≤ (g.D.Disk.device d).size) c.loop-k.disks.items c.pop.new.self.items c.in-Some.disk p.items i.large;
      fresh = all_less (λ d. image_on shape (g.D.Disk.state d) ≡ opening_disk shape) c.loop-k.disks.items c.pop.new.self.items c.in-Some.disk p.items i.fresh;
    }
