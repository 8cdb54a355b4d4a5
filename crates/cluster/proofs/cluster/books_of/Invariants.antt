use Rattle.std.proofs.Common.{◌≡◌, ◌+◌, ◌≤◌, vec_len, vec_capacity}
use Rattle.std.specs.Prelude.{All, IsTrue}
use Rattle.torn_block.specs.Layout.{cluster_version}
use Rattle.paxos_block.specs.Places.{image_length}
use Rattle.world.specs.World.{opening_disk}
use Rattle.cluster_tie.specs.Parts.{AreFresh}
use Rattle.cluster.specs.Book.{image_on}
use Rattle.cluster.proofs.cluster.books_of.Given as goal

abbrev pub invariant-loop-k : goal.invariant-loop-k
invariant-loop-k g l = record {
  left : vec_len l.disks + l._k ≡ l.count;
  marks : vec_len l.marks + l._k ≡ l.count;
  made : vec_len l.books ≡ l._k;
  room : vec_len l.books + vec_len l.disks ≤ vec_capacity l.books;
  dealt : AreFresh (vec_len l.marks) l.marks.items;
  tell : All (λ d. IsTrue (g.D.Disk.device d).tells) l.disks.items;
  large : All (λ d. image_length cluster_version g.N.ClusterName.shape.slots ≤ (g.D.Disk.device d).size) l.disks.items;
  fresh : All (λ d. image_on g.N.ClusterName.shape (g.D.Disk.state d) ≡ opening_disk g.N.ClusterName.shape) l.disks.items;
}
