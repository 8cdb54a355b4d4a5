use Rattle.std.specs.Prelude.{All}
use Rattle.std.proofs.Common.{◌≡◌, ◌≤◌, ℕ, None, length, sym, ap, subst, arith}
use Rattle.std.proofs.lemmas.List.{length-replicate}
use Rattle.std.proofs.lemmas.List.Elements.{All-replicate}
use Rattle.disk.specs.Simulated.{SimState, fresh_disk}
use Rattle.torn_block.specs.Layout.{cluster_version}
use Rattle.paxos_block.specs.Places.{image_length}
use Rattle.paxos_block.specs.Shape.{Shape}
use Rattle.disk.proofs.CutLemmas.{cut_fresh}
use Rattle.world.specs.World.{opening_disk}
use Rattle.cluster.specs.Book.{image_on}
use Rattle.cluster.proofs.cluster.Cluster+N+SimDisk.simulated.Goals as goal

pub new-requires-clause-large : goal.new-requires-clause-large
unfolding fresh_disk
new-requires-clause-large g c =
    let shape = g.N.ClusterName.shape in
    let config = c.args.foundation.config in
    let x : SimState = record { disk = fresh_disk (image_length cluster_version config.slots); failing = None; failures = 0 } in
    let large : image_length cluster_version shape.slots ≤ length x.disk.bytes = omega (arith, length-replicate {A = ℕ} (image_length cluster_version config.slots) 0, ap (λ (s : Shape). image_length cluster_version s.slots) c.args.foundation.config_is) in
    let P : SimState → Type 0 = λ d. image_length cluster_version shape.slots ≤ length d.disk.bytes in
    subst (All P) (sym c.in_ok-disks.ensures) (All-replicate P config.disks x large)

pub new-requires-clause-fresh : goal.new-requires-clause-fresh
new-requires-clause-fresh g c =
    let shape = g.N.ClusterName.shape in
    let config = c.args.foundation.config in
    let x : SimState = record { disk = fresh_disk (image_length cluster_version config.slots); failing = None; failures = 0 } in
    let large : image_length cluster_version shape.slots ≤ image_length cluster_version config.slots = omega (arith, ap (λ (s : Shape). image_length cluster_version s.slots) c.args.foundation.config_is) in
    let P : SimState → Type 0 = λ d. image_on shape d.disk ≡ opening_disk shape in
    subst (All P) (sym c.in_ok-disks.ensures) (All-replicate P config.disks x (cut_fresh (image_length cluster_version shape.slots) (image_length cluster_version config.slots) large))
