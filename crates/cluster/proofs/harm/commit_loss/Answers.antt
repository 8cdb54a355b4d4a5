use Rattle.std.proofs.Common.{ℕ, length, refl, sym, ap, subst, ◌∙◌, arith}
use Rattle.disk.specs.Disk.{DiskState}
use Rattle.disk.specs.Simulated.{SimState}
use Rattle.disk.specs.Cut.{HasFirst}
use Rattle.torn_block.specs.Layout.{cluster_version}
use Rattle.paxos_block.specs.Places.{image_length}
use Rattle.world.specs.Entry.{Lost}
use Rattle.world.specs.declared.entry.Entry.TheVariants as kept
use Rattle.cluster_tie.specs.Parts.{Own}
use Rattle.cluster.specs.Book.{BookState, image_on}
use Rattle.cluster.proofs.Harmed.{as_left, befell}
use Rattle.cluster.proofs.Parts.{loses}
use Rattle.cluster.proofs.harm.commit_loss.Goals as goal

pub spend-requires : goal.spend-requires
spend-requires g c =
    let shape = g.N.ClusterName.shape in
    let b = c.book.invariant in
    let left = as_left shape _ b.so (ap (λ (b : BookState _). b.open_call) c.book.view_is ∙ c.requires.closed) in
    let there = ap (λ (d : DiskState). d.gone) (sym left) ∙ ap (λ (b : BookState _). b.disk.gone) c.book.view_is ∙ c.requires.there in
    record {
      told = ap (λ (n : ℕ). kept.DiskGone n) (sym b.number);
      own = (refl, refl);
      may = loses shape c.args.journal.now.log c.book.inside.tie b.so.number there;
    }

pub invariant_of-book : goal.invariant_of-book
invariant_of-book g c =
    let shape = g.N.ClusterName.shape in
    let b = c.book.invariant in
    let own = c.book.inside.tie in
    let closed = ap (λ (b : BookState _). b.open_call) c.book.view_is ∙ c.requires.closed in
    record {
      number = ap (λ (o : Own). o.number) c.spend.ensures.disk ∙ b.number;
      whole = subst (λ (s : SimState). HasFirst (image_length cluster_version shape.slots) s.disk) (sym c.lose.ensures) b.whole;
      so = befell shape _ b.so closed _ (length c.args.journal.now.log) (Lost own.number) c.spend.ensures.disk closed b.so.tells
          (omega (arith, b.so.size, ap (λ (s : SimState). length s.disk.bytes) c.lose.ensures)) (ap (λ (s : SimState). image_on shape s.disk) c.lose.ensures);
    }
