use Rattle.std.proofs.Common.{◌≡◌, ◌++◌, ◌∷◌, [], sym, ap, subst, ◌∙◌, arith}
use Rattle.world.specs.Plain.{plains}
use Rattle.world.specs.World.{world, MayFollow, IsFreshRun}
use Rattle.world.proofs.Runs as runs
use Rattle.cluster_tie.specs.Parts.{on_disk}
use Rattle.cluster.specs.Journal.{JournalState}
use Rattle.cluster.proofs.Journals.{plains_more, keeps_tokens}
use Rattle.cluster.proofs.journal.Journal.spend.Goals as goal

pub invariant_of-self : goal.invariant_of-self
invariant_of-self g c =
    let shape = g.N.ClusterName.shape in
    let j = c.self.invariant in
    let p = c.push_reserved.ensures in
    let a = c.append_disk.ensures in
    let t = c.sub.ensures in
    let disk = c.args.disk.now in
    let log = c.self.inside.tie in
    let e = g.E.TiedEntry.entry in
    let may = subst (λ (s : JournalState). disk.entries ≡ on_disk disk.number s.log → MayFollow shape (world shape s.log) e) (sym c.self.view_is) c.requires.may a.parts in
    record {
      config = j.config;
      kept = p.items ∙ (λ i. j.kept i ++ c.requires.told i ∷ []) ∙ sym (plains_more log e) ∙ ap plains (sym a.journal);
      run = subst (IsFreshRun shape) (sym a.journal) (runs.fresh_more shape log e j.run may);
      room = omega (arith, p.len, p.capacity, j.room, t.total, j.total);
      most = omega (arith, p.len, j.most, t.total, j.total);
      total = omega (arith, t.total, j.total);
      parts = omega (arith, j.parts, c.merge.ensures.parts, t.parts, c.args.promise.backed, t.total, j.total);
      enough = j.enough;
      empty = omega (arith, c.merge.ensures.amount, j.empty, t.amount, c.args.promise.one);
      tokens = keeps_tokens _ _ _ _ a.journal j.tokens;
    }
