use Rattle.std.proofs.Common.{◌≡◌, ◌++◌, ◌∷◌, [], None, Some, refl, sym, ap, subst, ◌∙◌, arith}
use Rattle.world.specs.Entry.{Filled, Begin}
use Rattle.world.specs.Plain.{plain, plains}
use Rattle.world.specs.World.{world, MayFollow, IsFreshRun}
use Rattle.world.proofs.Runs as runs
use Rattle.cluster_tie.specs.Parts.{disk_of, host_of, of_host}
use Rattle.cluster.specs.Journal.{JournalState}
use Rattle.cluster.proofs.Journals.{plains_more, keeps_tokens}
use Rattle.cluster.proofs.journal.Journal.keep.Goals as goal

pub append_host-requires : goal.append_host-requires
append_host-requires g c =
    subst (λ (e : Filled). (disk_of e ≡ None) × (host_of e ≡ Some c.args.tie.now.number)) (sym c.requires.entry) (refl, refl)

pub invariant_of-self-2 : goal.invariant_of-self-2
invariant_of-self-2 g c =
    let shape = g.N.ClusterName.shape in
    let j = c.self.invariant in
    let p = c.push_reserved.ensures in
    let a = c.append_host.ensures in
    let ok = c.in_ok-has_room.ensures.ok in
    let host = c.args.tie.now in
    let log = c.self.inside.tie in
    let e = g.E.TiedEntry.entry in
    let told = c.entry_of.ensures ∙ (λ i. plain (Begin (c.requires.host i) c.args.task.now)) ∙ ap plain (sym c.requires.entry) in
    let may = subst (λ (s : JournalState). host.entries ≡ of_host host.number s.log → MayFollow shape (world shape s.log) e) (sym c.self.view_is) c.requires.may a.parts in
    record {
      config = j.config;
      kept = p.items ∙ (λ i. (c.has_room.ensures.items ∙ j.kept) i ++ told i ∷ []) ∙ sym (plains_more log e) ∙ ap plains (sym a.journal);
      run = subst (IsFreshRun shape) (sym a.journal) (runs.fresh_more shape log e j.run may);
      room = omega (arith, p.len, p.capacity, ok.0);
      most = omega (arith, p.len, ok.1);
      total = j.total;
      parts = j.parts;
      enough = j.enough;
      empty = j.empty;
      tokens = keeps_tokens _ _ _ _ a.journal j.tokens;
    }
