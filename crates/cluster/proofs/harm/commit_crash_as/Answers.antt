use Rattle.std.proofs.Common.{◌≡◌, ℕ, ◌<◌, ◌^◌, length, sym, ap, subst, ◌∙◌, arith}
use Rattle.disk.specs.Disk.{DiskState, Crashes}
use Rattle.disk.specs.Filling.{filled}
use Rattle.disk.specs.Simulated.{SimState, crashed}
use Rattle.disk.specs.Cut.{HasFirst}
use Rattle.disk.proofs.CutLemmas.{cut_crashes, crashes_cut, first_stay_crashed}
use Rattle.torn_block.specs.Layout.{cluster_version}
use Rattle.paxos_block.specs.Places.{image_length}
use Rattle.world.specs.Entry.{Crashed, disk_step, crashed_to}
use Rattle.world.specs.Plain.{plain}
use Rattle.world.specs.World.{world, MayFollow}
use Rattle.world.specs.declared.entry.Entry.TheVariants as kept
use Rattle.cluster_tie.specs.Parts.{Own, disk_of, host_of}
use Rattle.cluster.specs.Book.{BookState, image_on}
use Rattle.cluster.proofs.Harmed.{as_left, befell}
use Rattle.cluster.proofs.Parts.{crashes}
use Rattle.cluster.proofs.harm.commit_crash_as.Goals as goal

pub spend-requires : goal.spend-requires
spend-requires g c =
    let shape = g.N.ClusterName.shape in
    let b = c.book.invariant in
    let own = c.book.inside.tie in
    let disk = image_on shape c.book.inside.disk.disk in
    let given = c.args.given.now in
    let after = filled given 0 disk.unsynced disk.bytes in
    let log = c.args.journal.now.log in
    let is : g.E.TiedEntry.entry ≡ Crashed own.number after = c.requires.told ∙ ap (λ (b : BookState _). Crashed b.own.number (filled given 0 b.disk.unsynced b.disk.bytes)) (sym c.book.view_is) in
    let left = as_left shape _ b.so (ap (λ (b : BookState _). b.open_call) c.book.view_is ∙ c.requires.closed) in
    let there = ap (λ (d : DiskState). d.gone) (sym left) ∙ ap (λ (b : BookState _). b.disk.gone) c.book.view_is ∙ c.requires.there in
    let low = subst (λ (d : DiskState). d.boot < 2 ^ 62) (ap (λ (b : BookState _). b.disk) (sym c.book.view_is) ∙ left) c.requires.boot in
    let step = subst (λ (d : DiskState). Crashes d (crashed_to d after)) left (crashes_cut (image_length cluster_version shape.slots) c.book.inside.disk.disk given b.whole) in
    record {
      told = ap (λ (n : ℕ). kept.DiskCrash n) (sym b.number) ∙ ap plain (sym is);
      own = (ap disk_of is, ap host_of is);
      may = λ part. subst (MayFollow shape (world shape log)) (sym is) (crashes shape log own after b.so.number there low step part);
    }

image : (g : _) (c : goal.After-crash g) → image_on g.N.ClusterName.shape c.crash.new.disk.disk ≡ crashed (image_on g.N.ClusterName.shape c.book.inside.disk.disk) c.args.given.now
image g c = ap (λ (s : SimState). image_on g.N.ClusterName.shape s.disk) c.crash.ensures.exact ∙ cut_crashes (image_length cluster_version g.N.ClusterName.shape.slots) c.book.inside.disk.disk c.args.given.now c.book.invariant.whole

pub invariant_of-book : goal.invariant_of-book
invariant_of-book g c =
    let shape = g.N.ClusterName.shape in
    let b = c.book.invariant in
    let disk = image_on shape c.book.inside.disk.disk in
    let given = c.args.given.now in
    let closed = ap (λ (b : BookState _). b.open_call) c.book.view_is ∙ c.requires.closed in
    let is = c.requires.told ∙ ap (λ (b : BookState _). Crashed b.own.number (filled given 0 b.disk.unsynced b.disk.bytes)) (sym c.book.view_is) in
    record {
      number = ap (λ (o : Own). o.number) c.spend.ensures.disk ∙ b.number;
      whole = subst (λ (s : SimState). HasFirst (image_length cluster_version shape.slots) s.disk) (sym c.crash.ensures.exact) (first_stay_crashed (image_length cluster_version shape.slots) c.book.inside.disk.disk given b.whole);
      so = befell shape _ b.so closed _ (length c.args.journal.now.log) g.E.TiedEntry.entry c.spend.ensures.disk closed b.so.tells (omega (arith, b.so.size, c.crash.ensures.size))
          (image g c ∙ ap (disk_step disk) (sym is));
    }

pub returns-clause-disk : goal.returns-clause-disk
returns-clause-disk g c = image g c ∙ ap (λ (b : BookState _). crashed b.disk c.args.given.now) c.book.view_is
