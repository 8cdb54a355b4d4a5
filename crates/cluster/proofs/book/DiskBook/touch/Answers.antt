use Rattle.std.proofs.Common.{◌≡◌, ℕ, ◌≤◌, None, Option, sym, ap, subst, ◌∙◌}
use Rattle.std.specs.Prelude.{IsTrue}
use Rattle.disk.specs.Disk.{Device, DiskState, Answer}
use Rattle.torn_block.specs.Layout.{cluster_version}
use Rattle.paxos_block.specs.Places.{image_length}
use Rattle.paxos_block.specs.Shape.{Shape}
use Rattle.cluster_tie.specs.Parts.{Own}
use Rattle.cluster.specs.Book.{BookState, answer_in, disk_in, image_on, Makes, IsFollowedBy}
use Rattle.cluster.specs.Seat.{due_in}
use Rattle.cluster.specs.declared.touched.CallOutcome.{CallOutcome}
use Rattle.cluster.proofs.Imaged.{makes, stays}
use Rattle.cluster.proofs.book.DiskBook.touch.Goals as goal
use Rattle.cluster.proofs.book.DiskBook.touch.Goals.{After-self-1}

module _ (g : _) (c : After-self-1 g) where
  abbrev shape : Shape
  shape = g.N.ClusterName.shape

  abbrev seat : Own
  seat = c.args.seat.now

  abbrev own : Own
  own = c.self.inside.tie

  abbrev answer : Answer
  answer = answer_in c.make-outcome.result c.make-outcome.new.row

  abbrev old : DiskState
  old = g.D.Disk.state c.self.inside.disk

  abbrev new : DiskState
  new = g.D.Disk.state c.make-outcome.new.disk

  closed : c.self.inside.open_call ≡ None
  closed = ap (λ (b : BookState _). b.open_call) c.self.view_is ∙ c.requires.closed

  left : image_on shape old ≡ disk_in shape own
  left = subst (λ (o : Option CallOutcome). IsFollowedBy o c.self.inside.row (disk_in shape own) (image_on shape old)) closed c.self.invariant.so.disk

  number : (due_in shape seat).0 ≡ own.number
  number = c.requires.disk ∙ ap (λ (b : BookState _). b.own.number) (sym c.self.view_is)

  made : Makes shape seat own.number answer (disk_in shape own) (image_on shape new)
  made =
      subst (λ (k : ℕ). Makes shape seat k answer (disk_in shape own) (image_on shape new)) number
      (subst (λ (d : DiskState). Makes shape seat (due_in shape seat).0 answer d (image_on shape new)) left
      (makes shape seat (due_in shape seat).0 answer old new c.self.invariant.whole c.make-outcome.ensures.within c.make-outcome.ensures.made))

pub invariant_of-self : goal.invariant_of-self
invariant_of-self g c =
    let i = c.self.invariant in
    let m = made g c in
    record {
      number = i.number;
      whole = stays (shape g c) (seat g c) (due_in (shape g c) (seat g c)).0 (answer g c) (old g c) (new g c) i.whole c.make-outcome.ensures.within c.make-outcome.ensures.made;
      so = record {
        number = i.so.number;
        tells = subst (λ (d : Device). IsTrue d.tells) (sym c.make-outcome.ensures.device) i.so.tells;
        size = subst (λ (d : Device). image_length cluster_version (shape g c).slots ≤ d.size) (sym c.make-outcome.ensures.device) i.so.size;
        disk = record { call = (due_in (shape g c) (seat g c)).1; fits = m.fits; step = m.step };
      };
    }

pub returns-clause-made : goal.returns-clause-made
returns-clause-made g c = made g c
