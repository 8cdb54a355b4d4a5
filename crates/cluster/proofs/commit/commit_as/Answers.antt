use Rattle.std.proofs.Common.{◌≡◌, ℕ, ◌<◌, ◌++◌, ◌∷◌, [], List, length, sym, ap, subst, ◌∙◌, arith, false}
use Rattle.disk.specs.Disk.{Call, Answer}
use Rattle.torn_block.specs.Layout.{cluster_version}
use Rattle.attempt.specs.DeviceCalls.{call_of_need}
use Rattle.paxos_block.specs.Shape.{Shape}
use Rattle.host.specs.Host.{Memory, hears_from, is_idle}
use Rattle.host.specs.Kept.{LeadsTo}
use Rattle.world.specs.Entry.{Filled, disk_step}
use Rattle.world.specs.Plain.{plain, plains, kind_of}
use Rattle.world.specs.World.{IsFreshRun}
use Rattle.world.specs.declared.entry.Entry.{Entry}
use Rattle.world.specs.declared.entry.Entry.TheVariants as kept
use Rattle.cluster_tie.specs.Parts.{Own, adds}
use Rattle.cluster.specs.Book.{BookState, answer_in, disk_in, image_on, Makes}
use Rattle.cluster.specs.Commit.{called_by, left_by}
use Rattle.cluster.specs.Receipts.{receipts_said, receipts_of}
use Rattle.cluster.specs.Seat.{due_in, due_or, IsRunning}
use Rattle.cluster.proofs.Adding.{disk_adds}
use Rattle.cluster.proofs.Journals.{plains_more, place_is, keeps_tokens}
use Rattle.cluster.proofs.Parts.{calls}
use Rattle.cluster.proofs.Ranges.{leaves}
use Rattle.cluster.proofs.Running.{next_is, busy, runs_on, acknowledged, counted}
use Rattle.cluster.proofs.commit.commit_as.Goals as goal

module _ (g : _) (c : goal.After-book-1 g) where
  abbrev shape : Shape
  shape = g.N.ClusterName.shape

  abbrev own : Own
  own = c.seat.inside.tie

  abbrev book : BookState g.row.D.Denot
  book = record { own = c.book.inside.tie; medium = c.book.inside.disk; device = g.D.Disk.device c.book.inside.disk; disk = image_on g.N.ClusterName.shape (g.D.Disk.state c.book.inside.disk); open_call = c.book.inside.open_call; row = c.book.inside.row }

  abbrev log : List Filled
  log = c.journal.inside.tie

  is : g.E.TiedEntry.entry ≡ called_by shape own book c.args.touched.outcome
  is = c.requires.told ∙ (λ i. called_by shape (sym c.seat.view_is i) (sym c.book.view_is i) c.args.touched.outcome)

  made : Makes shape own book.own.number (answer_in c.args.touched.outcome book.row) (disk_in shape book.own) book.disk
  made = subst (λ (p : Own × BookState g.row.D.Denot). Makes shape p.0 p.1.own.number (answer_in c.args.touched.outcome p.1.row) (disk_in shape p.1.own) p.1.disk) (λ i. (sym c.seat.view_is i, sym c.book.view_is i)) c.requires.made

  run : IsFreshRun shape (log ++ called_by shape own book c.args.touched.outcome ∷ [])
  run = calls shape log own book.own (answer_in c.args.touched.outcome book.row) book.disk c.journal.invariant.run c.append.ensures.parts.1 c.append.ensures.parts.0 made.due made.fits made.step

  due : ◌≡◌ {A = ℕ × Call} (book.own.number, (due_in shape own).1) (call_of_need cluster_version c.call.result)
  due = ap due_or (sym made.due ∙ next_is shape own c.seat.inside.core c.seat.inside.submitting c.seat.invariant.running ∙ c.call.ensures.next shape own.number c.seat.invariant.running.memory c.seat.invariant.running.leads)

  host_same : c.seat.inside.core.learner.host ≡ own.number
  host_same = c.seat.invariant.running.leads.learner.is_host

  entry_is : ◌≡◌ {A = Entry} (kept.Called c.host.result c.book.inside.number c.kind.result c.fault.result) (plain (called_by shape own book c.args.touched.outcome))
  entry_is i = kept.Called ((c.host.ensures ∙ host_same) i) (sym c.book.invariant.number i) ((c.kind.ensures ∙ ap (λ (p : ℕ × Call). kind_of p.1) (sym due)) i) (c.fault.ensures book.row i)

  next : (s : Shape) (h : ℕ) (m : Memory) → LeadsTo s h m c.seat.inside.core → LeadsTo s h (hears_from s h m m.doing book.own.number (answer_in c.args.touched.outcome book.row)) c.hear.new.core
  next s h m leads =
      subst (λ (p : ℕ × Answer). LeadsTo s h (hears_from s h m m.doing p.0 p.1) c.hear.new.core)
      (λ i. ((ap (λ (p : ℕ × Call). p.0) (sym c.call.ensures.due ∙ sym due)) i, c.heard-heard.ensures.answer i))
      (c.hear.ensures.leads s h m leads)

  at_work : is_idle c.seat.invariant.running.memory ≡ false
  at_work = busy shape own c.seat.inside.core c.seat.inside.submitting c.seat.invariant.running book.own.number made.due

  new_is : adds own (length log) (called_by shape own book c.args.touched.outcome) ≡ c.append.new.host
  new_is = ap (adds own (length log)) (sym is) ∙ sym c.append.ensures.host

  acks_are : c.hear.new.acks.items ≡ c.seat.inside.acks.items ++ receipts_said own.number (length log) c.seat.inside.submitting c.hear.new.core.said
  acks_are = c.hear.ensures.acks ∙ (λ i. c.seat.inside.acks.items ++ receipts_said (host_same i) ((c.count-place.ensures ∙ place_is c.journal.inside.entries.items log c.journal.invariant.kept) i) c.seat.inside.submitting c.hear.new.core.said)

pub invariant_of-journal : goal.invariant_of-journal
invariant_of-journal g c =
    let j = c.journal.invariant in
    let p = c.push_reserved.ensures in
    let t = c.sub.ensures in
    record {
      config = j.config;
      kept = p.items ∙ (λ i. j.kept i ++ entry_is g c i ∷ []) ∙ sym (plains_more (log g c) (called_by (shape g c) (own g c) (book g c) c.args.touched.outcome)) ∙ ap (λ (x : Filled). plains (log g c ++ x ∷ [])) (sym (is g c)) ∙ ap plains (sym c.append.ensures.journal);
      run = subst (IsFreshRun (shape g c)) (ap (λ (x : Filled). log g c ++ x ∷ []) (sym (is g c)) ∙ sym c.append.ensures.journal) (run g c);
      room = omega (arith, p.len, p.capacity, j.room, t.total, j.total);
      most = omega (arith, p.len, j.most, t.total, j.total);
      total = omega (arith, t.total, j.total);
      parts = omega (arith, j.parts, c.merge.ensures.parts, t.parts, c.args.promise.backed, t.total, j.total);
      enough = j.enough;
      empty = omega (arith, c.merge.ensures.amount, j.empty, t.amount, c.args.promise.one);
      tokens = keeps_tokens _ _ _ _ c.append.ensures.journal j.tokens;
    }

pub invariant_of-book : goal.invariant_of-book
invariant_of-book g c =
    let b = c.book.invariant in
    let e = called_by (shape g c) (own g c) (book g c) c.args.touched.outcome in
    let m = made g c in
    let left : (book g c).disk ≡ disk_step (disk_in (shape g c) (book g c).own) e = leaves (disk_in (shape g c) (book g c).own) (book g c).disk (due_in (shape g c) (own g c)).1 (answer_in c.args.touched.outcome (book g c).row) m.fits m.step in
    let new_book : adds c.book.inside.tie (length (log g c)) e ≡ c.append.new.disk = ap (adds c.book.inside.tie (length (log g c))) (sym (is g c)) ∙ sym c.append.ensures.disk in
    record {
      number = ap (λ (o : Own). o.number) c.append.ensures.disk ∙ b.number;
      whole = b.whole;
      so = record {
        number = subst (λ (o : Own). o.number < (shape g c).disks) (sym c.append.ensures.disk) b.so.number;
        tells = b.so.tells;
        size = b.so.size;
        disk = left ∙ sym (disk_adds (shape g c) c.book.inside.tie (length (log g c)) e) ∙ ap (disk_in (shape g c)) new_book;
      };
    }

pub invariant_of-seat : goal.invariant_of-seat
invariant_of-seat g c =
    let s = c.seat.invariant in
    let call = (due_in (shape g c) (own g c)).1 in
    let answer = answer_in c.args.touched.outcome (book g c).row in
    let left = left_by call (book g c).disk in
    let at = length (log g c) in
    let k = (book g c).own.number in
    record {
      running = subst (λ (o : Own). IsRunning (shape g c) o c.hear.new.core c.seat.inside.submitting) (new_is g c)
          (runs_on (shape g c) (own g c) c.seat.inside.core c.seat.inside.submitting s.running c.hear.new.core at k call answer left (at_work g c) (next g c));
      acks = acknowledged (shape g c) (own g c) c.seat.inside.core c.seat.inside.submitting s.running c.hear.new.core at k call answer left (at_work g c) (next g c) c.seat.inside.acks.items c.hear.new.acks.items s.acks (acks_are g c) ∙ ap (receipts_of (shape g c)) (new_is g c);
      few = counted (shape g c) (own g c) c.seat.inside.core c.seat.inside.submitting s.running c.hear.new.core at k call answer left (at_work g c) (next g c) c.seat.inside.acks.items c.hear.new.acks.items (acks_are g c) s.few;
      room = omega (arith, s.room, c.hear.ensures.room);
    }
