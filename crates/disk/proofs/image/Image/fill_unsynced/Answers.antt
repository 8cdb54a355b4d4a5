use Rattle.std.proofs.Common.{false, sym, subst, arith}
use Rattle.disk.specs.Marks.{all_marks}
use Rattle.disk.specs.Pages.{seen, HaveRooms}
use Rattle.disk.proofs.PageLemmas.{blank_filled}
use Rattle.disk.proofs.image.Image.fill_unsynced.Goals as goal

pub invariant_of-self : goal.invariant_of-self
invariant_of-self c =
    let inside = c.self.inside in
    let pages = inside.pages.items in
    let flags = seen pages false (all_marks inside.epoch inside.words.items) inside.size in
    record {
      listed = c.self.invariant.listed;
      rooms = subst (HaveRooms pages) (sym c.fill_marked.ensures.as_many) c.self.invariant.rooms;
      words = omega (arith, c.fill_marked.ensures.as_many, c.self.invariant.words);
      capacity = omega (arith, c.fill_marked.ensures.capacity, c.self.invariant.capacity);
      word_capacity = c.self.invariant.word_capacity;
      blank = rw c.fill_marked.ensures.bytes (blank_filled pages c.args.given.now (seen pages 0 inside.bytes.items inside.size) flags c.self.invariant.blank);
      no_later = c.self.invariant.no_later;
    }
