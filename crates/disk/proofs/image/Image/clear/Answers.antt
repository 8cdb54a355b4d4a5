use Rattle.std.proofs.Common.{length, arith, ap, refl}
use Rattle.disk.proofs.PageLemmas.{blank_fresh, zeros_seen, first_seen}
use Rattle.disk.proofs.RoomLemmas.{rooms_fresh}
use Rattle.disk.proofs.SeenLemmas.{size_is}
use Rattle.disk.proofs.image.Image.clear.Goals as goal

pub invariant_of-self : goal.invariant_of-self
invariant_of-self c =
    let bytes = c.clear.ensures.items in
    let words = c.clear-2.ensures.items in
    let size = c.self.inside.size in
    let now = c.fill.new.self.items in
    record {
      listed = omega (arith, c.fill.ensures.len, c.self.invariant.listed);
      rooms = rw (c.fill.ensures.items (λ y h. h), bytes) (rooms_fresh _);
      words = omega (arith, ap length bytes, ap length words);
      capacity = omega (arith, c.clear.ensures.capacity, c.fill.ensures.len, c.self.invariant.capacity);
      word_capacity = omega (arith, c.clear-2.ensures.capacity, c.fill.ensures.len, c.self.invariant.word_capacity);
      blank = rw (zeros_seen now size bytes, first_seen now size words) (blank_fresh now size size);
      no_later = λ k d under. absurd (omega (arith, ap length words));
    }

pub returns : goal.returns
returns c =
    let size = c.self.inside.size in
    let now = c.fill.new.self.items in
    rw (zeros_seen now size c.clear.ensures.items, first_seen now size c.clear-2.ensures.items, size_is _ _ _ _ _ c.self.view_is) refl
