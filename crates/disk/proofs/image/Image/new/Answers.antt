use Rattle.std.proofs.Common.{length, arith, ap, refl}
use Rattle.disk.proofs.PageLemmas.{blank_fresh, zeros_seen, first_seen}
use Rattle.disk.proofs.RoomLemmas.{rooms_fresh}
use Rattle.disk.proofs.image.Image.new.Goals as goal

pub invariant_of-result : goal.invariant_of-result
invariant_of-result c =
    let bytes = c.in_ok-with_capacity.ensures.items in
    let words = c.in_ok-with_capacity-2.ensures.items in
    let size = c.args.size in
    let now = c.in_ok-vec.field-0.items in
    let pages = c.in_ok-vec.ensures.items_if_clones_equal (λ y h. h) in
    record {
      listed = omega (arith, c.in_ok-vec.ensures.len);
      rooms = rw (pages, bytes) (rooms_fresh _);
      words = omega (arith, ap length bytes, ap length words);
      capacity = omega (arith, c.in_ok-with_capacity.ensures.exact, c.saturating_mul.ensures, c.in_ok-vec.ensures.len, c.in_ok-with_capacity.field-0.small);
      word_capacity = omega (arith, c.in_ok-with_capacity-2.ensures.exact, c.in_ok-vec.ensures.len);
      blank = rw (zeros_seen now size bytes, first_seen now size words) (blank_fresh now size size);
      no_later = λ k d under. absurd (omega (arith, ap length words));
    }

pub returns : goal.returns
returns c =
    let now = c.in_ok-vec.field-0.items in
    rw (zeros_seen now c.args.size c.in_ok-with_capacity.ensures.items, first_seen now c.args.size c.in_ok-with_capacity-2.ensures.items) refl
