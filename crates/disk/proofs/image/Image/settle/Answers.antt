use Rattle.std.proofs.Common.{ℕ, refl, replicate, false, sym, ◌∙◌, ap, arith}
use Rattle.disk.specs.Marks.{all_marks}
use Rattle.disk.specs.Pages.{seen}
use Rattle.disk.proofs.PageLemmas.{blank_settled, none_seen}
use Rattle.disk.proofs.SeenLemmas.{size_is}
use Rattle.disk.proofs.image.Image.settle.Goals as goal

pub invariant_of-self : goal.invariant_of-self
invariant_of-self c =
    let inside = c.self.inside in
    let pages = inside.pages.items in
    let e = c.next_epoch-self-inside.ensures in
    record {
      listed = c.self.invariant.listed;
      rooms = c.self.invariant.rooms;
      words = omega (arith, c.self.invariant.words, e.as_many);
      capacity = c.self.invariant.capacity;
      word_capacity = omega (arith, c.self.invariant.word_capacity, e.capacity);
      blank =
          rw (none_seen pages c.next_epoch-self-inside.result inside.size _ e.none)
          (blank_settled pages (seen pages 0 inside.bytes.items inside.size) (seen pages false (all_marks inside.epoch inside.words.items) inside.size) inside.size c.self.invariant.blank);
      no_later = e.no_later;
    }

pub returns : goal.returns
returns c =
    let none = none_seen c.self.inside.pages.items c.next_epoch-self-inside.result c.self.inside.size _ c.next_epoch-self-inside.ensures.none in
    rw (none ∙ ap (λ (n : ℕ). replicate n false) (sym (size_is _ _ _ _ _ c.self.view_is)), ← c.self.view_is) refl
