use Rattle.std.proofs.Common.{◌+◌, ◌*◌, ◌/◌, ◌≤◌, ◌≡◌, ℕ, List, false, length, get_or, refl, ◌∙◌, ap, arith}
use Rattle.std.proofs.lemmas.List.{get_or_read}
use Rattle.disk.specs.declared.pages.Page.{Page}
use Rattle.disk.specs.Filling.{spread}
use Rattle.disk.specs.Marks.{all_marks}
use Rattle.disk.specs.Pages.{unwritten, nth_page, HaveRooms}
use Rattle.disk.proofs.FillingLemmas.{length-spread}
use Rattle.disk.proofs.RoomLemmas.{kept_after}
use Rattle.disk.proofs.SeenLemmas.{size_is, seen_same}
use Rattle.disk.proofs.WriteLemmas.{Written, written}
use Rattle.disk.proofs.image.Image.fill_page.Goals as goal
use Rattle.disk.proofs.image.Image.fill_page.Goals.{After-index, After-mark}

pub give_room-requires-clause-within : goal.give_room-requires-clause-within
give_room-requires-clause-within c = omega (arith, c.self.invariant.listed, size_is _ _ _ _ _ c.self.view_is, c.requires.range)

-- the page has room, and its range was widened
module _ (c : After-index) where
  abbrev new : List Page
  new = c.widen.new.pages.items

  page : c.index.result.now ≡ nth_page new (c.args.at / 4096)
  page =
      get_or_read new (c.args.at / 4096) c.index.result.now
      (omega (arith, c.self.invariant.listed, size_is _ _ _ _ _ c.self.view_is, c.requires.range, c.give_room.ensures.as_many, c.widen.ensures.as_many))
      c.index.ensures unwritten

  rooms : HaveRooms new (length c.give_room.new.bytes.items)
  rooms = c.widen.ensures.rooms _ c.give_room.ensures.rooms c.give_room.ensures.kept

  kept : 4096 * c.index.result.now.room + 4096 ≤ length c.give_room.new.bytes.items
  kept = kept_after c.give_room.new.pages.items new _ c.args.at c.index.result.now rooms (c.widen.ensures.homes c.args.at) c.give_room.ensures.kept page

wrote : (c : After-mark) → Written c.self.inside.pages.items c.widen.new.pages.items c.self.inside.bytes.items c.put_given.new.bytes.items (spread c.args.given.now c.args.first c.args.len) c.self.inside.words.items c.mark.new.words.items c.self.inside.epoch c.args.at c.self.inside.size
wrote c =
    let h = (goal.at.returns c).After-index in
    let inside = c.self.inside in
    let first = c.give_room.new.pages.items in
    let ready = c.give_room.new.bytes.items in
    let words = c.give_room.new.words.items in
    let flags = all_marks inside.epoch words in
    written inside.pages.items (new h) inside.bytes.items ready _ (spread c.args.given.now c.args.first c.args.len) inside.words.items words _ inside.epoch c.args.at c.args.len inside.size _
    (length-spread c.args.given.now c.args.first c.args.len) (omega (arith, size_is _ _ _ _ _ c.self.view_is, c.requires.range)) c.requires.one (rooms h) (page h) (kept h) c.give_room.ensures.words
    (seen_same first (new h) 0 ready ready inside.size (λ k k_in. ap (λ (j : ℕ). get_or ready j 0) (c.widen.ensures.homes k)) ∙ c.give_room.ensures.bytes inside.size)
    (seen_same first (new h) false flags flags inside.size (λ k k_in. ap (λ (j : ℕ). get_or flags j false) (c.widen.ensures.homes k)) ∙ c.give_room.ensures.marks inside.epoch inside.size)
    c.put_given.ensures.bytes c.mark.ensures.as_many c.mark.ensures.marks
    (λ k covers. c.widen.ensures.keeps k ((c.give_room.ensures.ranges k).1 covers))
    (λ k from under. c.widen.ensures.range k (omega (arith, from)) (omega (arith, under)))
    c.self.invariant.blank

pub overflow_mul-place : goal.overflow_mul-place
overflow_mul-place c = omega (arith, kept (goal.at.overflow_mul-place c).After-index)

pub overflow_add-place : goal.overflow_add-place
overflow_add-place c = omega (arith, kept (goal.at.overflow_add-place c).After-index)

pub put_given-requires-clause-range : goal.put_given-requires-clause-range
put_given-requires-clause-range c = omega (arith, kept (goal.at.put_given-requires-clause-range c).After-index, c.requires.one)

pub overflow_add-place-2 : goal.overflow_add-place-2
overflow_add-place-2 c = omega (arith, kept (goal.at.overflow_add-place-2 c).After-index, c.requires.one)

pub mark-requires-clause-within : goal.mark-requires-clause-within
mark-requires-clause-within c = omega (arith, kept (goal.at.mark-requires-clause-within c).After-index, c.requires.one, c.give_room.ensures.words)

pub invariant_of-self : goal.invariant_of-self
invariant_of-self c =
    let w = wrote c in
    record {
      listed = omega (arith, c.self.invariant.listed, c.give_room.ensures.as_many, c.widen.ensures.as_many);
      rooms = w.rooms;
      words = w.as_many;
      capacity = omega (arith, c.self.invariant.capacity, c.give_room.ensures.capacity, c.give_room.ensures.as_many, c.widen.ensures.as_many, c.put_given.ensures.capacity);
      word_capacity = omega (arith, c.self.invariant.word_capacity, c.give_room.ensures.word_capacity, c.give_room.ensures.as_many, c.widen.ensures.as_many, c.mark.ensures.capacity);
      blank = w.blank;
      no_later = c.mark.ensures.no_later (c.give_room.ensures.no_later c.self.inside.epoch c.self.invariant.no_later);
    }

pub returns : goal.returns
returns c =
    let w = wrote c in
    rw (w.bytes, w.flags, ← c.self.view_is) refl
