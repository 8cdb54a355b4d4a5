use Rattle.std.proofs.Common.{◌/◌, length, refl, ◌∙◌, ap, arith}
use Rattle.std.proofs.lemmas.List.{get_or_read}
use Rattle.disk.specs.Image.{overwritten}
use Rattle.disk.specs.Pages.{unwritten}
use Rattle.disk.proofs.FillingLemmas.{spread_all}
use Rattle.disk.proofs.RoomLemmas.{InPage, in_page}
use Rattle.disk.proofs.SeenLemmas.{size_is}
use Rattle.disk.proofs.WriteLemmas.{Written, written}
use Rattle.disk.proofs.image.Image.overwrite.Goals as goal
use Rattle.disk.proofs.image.Image.overwrite.Goals.{Then-first-from, After-mark}

-- the range is within that of its page
here : (c : Then-first-from) → InPage c.self.inside.pages.items (length c.self.inside.bytes.items) c.args.at (length c.args.from.now) c.index-page.result.now
here c =
    let pages = c.self.inside.pages.items in
    let i = c.args.at / 4096 in
    in_page pages _ c.args.at _ _ c.self.invariant.rooms
    (get_or_read pages i c.index-page.result.now (omega (arith, c.self.invariant.listed, size_is _ _ _ _ _ c.self.view_is, c.requires)) c.index-page.ensures unwritten)
    (omega (arith, c.if-from-first.true)) (omega (arith, c.if-first-from.true))

wrote : (c : After-mark) → Written c.self.inside.pages.items c.self.inside.pages.items c.self.inside.bytes.items c.put.new.bytes.items c.args.from.now c.self.inside.words.items c.mark.new.words.items c.self.inside.epoch c.args.at c.self.inside.size
wrote c =
    let inside = c.self.inside in
    let h = here (goal.at.returns-then-first-from c).Then-first-from in
    written inside.pages.items _ inside.bytes.items inside.bytes.items _ c.args.from.now inside.words.items inside.words.items _ inside.epoch c.args.at _ inside.size _
    refl (omega (arith, size_is _ _ _ _ _ c.self.view_is, c.requires)) h.one c.self.invariant.rooms h.is h.kept c.self.invariant.words
    refl refl c.put.ensures.bytes c.mark.ensures.as_many c.mark.ensures.marks (λ k covers. covers) h.covered c.self.invariant.blank

pub index-page-requires : goal.index-page-requires
index-page-requires c = omega (arith, c.self.invariant.listed, size_is _ _ _ _ _ c.self.view_is, c.requires)

pub overflow_mul-place : goal.overflow_mul-place
overflow_mul-place c = omega (arith, (here (goal.at.overflow_mul-place c).Then-first-from).kept)

pub overflow_add-place : goal.overflow_add-place
overflow_add-place c = omega (arith, (here (goal.at.overflow_add-place c).Then-first-from).kept)

pub put-requires : goal.put-requires
put-requires c = let h = here (goal.at.put-requires c).Then-first-from in omega (arith, h.kept, h.one)

pub overflow_add-place-then-first-from : goal.overflow_add-place-then-first-from
overflow_add-place-then-first-from c = let h = here (goal.at.overflow_add-place-then-first-from c).Then-first-from in omega (arith, h.kept, h.one)

pub mark-requires-clause-within : goal.mark-requires-clause-within
mark-requires-clause-within c = let h = here (goal.at.mark-requires-clause-within c).Then-first-from in omega (arith, h.kept, h.one, c.self.invariant.words)

pub invariant_of-self : goal.invariant_of-self
invariant_of-self c =
    let w = wrote c in
    record {
      listed = c.self.invariant.listed;
      rooms = w.rooms;
      words = w.as_many;
      capacity = omega (arith, c.self.invariant.capacity, c.put.ensures.capacity);
      word_capacity = omega (arith, c.self.invariant.word_capacity, c.mark.ensures.capacity);
      blank = w.blank;
      no_later = c.mark.ensures.no_later c.self.invariant.no_later;
    }

pub returns-then-first-from : goal.returns-then-first-from
returns-then-first-from c =
    let w = wrote c in
    rw (w.bytes, w.flags, ← c.self.view_is) refl

pub returns-else-from-first : goal.returns-else-from-first
returns-else-from-first c = c.fill.ensures ∙ ap (overwritten c.args.self.now c.args.at) (spread_all c.args.from.now)
