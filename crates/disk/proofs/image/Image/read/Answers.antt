use Rattle.std.proofs.Common.{◌≡◌, ◌+◌, ◌-◌, ◌*◌, ◌/◌, ◌%◌, ◌^◌, ◌≤◌, ℕ, false, List, ◌++◌, length, replicate, sym, ◌∙◌, ap, arith}
use Rattle.std.specs.Prelude.{slice_range}
use Rattle.std.proofs.lemmas.List.{get_or_read}
use Rattle.disk.specs.declared.pages.Page.{Page}
use Rattle.disk.specs.Image.{Contents}
use Rattle.disk.specs.Marks.{all_marks}
use Rattle.disk.specs.Pages.{unwritten, nth_page, seen}
use Rattle.disk.proofs.PageLemmas.{page_seen, range_read}
use Rattle.disk.proofs.RoomLemmas.{in_range, room_kept}
use Rattle.disk.proofs.SeenLemmas.{size_is}
use Rattle.disk.proofs.image.Image.read.Goals as goal
use Rattle.disk.proofs.image.Image.read.Goals.{After-index-page}

-- the page at which the read begins
module _ (c : After-index-page) where
  within : c.args.at + length c.args.into.now ≤ c.self.inside.size
  within = omega (arith, size_is _ _ _ _ _ c.self.view_is, c.requires)

  page : c.index-page.result.now ≡ nth_page c.self.inside.pages.items (c.args.at / 4096)
  page = get_or_read c.self.inside.pages.items (c.args.at / 4096) c.index-page.result.now (omega (arith, c.self.invariant.listed, within)) c.index-page.ensures unwritten

  last : c.index-page.result.now.to ≤ 4096
  last = omega (arith, ap (λ (p : Page). p.to) page, c.self.invariant.rooms.within (c.args.at / 4096))

  kept : (c.index-page.result.now.room ≡ 2 ^ 64 - 1 → ⊥) → 4096 * c.index-page.result.now.room + 4096 ≤ length c.self.inside.bytes.items
  kept = room_kept c.self.inside.pages.items _ (c.args.at / 4096) c.index-page.result.now c.self.invariant.rooms page

pub index-page-requires : goal.index-page-requires
index-page-requires c = omega (arith, c.self.invariant.listed, size_is _ _ _ _ _ c.self.view_is, c.requires)

pub get_page-requires-clause-range : goal.get_page-requires-clause-range
get_page-requires-clause-range c = last (goal.at.get_page-requires-clause-range c).After-index-page

pub get_page-requires-clause-kept : goal.get_page-requires-clause-kept
get_page-requires-clause-kept c =
    let h = (goal.at.get_page-requires-clause-kept c).After-index-page in
    λ some.
    omega (arith, in_range c.self.inside.pages.items _ (c.args.at / 4096) c.index-page.result.now c.self.invariant.rooms (page h) (omega (arith, some, last h)), ap length c.deref.ensures.value)

pub overflow_mul-page : goal.overflow_mul-page
overflow_mul-page c = omega (arith, kept (goal.at.overflow_mul-page c).After-index-page c.if-page.true)

pub overflow_add-page : goal.overflow_add-page
overflow_add-page c = omega (arith, kept (goal.at.overflow_add-page c).After-index-page c.if-page.true)

pub get-requires : goal.get-requires
get-requires c =
    omega (arith, kept (goal.at.get-requires c).After-index-page c.if-page.true, c.if-into-first.true, ap length c.deref-then-into-first.ensures.value)

pub returns-then-into-eq-PAGE : goal.returns-then-into-eq-PAGE
returns-then-into-eq-PAGE c =
    let h = (goal.at.returns-then-into-eq-PAGE c).After-index-page in
    let inside = c.self.inside in
    let pages = inside.pages.items in
    let at = c.args.at in
    let e = c.index-page.result.now in
    let n : 4096 ≡ length c.args.into.now = sym c.if-into-eq-PAGE.true in
    let flags = seen pages false (all_marks inside.epoch inside.words.items) inside.size in
    page_seen pages inside.bytes.items c.get_page.new.into flags inside.size at e c.self.invariant.rooms c.self.invariant.blank c.if-first-eq0.true (page h) (omega (arith, within h, n))
    c.get_page.ensures.blank
    (λ some.
    c.get_page.ensures.range some
    ∙ ap (λ (l : List ℕ). replicate e.from 0 ++ (slice_range l (4096 * e.room + e.from) (4096 * e.room + e.to) ++ replicate (4096 - e.to) 0)) c.deref.ensures.value)
    ∙ ap (λ (k : ℕ). slice_range (seen pages 0 inside.bytes.items inside.size) at (at + k)) n
    ∙ ap (λ (s : Contents). slice_range s.bytes at (at + length c.args.into.now)) c.self.view_is

pub returns-then-into-first : goal.returns-then-into-first
returns-then-into-first c =
    let h = (goal.at.returns-then-into-first c).After-index-page in
    let at = c.args.at in
    let e = c.index-page.result.now in
    let n = length c.args.into.now in
    c.get.ensures
    ∙ ap (λ (l : List ℕ). slice_range l (4096 * e.room + at % 4096) (4096 * e.room + at % 4096 + n)) c.deref-then-into-first.ensures.value
    ∙ range_read c.self.inside.pages.items c.self.inside.bytes.items at n c.self.inside.size e c.self.invariant.rooms (page h) c.if-page.true (omega (arith, c.if-into-first.true)) (within h)
    ∙ ap (λ (s : Contents). slice_range s.bytes at (at + n)) c.self.view_is
