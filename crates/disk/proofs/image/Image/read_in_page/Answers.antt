use Rattle.std.proofs.Common.{◌≡◌, ◌+◌, ◌-◌, ◌*◌, ◌/◌, ◌%◌, ◌^◌, ◌≤◌, ℕ, List, length, sym, ◌∙◌, ap, arith}
use Rattle.std.specs.Prelude.{slice_range}
use Rattle.std.proofs.lemmas.List.{get_or_read}
use Rattle.disk.specs.declared.pages.Page.{Page}
use Rattle.disk.specs.Image.{Contents}
use Rattle.disk.specs.Pages.{unwritten, nth_page}
use Rattle.disk.proofs.PageLemmas.{range_read}
use Rattle.disk.proofs.RoomLemmas.{room_kept}
use Rattle.disk.proofs.SeenLemmas.{size_is, seen_nowhere}
use Rattle.disk.proofs.image.Image.read_in_page.Goals as goal
use Rattle.disk.proofs.image.Image.read_in_page.Goals.{After-index-page}

-- the page that is read
module _ (c : After-index-page) where
  within : c.args.at + length c.args.into.now ≤ c.self.inside.size
  within = omega (arith, size_is _ _ _ _ _ c.self.view_is, c.requires.range)

  page : c.index-page.result.now ≡ nth_page c.self.inside.pages.items (c.args.at / 4096)
  page = get_or_read c.self.inside.pages.items (c.args.at / 4096) c.index-page.result.now (omega (arith, c.self.invariant.listed, within)) c.index-page.ensures unwritten

  kept : (c.index-page.result.now.room ≡ 2 ^ 64 - 1 → ⊥) → 4096 * c.index-page.result.now.room + 4096 ≤ length c.self.inside.bytes.items
  kept = room_kept c.self.inside.pages.items _ (c.args.at / 4096) c.index-page.result.now c.self.invariant.rooms page

pub index-page-requires : goal.index-page-requires
index-page-requires c = omega (arith, c.self.invariant.listed, size_is _ _ _ _ _ c.self.view_is, c.requires.range)

pub overflow_mul-page : goal.overflow_mul-page
overflow_mul-page c = omega (arith, kept (goal.at.overflow_mul-page c).After-index-page c.if-page.false)

pub overflow_add-page : goal.overflow_add-page
overflow_add-page c = omega (arith, kept (goal.at.overflow_add-page c).After-index-page c.if-page.false)

pub get-requires : goal.get-requires
get-requires c = omega (arith, kept (goal.at.get-requires c).After-index-page c.if-page.false, c.requires.one, ap length c.deref.ensures.value)

pub returns-then-page : goal.returns-then-page
returns-then-page c =
    let h = (goal.at.returns-then-page c).After-index-page in
    let bytes = c.self.inside.bytes.items in
    let pages = c.self.inside.pages.items in
    let at = c.args.at in
    let n = length c.args.into.now in
    let far : length bytes ≤ 4096 * (nth_page pages (at / 4096)).room = omega (arith, ap (λ (p : Page). p.room) (page h), c.if-page.true) in
    c.fill.ensures.after (λ y e. e)
    ∙ sym (seen_nowhere pages 0 bytes at n c.self.inside.size c.requires.one far (within h))
    ∙ ap (λ (s : Contents). slice_range s.bytes at (at + n)) c.self.view_is

pub returns-else-page : goal.returns-else-page
returns-else-page c =
    let h = (goal.at.returns-else-page c).After-index-page in
    let at = c.args.at in
    let e = c.index-page.result.now in
    let n = length c.args.into.now in
    c.get.ensures
    ∙ ap (λ (l : List ℕ). slice_range l (4096 * e.room + at % 4096) (4096 * e.room + at % 4096 + n)) c.deref.ensures.value
    ∙ range_read c.self.inside.pages.items c.self.inside.bytes.items at n c.self.inside.size e c.self.invariant.rooms (page h) c.if-page.false c.requires.one (within h)
    ∙ ap (λ (s : Contents). slice_range s.bytes at (at + n)) c.self.view_is
