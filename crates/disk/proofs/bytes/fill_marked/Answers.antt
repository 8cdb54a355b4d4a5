use Rattle.std.proofs.Common.{◌≡◌, ◌+◌, ◌-◌, ◌*◌, ◌/◌, ◌%◌, ◌<◌, ◌≤◌, ◌==◌, min, ℕ, List, Vec, Global, Bool, false, get_or, set, length, length-set, sym, ◌∙◌, ap, subst, arith}
use Rattle.std.proofs.lemmas.List.{get_or_read}
use Rattle.std.proofs.lemmas.Nat.{mod_below}
use Rattle.std.proofs.lemmas.Nat.Bits.{bit_at-zero}
use Rattle.std.specs.Int.{bit_at}
use Rattle.disk.specs.declared.pages.Page.{Page}
use Rattle.disk.specs.declared.word.Word.{Word}
use Rattle.disk.specs.Marks.{blank, is_marked_in, all_marks}
use Rattle.disk.specs.Pages.{unwritten, nth_page, home, seen, HaveRooms}
use Rattle.disk.proofs.FillingLemmas.{passed, taken, filled_false, all_filled}
use Rattle.disk.proofs.MarkLemmas.{get_or-all_marks}
use Rattle.disk.proofs.PageLemmas.{filling}
use Rattle.disk.proofs.RoomLemmas.{in_range}
use Rattle.disk.proofs.SeenLemmas.{length-seen, get_or-seen, seen_set}
use Rattle.disk.proofs.bytes.fill_marked.Goals as goal
use Rattle.disk.proofs.bytes.fill_marked.Goals.{After-index-page, After-index-word, then-is_marked, else-is_marked}

-- whether a position is marked, by the word of its home
flag_of : (pages : List Page) (words : List Word) (epoch size : ℕ) (page : Page) (word : Word) (i k : ℕ) → page ≡ nth_page pages (i / 4096) → word ≡ get_or words ((4096 * page.room + i % 4096) / 64) blank → k / 64 ≡ i / 64 → k < size → get_or (seen pages false (all_marks epoch words) size) k false ≡ is_marked_in epoch word (k % 64)
flag_of pages words epoch size page word i k is read same inside =
    let room = (nth_page pages (k / 4096)).room in
    let here : page.room ≡ room = ap (λ (p : Page). p.room) is ∙ (let e : i / 4096 ≡ k / 4096 = omega (arith, same) in ap (λ (j : ℕ). (nth_page pages j).room) e) in
    let place : (4096 * page.room + i % 4096) / 64 ≡ home pages k / 64 = (let e : (4096 * page.room + i % 4096) / 64 ≡ (4096 * room + k % 4096) / 64 = omega (arith, here, same) in e) in
    let bit : home pages k % 64 ≡ k % 64 = (let e : (4096 * room + k % 4096) % 64 ≡ k % 64 = omega arith in e) in
    get_or-seen pages false (all_marks epoch words) size k inside
    ∙ get_or-all_marks epoch words (home pages k)
    ∙ ap (λ (j : ℕ). is_marked_in epoch (get_or words j blank) (home pages k % 64)) (sym place)
    ∙ ap (λ (w : Word). is_marked_in epoch w (home pages k % 64)) (sym read)
    ∙ ap (is_marked_in epoch word) bit

-- the page of the position
module _ (c : After-index-page) where
  abbrev pages : List Page
  pages = c.args.pages.now.items

  abbrev flags : List Bool
  flags = seen pages false (all_marks c.args.epoch c.args.words.now.items) c.args.size

  page : c.index-page.result.now ≡ nth_page pages (c.loop-i.i / 4096)
  page = get_or_read pages (c.loop-i.i / 4096) c.index-page.result.now (omega arith) c.index-page.ensures unwritten

  -- a position outside its range is not marked
  outside : (k : ℕ) → k / 4096 ≡ c.loop-i.i / 4096 → (c.index-page.result.now.from ≤ k % 4096 → k % 4096 < c.index-page.result.now.to → ⊥) → get_or flags k false ≡ false
  outside k same out =
      let here : c.index-page.result.now ≡ nth_page pages (k / 4096) = page ∙ ap (nth_page pages) (sym same) in
      c.requires.blank.flags k (λ covers. out (omega (arith, covers.from, ap (λ (p : Page). p.from) here)) (omega (arith, covers.to, ap (λ (p : Page). p.to) here)))

  -- positions that are not marked are passed
  pass : (j : ℕ) → c.loop-i.i ≤ j → ((k : ℕ) → c.loop-i.i ≤ k → k < j → get_or flags k false ≡ false) → filling c.args.given.now pages flags c.args.size c.args.bytes.now c.loop-i.bytes c.loop-i.turn (min j c.args.size)
  pass j order clear =
      let bytes = c.loop-i.bytes.items in
      let size = c.args.size in
      record {
        turn = c.loop-i.invariant.turn;
        capacity = c.loop-i.invariant.capacity;
        as_many = c.loop-i.invariant.as_many;
        so_far =
            c.loop-i.invariant.so_far
            ∙ passed c.args.given.now c.loop-i.turn flags (seen pages 0 bytes size) c.loop-i.i j size (length-seen pages 0 bytes size) (length-seen pages false _ size) (omega arith) order clear;
      }

-- what the word of the position says
module _ (c : After-index-word) (page_is : c.index-page.result.now ≡ nth_page c.args.pages.now.items (c.loop-i.i / 4096)) where
  kept : 4096 * c.index-page.result.now.room + 4096 ≤ length c.args.bytes.now.items
  kept = in_range c.args.pages.now.items _ (c.loop-i.i / 4096) c.index-page.result.now c.requires.rooms page_is (omega (arith, c.if-first-from.false))

  flag : (k : ℕ) → k / 64 ≡ c.loop-i.i / 64 → k < c.args.size → get_or (seen c.args.pages.now.items false (all_marks c.args.epoch c.args.words.now.items) c.args.size) k false ≡ is_marked_in c.args.epoch c.index-word.result.now (k % 64)
  flag k same inside =
      let words = c.args.words.now.items in
      let place = (4096 * c.index-page.result.now.room + c.loop-i.i % 4096) / 64 in
      flag_of c.args.pages.now.items words c.args.epoch c.args.size c.index-page.result.now c.index-word.result.now c.loop-i.i k page_is
      (get_or_read words place c.index-word.result.now (omega (arith, kept, c.requires.words)) c.index-word.ensures blank) same inside

pub loop-i-preserved-then-first-from : goal.loop-i-preserved-then-first-from
loop-i-preserved-then-first-from c =
    let h = (goal.at.loop-i-preserved-then-first-from c).After-index-page in
    pass h (c.loop-i.i + (c.min.result - c.loop-i.i % 4096)) (omega arith) (λ k from under. outside h k (omega arith) (λ f t. omega (arith, f, c.if-first-from.true)))

pub loop-i-preserved-then-from-first : goal.loop-i-preserved-then-from-first
loop-i-preserved-then-from-first c =
    let h = (goal.at.loop-i-preserved-then-from-first c).After-index-page in
    pass h (c.loop-i.i + (4096 - c.loop-i.i % 4096)) (omega arith) (λ k from under. outside h k (omega arith) (λ f t. omega (arith, t, c.if-from-first.true)))

pub overflow_add-start-then-is_marked : goal.overflow_add-start-then-is_marked
overflow_add-start-then-is_marked c =
    let h = goal.at.overflow_add-start-then-is_marked c in
    omega (arith, kept h.After-index-word (page h.After-index-page))

pub loop-k-preserved : goal.loop-k-preserved
loop-k-preserved c =
    let h = goal.at.loop-k-preserved c in
    let page_is = page h.After-index-page in
    let given = c.args.given.now in
    let turn = c.loop-k.turn in
    let k = c.loop-k.k in
    let size = c.args.size in
    let pages = c.args.pages.now.items in
    let flags = flags h.After-index-page in
    let bytes = c.loop-k.bytes.items in
    let now = seen pages 0 bytes size in
    let inside : k < size = omega arith in
    let within : k < length now = omega (arith, length-seen pages 0 bytes size) in
    let same : length flags ≡ length now = length-seen pages false _ size ∙ sym (length-seen pages 0 bytes size) in
    let kept = kept h.After-index-word page_is in
    let flag : get_or flags k false ≡ c.is_marked.result = flag h.After-index-word page_is k (omega arith) inside ∙ sym c.is_marked.ensures in
    elim c.if-is_marked.branch [
      | then-is_marked w ↦
          (let v = get_or given turn 0 in
          let place = 4096 * c.index-page.result.now.room + k % 4096 in
          let there : place ≡ home pages k =
          ap (λ (p : Page). 4096 * p.room + k % 4096) page_is ∙ (let e : c.loop-i.i / 4096 ≡ k / 4096 = omega arith in ap (λ (j : ℕ). 4096 * (nth_page pages j).room + k % 4096) e) in
          let place_in : place < length bytes = omega (arith, kept, c.loop-k.invariant.as_many) in
          let rooms : HaveRooms pages (length bytes) = subst (HaveRooms pages) (sym c.loop-k.invariant.as_many) c.requires.rooms in
          let e : c.if-is_marked.bytes.items ≡ set bytes place v = ap (λ (v : Vec ℕ Global). v.items) w.bytes-is in
          let put : seen pages 0 c.if-is_marked.bytes.items size ≡ set now k v =
          ap (λ (l : List ℕ). seen pages 0 l size) (e ∙ ap (λ (j : ℕ). set bytes j v) there)
          ∙ seen_set pages 0 v bytes k size rooms (omega (arith, place_in, there)) inside in
          let next : c.if-is_marked.turn ≡ (turn + 1) % length given = w.turn-is ∙ w.turn_after-turn.ensures in
          record {
            turn = omega (arith, next, mod_below (turn + 1) (length given) c.requires.given);
            capacity = ap (λ (v : Vec ℕ Global). v.cap) w.bytes-is ∙ c.loop-k.invariant.capacity;
            as_many = ap length e ∙ length-set bytes place _ ∙ c.loop-k.invariant.as_many;
            so_far =
                rw (put, next)
                (c.loop-k.invariant.so_far ∙ taken given turn flags now k c.loop-k.invariant.turn within same (flag ∙ w.if-is_marked.true));
          })
      | else-is_marked w ↦
          (let e : c.if-is_marked.bytes.items ≡ bytes = ap (λ (v : Vec ℕ Global). v.items) w.bytes-is in
          let d : c.if-is_marked.turn ≡ turn = w.turn-is in
          record {
            turn = omega (arith, d, c.loop-k.invariant.turn);
            capacity = ap (λ (v : Vec ℕ Global). v.cap) w.bytes-is ∙ c.loop-k.invariant.capacity;
            as_many = ap length e ∙ c.loop-k.invariant.as_many;
            so_far = rw (e, d) (c.loop-k.invariant.so_far ∙ filled_false given turn flags now k within same (flag ∙ w.if-is_marked.false));
          })
    ]

pub loop-i-preserved : goal.loop-i-preserved
loop-i-preserved c =
    let h = goal.at.loop-i-preserved c in
    pass h.After-index-page c.min-end.result (omega arith)
    (λ k from under.
    flag h.After-index-word (page h.After-index-page) k (omega arith) (omega arith)
    ∙ ap (λ (b : ℕ). bit_at b (k % 64) == 1) (sym c.counted.ensures ∙ c.if-counted-ne0.false)
    ∙ ap (λ (b : ℕ). b == 1) (bit_at-zero (k % 64)))

pub returns-clause-bytes : goal.returns-clause-bytes
returns-clause-bytes c =
    let size = c.args.size in
    let pages = c.args.pages.now.items in
    let bytes = c.loop-i.bytes.items in
    let marks = all_marks c.args.epoch c.args.words.now.items in
    sym (c.loop-i.invariant.so_far
    ∙ all_filled c.args.given.now c.loop-i.turn (seen pages false marks size) (seen pages 0 bytes size) (min c.loop-i.i size) (omega (arith, length-seen pages 0 bytes size)) (omega (arith, length-seen pages false marks size)))
