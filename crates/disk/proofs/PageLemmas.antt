-- Where a disk was ever written, after a write, and what that says of a page.
use Rattle.std.proofs.Common.{◌≡◌, ℕ, ◌+◌, ◌-◌, ◌*◌, ◌/◌, ◌%◌, ◌^◌, ◌<◌, ◌≤◌, Bool, false, List, Vec, Global, [], ◌++◌, length, get_or, take, drop, replicate, sym, ◌∙◌, ap, subst, inl, inr, arith, length-drop}
use Rattle.std.specs.Prelude.{slice_range, vec_capacity}
use Rattle.std.proofs.lemmas.Bool.{cases_lt}
use Rattle.std.proofs.lemmas.List.{get_or-replicate, length-replicate, length-take-le, drop-drop, take-append-drop}
use Rattle.std.proofs.Math.Seq.{take-append-add}
use Rattle.disk.specs.declared.pages.Page.{Page}
use Rattle.disk.specs.declared.word.Word.{Word}
use Rattle.disk.specs.Disk.{put_at}
use Rattle.disk.specs.Filling.{filled}
use Rattle.disk.specs.Marks.{marks, all_marks}
use Rattle.disk.specs.Pages.{nth_page, home, seen, HaveRooms, Covers, BlankOutside}
use Rattle.disk.proofs.FillingLemmas.{when_filled, unmarked_stays}
use Rattle.disk.proofs.ListLemmas.{get_or_more, run_is}
use Rattle.disk.proofs.MarkLemmas.{none_marked, none_at_first}
use Rattle.disk.proofs.PutLemmas.{put_each}
use Rattle.disk.proofs.RoomLemmas.{is_given, range_kept}
use Rattle.disk.proofs.SeenLemmas.{length-seen, home_in, seen_blank, seen_range}

-- A WRITE

outside_put : {X : Type 0} (old new : List Page) (xs items : List X) (at end : ℕ) (d : X) → end ≡ at + length items → at + length items ≤ length xs → ((k : ℕ) → Covers old k → Covers new k) → ((k : ℕ) → at ≤ k → k < end → Covers new k) → ((k : ℕ) → (Covers old k → ⊥) → get_or xs k d ≡ d) → (k : ℕ) → (Covers new k → ⊥) → get_or (put_at xs at items) k d ≡ d
outside_put {X} old new xs items at end d is_end within keeps range blank k out =
    put_each xs items at d within (λ (x : X). x ≡ d) k
    (λ j is inside. absurd (out (range k (omega (arith, is)) (omega (arith, is, inside, is_end)))))
    (λ off. blank k (λ covers. out (keeps k covers)))

pub blank_put : (old new : List Page) (bytes left : List ℕ) (flags run : List Bool) (at end : ℕ) → end ≡ at + length left → length run ≡ length left → at + length left ≤ length bytes → length flags ≡ length bytes → ((k : ℕ) → Covers old k → Covers new k) → ((k : ℕ) → at ≤ k → k < end → Covers new k) → BlankOutside old bytes flags → BlankOutside new (put_at bytes at left) (put_at flags at run)
blank_put old new bytes left flags run at end is_end long within same keeps range blank =
    record {
      bytes = outside_put old new bytes left at end 0 is_end within keeps range blank.bytes;
      flags = outside_put old new flags run at end false (omega arith) (omega arith) keeps range blank.flags;
    }

pub blank_fresh : (pages : List Page) (m n : ℕ) → BlankOutside pages (replicate m 0) (replicate n false)
blank_fresh pages m n =
    record { bytes = λ k out. get_or_more [] m k 0; flags = λ k out. get_or_more [] n k false }

-- where nothing is kept zeros are seen
pub zeros_seen : (pages : List Page) (size : ℕ) {bytes : List ℕ} → bytes ≡ [] → seen pages 0 bytes size ≡ replicate size 0
zeros_seen pages size {bytes} none = seen_blank pages 0 bytes size (λ j. ap (λ (l : List ℕ). get_or l j 0) none)

-- nor is anything marked there
pub first_seen : (pages : List Page) (size : ℕ) {words : List Word} → words ≡ [] → seen pages false (all_marks 1 words) size ≡ replicate size false
first_seen pages size {words} none =
    seen_blank pages false (all_marks 1 words) size (λ j. ap (λ (l : List Word). get_or (all_marks 1 l) j false) none ∙ none_at_first j)

-- once nothing is marked
pub none_seen : (pages : List Page) (epoch size : ℕ) (words : List Word) → ((m : ℕ) → marks epoch words m ≡ replicate m false) → seen pages false (all_marks epoch words) size ≡ replicate size false
none_seen pages epoch size words none =
    seen_blank pages false (all_marks epoch words) size (λ j. none_marked epoch words j none)

-- then, too, nothing is marked outside the ranges
pub blank_settled : (pages : List Page) (bytes : List ℕ) (flags : List Bool) (n : ℕ) → BlankOutside pages bytes flags → BlankOutside pages bytes (replicate n false)
blank_settled pages bytes flags n blank =
    record { bytes = blank.bytes; flags = λ k out. get_or_more [] n k false }

-- the marked positions before a place are filled, and the byte at `next` is the next
abbrev pub filling : List ℕ → List Page → List Bool → ℕ → Vec ℕ Global → Vec ℕ Global → ℕ → ℕ → Type 0
filling given pages flags size old new next at = record {
  turn : next < length given;
  capacity : vec_capacity new ≡ vec_capacity old;
  as_many : length new.items ≡ length old.items;
  so_far : filled given 0 flags (seen pages 0 old.items size) ≡ when_filled given next flags (seen pages 0 new.items size) at;
}

-- a crash fills marked positions alone
pub blank_filled : (pages : List Page) (given : List ℕ) (bytes : List ℕ) (flags : List Bool) → BlankOutside pages bytes flags → BlankOutside pages (filled given 0 flags bytes) flags
blank_filled pages given bytes flags blank =
    record { bytes = λ k out. unmarked_stays given 0 flags bytes k (blank.flags k out) ∙ blank.bytes k out; flags = blank.flags }

-- A READ

-- a run of zeros
pub zeros_run : (l : List ℕ) (a n : ℕ) → a + n ≤ length l → ((k : ℕ) → k < n → get_or l (a + k) 0 ≡ 0) → take n (drop a l) ≡ replicate n 0
zeros_run l a n within zeros =
    run_is l (replicate n 0) a n 0 (length-replicate {A = ℕ} n 0) within (λ k under. zeros k under ∙ sym (get_or-replicate n k 0 0 under))

pub split_take : (l : List ℕ) (a m n : ℕ) → a + m ≤ length l → take (m + n) (drop a l) ≡ take m (drop a l) ++ take n (drop (a + m) l)
split_take l a m n within =
    let xs = drop a l in
    let long : length (take m xs) ≡ m = length-take-le m xs (omega (arith, length-drop a l)) in
    ap (λ (ys : List ℕ). take (m + n) ys) (sym (take-append-drop m xs))
    ∙ ap (λ (k : ℕ). take (k + n) (take m xs ++ drop m xs)) (sym long)
    ∙ take-append-add (take m xs) (drop m xs) n
    ∙ ap (λ (ys : List ℕ). take m xs ++ take n ys) (drop-drop m a l)

-- where only a part may be other than zeros
pub zeros_around : (l : List ℕ) (at n from to : ℕ) → from ≤ to → to ≤ n → at + n ≤ length l → ((k : ℕ) → k < from → get_or l (at + k) 0 ≡ 0) → ((k : ℕ) → to ≤ k → k < n → get_or l (at + k) 0 ≡ 0) → take n (drop at l) ≡ replicate from 0 ++ (take (to - from) (drop (at + from) l) ++ replicate (n - to) 0)
zeros_around l at n from to order last within before behind =
    let a : from + ((to - from) + (n - to)) ≡ n = omega arith in
    let b : at + from + (to - from) ≡ at + to = omega arith in
    ap (λ (k : ℕ). take k (drop at l)) (sym a)
    ∙ split_take l at from ((to - from) + (n - to)) (omega arith)
    ∙ ap (λ (ys : List ℕ). ys ++ take ((to - from) + (n - to)) (drop (at + from) l)) (zeros_run l at from (omega arith) before)
    ∙ ap (λ (ys : List ℕ). replicate from 0 ++ ys) (split_take l (at + from) (to - from) (n - to) (omega arith))
    ∙ ap (λ (k : ℕ). replicate from 0 ++ (take (to - from) (drop (at + from) l) ++ take (n - to) (drop k l))) b
    ∙ ap (λ (ys : List ℕ). replicate from 0 ++ (take (to - from) (drop (at + from) l) ++ ys)) (zeros_run l (at + to) (n - to) (omega arith) (λ k under.
    let e : at + (to + k) ≡ at + to + k = omega arith in
    ap (λ (j : ℕ). get_or l j 0) (sym e) ∙ behind (to + k) (omega arith) (omega arith)))

-- what is kept of a range of one page that has room is what is seen of it
pub range_read : (pages : List Page) (bytes : List ℕ) (at n size : ℕ) (page : Page) → HaveRooms pages (length bytes) → page ≡ nth_page pages (at / 4096) → (page.room ≡ 2 ^ 64 - 1 → ⊥) → at % 4096 + n ≤ 4096 → at + n ≤ size → slice_range bytes (4096 * page.room + at % 4096) (4096 * page.room + at % 4096 + n) ≡ slice_range (seen pages 0 bytes size) at (at + n)
range_read pages bytes at n size page rooms is given one within =
    let room = ap (λ (p : Page). p.room) is in
    ap (λ (r : ℕ). slice_range bytes (4096 * r + at % 4096) (4096 * r + at % 4096 + n)) room
    ∙ sym (seen_range pages 0 bytes at n size rooms one (is_given pages (length bytes) (at / 4096) rooms (λ far. given (room ∙ far))) within)

-- the bytes of a page outside its range
module _ (pages : List Page) (all : List ℕ) (marked : List Bool) (blank : BlankOutside pages all marked) (at : ℕ) (e : Page) (whole : at % 4096 ≡ 0) (is : e ≡ nth_page pages (at / 4096)) (k : ℕ) (within : k < 4096) where
  same_page : nth_page pages ((at + k) / 4096) ≡ e
  same_page = let page : (at + k) / 4096 ≡ at / 4096 = omega arith in ap (λ (j : ℕ). nth_page pages j) page ∙ sym is

  pub zero_before : k < e.from → get_or all (at + k) 0 ≡ 0
  zero_before low =
      blank.bytes (at + k) (λ covers.
      let place : (at + k) % 4096 ≡ k = omega arith in
      let from : e.from ≤ (at + k) % 4096 = subst (λ (x : Page). x.from ≤ (at + k) % 4096) same_page covers.from in
      omega arith)

  pub zero_behind : e.to ≤ k → get_or all (at + k) 0 ≡ 0
  zero_behind high =
      blank.bytes (at + k) (λ covers.
      let place : (at + k) % 4096 ≡ k = omega arith in
      let to : (at + k) % 4096 < e.to = subst (λ (x : Page). (at + k) % 4096 < x.to) same_page covers.to in
      omega arith)

-- a page is read
pub page_seen : (pages : List Page) (bytes into : List ℕ) (flags : List Bool) (size at : ℕ) (e : Page) → HaveRooms pages (length bytes) → BlankOutside pages (seen pages 0 bytes size) flags → at % 4096 ≡ 0 → e ≡ nth_page pages (at / 4096) → at + 4096 ≤ size → (e.to ≤ e.from → into ≡ replicate 4096 0) → (e.from < e.to → into ≡ replicate e.from 0 ++ (slice_range bytes (4096 * e.room + e.from) (4096 * e.room + e.to) ++ replicate (4096 - e.to) 0)) → into ≡ slice_range (seen pages 0 bytes size) at (at + 4096)
page_seen pages bytes into flags size at e rooms blank whole is within none some =
    let all = seen pages 0 bytes size in
    let long = length-seen pages 0 bytes size in
    let fits : at + 4096 ≤ length all = omega (arith, long, within) in
    let last : e.to ≤ 4096 = omega (arith, ap (λ (p : Page). p.to) is, rooms.within (at / 4096)) in
    let before = zero_before pages all flags blank at e whole is in
    let behind = zero_behind pages all flags blank at e whole is in
    let a : 4096 ≡ (at + 4096) - at = omega arith in
    elim (cases_lt e.from e.to) [
      | inl less ↦
          (let n = e.to - e.from in
          let near : at % 4096 + e.from < 4096 = omega (arith, whole, less, last) in
          let one : (at + e.from) % 4096 + n ≤ 4096 = omega (arith, whole, less, last) in
          let page : (at + e.from) / 4096 ≡ at / 4096 = omega (arith, whole, less, last) in
          let first : e.from < 4096 = omega (arith, less, last) in
          let here : 4096 * (nth_page pages ((at + e.from) / 4096)).room < length bytes =
          subst (λ (j : ℕ). 4096 * (nth_page pages j).room < length bytes) (sym page) (range_kept pages (length bytes) (at / 4096) e rooms is first) in
          let place : home pages (at + e.from) ≡ 4096 * e.room + e.from =
          home_in pages at e.from near
          ∙ (let f : 4096 * (nth_page pages (at / 4096)).room + at % 4096 + e.from ≡ 4096 * e.room + e.from = omega (arith, whole, ap (λ (p : Page). p.room) is) in f) in
          let wide : (4096 * e.room + e.to) - (4096 * e.room + e.from) ≡ n = omega arith in
          let b : n ≡ (at + e.from + n) - (at + e.from) = omega arith in
          let d : (4096 * e.room + e.from + n) - (4096 * e.room + e.from) ≡ n = omega arith in
          some less
          ∙ ap (λ (k : ℕ). replicate e.from 0 ++ (take k (drop (4096 * e.room + e.from) bytes) ++ replicate (4096 - e.to) 0)) (wide ∙ sym d)
          ∙ ap (λ (k : ℕ). replicate e.from 0 ++ (take ((k + n) - k) (drop k bytes) ++ replicate (4096 - e.to) 0)) (sym place)
          ∙ ap (λ (l : List ℕ). replicate e.from 0 ++ (l ++ replicate (4096 - e.to) 0)) (sym (seen_range pages 0 bytes (at + e.from) n size rooms one here (omega (arith, within, last, less))))
          ∙ ap (λ (k : ℕ). replicate e.from 0 ++ (take k (drop (at + e.from) all) ++ replicate (4096 - e.to) 0)) (sym b)
          ∙ sym (zeros_around all at 4096 e.from e.to (omega arith) last fits (λ k under. before k (omega (arith, under, first)) under) (λ k over under. behind k under over))
          ∙ ap (λ (k : ℕ). take k (drop at all)) a)
      | inr over ↦
          none over
          ∙ sym (zeros_run all at 4096 fits (λ k under.
          elim (cases_lt k e.from) [
            | inl low ↦ before k under low
            | inr high ↦ behind k under (omega arith)
          ]))
          ∙ ap (λ (k : ℕ). take k (drop at all)) a
    ]
