-- What a disk shows of what it keeps.
use Rattle.std.proofs.Common.{◌≡◌, ℕ, ◌+◌, ◌-◌, ◌*◌, ◌/◌, ◌%◌, ◌<◌, ◌≤◌, Bool, false, List, length, get_or, set, take, drop, replicate, refl, sym, ◌∙◌, ap, subst, arith, length-drop, length-set}
use Rattle.std.proofs.lemmas.List.{length-replicate, get_or-replicate, get_or_past, get_or-set_same, get_or-set_other, ext_get_or, length-take-le, get_or-take, get_or-drop}
use Rattle.std.proofs.lemmas.List.FromFn.{length-map-range_with_len, get_or-map-range_with_len}
use Rattle.disk.specs.declared.pages.Page.{Page}
use Rattle.disk.specs.Disk.{put_at}
use Rattle.disk.specs.Image.{Contents}
use Rattle.disk.specs.Pages.{nth_page, home, seen, HaveRooms}
use Rattle.disk.proofs.CrashLemmas.{length-put, put-inside}
use Rattle.disk.proofs.ListLemmas.{set_each, run_is}
use Rattle.disk.proofs.PutLemmas.{put_each}

pub length-seen : {X : Type 0} (pages : List Page) (blank : X) (kept : List X) (size : ℕ) → length (seen pages blank kept size) ≡ size
unfolding seen
length-seen pages blank kept size = length-map-range_with_len (λ k. get_or kept (home pages k) blank) 0 size

pub get_or-seen : {X : Type 0} (pages : List Page) (blank : X) (kept : List X) (size k : ℕ) → k < size → get_or (seen pages blank kept size) k blank ≡ get_or kept (home pages k) blank
unfolding seen
get_or-seen pages blank kept size k within =
    get_or-map-range_with_len (λ (j : ℕ). get_or kept (home pages j) blank) 0 size k k blank within (omega arith)

-- where each position is kept the same, the same is seen
pub seen_same : {X : Type 0} (old new : List Page) (blank : X) (before after : List X) (size : ℕ) → ((k : ℕ) → k < size → get_or after (home new k) blank ≡ get_or before (home old k) blank) → seen new blank after size ≡ seen old blank before size
seen_same old new blank before after size same =
    ext_get_or blank (seen new blank after size) (seen old blank before size) (length-seen new blank after size ∙ sym (length-seen old blank before size))
    (λ k inside.
    let k_in : k < size = omega (arith, length-seen new blank after size) in
    get_or-seen new blank after size k k_in ∙ same k k_in ∙ sym (get_or-seen old blank before size k k_in))

-- blanks alone are seen where nothing else is kept
pub seen_blank : {X : Type 0} (pages : List Page) (blank : X) (kept : List X) (size : ℕ) → ((j : ℕ) → get_or kept j blank ≡ blank) → seen pages blank kept size ≡ replicate size blank
seen_blank pages blank kept size none =
    ext_get_or blank (seen pages blank kept size) (replicate size blank) (length-seen pages blank kept size ∙ sym (length-replicate size blank))
    (λ k inside.
    let k_in : k < size = omega (arith, length-seen pages blank kept size) in
    get_or-seen pages blank kept size k k_in ∙ none (home pages k) ∙ sym (get_or-replicate size k blank blank k_in))

-- positions of one page are kept side by side
pub home_in : (pages : List Page) (at j : ℕ) → at % 4096 + j < 4096 → home pages (at + j) ≡ home pages at + j
home_in pages at j one =
    let page : (at + j) / 4096 ≡ at / 4096 = omega arith in
    let place : (at + j) % 4096 ≡ at % 4096 + j = omega arith in
    ap (λ (i : ℕ). 4096 * (nth_page pages i).room + (at + j) % 4096) page
    ∙ (let room = (nth_page pages (at / 4096)).room in
    let e : 4096 * room + (at + j) % 4096 ≡ 4096 * room + at % 4096 + j = omega (arith, place) in
    e)

-- a page that has room has all of it
pub whole_room : (pages : List Page) (n i : ℕ) → HaveRooms pages n → 4096 * (nth_page pages i).room < n → 4096 * (nth_page pages i).room + 4096 ≤ n
whole_room pages n i rooms here = omega (arith, rooms.all)

-- no two positions are kept in one place
pub home_own : (pages : List Page) (n k m : ℕ) → HaveRooms pages n → home pages k ≡ home pages m → home pages k < n → k ≡ m
home_own pages n k m rooms same kept =
    let a = (nth_page pages (k / 4096)).room in
    let b = (nth_page pages (m / 4096)).room in
    let eq : 4096 * a + k % 4096 ≡ 4096 * b + m % 4096 = same in
    let under : 4096 * a + k % 4096 < n = kept in
    let room : a ≡ b = omega (arith, eq) in
    let place : k % 4096 ≡ m % 4096 = omega (arith, eq) in
    let page : k / 4096 ≡ m / 4096 = rooms.own (k / 4096) (m / 4096) room (omega (arith, under)) in
    omega (arith, page, place)

-- A WRITE

module _ {X : Type 0} (pages : List Page) (blank : X) (kept items : List X) (at size : ℕ) (rooms : HaveRooms pages (length kept)) (one : at % 4096 + length items ≤ 4096) (here : 4096 * (nth_page pages (at / 4096)).room < length kept) (within : at + length items ≤ size) where
  pub fits : home pages at + length items ≤ length kept
  fits =
      let room = (nth_page pages (at / 4096)).room in
      let all : 4096 * room + 4096 ≤ length kept = whole_room pages (length kept) (at / 4096) rooms here in
      let e : 4096 * room + at % 4096 + length items ≤ length kept = omega (arith, all) in
      e

  -- a position outside the range is kept outside of it
  other : (k : ℕ) → (at ≤ k → k < at + length items → ⊥) → get_or (put_at kept (home pages at) items) (home pages k) blank ≡ get_or kept (home pages k) blank
  other k out =
      put_each kept items (home pages at) blank fits (λ (x : X). x ≡ get_or kept (home pages k) blank) (home pages k)
      (λ j is under.
      let there : home pages (at + j) ≡ home pages k = home_in pages at j (omega (arith, one, under)) ∙ is in
      let same : at + j ≡ k = home_own pages (length kept) (at + j) k rooms there (omega (arith, there, is, under, fits)) in
      absurd (out (omega (arith, same)) (omega (arith, same, under))))
      (λ off. refl)

  pub seen_put : seen pages blank (put_at kept (home pages at) items) size ≡ put_at (seen pages blank kept size) at items
  seen_put =
      let old = seen pages blank kept size in
      let long = length-seen pages blank kept size in
      let room : at + length items ≤ length old = omega (arith, long, within) in
      let put = put_at kept (home pages at) items in
      let many = length-seen pages blank put size in
      ext_get_or blank (seen pages blank put size) (put_at old at items) (many ∙ sym (length-put old at items room blank ∙ long))
      (λ k inside.
      let k_in : k < size = omega (arith, many) in
      let now = get_or-seen pages blank put size k k_in in
      put_each old items at blank room (λ (x : X). get_or (seen pages blank put size) k blank ≡ x) k
      (λ j is under.
      let there : home pages k ≡ home pages at + j = ap (λ (i : ℕ). home pages i) (sym is) ∙ home_in pages at j (omega (arith, one, under)) in
      now ∙ ap (λ (i : ℕ). get_or put i blank) there ∙ put-inside kept (home pages at) items fits blank j under)
      (λ off. now ∙ other k off ∙ sym (get_or-seen pages blank kept size k k_in)))

-- one position alone
pub seen_set : {X : Type 0} (pages : List Page) (blank y : X) (kept : List X) (i size : ℕ) → HaveRooms pages (length kept) → home pages i < length kept → i < size → seen pages blank (set kept (home pages i) y) size ≡ set (seen pages blank kept size) i y
seen_set {X} pages blank y kept i size rooms here within =
    let old = seen pages blank kept size in
    let long = length-seen pages blank kept size in
    let new = seen pages blank (set kept (home pages i) y) size in
    let many = length-seen pages blank (set kept (home pages i) y) size in
    ext_get_or blank new (set old i y) (many ∙ sym (length-set old i y ∙ long))
    (λ k inside.
    let k_in : k < size = omega (arith, many) in
    let now = get_or-seen pages blank (set kept (home pages i) y) size k k_in in
    set_each old i y blank (omega (arith, long, within)) (λ (x : X). get_or new k blank ≡ x) k
    (λ is. now ∙ ap (λ (j : ℕ). get_or (set kept (home pages i) y) (home pages j) blank) is ∙ get_or-set_same kept (home pages i) y blank here)
    (λ off.
    now
    ∙ get_or-set_other kept (home pages i) (home pages k) y blank (λ same. off (sym (home_own pages (length kept) i k rooms (sym same) here)))
    ∙ sym (get_or-seen pages blank kept size k k_in)))

-- A READ

-- a range of one page that has room
pub seen_range : {X : Type 0} (pages : List Page) (blank : X) (kept : List X) (at n size : ℕ) → HaveRooms pages (length kept) → at % 4096 + n ≤ 4096 → 4096 * (nth_page pages (at / 4096)).room < length kept → at + n ≤ size → take ((at + n) - at) (drop at (seen pages blank kept size)) ≡ take ((home pages at + n) - home pages at) (drop (home pages at) kept)
seen_range pages blank kept at n size rooms one here within =
    let old = seen pages blank kept size in
    let place = home pages at in
    let room = (nth_page pages (at / 4096)).room in
    let all : 4096 * room + 4096 ≤ length kept = whole_room pages (length kept) (at / 4096) rooms here in
    let fit : 4096 * room + at % 4096 + n ≤ length kept = omega (arith, all) in
    let a : (at + n) - at ≡ n = omega arith in
    let b : (place + n) - place ≡ n = omega arith in
    ap (λ (m : ℕ). take m (drop at old)) a
    ∙ run_is old (take n (drop place kept)) at n blank (length-take-le n (drop place kept) (omega (arith, length-drop place kept, fit))) (omega (arith, length-seen pages blank kept size, within))
    (λ j under.
    get_or-seen pages blank kept size (at + j) (omega (arith, within))
    ∙ ap (λ (i : ℕ). get_or kept i blank) (home_in pages at j (omega (arith, one)))
    ∙ sym (get_or-take n (drop place kept) j blank under ∙ get_or-drop place kept j blank))
    ∙ ap (λ (m : ℕ). take m (drop place kept)) (sym b)

-- a range of one page that has none
pub seen_nowhere : {X : Type 0} (pages : List Page) (blank : X) (kept : List X) (at n size : ℕ) → at % 4096 + n ≤ 4096 → length kept ≤ 4096 * (nth_page pages (at / 4096)).room → at + n ≤ size → take ((at + n) - at) (drop at (seen pages blank kept size)) ≡ replicate n blank
seen_nowhere pages blank kept at n size one past within =
    let old = seen pages blank kept size in
    let a : (at + n) - at ≡ n = omega arith in
    ap (λ (m : ℕ). take m (drop at old)) a
    ∙ run_is old (replicate n blank) at n blank (length-replicate n blank) (omega (arith, length-seen pages blank kept size, within))
    (λ j under.
    get_or-seen pages blank kept size (at + j) (omega (arith, within))
    ∙ ap (λ (i : ℕ). get_or kept i blank) (home_in pages at j (omega (arith, one)))
    ∙ get_or_past kept (home pages at + j) blank (let e : length kept ≤ 4096 * (nth_page pages (at / 4096)).room + at % 4096 + j = omega (arith, past) in e)
    ∙ sym (get_or-replicate n j blank blank under))

-- how long a disk is
pub size_is : (value : Contents) (pages : List Page) (bytes : List ℕ) (marked : List Bool) (size : ℕ) → record { bytes = seen pages 0 bytes size; unsynced = seen pages false marked size } ≡ value → length value.bytes ≡ size
size_is value pages bytes marked size is =
    ap (λ (s : Contents). length s.bytes) (sym is) ∙ length-seen pages 0 bytes size

-- of what is seen some was put, once what is kept has room for it
pub wrote : {X : Type 0} (old new : List Page) (blank : X) (before ready after items : List X) (at size n : ℕ) → seen new blank ready size ≡ seen old blank before size → HaveRooms new n → length ready ≡ n → at % 4096 + length items ≤ 4096 → 4096 * (nth_page new (at / 4096)).room < n → at + length items ≤ size → after ≡ put_at ready (home new at) items → seen new blank after size ≡ put_at (seen old blank before size) at items
wrote {X} old new blank before ready after items at size n same rooms long one here within put =
    let rooms_here : HaveRooms new (length ready) = subst (HaveRooms new) (sym long) rooms in
    ap (λ (l : List X). seen new blank l size) put
    ∙ seen_put new blank ready items at size rooms_here one (omega (arith, here, long)) within
    ∙ ap (λ (l : List X). put_at l at items) same
