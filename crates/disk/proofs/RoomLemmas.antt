-- Which pages have room, after a page got some and after its range was widened.
use Rattle.std.proofs.Common.{◌≡◌, ℕ, ◌+◌, ◌-◌, ◌*◌, ◌/◌, ◌%◌, ◌<◌, ◌≤◌, ◌^◌, Bool, true, false, cond, List, [], length, get_or, set, replicate, refl, sym, ◌∙◌, ap, inl, inr, arith, length-set}
use Rattle.std.specs.List.{count_by}
use Rattle.std.proofs.lemmas.Bool.{cases_lt, lt-ltb}
use Rattle.std.proofs.lemmas.List.{get_or_past}
use Rattle.std.proofs.lemmas.List.Folds.{sum_by-replicate}
use Rattle.std.proofs.lemmas.List.Sums.{sum_by-set, count_by-le-length}
use Rattle.disk.specs.declared.pages.Page.{Page}
use Rattle.disk.specs.Pages.{unwritten, nth_page, home, has_room, seen, HaveRooms, Covers}
use Rattle.disk.proofs.ListLemmas.{get_or_more, set_each}
use Rattle.disk.proofs.SeenLemmas.{seen_same, whole_room}

-- COUNTS

count_raised : {X : Type 0} (p : X → Bool) (xs : List X) (i : ℕ) (y d : X) → i < length xs → p (get_or xs i d) ≡ false → p y ≡ true → count_by p (set xs i y) ≡ count_by p xs + 1
count_raised {X} p xs i y d within missing counted =
    let f : X → ℕ = λ x. cond (p x) 1 0 in
    let was : f (get_or xs i d) ≡ 0 = ap (λ (b : Bool). cond {A = ℕ} b 1 0) missing in
    let is : f y ≡ 1 = ap (λ (b : Bool). cond {A = ℕ} b 1 0) counted in
    omega (arith, sum_by-set f xs i y d within, was, is)

count_same : {X : Type 0} (p : X → Bool) (xs : List X) (i : ℕ) (y d : X) → i < length xs → p y ≡ p (get_or xs i d) → count_by p (set xs i y) ≡ count_by p xs
count_same {X} p xs i y d within same =
    let f : X → ℕ = λ x. cond (p x) 1 0 in
    let is : f y ≡ f (get_or xs i d) = ap (λ (b : Bool). cond {A = ℕ} b 1 0) same in
    omega (arith, sum_by-set f xs i y d within, is)

count_none : {X : Type 0} (p : X → Bool) (n : ℕ) (y : X) → p y ≡ false → count_by p (replicate n y) ≡ 0
count_none {X} p n y missing =
    let f : X → ℕ = λ x. cond (p x) 1 0 in
    let is : f y ≡ 0 = ap (λ (b : Bool). cond {A = ℕ} b 1 0) missing in
    sum_by-replicate f n y ∙ ap (λ (k : ℕ). n * k) is ∙ (let z : n * 0 ≡ 0 = omega arith in z)

-- ROOMS

-- a fresh disk keeps nothing
pub rooms_fresh : (n : ℕ) → HaveRooms (replicate n unwritten) 0
rooms_fresh n =
    record {
      own = λ i j same under. absurd (omega (arith, under));
      others = λ i past. get_or_more [] n i unwritten;
      within = λ i. (let e : (nth_page (replicate n unwritten) i).to ≡ 0 = ap (λ (p : Page). p.to) (get_or_more [] n i unwritten) in omega (arith, e));
      all = (let e : count_by has_room (replicate n unwritten) ≡ 0 = count_none has_room n unwritten refl in omega (arith, e));
    }

module _ (pages : List Page) (n i : ℕ) (rooms : HaveRooms pages n) where
  -- a page that has no room is as at first
  pub none_given : (nth_page pages i).room ≡ 2 ^ 64 - 1 → n < 2 ^ 64 → nth_page pages i ≡ unwritten
  none_given nowhere small = rooms.others i (omega (arith, nowhere, small))

  -- any other has its own
  pub is_given : ((nth_page pages i).room ≡ 2 ^ 64 - 1 → ⊥) → 4096 * (nth_page pages i).room < n
  is_given given =
      elim (cases_lt (4096 * (nth_page pages i).room) n) [
        | inl under ↦ under
        | inr past ↦ absurd (given (ap (λ (p : Page). p.room) (rooms.others i past)))
      ]

-- all of the room of a page that was read
pub room_kept : (pages : List Page) (n i : ℕ) (page : Page) → HaveRooms pages n → page ≡ nth_page pages i → (page.room ≡ 2 ^ 64 - 1 → ⊥) → 4096 * page.room + 4096 ≤ n
room_kept pages n i page rooms is given =
    let room = ap (λ (p : Page). p.room) is in
    omega (arith, room, whole_room pages n i rooms (is_given pages n i rooms (λ e. given (room ∙ e))))

-- a page in whose range something is has room
pub range_kept : (pages : List Page) (n i : ℕ) (page : Page) → HaveRooms pages n → page ≡ nth_page pages i → page.from < 4096 → 4096 * (nth_page pages i).room < n
range_kept pages n i page rooms is written =
    elim (cases_lt (4096 * (nth_page pages i).room) n) [
      | inl under ↦ under
      | inr past ↦
          (let none : page.from ≡ 4096 = ap (λ (p : Page). p.from) (is ∙ rooms.others i past) in
          absurd (omega (arith, none, written)))
    ]

pub in_range : (pages : List Page) (n i : ℕ) (page : Page) → HaveRooms pages n → page ≡ nth_page pages i → page.from < 4096 → 4096 * page.room + 4096 ≤ n
in_range pages n i page rooms is written =
    omega (arith, ap (λ (p : Page). p.room) is, whole_room pages n i rooms (range_kept pages n i page rooms is written))

-- a range within that of its page: it is in one page, is kept, and is covered
pub record InPage (pages : List Page) (n at len : ℕ) (page : Page) : Type 0 where
  pub is : page ≡ nth_page pages (at / 4096)
  pub one : at % 4096 + len ≤ 4096
  pub kept : 4096 * page.room + 4096 ≤ n
  pub covered : (k : ℕ) → at ≤ k → k < at + len → Covers pages k

pub in_page : (pages : List Page) (n at len : ℕ) (page : Page) → HaveRooms pages n → page ≡ nth_page pages (at / 4096) → page.from ≤ at % 4096 → at % 4096 + len ≤ page.to → InPage pages n at len page
in_page pages n at len page rooms is low high =
    let one : at % 4096 + len ≤ 4096 = omega (arith, high, ap (λ (p : Page). p.to) is, rooms.within (at / 4096)) in
    record {
      is = is;
      one = one;
      kept = in_range pages n (at / 4096) page rooms is (omega (arith, low));
      covered = λ k from under.
          let there : k / 4096 ≡ at / 4096 = omega (arith, one, from, under) in
          let here : nth_page pages (k / 4096) ≡ page = ap (nth_page pages) there ∙ sym is in
          record {
            from = omega (arith, low, ap (λ (p : Page). p.from) here, from, there);
            to = omega (arith, high, ap (λ (p : Page). p.to) here, under, there, from, one);
          };
    }

-- a page that had no room gets the next
module _ (pages : List Page) (n i : ℕ) (page : Page) (rooms : HaveRooms pages n) (small : n < 2 ^ 64) (within : i < length pages) (nowhere : (nth_page pages i).room ≡ 2 ^ 64 - 1) (next : 4096 * page.room ≡ n) (from : page.from ≡ 4096) (to : page.to ≡ 0) where
  was : nth_page pages i ≡ unwritten
  was = none_given pages n i rooms nowhere small

  -- the next room is nobody's yet
  not_here : (j : ℕ) → (nth_page pages j).room ≡ page.room → ⊥
  not_here j same =
      let is : nth_page pages j ≡ unwritten = rooms.others j (omega (arith, same, next)) in
      let room : (nth_page pages j).room ≡ 2 ^ 64 - 1 = ap (λ (p : Page). p.room) is in
      omega (arith, room, same, next, small)

  one_more : count_by has_room (set pages i page) ≡ count_by has_room pages + 1
  one_more =
      let missing : has_room (nth_page pages i) ≡ false = ap has_room was in
      let counted : has_room page ≡ true = lt-ltb page.room (2 ^ 64 - 1) (omega (arith, next, small)) in
      count_raised has_room pages i page unwritten within missing counted

  -- there is room for it
  pub is_room : n + 4096 ≤ 4096 * length pages
  is_room = omega (arith, one_more, count_by-le-length has_room (set pages i page), length-set pages i page, rooms.all)

  -- what is known of a room among those of before
  under_n : (a : ℕ) → 4096 * (nth_page pages a).room < n + 4096 → 4096 * (nth_page pages a).room < n
  under_n a under =
      elim (cases_lt (4096 * (nth_page pages a).room) n) [
        | inl u ↦ u
        | inr past ↦ (let far : (nth_page pages a).room ≡ 2 ^ 64 - 1 = ap (λ (p : Page). p.room) (rooms.others a past) in absurd (omega (arith, far, under, small)))
      ]

  pub rooms_given : HaveRooms (set pages i page) (n + 4096)
  rooms_given =
      let each = set_each pages i page unwritten within in
      record {
        own = λ a b. each (λ (p : Page). p.room ≡ (nth_page (set pages i page) b).room → 4096 * p.room < n + 4096 → a ≡ b) a
            (λ a_is. each (λ (p : Page). page.room ≡ p.room → 4096 * page.room < n + 4096 → a ≡ b) b (λ b_is same under. a_is ∙ sym b_is) (λ off same under. absurd (not_here b (sym same))))
            (λ off. each (λ (p : Page). (nth_page pages a).room ≡ p.room → 4096 * (nth_page pages a).room < n + 4096 → a ≡ b) b (λ b_is same under. absurd (not_here a same)) (λ off same under. rooms.own a b same (under_n a under)));
        others = λ j. each (λ (p : Page). n + 4096 ≤ 4096 * p.room → p ≡ unwritten) j (λ is past. absurd (omega (arith, past, next))) (λ off past. rooms.others j (omega (arith, past)));
        within = λ j. each (λ (p : Page). p.to ≤ 4096) j (λ is. omega (arith, to)) (λ off. rooms.within j);
        all = omega (arith, one_more, rooms.all);
      }

  -- where it had none before nothing was covered, and nothing is
  pub same_covers : (k : ℕ) → (Covers (set pages i page) k → Covers pages k) × (Covers pages k → Covers (set pages i page) k)
  same_covers k =
      let each = set_each pages i page unwritten within in
      let before : (j : ℕ) → j ≡ i → nth_page pages j ≡ unwritten = λ j is. ap (nth_page pages) is ∙ was in
      let a = each (λ (p : Page). p.from ≡ (nth_page pages (k / 4096)).from) (k / 4096) (λ is. from ∙ ap (λ (p : Page). p.from) (sym (before (k / 4096) is))) (λ off. refl) in
      let b = each (λ (p : Page). p.to ≡ (nth_page pages (k / 4096)).to) (k / 4096) (λ is. to ∙ ap (λ (p : Page). p.to) (sym (before (k / 4096) is))) (λ off. refl) in (
        λ covers. record { from = omega (arith, covers.from, a); to = omega (arith, covers.to, b) },
        λ covers. record { from = omega (arith, covers.from, a); to = omega (arith, covers.to, b) },
      )

  -- what is added is blank, so the same is seen
  pub same_seen : {X : Type 0} (blank : X) (old new : List X) → ((q : ℕ) → get_or new q blank ≡ get_or old q blank) → length old ≤ n → (size : ℕ) → seen (set pages i page) blank new size ≡ seen pages blank old size
  same_seen {X} blank old new same few size =
      seen_same pages (set pages i page) blank old new size (λ k inside.
      same (home (set pages i page) k)
      ∙ set_each pages i page unwritten within (λ (p : Page). get_or old (4096 * p.room + k % 4096) blank ≡ get_or old (home pages k) blank) (k / 4096)
      (λ is.
      let before : (nth_page pages (k / 4096)).room ≡ 2 ^ 64 - 1 = ap (λ (j : ℕ). (nth_page pages j).room) is ∙ nowhere in
      get_or_past old (4096 * page.room + k % 4096) blank (omega (arith, next, few))
      ∙ sym (get_or_past old (home pages k) blank (let e : length old ≤ 4096 * (nth_page pages (k / 4096)).room + k % 4096 = omega (arith, before, few, small) in e)))
      (λ off. refl))

-- where its page was widened a range is still kept
pub kept_after : (old new : List Page) (n at : ℕ) (page : Page) → HaveRooms new n → home new at ≡ home old at → 4096 * (nth_page old (at / 4096)).room < n → page ≡ nth_page new (at / 4096) → 4096 * page.room + 4096 ≤ n
kept_after old new n at page rooms same here is =
    let e : 4096 * (nth_page new (at / 4096)).room + at % 4096 ≡ 4096 * (nth_page old (at / 4096)).room + at % 4096 = same in
    omega (arith, ap (λ (p : Page). p.room) is, whole_room new n (at / 4096) rooms (omega (arith, e, here)))
