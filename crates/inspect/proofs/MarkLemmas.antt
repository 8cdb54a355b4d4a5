-- Marks of pairs, as one is set.
use Rattle.std.proofs.Common.{◌≡◌, ◌≢◌, ◌<◌, ◌≤◌, ◌==◌, ◌&&◌, ◌||◌, nat_lt, ◌+◌, ◌*◌, ℕ, Bool, true, false, not, List, length, slice_index_or, slice_set, slice_get, Some, refl, sym, ap, ◌∙◌, subst, arith, rules, nat_eq, inl, inr, ◌⊎◌, [], ◌∷◌, ◌++◌, zero, suc, replicate, true≢false}
use Rattle.std.proofs.lemmas.List.{get_or-set_same, get_or-set_other, get_or_append_left, length-append}
use Rattle.std.proofs.Math.Seq.{get_or-append_seam}
use Rattle.std.proofs.lemmas.Option.{get_or_from_slice_get, slice_get_read}
use Rattle.std.proofs.lemmas.Bool.{eqb-true, eqb-false}
use Rattle.lock_command.specs.declared.record.LockRecord.{LockRecord}
use Rattle.lock_command.specs.Name.{same_name}
use Rattle.lock_index.proofs.Apart.{and_first, name_is, same_name-itself}
use Rattle.inspect.specs.Blocked.{IsBlockedBy, is_blocked_by, is_held_against, in_one_queue, is_in_the_way}
use Rattle.inspect.specs.Marks.{ArePlaces, HasNameOf, HasWanting, IsListed, ListsWanting, IsQueue, IsRun, IsSeen, Marked, MarksPair, MarksPlace, MarksRun}
use Rattle.lock_command.specs.State.{is_waiting, is_converting}
use Rattle.lock_command.specs.declared.state.LockState.{LockState}
use Rattle.lock_command.specs.declared.state.LockState.TheVariants.{Granted, Converting, Waiting}

-- a number is this one, or it is not
pub same_or_not : (i j : ℕ) → (i ≡ j) ⊎ (i ≢ j)
same_or_not i j = on_test (nat_eq i j) refl
  where
    on_test : (b : Bool) → nat_eq i j ≡ b → (i ≡ j) ⊎ (i ≢ j)
    on_test true is = inl (eqb-true i j is)
    on_test false is = inr (eqb-false i j is)

-- a mark that is set is a mark that was there, or that of the pair
pub marked_before : (edges : List Bool) (c d a b : ℕ) → c < 256 → d < 256 → Marked (slice_set edges (256 * c + d) true) a b → Marked edges a b ⊎ ((a ≡ c) × (b ≡ d))
marked_before edges c d a b c_fits d_fits m = elim (same_or_not (256 * a + b) (256 * c + d)) [
  | inl is ↦ inr (omega (arith, is, c_fits, d_fits, m.a_fits, m.b_fits), omega (arith, is, c_fits, d_fits, m.a_fits, m.b_fits))
  | inr other ↦ inl (record { a_fits = m.a_fits; b_fits = m.b_fits; set = sym (get_or-set_other edges (256 * c + d) (256 * a + b) true false other) ∙ m.set })
]

-- ALL PAIRS

pub before_or_from : (j n : ℕ) → (j < n) ⊎ (n ≤ j)
before_or_from j zero = inr (omega arith)
before_or_from zero (suc n) = inl (omega arith)
before_or_from (suc j) (suc n) = elim (before_or_from j n) [
  | inl lt ↦ inl (omega (arith, lt))
  | inr le ↦ inr (omega (arith, le))
]

pub below_next : (P : ℕ → Type 0) (n : ℕ) → ((k : ℕ) → k < n → P k) → P n → (k : ℕ) → k < n + 1 → P k
below_next P n below here k lt = elim (same_or_not k n) [
  | inl is ↦ subst P (sym is) here
  | inr other ↦ below k (search rules)
]

pub marks_more : (locks : List LockRecord) (i start j : ℕ) (old new : List Bool) → ((a b : ℕ) → Marked old a b → Marked new a b) → MarksRun locks i start j old → MarksPair locks i j new → MarksRun locks i start (j + 1) new
marks_more locks i start j old new kept before pair k from lt = elim (same_or_not k j) [
  | inl is ↦ subst (λ n. MarksPair locks i n new) (sym is) pair
  | inr other ↦ λ x y at_x at_y blocked. kept x.client y.client (before k from (search rules) x y at_x at_y blocked)
]

pub runs_more : (locks : List LockRecord) (wanting : List ℕ) (at start end : ℕ) (old new : List Bool) → ((a b : ℕ) → Marked old a b → Marked new a b) → ((k : ℕ) → k < at → MarksRun locks (slice_index_or wanting k 0) start end old) → MarksRun locks (slice_index_or wanting at 0) start end new → (k : ℕ) → k < at + 1 → MarksRun locks (slice_index_or wanting k 0) start end new
runs_more locks wanting at start end old new kept before run = below_next (λ k. MarksRun locks (slice_index_or wanting k 0) start end new) at (λ k lt j from ltj x y at_x at_y blocked. kept x.client y.client (before k lt j from ltj x y at_x at_y blocked)) run

-- the places before a run, and those of the run
pub places_more : (locks : List LockRecord) (i start end : ℕ) (old new : List Bool) → ((a b : ℕ) → Marked old a b → Marked new a b) → MarksPlace locks i start old → MarksRun locks i start end new → MarksPlace locks i end new
places_more locks i start end old new kept before run j lt = elim (before_or_from j start) [
  | inl below ↦ λ x y at_x at_y blocked. kept x.client y.client (before j below x y at_x at_y blocked)
  | inr from ↦ run j from lt
]

-- RUNS

pub and_second : (a b : Bool) → (a && b) ≡ true → b ≡ true
and_second true b h = h
and_second false b h = absurd (true≢false (sym h))

-- what blocks a lock is in its way, and has its name
pub in_its_way : (i : ℕ) (x : LockRecord) (j : ℕ) (y : LockRecord) → is_blocked_by i x j y ≡ true → is_in_the_way i x j y ≡ true
in_its_way i x j y blocked = and_first (is_in_the_way i x j y) (same_name x.name y.name) blocked

pub of_its_name : (i : ℕ) (x : LockRecord) (j : ℕ) (y : LockRecord) → is_blocked_by i x j y ≡ true → x.name ≡ y.name
of_its_name i x j y blocked = name_is x.name y.name (and_second (is_in_the_way i x j y) (same_name x.name y.name) blocked)

pub blocks : (i : ℕ) (x : LockRecord) (j : ℕ) (y : LockRecord) → is_in_the_way i x j y ≡ true → x.name ≡ y.name → is_blocked_by i x j y ≡ true
blocks i x j y way is = ap (λ b. b && same_name x.name y.name) way ∙ (ap (λ n. same_name n y.name) is ∙ same_name-itself y.name)

-- what a comparison of two locks of the list tells of their names
pub as_read : (locks : List LockRecord) (i j : ℕ) (x y : LockRecord) (same : Bool) → x ≡ slice_index_or locks i x → y ≡ slice_index_or locks j y → same_name (slice_index_or locks i x).name (slice_index_or locks j y).name ≡ same → same_name x.name y.name ≡ same
as_read locks i j x y same is_x is_y told = ap (λ (r : LockRecord). same_name r.name y.name) is_x ∙ ap (λ (r : LockRecord). same_name (slice_index_or locks i x).name r.name) is_y ∙ told

pub is_not : (b : Bool) → not b ≡ true → b ≡ false
is_not true h = sym h
is_not false h = refl

pub was_not : (b : Bool) → not b ≡ false → b ≡ true
was_not true h = refl
was_not false h = sym h

pub starts_within : {start end n : ℕ} → (start < end) × (end ≤ n) → start < n
starts_within h = omega (arith, h.0, h.1)

-- one more of the same name
pub run_more : (locks : List LockRecord) (start end : ℕ) (first next : LockRecord) → first ≡ slice_index_or locks start first → next ≡ slice_index_or locks end next → same_name next.name first.name ≡ true → IsRun locks start end → IsRun locks start (end + 1)
run_more locks start end first next is_first is_next same run j x y from lt at_x at_y = elim (same_or_not j end) [
  | inl is ↦
      let x_is : first ≡ x = is_first ∙ get_or_from_slice_get locks start x first at_x in
      let y_is : next ≡ y = is_next ∙ get_or_from_slice_get locks end y next (subst (λ n. slice_get locks n ≡ Some y) is at_y) in
      ap (λ (r : LockRecord). r.name) (sym x_is) ∙ sym (name_is next.name first.name same) ∙ ap (λ (r : LockRecord). r.name) y_is
  | inr other ↦ run j x y from (search rules) at_x at_y
]

-- no lock of a run of another name blocks it
pub none_of_run : (locks : List LockRecord) (i start end : ℕ) (own first : LockRecord) (edges : List Bool) → start < length locks → own ≡ slice_index_or locks i own → first ≡ slice_index_or locks start first → same_name own.name first.name ≡ false → IsRun locks start end → MarksRun locks i start end edges
none_of_run locks i start end own first edges fits is_own is_first other run j from lt x y at_x at_y blocked =
    let x_is : own ≡ x = is_own ∙ get_or_from_slice_get locks i x own at_x in
    let named : own.name ≡ first.name = ap (λ (r : LockRecord). r.name) x_is ∙ of_its_name i x j y blocked ∙ sym (run j first y from lt (slice_get_read locks (length locks) start first refl fits is_first) at_y) in
    absurd (true≢false (sym (same_name-itself first.name) ∙ ap (λ n. same_name n first.name) (sym named) ∙ other))

-- each lock of a run of its name has its name
pub of_run : (locks : List LockRecord) (i start end j : ℕ) (own first : LockRecord) → start < length locks → own ≡ slice_index_or locks i own → first ≡ slice_index_or locks start first → same_name own.name first.name ≡ true → IsRun locks start end → start ≤ j → j < end → (x y : LockRecord) → slice_get locks i ≡ Some x → slice_get locks j ≡ Some y → x.name ≡ y.name
of_run locks i start end j own first fits is_own is_first same run from lt x y at_x at_y =
    let x_is : own ≡ x = is_own ∙ get_or_from_slice_get locks i x own at_x in
    ap (λ (r : LockRecord). r.name) (sym x_is) ∙ name_is own.name first.name same ∙ run j first y from lt (slice_get_read locks (length locks) start first refl fits is_first) at_y

-- the pair that is marked is one that blocks
pub one_marked : (locks : List LockRecord) (i j : ℕ) (x y : LockRecord) (edges : List Bool) → i < length locks → j < length locks → x ≡ slice_index_or locks i x → y ≡ slice_index_or locks j y → x.name ≡ y.name → is_in_the_way i x j y ≡ true → x.client < 256 → y.client < 256 → (a b : ℕ) → Marked (slice_set edges (256 * x.client + y.client) true) a b → Marked edges a b ⊎ IsBlockedBy locks a b
one_marked locks i j x y edges i_fits j_fits is_x is_y named way x_fits y_fits a b m = elim (marked_before edges x.client y.client a b x_fits y_fits m) [
  | inl before ↦ inl before
  | inr is ↦ inr (record { i = i; x = x; j = j; y = y; is_x = slice_get_read locks (length locks) i x refl i_fits is_x; is_y = slice_get_read locks (length locks) j y refl j_fits is_y; blocked = blocks i x j y way named; by_client = sym is.0; of_client = sym is.1 })
]

pub is_below : {X : Type 0} (xs : List X) (k : ℕ) (x : X) → slice_get xs k ≡ Some x → k < length xs
is_below [] k x is = absurd (cc)
is_below (y ∷ ys) zero x is = omega arith
is_below (y ∷ ys) (suc k) x is = let lt : k < length ys = is_below ys k x is in omega (arith, lt)

-- once all places were looked at, all edges are marked
pub all_marked : (locks : List LockRecord) (edges : List Bool) → ((k : ℕ) → k < length locks → MarksPlace locks k (length locks) edges) → (a b : ℕ) → IsBlockedBy locks a b → Marked edges a b
all_marked locks edges places a b e =
    let m : Marked edges e.x.client e.y.client = places e.i (is_below locks e.i e.x e.is_x) e.j (is_below locks e.j e.y e.is_y) e.x e.y e.is_x e.is_y e.blocked in
    subst (λ n. Marked edges n b) e.by_client (subst (λ n. Marked edges e.x.client n) e.of_client m)

-- no pair is marked at first
pub none_marked : (n a b : ℕ) → Marked (replicate n false) a b → ⊥
none_marked n a b m = true≢false (sym m.set ∙ get_or-replicate n (256 * a + b) false)
  where
    get_or-replicate : (n k : ℕ) (x : Bool) → slice_index_or (replicate n x) k x ≡ x
    get_or-replicate zero k x = refl
    get_or-replicate (suc n) zero x = refl
    get_or-replicate (suc n) (suc k) x = get_or-replicate n k x

-- QUEUES

-- for no client anything is seen at first
pub zero_seen : (n a : ℕ) → slice_index_or (replicate n 0) a 0 ≤ 0
zero_seen zero a = omega arith
zero_seen (suc n) zero = omega arith
zero_seen (suc n) (suc a) = zero_seen n a

-- what is seen before a run says nothing of its queue
pub none_seen : (locks : List LockRecord) (start queue end : ℕ) (edges : List Bool) (seen : List ℕ) → start ≤ queue → queue ≤ end → ((a : ℕ) → slice_index_or seen a 0 ≤ start) → IsSeen locks queue end edges seen
none_seen locks start queue end edges seen from to before = record {
  within = λ a. let le = before a in omega (arith, le, from, to);
  marked = λ a j y le lt at_y. let few = before a in absurd (omega (arith, few, from, le, lt));
}

pub seen_kept : (locks : List LockRecord) (queue end : ℕ) (old new : List Bool) (seen : List ℕ) → ((a b : ℕ) → Marked old a b → Marked new a b) → IsSeen locks queue end old seen → IsSeen locks queue end new seen
seen_kept locks queue end old new seen kept before = record {
  within = before.within;
  marked = λ a j y le lt at_y. kept a y.client (before.marked a j y le lt at_y);
}

-- marked from a place on, and seen before it
pub marks_both : (locks : List LockRecord) (i start queue end : ℕ) (old new : List Bool) → ((a b : ℕ) → Marked old a b → Marked new a b) → MarksRun locks i start queue old → MarksRun locks i queue end new → MarksRun locks i start end new
marks_both locks i start queue end old new kept before behind j from lt = elim (before_or_from j queue) [
  | inl below ↦ λ x y at_x at_y blocked. kept x.client y.client (before j from below x y at_x at_y blocked)
  | inr le ↦ behind j le lt
]

-- a lock that waits is blocked by each that waits before it in its run
way_before : (p q : Bool) (s t : LockState) → is_waiting s ≡ true → is_waiting t ≡ true → q ≡ true → ((p && is_held_against s t) || (q && in_one_queue s t) || (is_waiting s && is_converting t)) ≡ true
way_before p q (Granted m) t other _ _ = absurd (true≢false (sym other))
way_before p q (Converting h w) t other _ _ = absurd (true≢false (sym other))
way_before p q (Waiting m) (Granted n) _ other _ = absurd (true≢false (sym other))
way_before p q (Waiting m) (Converting h w) _ other _ = absurd (true≢false (sym other))
way_before p false (Waiting m) (Waiting n) _ _ other = absurd (true≢false (sym other))
way_before true true (Waiting m) (Waiting n) _ _ _ = refl
way_before false true (Waiting m) (Waiting n) _ _ _ = refl

waits_before : (i : ℕ) (x : LockRecord) (j : ℕ) (y : LockRecord) → is_waiting x.state ≡ true → is_waiting y.state ≡ true → j < i → is_in_the_way i x j y ≡ true
waits_before i x j y x_waits y_waits lt = way_before (not (x.lock == y.lock)) (nat_lt j i) x.state y.state x_waits y_waits (search (arith, rules, lt))

-- and by none that waits behind it
way_behind : (p q : Bool) (s t : LockState) → is_waiting t ≡ true → q ≡ false → ((p && is_held_against s t) || (q && in_one_queue s t) || (is_waiting s && is_converting t)) ≡ false
way_behind p q s (Granted m) other _ = absurd (true≢false (sym other))
way_behind p q s (Converting h w) other _ = absurd (true≢false (sym other))
way_behind p true s (Waiting n) _ other = absurd (true≢false other)
way_behind true false (Granted m) (Waiting n) _ _ = refl
way_behind false false (Granted m) (Waiting n) _ _ = refl
way_behind true false (Converting h w) (Waiting n) _ _ = refl
way_behind false false (Converting h w) (Waiting n) _ _ = refl
way_behind true false (Waiting m) (Waiting n) _ _ = refl
way_behind false false (Waiting m) (Waiting n) _ _ = refl

waits_behind : (i : ℕ) (x : LockRecord) (j : ℕ) (y : LockRecord) → is_waiting y.state ≡ true → i ≤ j → is_in_the_way i x j y ≡ false
waits_behind i x j y y_waits le = way_behind (not (x.lock == y.lock)) (nat_lt j i) x.state y.state y_waits (search (arith, rules, le))

-- a lock that does not wait is blocked by none that does
way_after : (p q : Bool) (s t : LockState) → is_waiting s ≡ false → is_waiting t ≡ true → ((p && is_held_against s t) || (q && in_one_queue s t) || (is_waiting s && is_converting t)) ≡ false
way_after p q s (Granted m) _ other = absurd (true≢false (sym other))
way_after p q s (Converting h w) _ other = absurd (true≢false (sym other))
way_after p q (Waiting m) (Waiting n) other _ = absurd (true≢false other)
way_after true true (Granted m) (Waiting n) _ _ = refl
way_after true false (Granted m) (Waiting n) _ _ = refl
way_after false true (Granted m) (Waiting n) _ _ = refl
way_after false false (Granted m) (Waiting n) _ _ = refl
way_after true true (Converting h w) (Waiting n) _ _ = refl
way_after true false (Converting h w) (Waiting n) _ _ = refl
way_after false true (Converting h w) (Waiting n) _ _ = refl
way_after false false (Converting h w) (Waiting n) _ _ = refl

waits_after : (i : ℕ) (x : LockRecord) (j : ℕ) (y : LockRecord) → is_waiting x.state ≡ false → is_waiting y.state ≡ true → is_in_the_way i x j y ≡ false
waits_after i x j y other y_waits = way_after (not (x.lock == y.lock)) (nat_lt j i) x.state y.state other y_waits

-- so the queue marks nothing for it
pub none_of_queue : (locks : List LockRecord) (i queue end : ℕ) (own : LockRecord) (edges : List Bool) → own ≡ slice_index_or locks i own → is_waiting own.state ≡ false → IsQueue locks queue end → MarksRun locks i queue end edges
none_of_queue locks i queue end own edges is_own other waiting j from lt x y at_x at_y blocked =
    let x_is : own ≡ x = is_own ∙ get_or_from_slice_get locks i x own at_x in
    let x_other : is_waiting x.state ≡ false = subst (λ (r : LockRecord). is_waiting r.state ≡ false) x_is other in
    absurd (true≢false (sym (in_its_way i x j y blocked) ∙ waits_after i x j y x_other (waiting j y from lt at_y)))

-- those of the queue before a place were seen for the client or are marked now, and those behind do not block
pub queue_marked : (locks : List LockRecord) (i queue end from to : ℕ) (old new : List Bool) (seen : List ℕ) (own : LockRecord) → own ≡ slice_index_or locks i own → IsQueue locks queue end
    → ((a b : ℕ) → Marked old a b → Marked new a b) → IsSeen locks queue end old seen → ((j : ℕ) → queue ≤ j → j < from → j < slice_index_or seen own.client 0) → ((j : ℕ) → to ≤ j → j < end → i ≤ j) → MarksRun locks i from to new → MarksRun locks i queue end new
queue_marked locks i queue end from to old new seen own is_own waiting kept s below behind marks j le lt x y at_x at_y blocked =
    let x_is : own ≡ x = is_own ∙ get_or_from_slice_get locks i x own at_x in
    elim (before_or_from j from) [
      | inl before ↦ subst (λ (r : LockRecord). Marked new r.client y.client) x_is (kept own.client y.client (s.marked own.client j y le (below j le before) at_y))
      | inr on ↦
          elim (before_or_from j to) [
            | inl inside ↦ marks j on inside x y at_x at_y blocked
            | inr past ↦ absurd (true≢false (sym (in_its_way i x j y blocked) ∙ waits_behind i x j y (waiting j y le lt at_y) (behind j past lt)))
          ]
    ]

-- and all of them up to the place are seen for its client then
pub seen_more : (locks : List LockRecord) (i queue end from to : ℕ) (old new : List Bool) (seen : List ℕ) (own : LockRecord) → own ≡ slice_index_or locks i own → i < length locks → own.client < length seen → IsQueue locks queue end → HasNameOf locks i queue end → is_waiting own.state ≡ true
    → ((a b : ℕ) → Marked old a b → Marked new a b) → IsSeen locks queue end old seen → ((j : ℕ) → queue ≤ j → j < from → j < slice_index_or seen own.client 0) → to ≤ i → to ≤ end → MarksRun locks i from to new → IsSeen locks queue end new (slice_set seen own.client to)
seen_more locks i queue end from to old new seen own is_own i_fits fits waiting named own_waits kept s below to_i to_end marks = record {
  within = λ a. elim (same_or_not a own.client) [
    | inl is ↦ let e : slice_index_or (slice_set seen own.client to) a 0 ≡ to = ap (λ n. slice_index_or (slice_set seen own.client to) n 0) is ∙ get_or-set_same seen own.client to 0 fits in omega (arith, e, to_end)
    | inr other ↦ let e : slice_index_or (slice_set seen own.client to) a 0 ≡ slice_index_or seen a 0 = get_or-set_other seen own.client a to 0 other in let le = s.within a in omega (arith, e, le)
  ];
  marked = λ a j y le lt at_y. elim (same_or_not a own.client) [
    | inl is ↦
        let e : slice_index_or (slice_set seen own.client to) a 0 ≡ to = ap (λ n. slice_index_or (slice_set seen own.client to) n 0) is ∙ get_or-set_same seen own.client to 0 fits in
        let j_to : j < to = omega (arith, e, lt) in
        let j_i : j < i = omega (arith, j_to, to_i) in
        let j_end : j < end = omega (arith, j_to, to_end) in
        let at_own : slice_get locks i ≡ Some own = slice_get_read locks (length locks) i own refl i_fits is_own in
        let here : Marked new own.client y.client =
        elim (before_or_from j from) [
          | inl before ↦ kept own.client y.client (s.marked own.client j y le (below j le before) at_y)
          | inr on ↦ marks j on j_to own y at_own at_y (blocks i own j y (waits_before i own j y own_waits (waiting j y le j_end at_y) j_i) (named j own y le j_end at_own at_y))
        ] in
        subst (λ n. Marked new n y.client) (sym is) here
    | inr other ↦
        let e : slice_index_or (slice_set seen own.client to) a 0 ≡ slice_index_or seen a 0 = get_or-set_other seen own.client a to 0 other in
        kept a y.client (s.marked a j y le (omega (arith, e, lt)) at_y)
  ];
}

-- LISTS

-- a lock that wants nothing is blocked by none
way_of_none : (p q : Bool) (s t : LockState) → (is_converting s || is_waiting s) ≡ false → ((p && is_held_against s t) || (q && in_one_queue s t) || (is_waiting s && is_converting t)) ≡ false
way_of_none p q (Converting h w) t wants = absurd (true≢false wants)
way_of_none p q (Waiting m) t wants = absurd (true≢false wants)
way_of_none true true (Granted m) t _ = refl
way_of_none true false (Granted m) t _ = refl
way_of_none false true (Granted m) t _ = refl
way_of_none false false (Granted m) t _ = refl

wants_none : (i : ℕ) (x : LockRecord) (j : ℕ) (y : LockRecord) → (is_converting x.state || is_waiting x.state) ≡ false → is_in_the_way i x j y ≡ false
wants_none i x j y other = way_of_none (not (x.lock == y.lock)) (nat_lt j i) x.state y.state other

true_or_false : (b : Bool) → (b ≡ true) ⊎ (b ≡ false)
true_or_false true = inl refl
true_or_false false = inr refl

-- once those that are listed are marked, all are
pub all_listed : (locks : List LockRecord) (wanting : List ℕ) (from to n : ℕ) (old new : List Bool) → ListsWanting locks from to wanting → ((a b : ℕ) → Marked old a b → Marked new a b)
    → ((k : ℕ) → k < from → MarksPlace locks k n old) → ((k : ℕ) → k < length wanting → MarksPlace locks (slice_index_or wanting k 0) n new) → (k : ℕ) → k < to → MarksPlace locks k n new
all_listed locks wanting from to n old new lists kept before marks k lt j ltj x y at_x at_y blocked = elim (before_or_from k from) [
  | inl below ↦ kept x.client y.client (before k below j ltj x y at_x at_y blocked)
  | inr on ↦
      elim (true_or_false (is_converting x.state || is_waiting x.state)) [
        | inl wants ↦
            let l : IsListed wanting k = lists k x on lt at_x wants in
            marks l.k l.within j ltj x y (subst (λ n. slice_get locks n ≡ Some x) (sym l.is) at_x) at_y (subst (λ n. is_blocked_by n x j y ≡ true) (sym l.is) blocked)
        | inr other ↦ absurd (true≢false (sym (in_its_way k x j y blocked) ∙ wants_none k x j y other))
      ]
]

-- one place more
pub places_with : (locks : List LockRecord) (wanting : List ℕ) (to : ℕ) → to < length locks → ArePlaces locks wanting → ArePlaces locks (wanting ++ to ∷ [])
places_with locks wanting to fits before k lt = elim (before_or_from k (length wanting)) [
  | inl below ↦ let e : slice_index_or (wanting ++ to ∷ []) k 0 ≡ slice_index_or wanting k 0 = get_or_append_left wanting (to ∷ []) 0 k below in let le = before k below in omega (arith, e, le)
  | inr on ↦
      let is : k ≡ length wanting = omega (arith, on, lt, length-append wanting (to ∷ [])) in
      let e : slice_index_or (wanting ++ to ∷ []) k 0 ≡ to = ap (λ n. slice_index_or (wanting ++ to ∷ []) n 0) is ∙ get_or-append_seam wanting to [] 0 in omega (arith, e, fits)
]

pub listed_with : (locks : List LockRecord) (wanting : List ℕ) (from to : ℕ) → ListsWanting locks from to wanting → ListsWanting locks from (to + 1) (wanting ++ to ∷ [])
listed_with locks wanting from to before i x on lt at_x wants =
    let long : length (wanting ++ to ∷ []) ≡ length wanting + 1 = length-append wanting (to ∷ []) in elim (same_or_not i to) [
      | inl is ↦ record { k = length wanting; within = omega (arith, long); is = get_or-append_seam wanting to [] 0 ∙ sym is }
      | inr other ↦
          let l : IsListed wanting i = before i x on (search rules) at_x wants in
          let within : l.k < length wanting = l.within in
          record { k = l.k; within = omega (arith, long, within); is = get_or_append_left wanting (to ∷ []) 0 l.k within ∙ l.is }
    ]

-- or none, where the lock wants nothing
pub listed_without : (locks : List LockRecord) (wanting : List ℕ) (from to : ℕ) (own : LockRecord) → own ≡ slice_index_or locks to own → (is_converting own.state || is_waiting own.state) ≡ false → ListsWanting locks from to wanting → ListsWanting locks from (to + 1) wanting
listed_without locks wanting from to own is_own none before i x on lt at_x wants = elim (same_or_not i to) [
  | inl is ↦
      let x_is : own ≡ x = is_own ∙ get_or_from_slice_get locks to x own (subst (λ n. slice_get locks n ≡ Some x) is at_x) in
      absurd (true≢false (sym wants ∙ subst (λ (r : LockRecord). (is_converting r.state || is_waiting r.state) ≡ false) x_is none))
  | inr other ↦ before i x on (search rules) at_x wants
]

-- FLAGS OF CLIENTS

-- one lock more, whose client has a flag then
pub has_with : (locks : List LockRecord) (clients : List Bool) (n : ℕ) (own : LockRecord) → own ≡ slice_index_or locks n own → own.client < length clients → HasWanting locks n clients → HasWanting locks (n + 1) (slice_set clients own.client true)
has_with locks clients n own is_own fits before i x lt at_x wants = elim (same_or_not x.client own.client) [
  | inl is ↦ ap (λ k. slice_index_or (slice_set clients own.client true) k false) is ∙ get_or-set_same clients own.client true false fits
  | inr other ↦
      elim (same_or_not i n) [
        | inl here ↦ absurd (other (ap (λ (r : LockRecord). r.client) (sym (is_own ∙ get_or_from_slice_get locks n x own (subst (λ k. slice_get locks k ≡ Some x) here at_x)))))
        | inr there ↦ get_or-set_other clients own.client x.client true false other ∙ before i x (search rules) at_x wants
      ]
]

-- or that wants nothing
pub has_without : (locks : List LockRecord) (clients : List Bool) (n : ℕ) (own : LockRecord) → own ≡ slice_index_or locks n own → (is_converting own.state || is_waiting own.state) ≡ false → HasWanting locks n clients → HasWanting locks (n + 1) clients
has_without locks clients n own is_own none before i x lt at_x wants = elim (same_or_not i n) [
  | inl is ↦
      let x_is : own ≡ x = is_own ∙ get_or_from_slice_get locks n x own (subst (λ k. slice_get locks k ≡ Some x) is at_x) in
      absurd (true≢false (sym wants ∙ subst (λ (r : LockRecord). (is_converting r.state || is_waiting r.state) ≡ false) x_is none))
  | inr other ↦ before i x (search rules) at_x wants
]

-- whoever is blocked has a lock that wants something
pub has_blocked : (locks : List LockRecord) (clients : List Bool) → HasWanting locks (length locks) clients → (a b : ℕ) → IsBlockedBy locks a b → slice_index_or clients a false ≡ true
has_blocked locks clients has a b e = elim (true_or_false (is_converting e.x.state || is_waiting e.x.state)) [
  | inl wants ↦ subst (λ k. slice_index_or clients k false ≡ true) e.by_client (has e.i e.x (is_below locks e.i e.x e.is_x) e.is_x wants)
  | inr other ↦ absurd (true≢false (sym (in_its_way e.i e.x e.j e.y e.blocked) ∙ wants_none e.i e.x e.j e.y other))
]
