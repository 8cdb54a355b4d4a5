-- Elements that tie nowhere have one order, and so the same locks are printed in one.
use Rattle.std.proofs.Common.{◌≡◌, ◌<◌, ◌+◌, ℕ, suc, Bool, true, false, cond, not, ◌&&◌, ◌==◌, nat_lt, List, [], ◌∷◌, length, get_or, refl, sym, ap, ◌∙◌, arith}
use Rattle.std.specs.List.{filter}
use Rattle.std.specs.List.Sorted.{IsSorted}
use Rattle.std.specs.Ordering.{is_lt, is_eq, nat_cmp, ordering_then, ordering_reverse}
use Rattle.std.specs.Str.{bytes_eq}
use Rattle.std.specs.Cmp.{IsTotalOrder, IsStrictWeakOrder}
use Rattle.std.specs.Cmp.Lexicographic.{slice_cmp}
use Rattle.std.specs.declared.cmp.Ordering.{Ordering}
use Rattle.std.specs.declared.cmp.Ordering.TheVariants.{Less, Equal, Greater}
use Rattle.std.proofs.lemmas.Bool.{eq-eqb, eqb-true}
use Rattle.std.proofs.lemmas.Map.Text.{is_eq-slice_cmp}
use Rattle.std.proofs.lemmas.Slice.Eq.{bytes_eq-Decides}
use Rattle.std.specs.Cmp.Derive.{both_true}
use Rattle.std.proofs.lemmas.List.Sorted.{sorted_far}
use Rattle.lock_command.specs.Name.{same_name}
use Rattle.lock_command.specs.declared.record.LockRecord.{LockRecord}
use Rattle.lock_command.specs.declared.state.LockState.{LockState}
use Rattle.lock_command.specs.declared.state.LockState.TheVariants.{Granted, Converting, Waiting}
use Rattle.lock_command.specs.State.{is_converting, is_waiting}
use Rattle.lock_command.specs.Locks.{is_lock, is_on, converts_on, waits_on}
use Rattle.lock_index.specs.Placed.{in_order}
use Rattle.lock_index.specs.Printed.{rank_of, number_among, printed_cmp, HasSameLocks}
use Rattle.lock_index.proofs.Parts.{filter_within}
use Rattle.lock_index.proofs.Apart.{same_name-itself}
use Rattle.lock_index.proofs.PrintedOrder.{printed_total, printed_order}
use Rattle.lock_index.proofs.Ordered.{Each, IsAscending, IsSorted-in_order}

module _ {X : Type 0} (cmp : X → X → Ordering) (order : IsStrictWeakOrder (λ x y. is_lt (cmp x y))) where
  abbrev lt : X → X → Bool
  lt x y = is_lt (cmp x y)

  abbrev ties : X → X → Bool
  ties x y = not (lt x y) && not (lt y x)

  clash : (b : Bool) → b ≡ true → b ≡ false → ⊥
  clash b yes_is no_is = let both : true ≡ false = sym yes_is ∙ no_is in cc

  pub not_below_itself : (x : X) → lt x x ≡ false
  not_below_itself x = elim (lt x x) as (λ t. lt x x ≡ t → t ≡ false) [
    | true ↦ λ e. sym e ∙ order.one_way x x e
    | false ↦ λ e. refl
  ] refl

  ties_itself : (x : X) → ties x x ≡ true
  ties_itself x = λ i. not (not_below_itself x i) && not (not_below_itself x i)

  pub each_at : (P : X → Type 0) (xs : List X) → ((k : ℕ) (d : X) → k < length xs → P (get_or xs k d)) → Each cmp P xs
  each_at P [] at = tt
  each_at P (x ∷ xs) at = (at 0 x (omega arith), each_at P xs (λ k d inside. at (suc k) d (omega (arith, inside))))

  pub ascends : (xs : List X) → IsSorted cmp xs → IsAscending cmp xs
  ascends [] up = tt
  ascends (x ∷ xs) up = (
    each_at (λ y. lt y x ≡ false) xs (λ k d inside. sorted_far lt order (x ∷ xs) up 0 (suc k) d (omega arith) (omega (arith, inside))),
    ascends xs (λ k d from far.
        let more : suc (k + 1) ≡ suc k + 1 = omega arith in
        ap (λ n. lt (get_or (x ∷ xs) n d) (get_or xs k d)) more ∙ up (suc k) d (omega arith) (omega (arith, far))),
  )

  none_ties : (x y : X) (ys : List X) → lt x y ≡ true → Each cmp (λ z. lt z y ≡ false) ys → filter (ties x) ys ≡ []
  none_ties x y [] less up = refl
  none_ties x y (z ∷ ys) less up =
      let below : lt x z ≡ true = elim (lt x z) as (λ t. lt x z ≡ t → t ≡ true) [
        | true ↦ λ e. refl
        | false ↦ λ e. absurd (clash (lt x y) less (order.chain x z y e up.0))
      ] refl in
      ap (λ t. cond (not t && not (lt z x)) (z ∷ filter (ties x) ys) (filter (ties x) ys)) below ∙ none_ties x y ys less up.1

  first_of_ties : (x : X) (xs : List X) → filter (ties x) (x ∷ xs) ≡ x ∷ filter (ties x) xs
  first_of_ties x xs = ap (λ t. cond t (x ∷ filter (ties x) xs) (filter (ties x) xs)) (ties_itself x)

  none_before : (x y : X) (ys : List X) → lt x y ≡ true → IsAscending cmp (y ∷ ys) → filter (ties x) (y ∷ ys) ≡ []
  none_before x y ys less up = ap (λ t. cond (not t && not (lt y x)) (y ∷ filter (ties x) ys) (filter (ties x) ys)) less ∙ none_ties x y ys less up.0

  same_rest : (t : Bool) (x : X) (xs ys : List X) → cond t (x ∷ xs) xs ≡ cond t (x ∷ ys) ys → xs ≡ ys
  same_rest true x xs ys h = cc
  same_rest false x xs ys h = h

  one_order : (xs ys : List X) → IsAscending cmp xs → IsAscending cmp ys → ((z : X) → filter (ties z) xs ≡ filter (ties z) ys) → xs ≡ ys
  one_order [] [] up also same = refl
  one_order [] (y ∷ ys) up also same = let there : [] ≡ y ∷ filter (ties y) ys = same y ∙ first_of_ties y ys in let impossible : ⊥ = cc in absurd impossible
  one_order (x ∷ xs) [] up also same = let there : [] ≡ x ∷ filter (ties x) xs = sym (same x) ∙ first_of_ties x xs in let impossible : ⊥ = cc in absurd impossible
  one_order (x ∷ xs) (y ∷ ys) up also same =
      elim (lt x y) as (λ t. lt x y ≡ t → x ∷ xs ≡ y ∷ ys) [
        | true ↦ λ e.
            let there : [] ≡ x ∷ filter (ties x) xs = sym (none_before x y ys e also) ∙ sym (same x) ∙ first_of_ties x xs in let impossible : ⊥ = cc in absurd impossible
        | false ↦ λ e. elim (lt y x) as (λ t. lt y x ≡ t → x ∷ xs ≡ y ∷ ys) [
          | true ↦ λ f.
              let there : [] ≡ y ∷ filter (ties y) ys = sym (none_before y x xs f up) ∙ same y ∙ first_of_ties y ys in let impossible : ⊥ = cc in absurd impossible
          | false ↦ λ f.
              let both : ties x y ≡ true = λ i. not (e i) && not (f i) in
              let firsts : x ∷ filter (ties x) xs ≡ y ∷ filter (ties x) ys = sym (first_of_ties x xs) ∙ same x ∙ ap (λ t. cond t (y ∷ filter (ties x) ys) (filter (ties x) ys)) both in
              let head : x ≡ y = cc in
              let tails : (z : X) → filter (ties z) xs ≡ filter (ties z) ys = λ z. same_rest (ties z x) x (filter (ties z) xs) (filter (ties z) ys) (same z ∙ ap (λ w. cond (ties z w) (w ∷ filter (ties z) ys) (filter (ties z) ys)) (sym head)) in
              (λ i. head i ∷ one_order xs ys up.1 also.1 tails i)
        ] refl
      ] refl

  pub one_sorted : (xs ys : List X) → IsSorted cmp xs → IsSorted cmp ys → ((z : X) → filter (ties z) xs ≡ filter (ties z) ys) → xs ≡ ys
  one_sorted xs ys up also same = one_order xs ys (ascends xs up) (ascends ys also) same

pub tie_is_equal : {X : Type 0} (cmp : X → X → Ordering) → IsTotalOrder cmp → (x z : X) → (not (is_lt (cmp x z)) && not (is_lt (cmp z x))) ≡ true → cmp x z ≡ Equal
tie_is_equal cmp total x z h =
    elim (cmp x z) as (λ o. cmp x z ≡ o → (not (is_lt o) && not (is_lt (cmp z x))) ≡ true → o ≡ Equal) [
      | Less ↦ λ e g. let impossible : ⊥ = cc in absurd impossible
      | Equal ↦ λ e g. refl
      | Greater ↦ λ e g.
          let back : cmp z x ≡ Less = total.antisymm z x ∙ ap ordering_reverse e in
          let never : false ≡ true = ap (λ o. not (is_lt o)) (sym back) ∙ g in let impossible : ⊥ = cc in absurd impossible
    ] refl h

first_equal : (o p : Ordering) → ordering_then o p ≡ Equal → o ≡ Equal
first_equal Less p h = h
first_equal Equal p h = refl
first_equal Greater p h = h

then_equal : (o p : Ordering) → ordering_then o p ≡ Equal → p ≡ Equal
then_equal Less p h = let impossible : ⊥ = cc in absurd impossible
then_equal Equal p h = h
then_equal Greater p h = let impossible : ⊥ = cc in absurd impossible

pub numbers_equal : (a b : ℕ) → nat_cmp a b ≡ Equal → (b == a) ≡ true
numbers_equal a b h =
    elim (nat_lt a b) as (λ t. cond t Less (cond (a == b) Equal Greater) ≡ Equal → (b == a) ≡ true) [
      | true ↦ λ g. let impossible : ⊥ = cc in absurd impossible
      | false ↦ λ g. elim (a == b) as (λ t. (a == b) ≡ t → cond t Equal Greater ≡ Equal → (b == a) ≡ true) [
        | true ↦ λ e k. eq-eqb b a (sym (eqb-true a b e))
        | false ↦ λ e k. let impossible : ⊥ = cc in absurd impossible
      ] refl g
    ] h

pub names_equal : (a b : List ℕ) → slice_cmp nat_cmp a b ≡ Equal → same_name b a ≡ true
names_equal a b h =
    let told : bytes_eq a b ≡ true = sym (is_eq-slice_cmp a b) ∙ ap is_eq h in
    let same : a ≡ b = (bytes_eq-Decides a b).0 told in
    ap (λ n. same_name b n) same ∙ same_name-itself b

-- locks that tie stand in one queue, or are granted under one number
pub printed_equal : (x z : LockRecord) → printed_cmp x z ≡ Equal → (is_on x.name z ≡ true) × (rank_of x.state ≡ rank_of z.state) × ((number_among z.state z.lock == number_among x.state x.lock) ≡ true)
printed_equal x z h =
    let rest = then_equal (slice_cmp nat_cmp x.name z.name) _ h in (
      names_equal x.name z.name (first_equal (slice_cmp nat_cmp x.name z.name) _ h),
      sym (eqb-true (rank_of z.state) (rank_of x.state) (numbers_equal (rank_of x.state) (rank_of z.state) (first_equal (nat_cmp (rank_of x.state) (rank_of z.state)) _ rest))),
      numbers_equal (number_among x.state x.lock) (number_among z.state z.lock) (then_equal (nat_cmp (rank_of x.state) (rank_of z.state)) _ rest),
    )

pub granted_number : (s : LockState) (lock other : ℕ) → 0 ≡ rank_of s → (number_among s lock == other) ≡ true → (lock == other) ≡ true
granted_number (Granted m) lock other rank h = h
granted_number (Converting m w) lock other rank h = absurd (omega (arith, rank))
granted_number (Waiting w) lock other rank h = absurd (omega (arith, rank))

converting_rank : (s : LockState) → 1 ≡ rank_of s → is_converting s ≡ true
converting_rank (Granted m) rank = absurd (omega (arith, rank))
converting_rank (Converting m w) rank = refl
converting_rank (Waiting w) rank = absurd (omega (arith, rank))

waiting_rank : (s : LockState) → 2 ≡ rank_of s → is_waiting s ≡ true
waiting_rank (Granted m) rank = absurd (omega (arith, rank))
waiting_rank (Converting m w) rank = absurd (omega (arith, rank))
waiting_rank (Waiting w) rank = refl

lock_ties : LockRecord → LockRecord → Bool
lock_ties x z = not (is_lt (printed_cmp x z)) && not (is_lt (printed_cmp z x))

tied : (x z : LockRecord) → lock_ties x z ≡ true → (is_on x.name z ≡ true) × (rank_of x.state ≡ rank_of z.state) × ((number_among z.state z.lock == number_among x.state x.lock) ≡ true)
unfolding lock_ties
tied x z h = printed_equal x z (tie_is_equal printed_cmp printed_total x z h)

part_of : (P Q : LockRecord → Bool) (a b : List LockRecord) → ((z : LockRecord) → P z ≡ true → Q z ≡ true) → filter Q a ≡ filter Q b → filter P a ≡ filter P b
part_of P Q a b stricter same = sym (filter_within P Q stricter a) ∙ ap (filter P) same ∙ filter_within P Q stricter b

ties_alike : (a b : List LockRecord) → HasSameLocks a b → (x : LockRecord) (s : LockState) → x.state ≡ s → filter (lock_ties x) a ≡ filter (lock_ties x) b
ties_alike a b same x (Granted m) is =
    part_of (lock_ties x) (is_lock x.lock) a b (λ z h. let t = tied x z h in granted_number z.state z.lock x.lock (ap rank_of (sym is) ∙ t.1) (ap (λ s. number_among z.state z.lock == number_among s x.lock) (sym is) ∙ t.2)) (same.numbers x.lock)
ties_alike a b same x (Converting h w) is =
    part_of (lock_ties x) (converts_on x.name) a b (λ z k. let t = tied x z k in both_true t.0 (converting_rank z.state (ap rank_of (sym is) ∙ t.1))) (same.conversions x.name)
ties_alike a b same x (Waiting w) is =
    part_of (lock_ties x) (waits_on x.name) a b (λ z k. let t = tied x z k in both_true t.0 (waiting_rank z.state (ap rank_of (sym is) ∙ t.1))) (same.waiting x.name)

-- lists in printed order that have the same locks are one list
pub one_printed : (a b : List LockRecord) → IsSorted printed_cmp a → IsSorted printed_cmp b → HasSameLocks a b → a ≡ b
unfolding lock_ties
one_printed a b up also same = one_sorted printed_cmp printed_order a b up also (λ x. ties_alike a b same x x.state refl)

-- lists with the same locks are shown alike
pub ordered_alike : (a b : List LockRecord) → HasSameLocks (in_order printed_cmp a) (in_order printed_cmp b) → in_order printed_cmp a ≡ in_order printed_cmp b
ordered_alike a b same = one_printed (in_order printed_cmp a) (in_order printed_cmp b) (IsSorted-in_order printed_cmp printed_order a) (IsSorted-in_order printed_cmp printed_order b) same
