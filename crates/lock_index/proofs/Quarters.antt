-- Where an ascending list is cut in two, found by parts of it.
use Rattle.std.proofs.Common.{◌≡◌, ◌≤◌, ◌<◌, ◌+◌, ◌-◌, ◌*◌, ◌/◌, ℕ, Bool, true, false, cond, List, length, get_or, refl, sym, ap, ◌∙◌, inl, inr, arith}
use Rattle.std.specs.List.{AllWithin}
use Rattle.std.specs.List.Sorted.{IsPartitionedBy}
use Rattle.std.proofs.lemmas.Bool.{cases_lt}
use Rattle.std.proofs.lemmas.List.{get_or_read, get_or_default}
use Rattle.lock_index.specs.Narrowed.{IsNarrowed}

-- what is known where all in front of a place pass, and it is the cut if it is in front of another
pub record IsCounted {X : Type 0} (p : X → Bool) (xs : List X) (place at : ℕ) : Type 0 where
  pub front : AllWithin (λ x. p x ≡ true) xs 0 place
  pub reached : place ≤ at
  pub behind : place < at → AllWithin (λ x. p x ≡ false) xs place (length xs)

module _ {X : Type 0} (p : X → Bool) (xs : List X) (cut : IsPartitionedBy p xs) where
  -- where one passes, all in front of it do
  pub passes_before : (at : ℕ) (x : X) → x ≡ get_or xs at x → at < length xs → p x ≡ true → (next : ℕ) → next ≤ at + 1 → AllWithin (λ x. p x ≡ true) xs 0 next
  passes_before at x is inside passes next on =
      λ k d low high. cut k at d (omega (arith, on, high)) inside (ap p (sym (get_or_read xs at x inside is d)) ∙ passes)

  -- where one fails, all behind it do
  pub fails_behind : (at : ℕ) (x : X) → x ≡ get_or xs at x → p x ≡ false → (next : ℕ) → at ≤ next → AllWithin (λ x. p x ≡ false) xs next (length xs)
  fails_behind at x is fails next on =
      λ k d low high.
      elim (p (get_or xs k d)) as (λ t. p (get_or xs k d) ≡ t → t ≡ false) [
        | false ↦ λ e. refl
        | true ↦ λ e.
            let above : at ≤ k = omega (arith, on, low) in
            let clash : true ≡ false = sym (cut at k d above high e) ∙ ap p (sym (get_or_read xs at x (omega (arith, above, high)) is d)) ∙ fails in
            let impossible : ⊥ = cc in absurd impossible
      ] refl

  -- one more is tested
  counted_next : (place at : ℕ) → IsCounted p xs place at → at < length xs → (x : X) → x ≡ get_or xs at x → (n : ℕ) → n ≡ cond (p x) 1 0 → (next : ℕ) → next ≡ place + n
      → IsCounted p xs next (at + 1)
  counted_next place at counted inside x is n tells next on =
      elim (p x) as (λ t. p x ≡ t → n ≡ cond t 1 0 → IsCounted p xs next (at + 1)) [
        | true ↦ λ e one.
            elim (cases_lt place at) as (λ w. IsCounted p xs next (at + 1)) [
              | inl less ↦
                  let clash : true ≡ false = sym e ∙ ap p is ∙ counted.behind less at x (omega (arith, less)) inside in
                  let impossible : ⊥ = cc in absurd impossible
              | inr not_less ↦
                  record {
                    front = passes_before at x is inside e next (omega (arith, on, one, counted.reached));
                    reached = omega (arith, on, one, counted.reached);
                    behind = λ less. absurd (omega (arith, less, on, one, not_less));
                  }
            ]
        | false ↦ λ f none.
            record {
              front = λ k d low high. counted.front k d low (omega (arith, on, none, high));
              reached = omega (arith, on, none, counted.reached);
              behind = λ less.
                  elim (cases_lt place at) as (λ w. AllWithin (λ x. p x ≡ false) xs next (length xs)) [
                    | inl before ↦ λ k d low high. counted.behind before k d (omega (arith, on, none, low)) high
                    | inr not_before ↦ fails_behind at x is f next (omega (arith, on, none, not_before))
                  ];
            }
      ] refl tells

  passes_too : (i j : ℕ) (x y : X) → x ≡ get_or xs i x → y ≡ get_or xs j y → j < length xs → i ≤ j → p y ≡ true → p x ≡ true
  passes_too i j x y x_is y_is inside before passes = ap p x_is ∙ passes_before j y y_is inside passes (j + 1) (omega arith) i x (omega arith) (omega (arith, before))

  module _ (from size : ℕ) (narrowed : IsNarrowed p xs from size) (quarter : ℕ) (some : 1 ≤ quarter) (few : 4 * quarter ≤ size + 1)
      (i j k : ℕ) (i_is : i ≡ from + quarter - 1) (j_is : j ≡ from + 2 * quarter - 1) (k_is : k ≡ from + 3 * quarter - 1)
      (x y z : X) (x_is : x ≡ get_or xs i x) (y_is : y ≡ get_or xs j y) (z_is : z ≡ get_or xs k z) (next : ℕ) where
    cut_to : AllWithin (λ x. p x ≡ true) xs 0 next → AllWithin (λ x. p x ≡ false) xs (next + (size - 3 * quarter)) (length xs) → next ≤ from + 3 * quarter
        → IsNarrowed p xs next (size - 3 * quarter)
    cut_to front behind bound = record { front = front; behind = behind; inside = omega (arith, bound, narrowed.inside, some, few) }

    inside : k < length xs
    inside = omega (arith, narrowed.inside, k_is, some, few)

    all_pass : p z ≡ true → next ≡ from + 3 * quarter → IsNarrowed p xs next (size - 3 * quarter)
    all_pass e on =
        cut_to (passes_before k z z_is inside e next (omega (arith, on, k_is, some))) (λ l d low high. narrowed.behind l d (omega (arith, on, low, some, few)) high) (omega (arith, on))

    two_pass : p y ≡ true → p z ≡ false → next ≡ from + 2 * quarter → IsNarrowed p xs next (size - 3 * quarter)
    two_pass e f on =
        cut_to (passes_before j y y_is (omega (arith, inside, j_is, k_is, some)) e next (omega (arith, on, j_is, some)))
        (fails_behind k z z_is f (next + (size - 3 * quarter)) (omega (arith, on, k_is, some, few))) (omega (arith, on))

    one_passes : p x ≡ true → p y ≡ false → next ≡ from + quarter → IsNarrowed p xs next (size - 3 * quarter)
    one_passes e f on =
        cut_to (passes_before i x x_is (omega (arith, inside, i_is, k_is, some)) e next (omega (arith, on, i_is, some)))
        (fails_behind j y y_is f (next + (size - 3 * quarter)) (omega (arith, on, j_is, some, few))) (omega (arith, on))

    none_pass : p x ≡ false → next ≡ from → IsNarrowed p xs next (size - 3 * quarter)
    none_pass f on =
        cut_to (λ l d low high. narrowed.front l d low (omega (arith, on, high))) (fails_behind i x x_is f (next + (size - 3 * quarter)) (omega (arith, on, i_is, some, few)))
        (omega (arith, on))

    -- three are tested, a quarter apart, and as many quarters are passed as pass
    quartered_next : (a b c passes step : ℕ) → a ≡ cond (p x) 1 0 → b ≡ cond (p y) 1 0 → c ≡ cond (p z) 1 0 → passes ≡ a + b + c → step ≡ quarter * passes → next ≡ from + step
        → IsNarrowed p xs next (size - 3 * quarter)
    quartered_next a b c passes step a_is b_is c_is sum is on =
        let before_j : i ≤ j = omega (arith, i_is, j_is) in
        let before_k : j ≤ k = omega (arith, j_is, k_is) in
        let inside_j : j < length xs = omega (arith, before_k, inside) in
        elim (p z) as (λ t. p z ≡ t → c ≡ cond t 1 0 → IsNarrowed p xs next (size - 3 * quarter)) [
          | true ↦ λ e c_one.
              let e_y = passes_too j k y z y_is z_is inside before_k e in
              let e_x = passes_too i j x y x_is y_is inside_j before_j e_y in
              let b_one : b ≡ 1 = b_is ∙ ap {B = ℕ} (λ t. cond t 1 0) e_y in
              let a_one : a ≡ 1 = a_is ∙ ap {B = ℕ} (λ t. cond t 1 0) e_x in
              let three : passes ≡ 3 = omega (arith, sum, a_one, b_one, c_one) in
              all_pass e (omega (arith, on, is ∙ ap {B = ℕ} (λ n. quarter * n) three))
          | false ↦ λ f c_none.
              elim (p y) as (λ t. p y ≡ t → b ≡ cond t 1 0 → IsNarrowed p xs next (size - 3 * quarter)) [
                | true ↦ λ e b_one.
                    let e_x = passes_too i j x y x_is y_is inside_j before_j e in
                    let a_one : a ≡ 1 = a_is ∙ ap {B = ℕ} (λ t. cond t 1 0) e_x in
                    let two : passes ≡ 2 = omega (arith, sum, a_one, b_one, c_none) in
                    two_pass e f (omega (arith, on, is ∙ ap {B = ℕ} (λ n. quarter * n) two))
                | false ↦ λ f_y b_none.
                    elim (p x) as (λ t. p x ≡ t → a ≡ cond t 1 0 → IsNarrowed p xs next (size - 3 * quarter)) [
                      | true ↦ λ e a_one.
                          let one : passes ≡ 1 = omega (arith, sum, a_one, b_none, c_none) in
                          one_passes e f_y (omega (arith, on, is ∙ ap {B = ℕ} (λ n. quarter * n) one))
                      | false ↦ λ f_x a_none.
                          let none : passes ≡ 0 = omega (arith, sum, a_none, b_none, c_none) in
                          none_pass f_x (omega (arith, on, is ∙ ap {B = ℕ} (λ n. quarter * n) none))
                    ] refl a_is
              ] refl b_is
        ] refl c_is

  -- a search that has narrowed a list so far goes on by three tests
  pub narrowed_on : (d : X) (from size : ℕ) → IsNarrowed p xs from size → 4 < size → (a b c step : ℕ) → a ≡ cond (p (get_or xs (from + (size + 1) / 4 - 1) d)) 1 0
      → b ≡ cond (p (get_or xs (from + 2 * ((size + 1) / 4) - 1) d)) 1 0 → c ≡ cond (p (get_or xs (from + 3 * ((size + 1) / 4) - 1) d)) 1 0 → step ≡ (size + 1) / 4 * (a + b + c)
      → IsNarrowed p xs (from + step) (size - 3 * ((size + 1) / 4))
  narrowed_on d from size narrowed more a b c step a_is b_is c_is is =
      let quarter = (size + 1) / 4 in
      let i = from + quarter - 1 in
      let j = from + 2 * quarter - 1 in
      let k = from + 3 * quarter - 1 in
      let x = get_or xs i d in
      let y = get_or xs j d in
      let z = get_or xs k d in
      let inside_z : k < length xs = omega (arith, more, narrowed.inside) in
      let inside_y : j < length xs = omega (arith, inside_z, more) in
      let inside_x : i < length xs = omega (arith, inside_z, more) in
      quartered_next from size narrowed quarter (omega (arith, more)) (omega arith) i j k refl refl refl x y z (get_or_default xs i d x inside_x) (get_or_default xs j d y inside_y) (get_or_default xs k d z inside_z)
      (from + step) a b c (a + b + c) step a_is b_is c_is refl is refl

  -- and in the end by one after the other
  pub counted_on : (d : X) (from size : ℕ) → IsNarrowed p xs from size → (place at : ℕ) → IsCounted p xs place at → at < from + size → (n : ℕ) → n ≡ cond (p (get_or xs at d)) 1 0 → IsCounted p xs (place + n) (at + 1)
  counted_on d from size narrowed place at counted less n is =
      let x = get_or xs at d in
      let inside : at < length xs = omega (arith, less, narrowed.inside) in
      counted_next place at counted inside x (get_or_default xs at d x inside) n is (place + n) refl
