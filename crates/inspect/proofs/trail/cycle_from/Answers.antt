use Rattle.std.proofs.Common.{◌≡◌, ◌<◌, ◌≤◌, ◌+◌, ◌-◌, ℕ, List, take, drop, [], ◌∷◌, ◌++◌, length, slice_index_or, false, true, nat_eq, sym, ◌∙◌, ap, subst, arith}
use Rattle.std.proofs.lemmas.List.{length-append}
use Rattle.std.specs.List.{IsDistinct}
use Rattle.inspect.specs.Marks.{Marked}
use Rattle.inspect.specs.Peeled.{is_taken}
use Rattle.inspect.specs.Trails.{IsTrail, IsTurned}
use Rattle.inspect.proofs.PeelLemmas.{distinct_more, fits_more, at_most}
use Rattle.inspect.proofs.TrailLemmas.{trail_more, not_among, has_place, one_distinct, one_fits, closes, distinct_drop, rest_whole, turned_cycle}
use Rattle.inspect.proofs.trail.cycle_from.Goals as goal

pub steps-init : goal.steps-init
steps-init c =
    let first = c.args.first in
    let is : c.push.new.self.items ≡ first ∷ [] = c.push.ensures.items ∙ ap (λ (xs : List ℕ). xs ++ first ∷ []) c.new-trail.ensures in
    let fits : first < 256 = (c.requires.held_up first c.requires.left).marked.a_fits in record {
      trail = subst (λ (xs : List ℕ). IsTrail (Marked c.args.edges.now) xs first) (sym is) (λ z leads. leads);
      distinct = subst (IsDistinct nat_eq) (sym is) (one_distinct first);
      fit = λ k t. one_fits first fits k (subst (λ (xs : List ℕ). is_taken xs k ≡ true) is t);
      left = c.requires.left;
      long = ap length is;
    }

pub push-requires-in-steps : goal.push-requires-in-steps
push-requires-in-steps c =
    let items = c.steps.trail.items in
    let last = c.blocker_of-last.result in
    let new : is_taken items last ≡ false =
    not_among items last (subst (λ (xs : List ℕ). (k : ℕ) → k < length xs → slice_index_or xs k 0 ≡ last → ⊥) c.deref.ensures.0 c.in_default.ensures.none) in
    let room : length items < 256 = has_place items last c.steps.invariant.distinct c.steps.invariant.fit new c.blocker_of-last.ensures.marked.b_fits in
    (omega arith, room)

pub steps-preserved : goal.steps-preserved
steps-preserved c =
    let items = c.steps.trail.items in
    let last = c.blocker_of-last.result in
    let is : c.push-in-steps.new.self.items ≡ items ++ last ∷ [] = c.push-in-steps.ensures.items in
    let fits : last < 256 = c.blocker_of-last.ensures.marked.b_fits in
    let new : is_taken items last ≡ false =
    not_among items last (subst (λ (xs : List ℕ). (k : ℕ) → k < length xs → slice_index_or xs k 0 ≡ last → ⊥) c.deref.ensures.0 c.in_default.ensures.none) in
    let one : length (items ++ last ∷ []) ≡ length items + 1 = length-append items (last ∷ []) in record {
      trail =
          subst (λ (xs : List ℕ). IsTrail (Marked c.args.edges.now) xs last) (sym is)
          (trail_more (Marked c.args.edges.now) items c.steps.last last c.steps.invariant.trail c.blocker_of-last.ensures.marked);
      distinct = subst (IsDistinct nat_eq) (sym is) (distinct_more items last c.steps.invariant.distinct new);
      fit = λ k t. fits_more items last fits c.steps.invariant.fit k (subst (λ (xs : List ℕ). is_taken xs k ≡ true) is t);
      left = c.blocker_of-last.ensures.left;
      long = ap length is ∙ one ∙ ap (λ (n : ℕ). n + 1) c.steps.invariant.long;
    }

pub unreachable-requires : goal.unreachable-requires
unreachable-requires c =
    let most : length c.steps.trail.items ≤ 256 = at_most c.steps.trail.items c.steps.invariant.distinct c.steps.invariant.fit in
    omega (arith, c.steps.invariant.long, most)

pub returns-in-Some : goal.returns-in-Some
returns-in-Some c =
    let items = c.steps.trail.items in
    let at = c.in-Some.at in
    let there : at < length items = subst (λ (xs : List ℕ). at < length xs) c.deref.ensures.0 c.in-Some.ensures.found in
    let is : slice_index_or items at 0 ≡ c.blocker_of-last.result = subst (λ (xs : List ℕ). slice_index_or xs at 0 ≡ c.blocker_of-last.result) c.deref.ensures.0 c.in-Some.ensures.here in
    let slice = c.as_slice.result.now in
    let whole : take (length slice - at) (drop at slice) ≡ drop at items = rest_whole slice at ∙ ap (λ (xs : List ℕ). drop at xs) c.as_slice.ensures.value in
    turned_cycle (Marked c.args.edges.now) (drop at items) c.turned.result.items
    (closes (Marked c.args.edges.now) items c.steps.last at c.blocker_of-last.result c.steps.invariant.trail c.blocker_of-last.ensures.marked there is)
    (distinct_drop items at c.steps.invariant.distinct)
    (subst (λ (xs : List ℕ). IsTurned xs c.turned.result.items) whole c.turned.ensures.turned)
    c.turned.ensures.least
