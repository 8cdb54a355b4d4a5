use Rattle.std.proofs.Common.{◌≡◌, ◌≤◌, ◌<◌, ◌+◌, ◌-◌, ◌/◌, ◌^◌, ℕ, cond, nat_lt, List, length, get_or, sym, ap, ◌∙◌, inl, inr, arith}
use Rattle.std.proofs.lemmas.Bool.{cases_lt, lt-ltb, le-ltb}
use Rattle.std.proofs.lemmas.Grind.{get_or_default_zero}
use Rattle.lock_command.specs.declared.record.LockRecord.{LockRecord}
use Rattle.lock_index.specs.Keys.{lock_key, IsKeyed}
use Rattle.lock_index.specs.Shelved.{no_lock, at_places, IsShelved}
use Rattle.lock_index.proofs.Places.{inside_order, place_inside}
use Rattle.lock_index.proofs.PlacedKeys.{key_in_order, fits_in_order}
use Rattle.lock_index.proofs.Spelled.{key_small}
use Rattle.lock_index.proofs.by_printed_order.ByPrintedOrder.below.Goals as goal

told : (a key q : ℕ) → a < 2 ^ 126 → key ≤ 2 ^ 126 → q ≡ (key + (2 ^ 126 - 1) - a) / 2 ^ 126 → q ≡ cond (nat_lt a key) 1 0
told a key q low small is = elim (cases_lt a key) as (λ w. q ≡ cond (nat_lt a key) 1 0) [
  | inl less ↦ let one : q ≡ 1 = omega (arith, less, low, small, is) in one ∙ ap {B = ℕ} (λ t. cond t 1 0) (sym (lt-ltb a key less))
  | inr not_less ↦ let none : q ≡ 0 = omega (arith, not_less, low, small, is) in none ∙ ap {B = ℕ} (λ t. cond t 1 0) (sym (le-ltb a key not_less))
]

module _ (records : List LockRecord) (order free keys : List ℕ) (sound : IsShelved records order free) (keyed : IsKeyed records order keys) (shown : List LockRecord) (at d : ℕ) where
  is_key : (place key : ℕ) → at_places records order ≡ shown → at < length order → place ≡ get_or order at d → place < length keys → key ≡ get_or keys place key → (e : LockRecord) → key ≡ lock_key (get_or shown at e)
  is_key place key view inside here there read e = read ∙ get_or_default_zero keys place key there ∙ key_in_order records order free keys sound keyed shown at place d view inside here e

  other_small : (key : ℕ) → at_places records order ≡ shown → at < length order → ((e : LockRecord) → key ≡ lock_key (get_or shown at e)) → key < 2 ^ 126
  other_small key view inside is =
      let own = key_small (get_or shown at no_lock) (fits_in_order records order free keys sound keyed shown at d view inside no_lock) in
      omega (arith, own, is no_lock)

pub index-other-requires : goal.index-other-requires
index-other-requires c =
    let inside = inside_order c.self.inside.records.items c.self.inside.order.items c.self.inside.free.items c.self.invariant.0 c.args.self.now c.args.at c.self.view_is c.requires.inside in
    let there = place_inside c.self.inside.records.items c.self.inside.order.items c.self.inside.free.items c.self.invariant.0 c.args.at c.index.result.now inside in
    omega (arith, there, c.from.ensures ∙ c.index.ensures, c.self.invariant.1, c.self.invariant.7)

pub overflow_sub-result-2 : goal.overflow_sub-result-2
overflow_sub-result-2 c =
    let inside = inside_order c.self.inside.records.items c.self.inside.order.items c.self.inside.free.items c.self.invariant.0 c.args.self.now c.args.at c.self.view_is c.requires.inside in
    let there = place_inside c.self.inside.records.items c.self.inside.order.items c.self.inside.free.items c.self.invariant.0 c.args.at c.index.result.now inside in
    let is = is_key c.self.inside.records.items c.self.inside.order.items c.self.inside.free.items c.self.inside.keys.items c.self.invariant.0 c.self.invariant.8 c.args.self.now c.args.at c.index.result.now c.from.result c.index-other.result.now c.self.view_is inside (c.from.ensures ∙ c.index.ensures) (omega (arith, there, c.from.ensures ∙ c.index.ensures, c.self.invariant.1, c.self.invariant.7)) c.index-other.ensures in
    let small = other_small c.self.inside.records.items c.self.inside.order.items c.self.inside.free.items c.self.inside.keys.items c.self.invariant.0 c.self.invariant.8 c.args.self.now c.args.at c.index.result.now c.index-other.result.now c.self.view_is inside is in
    omega (arith, small)

pub returns-clause-below : goal.returns-clause-below
returns-clause-below c = λ e.
    let inside = inside_order c.self.inside.records.items c.self.inside.order.items c.self.inside.free.items c.self.invariant.0 c.args.self.now c.args.at c.self.view_is c.requires.inside in
    let there = place_inside c.self.inside.records.items c.self.inside.order.items c.self.inside.free.items c.self.invariant.0 c.args.at c.index.result.now inside in
    let is = is_key c.self.inside.records.items c.self.inside.order.items c.self.inside.free.items c.self.inside.keys.items c.self.invariant.0 c.self.invariant.8 c.args.self.now c.args.at c.index.result.now c.from.result c.index-other.result.now c.self.view_is inside (c.from.ensures ∙ c.index.ensures) (omega (arith, there, c.from.ensures ∙ c.index.ensures, c.self.invariant.1, c.self.invariant.7)) c.index-other.ensures in
    let small = other_small c.self.inside.records.items c.self.inside.order.items c.self.inside.free.items c.self.inside.keys.items c.self.invariant.0 c.self.invariant.8 c.args.self.now c.args.at c.index.result.now c.index-other.result.now c.self.view_is inside is in
    told c.index-other.result.now c.args.key _ small c.requires.small (omega (arith, small, c.requires.small)) ∙ ap {B = ℕ} (λ n. cond (nat_lt n c.args.key) 1 0) (is e)

pub returns-clause-few : goal.returns-clause-few
returns-clause-few c =
    let inside = inside_order c.self.inside.records.items c.self.inside.order.items c.self.inside.free.items c.self.invariant.0 c.args.self.now c.args.at c.self.view_is c.requires.inside in
    let there = place_inside c.self.inside.records.items c.self.inside.order.items c.self.inside.free.items c.self.invariant.0 c.args.at c.index.result.now inside in
    let is = is_key c.self.inside.records.items c.self.inside.order.items c.self.inside.free.items c.self.inside.keys.items c.self.invariant.0 c.self.invariant.8 c.args.self.now c.args.at c.index.result.now c.from.result c.index-other.result.now c.self.view_is inside (c.from.ensures ∙ c.index.ensures) (omega (arith, there, c.from.ensures ∙ c.index.ensures, c.self.invariant.1, c.self.invariant.7)) c.index-other.ensures in
    let small = other_small c.self.inside.records.items c.self.inside.order.items c.self.inside.free.items c.self.inside.keys.items c.self.invariant.0 c.self.invariant.8 c.args.self.now c.args.at c.index.result.now c.index-other.result.now c.self.view_is inside is in
    omega (arith, small, c.requires.small)
