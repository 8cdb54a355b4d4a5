use Rattle.std.proofs.Common.{◌≡◌, ◌<◌, ◌/◌, ◌^◌, ℕ, List, length, get_or, sym, ap, subst, ◌∙◌, arith}
use Rattle.std.proofs.lemmas.Grind.{get_or_default_zero}
use Rattle.lock_command.specs.declared.record.LockRecord.{LockRecord}
use Rattle.lock_index.specs.Keys.{spelled, lock_key, HasKey, IsKeyed}
use Rattle.lock_index.specs.Shelved.{at_places, IsShelved}
use Rattle.lock_index.proofs.PlacedKeys.{shown_there, key_in_order, fits_in_order}
use Rattle.lock_index.proofs.Places.{inside_order, place_inside, read_in_order}
use Rattle.lock_index.proofs.Spelled.{name_of_key}
use Rattle.lock_index.proofs.by_printed_order.ByPrintedOrder.name.Goals as goal

module _ (records : List LockRecord) (order free keys : List ℕ) (sound : IsShelved records order free) (keyed : IsKeyed records order keys) (shown : List LockRecord) (view : at_places records order ≡ shown) where
  module _ (at place d : ℕ) (r : LockRecord) (inside : at < length order) (there : place ≡ get_or order at d) (read : r ≡ get_or records place r) where
    own : (e : LockRecord) → r ≡ get_or shown at e
    own e =
        read_in_order records order free sound shown at place d r view inside there read
        ∙ sym (shown_there records order free keys sound keyed shown at d r view inside)
        ∙ shown_there records order free keys sound keyed shown at d e view inside

    has_key : HasKey r
    has_key = subst (λ (o : LockRecord). HasKey o) (sym (own r)) (fits_in_order records order free keys sound keyed shown at d view inside r)

    begins : (key : ℕ) → place < length keys → key ≡ get_or keys place key → key / 2 ^ 18 ≡ spelled 15 r.name
    begins key in_keys is =
        ap (λ n. n / 2 ^ 18) (is ∙ get_or_default_zero keys place key in_keys ∙ key_in_order records order free keys sound keyed shown at place d view inside there r ∙ ap lock_key (sym (own r)))
        ∙ name_of_key r has_key

pub index-requires-2 : goal.index-requires-2
index-requires-2 c =
    let inside = inside_order c.self.inside.records.items c.self.inside.order.items c.self.inside.free.items c.self.invariant.0 c.args.self.now c.args.at c.self.view_is c.requires in
    let there = place_inside c.self.inside.records.items c.self.inside.order.items c.self.inside.free.items c.self.invariant.0 c.args.at c.index.result.now inside in
    omega (arith, there, c.from-place.ensures ∙ c.index.ensures)

pub of_key-requires-clause-named : goal.of_key-requires-clause-named
of_key-requires-clause-named c =
    let inside = inside_order c.self.inside.records.items c.self.inside.order.items c.self.inside.free.items c.self.invariant.0 c.args.self.now c.args.at c.self.view_is c.requires in
    (has_key c.self.inside.records.items c.self.inside.order.items c.self.inside.free.items c.self.inside.keys.items c.self.invariant.0 c.self.invariant.8 c.args.self.now c.self.view_is
    c.args.at c.from-place.result c.index.result.now c.index-2.result.now inside (c.from-place.ensures ∙ c.index.ensures) c.index-2.ensures).named

pub of_key-requires-clause-key : goal.of_key-requires-clause-key
of_key-requires-clause-key c =
    let inside = inside_order c.self.inside.records.items c.self.inside.order.items c.self.inside.free.items c.self.invariant.0 c.args.self.now c.args.at c.self.view_is c.requires in
    let there = place_inside c.self.inside.records.items c.self.inside.order.items c.self.inside.free.items c.self.invariant.0 c.args.at c.index.result.now inside in
    begins c.self.inside.records.items c.self.inside.order.items c.self.inside.free.items c.self.inside.keys.items c.self.invariant.0 c.self.invariant.8 c.args.self.now c.self.view_is
    c.args.at c.from-place.result c.index.result.now c.index-2.result.now inside (c.from-place.ensures ∙ c.index.ensures) c.index-2.ensures c.index-3.result.now
    (omega (arith, there, c.from-place.ensures ∙ c.index.ensures, c.self.invariant.1, c.self.invariant.7)) c.index-3.ensures

pub returns : goal.returns
returns c = λ d.
    let inside = inside_order c.self.inside.records.items c.self.inside.order.items c.self.inside.free.items c.self.invariant.0 c.args.self.now c.args.at c.self.view_is c.requires in
    c.of_key.ensures
    ∙ ap (λ (r : LockRecord). r.name) (own c.self.inside.records.items c.self.inside.order.items c.self.inside.free.items c.self.inside.keys.items c.self.invariant.0 c.self.invariant.8 c.args.self.now c.self.view_is
    c.args.at c.from-place.result c.index.result.now c.index-2.result.now inside (c.from-place.ensures ∙ c.index.ensures) c.index-2.ensures d)
