use Rattle.std.proofs.Common.{◌≡◌, ◌<◌, ℕ, List, length, remove, Some, sym, ap, subst, ◌∙◌, rules}
use Rattle.std.specs.List.{find}
use Rattle.lock_table.specs.declared.known_client.KnownClient.{KnownClient}
use Rattle.lock_table.specs.Apply.{is_client}
use Rattle.lock_table.specs.Known.{AreKnown, IsPlaceOf}
use Rattle.lock_table.proofs.KnownPlaces.{found_if, none_if, at_place, others, known_remove, others_all}
use Rattle.lock_table.proofs.clients.Clients.forget.Goals as goal

gone_next : (n : ℕ) (own : KnownClient) (xs value : List KnownClient) (i : ℕ) → AreKnown xs → xs ≡ value → IsPlaceOf n value i → find (is_client n) value ≡ Some own
    → (i < length xs) × AreKnown (remove xs i) × (remove xs i ≡ others n xs)
gone_next n own xs value i known view place there =
    known_remove n xs i own known (at_place n i xs value view place) (ap (find (is_client n)) view ∙ there)

pub remove-requires : goal.remove-requires
remove-requires c =
    let own = found_if c.get.result _ c.get.ensures c.if-is_some.ensures in
    let inside = (gone_next c.args.gone own.0 c.self.inside.known.items c.args.self.now c.place_of-place.result c.self.invariant.0 c.self.view_is c.place_of-place.ensures own.1).0 in
    search rules

next_is : (c : goal.After-remove) → c.remove.new.self.items ≡ remove c.self.inside.known.items c.place_of-place.result
next_is c =
    let own = found_if c.get.result _ c.get.ensures c.if-is_some.ensures in
    let inside = (gone_next c.args.gone own.0 c.self.inside.known.items c.args.self.now c.place_of-place.result c.self.invariant.0 c.self.view_is c.place_of-place.ensures own.1).0 in
    search rules

pub invariant_of-self : goal.invariant_of-self
invariant_of-self c =
    let own = found_if c.get.result _ c.get.ensures c.if-is_some.ensures in
    let next = gone_next c.args.gone own.0 c.self.inside.known.items c.args.self.now c.place_of-place.result c.self.invariant.0 c.self.view_is c.place_of-place.ensures own.1 in
    let inside = next.0 in
    (subst (λ (l : List KnownClient). AreKnown l) (sym (next_is c)) next.1, search rules, search rules)

pub returns-then-is_some : goal.returns-then-is_some
returns-then-is_some c =
    let own = found_if c.get.result _ c.get.ensures c.if-is_some.ensures in
    next_is c
    ∙ (gone_next c.args.gone own.0 c.self.inside.known.items c.args.self.now c.place_of-place.result c.self.invariant.0 c.self.view_is c.place_of-place.ensures own.1).2
    ∙ ap (others c.args.gone) c.self.view_is

pub returns-else-is_some : goal.returns-else-is_some
returns-else-is_some c =
    let absent = none_if c.get.result _ c.get.ensures c.if-is_some.ensures in
    sym (others_all c.args.gone c.args.self.now absent)
