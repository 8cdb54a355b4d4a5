use Rattle.std.proofs.Common.{◌≡◌, ◌<◌, ℕ, nat_lt, true, false, Bor, List, length, insert, set, Option, Some, None, is_some, sym, ap, subst, ◌∙◌, rules}
use Rattle.std.specs.List.{find}
use Rattle.std.specs.List.Sorted.{IsPartitionPoint}
use Rattle.std.specs.Option.{option_copied}
use Rattle.lock_table.specs.declared.known_client.KnownClient.{KnownClient}
use Rattle.lock_table.specs.Apply.{is_client, kept}
use Rattle.lock_table.specs.Known.{AreKnown, IsPlaceOf}
use Rattle.lock_table.specs.Picture.{client_cmp}
use Rattle.lock_index.specs.Placed.{in_order}
use Rattle.lock_table.proofs.KnownPlaces.{found_if, none_if, at_place, known_insert, known_set}
use Rattle.lock_table.proofs.clients.Clients.put.Goals as goal

-- WHERE THE CLIENT WAS KNOWN

known_next : (last own : KnownClient) (xs value : List KnownClient) (i : ℕ) → AreKnown xs → xs ≡ value → IsPlaceOf last.client value i → find (is_client last.client) value ≡ Some own
    → (i < length xs) × AreKnown (set xs i last) × (set xs i last ≡ in_order client_cmp (kept xs last))
known_next last own xs value i known view place there =
    known_set last xs i own known (at_place last.client i xs value view place) (ap (find (is_client last.client)) view ∙ there)

pub index_mut-requires : goal.index_mut-requires
index_mut-requires c =
    let own = found_if c.get.result _ c.get.ensures c.if-is_some.ensures in
    let inside = (known_next c.args.last own.0 c.self.inside.known.items c.args.self.now c.args.place c.self.invariant.0 c.self.view_is c.requires.place own.1).0 in
    search rules

pub invariant_of-self : goal.invariant_of-self
invariant_of-self c =
    let own = found_if c.get.result _ c.get.ensures c.if-is_some.ensures in (
      (known_next c.args.last own.0 c.self.inside.known.items c.args.self.now c.args.place c.self.invariant.0 c.self.view_is c.requires.place own.1).1,
      search rules,
      search rules,
    )

pub returns-then-is_some : goal.returns-then-is_some
returns-then-is_some c =
    let own = found_if c.get.result _ c.get.ensures c.if-is_some.ensures in
    (known_next c.args.last own.0 c.self.inside.known.items c.args.self.now c.args.place c.self.invariant.0 c.self.view_is c.requires.place own.1).2
    ∙ ap (λ l. in_order client_cmp (kept l c.args.last)) c.self.view_is

-- WHERE IT WAS NOT

next_is : (c : goal.After-insert) → c.insert.new.self.items ≡ insert c.self.inside.known.items c.args.place c.args.last
next_is c =
    let room = c.requires.room (none_if c.get.result _ c.get.ensures c.if-is_some.ensures) in
    search rules

first_next : (c : goal.After-insert) → AreKnown (insert c.self.inside.known.items c.args.place c.args.last)
    × (insert c.self.inside.known.items c.args.place c.args.last ≡ in_order client_cmp (kept c.self.inside.known.items c.args.last))
first_next c =
    let xs = c.self.inside.known.items in
    let n = c.args.last.client in
    let unknown = none_if c.get.result _ c.get.ensures c.if-is_some.ensures in
    known_insert c.args.last xs c.args.place c.self.invariant.0 (at_place n c.args.place xs c.args.self.now c.self.view_is c.requires.place) (ap (find (is_client n)) c.self.view_is ∙ unknown)

pub invariant_of-self-else-is_some : goal.invariant_of-self-else-is_some
invariant_of-self-else-is_some c =
    let room = c.requires.room (none_if c.get.result _ c.get.ensures c.if-is_some.ensures) in
    (subst (λ (l : List KnownClient). AreKnown l) (sym (next_is c)) (first_next c).0, search rules, search rules)

pub returns-else-is_some : goal.returns-else-is_some
returns-else-is_some c = next_is c ∙ (first_next c).1 ∙ ap (λ l. in_order client_cmp (kept l c.args.last)) c.self.view_is
