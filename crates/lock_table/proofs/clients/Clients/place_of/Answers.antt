use Rattle.std.proofs.Common.{◌≡◌, ◌<◌, ℕ, List, length, get_or, Some, None, sym, ap, subst, ◌∙◌, inl, inr, arith}
use Rattle.std.specs.List.{slice_get}
use Rattle.std.proofs.lemmas.Bool.{eqb-true}
use Rattle.std.proofs.lemmas.Option.{slice_get_cases, get_or_from_slice_get}
use Rattle.lock_table.specs.declared.known_client.KnownClient.{KnownClient}
use Rattle.lock_table.specs.Known.{AreKnown}
use Rattle.lock_table.proofs.KnownPlaces.{client_of}
use Rattle.lock_index.proofs.Standing.{cut_where_stands}
use Rattle.lock_table.proofs.clients.Clients.place_of.Goals as goal

inside_if : (xs : List KnownClient) (i : ℕ) (k : KnownClient) → slice_get xs i ≡ Some k → i < length xs
inside_if xs i k there = elim (slice_get_cases xs i).1 as (λ w. i < length xs) [
  | inl w ↦ w.1
  | inr w ↦ let clash : None ≡ Some k = sym w.1 ∙ there in let impossible : ⊥ = cc in absurd impossible
]

pub returns-then-eq : goal.returns-then-eq
returns-then-eq c =
    let xs = c.args.self.now in
    let at = c.from-hint.result in
    let k = c.in-Some.known.now in
    let known = subst (λ (l : List KnownClient). AreKnown l) c.self.view_is c.self.invariant.0 in
    let there : slice_get xs at ≡ Some k = ap (λ l. slice_get l at) (sym (c.deref.ensures.value ∙ c.self.view_is)) ∙ sym c.in-Some.ensures in
    let inside = inside_if xs at k there in
    let own : (get_or xs at k).client ≡ c.args.client = ap client_of (get_or_from_slice_get xs at k k there) ∙ eqb-true k.client c.args.client (sym c.if-eq.ensures) in
    record { bound = omega (arith, inside); point = cut_where_stands client_of c.args.client xs at k known.rising (known.distinct c.args.client) inside own }
