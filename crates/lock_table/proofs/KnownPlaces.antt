-- The known clients, and what a change of one makes of them.
use Rattle.std.proofs.Common.{◌≡◌, ◌<◌, ℕ, Bool, true, false, not, nat_lt, insert, remove, set, Bor, List, length, Option, Some, None, is_some, sym, ap, subst, ◌∙◌, arith}
use Rattle.std.specs.List.{filter, find}
use Rattle.std.specs.List.Sorted.{IsSorted, IsPartitionPoint}
use Rattle.std.specs.Ordering.{is_lt}
use Rattle.std.proofs.lemmas.List.Kept.{IsSortedBy-filter}
use Rattle.lock_table.specs.declared.known_client.KnownClient.{KnownClient}
use Rattle.lock_table.specs.Apply.{is_client, kept}
use Rattle.lock_table.specs.Picture.{client_cmp}
use Rattle.lock_index.specs.Placed.{in_order}
use Rattle.std.specs.Option.{option_copied}
use Rattle.lock_table.specs.Known.{AreKnown, IsPlaceOf}
use Rattle.lock_index.proofs.Keyed.{rising_insert, filter_none, absent_count, insert_at_cut, set_at_cut, remove_at_cut, distinct_at_end, in_key_order}
use Rattle.lock_index.proofs.Ordered.{IsSorted-in_order}
use Rattle.lock_index.proofs.Parts.{filter-filter}
use Rattle.lock_table.proofs.Pictures.{client_order, in_client_order}
use Rattle.lock_table.proofs.Room.{known_less}

abbrev pub client_of : KnownClient → ℕ
client_of k = k.client

-- WHERE A CLIENT WAS LOOKED FOR

pub found_if : (o : Option (Bor KnownClient)) (f : Option KnownClient) → option_copied o ≡ f → true ≡ is_some o → (own : KnownClient) × (f ≡ Some own)
found_if None f same is = let impossible : ⊥ = cc in absurd impossible
found_if (Some r) f same is = (r.now, sym same)

pub none_if : (o : Option (Bor KnownClient)) (f : Option KnownClient) → option_copied o ≡ f → false ≡ is_some o → f ≡ None
none_if None f same is = sym same
none_if (Some r) f same is = let impossible : ⊥ = cc in absurd impossible

pub at_place : (n place : ℕ) (xs value : List KnownClient) → xs ≡ value → IsPlaceOf n value place → IsPartitionPoint (λ o. nat_lt o.client n ≡ true) (λ o. nat_lt o.client n ≡ false) xs place
at_place n place xs value view is = subst (λ (l : List KnownClient). IsPartitionPoint (λ o. nat_lt o.client n ≡ true) (λ o. nat_lt o.client n ≡ false) l place) (sym view) is.point

-- ONE THAT IS KEPT

-- the clients after a change of one
known_from : (k : KnownClient) (xs next : List KnownClient) → AreKnown xs → IsSorted client_cmp next → ((n : ℕ) → filter (is_client n) next ≡ filter (is_client n) (kept xs k))
    → AreKnown next × (next ≡ in_order client_cmp (kept xs k))
known_from k xs next known rising alike = (
  record { rising = rising; distinct = λ n. omega (arith, ap length (alike n), distinct_at_end client_of k xs known.distinct n) },
  in_key_order client_of next (kept xs k) rising alike,
)

pub known_insert : (k : KnownClient) (xs : List KnownClient) (i : ℕ) → AreKnown xs → IsPartitionPoint (λ o. nat_lt o.client k.client ≡ true) (λ o. nat_lt o.client k.client ≡ false) xs i
    → find (is_client k.client) xs ≡ None → AreKnown (insert xs i k) × (insert xs i k ≡ in_order client_cmp (kept xs k))
known_insert k xs i known point absent =
    known_from k xs (insert xs i k) known (rising_insert client_of k xs i known.rising point) (insert_at_cut client_of k xs i absent)

pub known_set : (k : KnownClient) (xs : List KnownClient) (i : ℕ) (own : KnownClient) → AreKnown xs → IsPartitionPoint (λ o. nat_lt o.client k.client ≡ true) (λ o. nat_lt o.client k.client ≡ false) xs i
    → find (is_client k.client) xs ≡ Some own → (i < length xs) × AreKnown (set xs i k) × (set xs i k ≡ in_order client_cmp (kept xs k))
known_set k xs i own known point found =
    let next = set_at_cut client_of k xs i own known.rising point found (known.distinct k.client) in
    let then = known_from k xs (set xs i k) known next.1 next.2 in
    (next.0, then.0, then.1)

-- ONE THAT IS FORGOTTEN

abbrev pub others : ℕ → List KnownClient → List KnownClient
others n xs = filter (λ k. not (is_client n k)) xs

known_others : (n : ℕ) (xs : List KnownClient) → AreKnown xs → AreKnown (others n xs)
known_others n xs known = record {
  rising = IsSortedBy-filter (λ x y. is_lt (client_cmp x y)) client_order (λ k. not (is_client n k)) xs known.rising;
  distinct = λ m. omega (arith, known.distinct m, known_less (λ k. not (is_client n k)) m xs);
}

pub known_remove : (n : ℕ) (xs : List KnownClient) (i : ℕ) (own : KnownClient) → AreKnown xs → IsPartitionPoint (λ o. nat_lt o.client n ≡ true) (λ o. nat_lt o.client n ≡ false) xs i
    → find (is_client n) xs ≡ Some own → (i < length xs) × AreKnown (remove xs i) × (remove xs i ≡ others n xs)
known_remove n xs i own known point found =
    let gone = remove_at_cut client_of n xs i own known.rising point found (known.distinct n) in
    (gone.0, subst (λ (l : List KnownClient). AreKnown l) (sym gone.1) (known_others n xs known), gone.1)

-- nothing goes where the client is unknown
pub others_all : (n : ℕ) (xs : List KnownClient) → find (is_client n) xs ≡ None → others n xs ≡ xs
others_all n xs absent = filter_none (is_client n) xs (absent_count (is_client n) xs absent)

-- it may go before the clients are put in order, or after
pub others_in_order : (n : ℕ) (xs : List KnownClient) → others n (in_order client_cmp xs) ≡ in_order client_cmp (others n xs)
others_in_order n xs =
    let stays : KnownClient → Bool = λ k. not (is_client n k) in
    in_key_order client_of (others n (in_order client_cmp xs)) (others n xs)
    (IsSortedBy-filter (λ x y. is_lt (client_cmp x y)) client_order stays (in_order client_cmp xs) (IsSorted-in_order client_cmp client_order xs))
    (λ m. filter-filter (is_client m) stays (in_order client_cmp xs) ∙ ap (filter stays) (in_client_order m xs) ∙ filter-filter stays (is_client m) xs)
