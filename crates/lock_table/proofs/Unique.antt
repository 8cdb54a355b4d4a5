-- A plain table has one picture.
use Rattle.std.proofs.Common.{◌≡◌, ℕ, true, not, ◌&&◌, List, sym, ap, ◌∙◌}
use Rattle.std.specs.List.{filter}
use Rattle.std.specs.Ordering.{is_lt}
use Rattle.std.proofs.lemmas.Cmp.{on_total, nat_cmp_total}
use Rattle.lock_table.specs.declared.known_client.KnownClient.{KnownClient}
use Rattle.lock_table.specs.Apply.{Plain, is_client}
use Rattle.lock_table.specs.Picture.{client_cmp, Shown, values_beside, IsPictureOf}
use Rattle.lock_index.proofs.Parts.{filter_within}
use Rattle.lock_index.proofs.Alike.{same_back, same_through}
use Rattle.lock_index.proofs.Unique.{tie_is_equal, numbers_equal, one_sorted, one_printed}
use Rattle.lock_table.proofs.Pictures.{client_order}

client_ties : (a b : List KnownClient) → ((client : ℕ) → filter (is_client client) a ≡ filter (is_client client) b)
    → (x : KnownClient) → filter (λ z. not (is_lt (client_cmp x z)) && not (is_lt (client_cmp z x))) a ≡ filter (λ z. not (is_lt (client_cmp x z)) && not (is_lt (client_cmp z x))) b
client_ties a b same x =
    let stricter : (z : KnownClient) → (not (is_lt (client_cmp x z)) && not (is_lt (client_cmp z x))) ≡ true → is_client x.client z ≡ true = λ z h. numbers_equal x.client z.client (tie_is_equal client_cmp (on_total (λ (k : KnownClient). k.client) nat_cmp_total) x z h) in
    sym (filter_within _ (is_client x.client) stricter a) ∙ ap (filter (λ z. not (is_lt (client_cmp x z)) && not (is_lt (client_cmp z x)))) (same x.client) ∙ filter_within _ (is_client x.client) stricter b

-- whatever shows a plain table is one and the same
pub one_shown : (plain : Plain) (shown other : Shown) → IsPictureOf shown plain → IsPictureOf other plain → shown ≡ other
one_shown plain shown other p q =
    let locks : shown.locks ≡ other.locks = one_printed shown.locks other.locks p.printed q.printed
    (same_through shown.locks plain.locks other.locks p.locks (same_back other.locks plain.locks q.locks)) in
    let clients : shown.clients ≡ other.clients = one_sorted client_cmp client_order shown.clients other.clients p.by_number q.by_number
    (client_ties shown.clients other.clients (λ client. p.clients client ∙ sym (q.clients client))) in
    λ i. record { locks = locks i; values = (p.values ∙ ap (values_beside plain.values) locks ∙ sym q.values) i; clients = clients i }
