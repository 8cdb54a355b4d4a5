-- The picture of a plain table, and what a command makes of it.
use Rattle.std.proofs.Common.{◌≡◌, ℕ, true, false, ◌||◌, List, [], ◌∷◌, refl, subst, sym, ap, ◌∙◌, arith}
use Rattle.std.specs.List.{filter, list_any}
use Rattle.std.specs.Ordering.{is_lt, nat_cmp}
use Rattle.std.specs.Cmp.{IsStrictWeakOrder}
use Rattle.std.proofs.lemmas.Bool.{eqb-true}
use Rattle.std.proofs.lemmas.Cmp.{nat_cmp_total, tied_itself}
use Rattle.std.proofs.lemmas.List.MinMax.{ranks_by}
use Rattle.lock_command.specs.declared.command.Command.{Command}
use Rattle.lock_command.specs.declared.record.LockRecord.{LockRecord}
use Rattle.lock_table.specs.declared.known_client.KnownClient.{KnownClient}
use Rattle.lock_command.specs.Locks.{is_on, IsDistinct}
use Rattle.lock_table.specs.Apply.{Plain, is_client, no_locks, applied}
use Rattle.lock_index.specs.Printed.{printed_cmp, HasSameLocks}
use Rattle.lock_table.specs.Picture.{client_cmp, HasSameClients, HasZeros, Shown, nothing_shown, values_beside, IsPictureOf, pictured, IsShown}
use Rattle.lock_table.specs.Values.{Values}
use Rattle.lock_index.specs.Placed.{in_order}
use Rattle.lock_index.proofs.Alike.{same_back, same_through, same-any}
use Rattle.lock_index.proofs.Apart.{name_is}
use Rattle.lock_table.proofs.Behave.{same-applied, distinct-applied, zeros-applied}
use Rattle.lock_index.proofs.Ordered.{filter-in_order, IsSorted-in_order}
use Rattle.lock_index.proofs.PrintedOrder.{printed_order, same_in_order}
use Rattle.lock_index.proofs.Shown.{shown, shown_twice, IsDistinct-shown}
use Rattle.lock_index.proofs.Cuts.{in_order_sorted}

pub client_order : IsStrictWeakOrder (λ a b. is_lt (client_cmp a b))
client_order = ranks_by nat_cmp_total (λ (k : KnownClient). k.client)

-- no client changes its records
pub in_client_order : (client : ℕ) (clients : List KnownClient) → filter (is_client client) (in_order client_cmp clients) ≡ filter (is_client client) clients
in_client_order client = filter-in_order client_cmp client_order (is_client client) (λ x z one two.
    ap is_lt (ap (λ n. nat_cmp n z.client) (eqb-true x.client client one ∙ sym (eqb-true z.client client two)) ∙ tied_itself nat_cmp_total z.client))

pub picture_of_pictured : (plain : Plain) → IsDistinct plain.locks → HasZeros plain.locks plain.values → IsPictureOf (pictured plain) plain
unfolding pictured
picture_of_pictured plain distinct has =
    let locks : HasSameLocks (in_order printed_cmp plain.locks) plain.locks = same_in_order plain.locks distinct in
    record {
      locks = locks;
      printed = IsSorted-in_order printed_cmp printed_order plain.locks;
      values = refl;
      unlocked = λ name none. has name (sym (same-any (is_on name) (in_order printed_cmp plain.locks) plain.locks locks) ∙ none);
      clients = λ client. in_client_order client plain.clients;
      by_number = IsSorted-in_order client_cmp client_order plain.clients;
    }

-- what is listed beside a lock is the value of its name
beside_one : (v w : Values) (locks : List LockRecord) (name : List ℕ) → values_beside v locks ≡ values_beside w locks → list_any (is_on name) locks ≡ true → v name ≡ w name
beside_one v w [] name same there = let impossible : ⊥ = cc in absurd impossible
beside_one v w (r ∷ rest) name same there =
    elim (is_on name r) as (λ b. is_on name r ≡ b → (b || list_any (is_on name) rest) ≡ true → v name ≡ w name) [
      | true ↦ λ e t.
          let here : v r.name ≡ w r.name = cc in
          ap v (sym (name_is r.name name e)) ∙ here ∙ ap w (name_is r.name name e)
      | false ↦ λ e t.
          let tail : values_beside v rest ≡ values_beside w rest = cc in
          beside_one v w rest name tail t
    ] refl there

-- what a picture shows of values tells the value of each name
values_shown : (v w : Values) (locks : List LockRecord) → values_beside v locks ≡ values_beside w locks → HasZeros locks v → HasZeros locks w → v ≡ w
values_shown v w locks same one other = λ i name.
    (elim (list_any (is_on name) locks) as (λ b. list_any (is_on name) locks ≡ b → v name ≡ w name) [
      | true ↦ λ e. beside_one v w locks name same e
      | false ↦ λ e. one name e ∙ sym (other name e)
    ] refl) i

-- two plain tables with one picture have the same locks, clients and values
pub one_picture : (shown : Shown) (x y : Plain) → IsPictureOf shown x → IsPictureOf shown y → HasSameLocks x.locks y.locks × HasSameClients x.clients y.clients × (x.values ≡ y.values)
one_picture shown x y p q = (
  same_through x.locks shown.locks y.locks (same_back shown.locks x.locks p.locks) q.locks,
  λ client. sym (p.clients client) ∙ q.clients client,
  values_shown x.values y.values shown.locks (sym p.values ∙ q.values) p.unlocked q.unlocked,
)

-- and so what is a picture of one is a picture of the other
pub picture_of_same : (shown : Shown) (x y : Plain) → IsPictureOf shown x → HasSameLocks x.locks y.locks → x.values ≡ y.values → HasSameClients x.clients y.clients → IsPictureOf shown y
picture_of_same shown x y p locks values clients = record {
  locks = same_through shown.locks x.locks y.locks p.locks locks;
  printed = p.printed;
  values = p.values ∙ ap (λ v. values_beside v shown.locks) values;
  unlocked = subst (λ (v : Values). HasZeros shown.locks v) values p.unlocked;
  clients = λ client. p.clients client ∙ clients client;
  by_number = p.by_number;
}

-- what a command answers and leaves is the same of every plain table with the picture
pub picture_applied : (inner plain : Plain) (c : Command) → IsDistinct inner.locks → HasZeros inner.locks inner.values → IsPictureOf (pictured inner) plain
    → ((applied inner c).reply ≡ (applied plain c).reply) × IsPictureOf (pictured (applied inner c).table) (applied plain c).table
picture_applied inner plain c distinct has shown =
    let alike = one_picture (pictured inner) inner plain (picture_of_pictured inner distinct has) shown in
    let same = same-applied inner plain c alike.0 alike.2 alike.1 distinct in
    (same.reply, picture_of_same _ (applied inner c).table (applied plain c).table (picture_of_pictured (applied inner c).table (distinct-applied inner c distinct) (zeros-applied inner c has)) same.locks same.values same.clients)

-- for callers: a fresh table's picture
pub picture_of_none : IsPictureOf nothing_shown no_locks
unfolding pictured
picture_of_none = picture_of_pictured no_locks (λ lock. omega arith) (λ name none. refl)

-- a table after a command, as it is kept
pub shown_after : (t : Plain) (c : Command) (next : Plain) → IsShown t → next.locks ≡ shown (applied t c).table.locks → next.clients ≡ in_order client_cmp (applied t c).table.clients → HasZeros next.locks next.values → IsShown next
shown_after t c next is locks clients has = record {
  distinct = subst (λ (l : List LockRecord). IsDistinct l) (sym locks) (IsDistinct-shown (applied t c).table.locks (distinct-applied t c is.distinct));
  printed = subst (λ (l : List LockRecord). shown l ≡ l) (sym locks) (shown_twice (applied t c).table.locks);
  by_number = subst (λ (l : List KnownClient). in_order client_cmp l ≡ l) (sym clients)
      (in_order_sorted client_cmp client_order (in_order client_cmp (applied t c).table.clients) (IsSorted-in_order client_cmp client_order (applied t c).table.clients));
  unlocked = has;
}

pub pictured_itself : (t : Plain) → IsShown t → pictured t ≡ record { locks = t.locks; values = values_beside t.values t.locks; clients = t.clients }
unfolding pictured
pictured_itself t is = λ i. record { locks = is.printed i; values = values_beside t.values (is.printed i); clients = is.by_number i }
