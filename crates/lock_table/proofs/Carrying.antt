-- A table that is carried over is the same again.
use Rattle.std.proofs.Common.{◌≡◌, ◌≤◌, ◌<◌, ◌+◌, ℕ, zero, suc, Bool, true, false, cond, not, nat_le, ◌||◌, ◌==◌, List, [], ◌∷◌, ◌++◌, length, Option, Some, None, map, refl, sym, ap, subst, ◌∙◌, arith, append_assoc, length-append}
use Rattle.std.specs.List.{filter, find, list_any}
use Rattle.std.specs.List.Sorted.{IsSorted}
use Rattle.std.specs.Ordering.{is_lt}
use Rattle.std.proofs.lemmas.List.Kept.{IsSortedBy-filter}
use Rattle.std.proofs.lemmas.Bool.{eq-eqb}
use Rattle.std.proofs.lemmas.Bool.Decides.{nat_tests}
use Rattle.std.proofs.lemmas.List.{append-nil, length-map, map-append}
use Rattle.std.proofs.lemmas.List.Folds.{list_any-append}
use Rattle.lock_command.specs.Command.{spelling}
use Rattle.lock_command.specs.Name.{same_name}
use Rattle.lock_command.specs.declared.command.Command.{Command}
use Rattle.lock_command.specs.declared.command.Action.TheVariants.{CarryLock}
use Rattle.lock_command.specs.declared.reply.Answer.TheVariants as answer
use Rattle.lock_command.specs.declared.reply.LockValue.{LockValue}
use Rattle.lock_command.specs.declared.reply.Refusal.TheVariants as refusal
use Rattle.lock_table.specs.declared.clients.TheConstants.{CLIENTS}
use Rattle.lock_command.specs.declared.record.TheConstants.{LOCKS}
use Rattle.lock_command.specs.declared.record.LockRecord.{LockRecord}
use Rattle.lock_table.specs.declared.known_client.KnownClient.{KnownClient}
use Rattle.lock_command.specs.State.{goal_of}
use Rattle.lock_command.specs.Locks.{is_on, option_or, lock_in, put, converts_on, waits_on, head_of, IsDistinct}
use Rattle.lock_table.specs.Values.{Values, zeros, stored, of_locked, values_after}
use Rattle.lock_table.specs.Apply.{carried, Plain, is_client, carried_out, unchanged, refusing, applied_after, applied, no_locks, table_after}
use Rattle.lock_index.specs.Printed.{printed_cmp, HasSameLocks}
use Rattle.lock_table.specs.Picture.{client_cmp, Shown, HasSameClients, HasZeros, values_beside, IsPictureOf}
use Rattle.lock_table.specs.Carrying.{carried_lock, carried_client, carried_locks, carried_over, stays_known, without_clients, forgetting, table_later, AreOrdinary, IsLogAfter}
use Rattle.lock_index.proofs.Parts.{first, find_is_first, filter-filter, length_alike, length_parts}
use Rattle.lock_index.proofs.Numbered.{numbered, numbered-cons, numbered-append, without_absent}
use Rattle.lock_index.proofs.Alike.{same_back, same_through, same-any, same-lock_in, same-length, same-admits, same-distinct}
use Rattle.lock_index.proofs.Apart.{name_is}
use Rattle.lock_table.proofs.Behave.{same-applied, distinct-applied, reachable_distinct}
use Rattle.lock_table.proofs.Quiet.{IsPeaceful, found_numbered, same_name-sym}
use Rattle.lock_table.proofs.Reachable.{peace_from, no_locks_peace}
use Rattle.lock_table.proofs.Heads.{IsCalm, calm_from, no_locks_calm}
use Rattle.lock_table.proofs.History.{table_from, after_both}
use Rattle.lock_table.proofs.Outcomes.{place_there}
use Rattle.lock_table.proofs.Pictures.{client_order, one_picture, picture_of_same}
use Rattle.lock_table.proofs.Room.{known, known-append, known_one, known_less, reachable_room}

abbrev whole : List LockRecord → Values → List KnownClient → Plain
whole locks values clients = record { locks = locks; values = values; clients = clients }

not_full : (m n : ℕ) → n < m → nat_le m n ≡ false
not_full m n h = grind (arith, nat_tests, h)

or_no : (b : Bool) → (b || false) ≡ b
or_no true = refl
or_no false = refl

-- LOCKS

not_found : (locks : List LockRecord) (lock : ℕ) → numbered lock locks ≡ 0 → lock_in locks lock ≡ None
not_found locks lock none =
    elim (lock_in locks lock) as (λ o. lock_in locks lock ≡ o → o ≡ None) [
      | None ↦ λ e. refl
      | Some x ↦ λ e. absurd (omega (arith, none, found_numbered lock locks x e))
    ] refl

-- a lock whose number is free is put behind the others
carried_behind : (locks : List LockRecord) (r : LockRecord) → numbered r.lock locks ≡ 0 → length locks < LOCKS
    → carried locks r ≡ record { locks = locks ++ r ∷ []; answer = answer.State r.state }
carried_behind locks r none room =
    place_there locks r.lock (record { locks = put locks r; answer = answer.State r.state }) (record { free = not_found locks r.lock none; room = room })
    ∙ ap (λ (l : List LockRecord). record { locks = l ++ r ∷ []; answer = answer.State r.state }) (without_absent r.lock locks none)

twice_locked : (a b : Bool) (x : LockValue) → a ≡ b → cond a (cond b x zeros) zeros ≡ cond a x zeros
twice_locked true true x same = refl
twice_locked true false x same = let impossible : ⊥ = cc in absurd impossible
twice_locked false b x same = refl

-- the value of its name is then that of the names that have locks
next_values : (v : Values) (locks : List LockRecord) (r : LockRecord) → of_locked (locks ++ r ∷ []) (stored (of_locked locks v) r.name (v r.name)) ≡ of_locked (locks ++ r ∷ []) v
next_values v locks r = λ i name.
    (elim (same_name name r.name) as (λ b. same_name name r.name ≡ b → cond (list_any (is_on name) (locks ++ r ∷ [])) (cond b (v r.name) (of_locked locks v name)) zeros ≡ of_locked (locks ++ r ∷ []) v name) [
      | true ↦ λ own. ap (λ n. cond (list_any (is_on name) (locks ++ r ∷ [])) (v n) zeros) (sym (name_is name r.name own))
      | false ↦ λ differ.
          let other : is_on name r ≡ false = same_name-sym r.name name ∙ differ in
          let same : list_any (is_on name) (locks ++ r ∷ []) ≡ list_any (is_on name) locks =
          list_any-append (is_on name) locks (r ∷ []) ∙ ap (λ b. list_any (is_on name) locks || (b || false)) other ∙ or_no (list_any (is_on name) locks) in
          twice_locked (list_any (is_on name) (locks ++ r ∷ [])) (list_any (is_on name) locks) (v name) same
    ] refl) i

lock_step : (locks : List LockRecord) (v : Values) (r : LockRecord) → numbered r.lock locks ≡ 0 → length locks < LOCKS
    → (applied (whole locks (of_locked locks v) []) (carried_lock r (v r.name))).table ≡ whole (locks ++ r ∷ []) (of_locked (locks ++ r ∷ []) v) []
unfolding applied
lock_step locks v r none room =
    let outcome = carried_behind locks r none room in
    (λ i. whole (outcome i).locks (values_after (of_locked locks v) locks (outcome i).locks (CarryLock r.lock r.name r.state (v r.name)) (outcome i).answer) [])
    ∙ ap (λ w. whole (locks ++ r ∷ []) w []) (next_values v locks r)

locks_from : (rest locks : List LockRecord) (v : Values) → IsDistinct (locks ++ rest) → length locks + length rest ≤ LOCKS
    → table_from (whole locks (of_locked locks v) []) (carried_locks rest (values_beside v rest)) ≡ whole (locks ++ rest) (of_locked (locks ++ rest) v) []
unfolding table_from
locks_from [] locks v distinct few = ap (λ l. whole l (of_locked l v) []) (sym (append-nil locks))
locks_from (r ∷ rest) locks v distinct few =
    let more : (locks ++ r ∷ []) ++ rest ≡ locks ++ r ∷ rest = append_assoc locks (r ∷ []) rest in
    let own : numbered r.lock (r ∷ rest) ≡ cond true 1 0 + numbered r.lock rest = numbered-cons r.lock r rest ∙ ap (λ b. cond b 1 0 + numbered r.lock rest) (eq-eqb r.lock r.lock refl) in
    let none : numbered r.lock locks ≡ 0 = omega (arith, own, distinct r.lock, numbered-append r.lock locks (r ∷ rest)) in
    ap (λ (t : Plain). table_from t (carried_locks rest (values_beside v rest))) (lock_step locks v r none (omega (arith, few)))
    ∙ locks_from rest (locks ++ r ∷ []) v (subst (λ (l : List LockRecord). IsDistinct l) (sym more) distinct) (omega (arith, few, length-append locks (r ∷ [])))
    ∙ ap (λ l. whole l (of_locked l v) []) more

-- CLIENTS

none_left : (client : ℕ) (clients : List KnownClient) → known client clients ≡ 0 → filter (λ o. not (is_client client o)) clients ≡ clients
none_left client [] none = refl
none_left client (k ∷ clients) none =
    let parts = known-append client (k ∷ []) clients in
    elim (is_client client k) as (λ b. is_client client k ≡ b → cond (not b) (k ∷ filter (λ o. not (is_client client o)) clients) (filter (λ o. not (is_client client o)) clients) ≡ k ∷ clients) [
      | true ↦ λ e.
          let one : known client (k ∷ []) ≡ 1 = known_one client k ∙ ap (λ b. cond b 1 0) e in
          absurd (omega (arith, none, parts, one))
      | false ↦ λ e. ap (λ l. k ∷ l) (none_left client clients (omega (arith, none, parts)))
    ] refl

pub unknown : (client : ℕ) (clients : List KnownClient) → known client clients ≡ 0 → find (is_client client) clients ≡ None
unknown client [] none = refl
unknown client (k ∷ clients) none =
    let parts = known-append client (k ∷ []) clients in
    elim (is_client client k) as (λ b. is_client client k ≡ b → cond b (Some k) (find (is_client client) clients) ≡ None) [
      | true ↦ λ e.
          let one : known client (k ∷ []) ≡ 1 = known_one client k ∙ ap (λ b. cond b 1 0) e in
          absurd (omega (arith, none, parts, one))
      | false ↦ λ e. unknown client clients (omega (arith, none, parts))
    ] refl

locked_again : (locks : List LockRecord) (v : Values) → of_locked locks (of_locked locks v) ≡ of_locked locks v
locked_again locks v = λ i name. twice_locked (list_any (is_on name) locks) (list_any (is_on name) locks) (v name) refl i

client_step : (locks : List LockRecord) (v : Values) (clients : List KnownClient) (k : KnownClient) → known k.client clients ≡ 0 → length clients < CLIENTS
    → (applied (whole locks (of_locked locks v) clients) (carried_client k)).table ≡ whole locks (of_locked locks v) (clients ++ k ∷ [])
unfolding applied
client_step locks v clients k none room =
    let t = whole locks (of_locked locks v) clients in
    let c = carried_client k in
    ap (λ (o : Option KnownClient). (applied_after t c o).table) (unknown k.client clients none)
    ∙ ap (λ b. (cond b (unchanged t (refusing refusal.ClientsFull)) (carried_out t c)).table) (not_full CLIENTS (length clients) room)
    ∙ (λ i. whole locks (locked_again locks v i) (none_left k.client clients none i ++ k ∷ []))

clients_from : (rest clients : List KnownClient) (locks : List LockRecord) (v : Values) → ((client : ℕ) → known client (clients ++ rest) ≤ 1) → length clients + length rest ≤ CLIENTS
    → table_from (whole locks (of_locked locks v) clients) (map carried_client rest) ≡ whole locks (of_locked locks v) (clients ++ rest)
unfolding table_from
clients_from [] clients locks v once few = ap (λ l. whole locks (of_locked locks v) l) (sym (append-nil clients))
clients_from (k ∷ rest) clients locks v once few =
    let more : (clients ++ k ∷ []) ++ rest ≡ clients ++ k ∷ rest = append_assoc clients (k ∷ []) rest in
    let own : known k.client (k ∷ rest) ≡ 1 + known k.client rest =
    known-append k.client (k ∷ []) rest ∙ ap (λ n. n + known k.client rest) (known_one k.client k ∙ ap (λ b. cond b 1 0) (eq-eqb k.client k.client refl)) in
    let none : known k.client clients ≡ 0 = omega (arith, own, once k.client, known-append k.client clients (k ∷ rest)) in
    ap (λ (t : Plain). table_from t (map carried_client rest)) (client_step locks v clients k none (omega (arith, few)))
    ∙ clients_from rest (clients ++ k ∷ []) locks v (subst (λ (l : List KnownClient). (client : ℕ) → known client l ≤ 1) (sym more) once) (omega (arith, few, length-append clients (k ∷ [])))
    ∙ ap (λ l. whole locks (of_locked locks v) l) more

-- THE WHOLE TABLE

client_of : KnownClient → ℕ
client_of k = k.client

-- what a table shows that may be carried over
pub record IsWhole (shown : Shown) (v : Values) : Type 0 where
  pub distinct : IsDistinct shown.locks
  pub few : length shown.locks ≤ LOCKS
  pub once : (client : ℕ) → known client shown.clients ≤ 1
  pub few_clients : length shown.clients ≤ CLIENTS
  pub printed : IsSorted printed_cmp shown.locks
  pub by_number : IsSorted client_cmp shown.clients
  pub values : shown.values ≡ values_beside v shown.locks
  pub unlocked : HasZeros shown.locks v

-- values of names without locks are zeros anyway
values_are : (locks : List LockRecord) (v : Values) → HasZeros locks v → of_locked locks v ≡ v
values_are locks v unlocked = λ i name.
    (elim (list_any (is_on name) locks) as (λ b. list_any (is_on name) locks ≡ b → cond b (v name) zeros ≡ v name) [
      | true ↦ λ e. refl
      | false ↦ λ e. sym (unlocked name e)
    ] refl) i

-- what is carried over: the locks as they are shown, the values, and the clients as they are shown
pub carried_table : (shown : Shown) (v : Values) → IsWhole shown v → table_after (carried_over shown) ≡ whole shown.locks v shown.clients
unfolding table_from
carried_table shown v is =
    after_both (carried_locks shown.locks shown.values) (map carried_client shown.clients) no_locks
    ∙ ap (λ values. table_from (table_from no_locks (carried_locks shown.locks values)) (map carried_client shown.clients)) is.values
    ∙ ap (λ (t : Plain). table_from t (map carried_client shown.clients)) (locks_from shown.locks [] v is.distinct (omega (arith, is.few)))
    ∙ clients_from shown.clients [] shown.locks v is.once (omega (arith, is.few_clients))
    ∙ ap (λ w. whole shown.locks w shown.clients) (values_are shown.locks v is.unlocked)

whole_pictured : (shown : Shown) (v : Values) → IsWhole shown v → IsPictureOf shown (whole shown.locks v shown.clients)
whole_pictured shown v is = record {
  locks = record { numbers = λ lock. refl; conversions = λ name. refl; waiting = λ name. refl };
  printed = is.printed;
  values = is.values;
  unlocked = is.unlocked;
  clients = λ client. refl;
  by_number = is.by_number;
}

whole_carried : (shown : Shown) (v : Values) → IsWhole shown v → IsPictureOf shown (table_after (carried_over shown))
whole_carried shown v is = subst (λ (t : Plain). IsPictureOf shown t) (sym (carried_table shown v is)) (whole_pictured shown v is)

-- so is what shows a table that commands left
pub reachable_whole : (past : List Command) (shown : Shown) → IsPictureOf shown (table_after past) → IsWhole shown (table_after past).values
unfolding client_of
reachable_whole past shown pictured =
    let t = table_after past in
    let room = reachable_room past in
    record {
      distinct = same-distinct t.locks shown.locks (same_back shown.locks t.locks pictured.locks) (reachable_distinct past);
      few = omega (arith, same-length shown.locks t.locks pictured.locks, room.locks);
      once = λ client. omega (arith, ap length (pictured.clients client), room.clients.once client);
      few_clients = omega (arith, length_alike client_of shown.clients t.clients pictured.clients, room.clients.few);
      printed = pictured.printed;
      by_number = pictured.by_number;
      values = pictured.values;
      unlocked = pictured.unlocked;
    }

pub carried_pictured : (past : List Command) (shown : Shown) → IsPictureOf shown (table_after past) → IsPictureOf shown (table_after (carried_over shown))
carried_pictured past shown pictured = whole_carried shown (table_after past).values (reachable_whole past shown pictured)

-- CLIENTS THAT ARE LEFT OUT

stays_alike : (leave : ℕ → Bool) (a b : List LockRecord) → HasSameLocks a b → stays_known leave a ≡ stays_known leave b
stays_alike leave a b same = λ i (k : KnownClient). not (leave k.client) || same-any (λ (r : LockRecord). r.client == k.client) a b same i

-- a picture without clients is one of the plain table without them
forgotten_pictured : (leave : ℕ → Bool) (shown : Shown) (t : Plain) → IsPictureOf shown t → IsPictureOf (without_clients leave shown) (forgetting leave t)
forgotten_pictured leave shown t pictured =
    let stays = stays_known leave shown.locks in
    record {
      locks = pictured.locks;
      printed = pictured.printed;
      values = pictured.values;
      unlocked = pictured.unlocked;
      clients = λ client.
          filter-filter (is_client client) stays shown.clients
          ∙ ap (filter stays) (pictured.clients client)
          ∙ filter-filter stays (is_client client) t.clients
          ∙ ap (λ (p : KnownClient → Bool). filter (is_client client) (filter p t.clients)) (stays_alike leave shown.locks t.locks pictured.locks);
      by_number = IsSortedBy-filter (λ x y. is_lt (client_cmp x y)) client_order stays shown.clients pictured.by_number;
    }

pub left_out_pictured : (past : List Command) (shown : Shown) (leave : ℕ → Bool) → IsPictureOf shown (table_after past) → IsPictureOf (without_clients leave shown) (table_after (carried_over (without_clients leave shown)))
left_out_pictured past shown leave pictured =
    let is = reachable_whole past shown pictured in
    let stays = stays_known leave shown.locks in
    whole_carried (without_clients leave shown) (table_after past).values (record {
      distinct = is.distinct;
      few = is.few;
      once = λ client. omega (arith, is.once client, known_less stays client shown.clients);
      few_clients = omega (arith, is.few_clients, length_parts stays shown.clients);
      printed = is.printed;
      by_number = (forgotten_pictured leave shown (table_after past) pictured).by_number;
      values = is.values;
      unlocked = is.unlocked;
    })

-- HOW MANY

carried_locks_few : (locks : List LockRecord) (values : List LockValue) → length (carried_locks locks values) ≤ length locks
carried_locks_few [] values = omega arith
carried_locks_few (r ∷ locks) [] = omega arith
carried_locks_few (r ∷ locks) (value ∷ values) = omega (arith, carried_locks_few locks values)

pub carried_few : (past : List Command) (shown : Shown) → IsPictureOf shown (table_after past) → length (carried_over shown) ≤ LOCKS + CLIENTS
carried_few past shown pictured =
    let is = reachable_whole past shown pictured in
    omega (arith, length-append (carried_locks shown.locks shown.values) (map carried_client shown.clients), carried_locks_few shown.locks shown.values, length-map shown.clients carried_client, is.few, is.few_clients)

pub left_out_few : (past : List Command) (shown : Shown) (leave : ℕ → Bool) → IsPictureOf shown (table_after past) → length (carried_over (without_clients leave shown)) ≤ length (carried_over shown)
left_out_few past shown leave pictured =
    let stays = stays_known leave shown.locks in
    let before = carried_locks shown.locks shown.values in
    let rest = filter stays shown.clients in
    omega (arith, length-append before (map carried_client shown.clients), length-append before (map carried_client rest), length-map shown.clients carried_client, length-map rest carried_client, length_parts stays shown.clients)

-- AND WHATEVER FOLLOWS

-- the same locks, values and clients
pub record IsSameTable (x y : Plain) : Type 0 where
  pub locks : HasSameLocks x.locks y.locks
  pub values : x.values ≡ y.values
  pub clients : HasSameClients x.clients y.clients
  pub distinct : IsDistinct x.locks

same_from : (commands : List Command) (x y : Plain) → IsSameTable x y → IsSameTable (table_from x commands) (table_from y commands)
unfolding table_from
same_from [] x y same = same
same_from (c ∷ commands) x y same =
    let next = same-applied x y c same.locks same.values same.clients same.distinct in
    same_from commands (applied x c).table (applied y c).table (record { locks = next.locks; values = next.values; clients = next.clients; distinct = distinct-applied x c same.distinct })

same_later : (past later : List Command) (shown : Shown) → IsPictureOf shown (table_after past) → IsSameTable (table_after (past ++ later)) (table_after (carried_over shown ++ later))
unfolding table_from
same_later past later shown pictured =
    let alike = one_picture shown (table_after past) (table_after (carried_over shown)) pictured (carried_pictured past shown pictured) in
    let same : IsSameTable (table_after past) (table_after (carried_over shown)) = record { locks = alike.0; values = alike.2; clients = alike.1; distinct = reachable_distinct past } in
    subst (λ (t : Plain). IsSameTable t (table_after (carried_over shown ++ later))) (sym (after_both past later no_locks))
    (subst (λ (t : Plain). IsSameTable (table_from (table_after past) later) t) (sym (after_both (carried_over shown) later no_locks))
    (same_from later (table_after past) (table_after (carried_over shown)) same))

pub pictured_later : (past later : List Command) (shown after : Shown) → IsPictureOf shown (table_after past) → IsPictureOf after (table_after (past ++ later)) → IsPictureOf after (table_after (carried_over shown ++ later))
pictured_later past later shown after pictured then =
    let same = same_later past later shown pictured in
    picture_of_same after (table_after (past ++ later)) (table_after (carried_over shown ++ later)) then same.locks same.values same.clients

pub replied_later : (past later : List Command) (shown : Shown) (c : Command) → IsPictureOf shown (table_after past) → (applied (table_after (carried_over shown ++ later)) c).reply ≡ (applied (table_after (past ++ later)) c).reply
replied_later past later shown c pictured =
    let same = same_later past later shown pictured in
    sym (same-applied (table_after (past ++ later)) (table_after (carried_over shown ++ later)) c same.locks same.values same.clients same.distinct).reply

-- the same where clients were left out, and the table that was left forgets them
forgotten_from : (past later : List Command) (shown : Shown) (leave : ℕ → Bool) → IsPictureOf shown (table_after past)
    → IsSameTable (table_from (forgetting leave (table_after past)) later) (table_after (carried_over (without_clients leave shown) ++ later))
unfolding table_from
forgotten_from past later shown leave pictured =
    let before = forgetting leave (table_after past) in
    let over = carried_over (without_clients leave shown) in
    let alike = one_picture (without_clients leave shown) before (table_after over) (forgotten_pictured leave shown (table_after past) pictured) (left_out_pictured past shown leave pictured) in
    let same : IsSameTable before (table_after over) = record { locks = alike.0; values = alike.2; clients = alike.1; distinct = reachable_distinct past } in
    subst (λ (t : Plain). IsSameTable (table_from before later) t) (sym (after_both over later no_locks)) (same_from later before (table_after over) same)

pub forgotten_later : (past later : List Command) (shown after : Shown) (leave : ℕ → Bool) → IsPictureOf shown (table_after past) → IsPictureOf after (table_later (forgetting leave (table_after past)) later)
    → IsPictureOf after (table_after (carried_over (without_clients leave shown) ++ later))
unfolding table_from
forgotten_later past later shown after leave pictured then =
    let same = forgotten_from past later shown leave pictured in
    picture_of_same after (table_later (forgetting leave (table_after past)) later) (table_after (carried_over (without_clients leave shown) ++ later)) then same.locks same.values same.clients

pub forgotten_replied : (past later : List Command) (shown : Shown) (leave : ℕ → Bool) (c : Command) → IsPictureOf shown (table_after past)
    → (applied (table_after (carried_over (without_clients leave shown) ++ later)) c).reply ≡ (applied (table_later (forgetting leave (table_after past)) later) c).reply
unfolding table_from
forgotten_replied past later shown leave c pictured =
    let same = forgotten_from past later shown leave pictured in
    sym (same-applied (table_later (forgetting leave (table_after past)) later) (table_after (carried_over (without_clients leave shown) ++ later)) c same.locks same.values same.clients same.distinct).reply

-- HOWEVER OFTEN A LOG WAS RENEWED

peace_alike : (a b : List LockRecord) → HasSameLocks a b → IsPeaceful a → IsPeaceful b
peace_alike a b same p = record {
  distinct = same-distinct a b same p.distinct;
  quiet = λ r there m held. sym (same-admits r.lock r.name m a b same) ∙ p.quiet r (same-lock_in r.lock a b same ∙ there) m held;
}

same_head : (a b : List LockRecord) (name : List ℕ) → HasSameLocks a b → head_of a name ≡ head_of b name
same_head a b name same =
    let conversion : find (converts_on name) a ≡ find (converts_on name) b = find_is_first (converts_on name) a ∙ ap first (same.conversions name) ∙ sym (find_is_first (converts_on name) b) in
    let waits : find (waits_on name) a ≡ find (waits_on name) b = find_is_first (waits_on name) a ∙ ap first (same.waiting name) ∙ sym (find_is_first (waits_on name) b) in
    λ i. option_or (conversion i) (waits i)

calm_alike : (a b : List LockRecord) → HasSameLocks a b → IsCalm a → IsCalm b
calm_alike a b same calm = record {
  distinct = same-distinct a b same calm.distinct;
  settled = λ name r turn. sym (same-admits r.lock r.name (goal_of r.state) a b same) ∙ calm.settled name r (same_head a b name same ∙ turn);
}

-- what ordinary commands keep, and what the locks alone decide, holds of each log that there is
module _ (P : List LockRecord → Type 0) (first_holds : P no_locks.locks)
    (keeps : (commands : List Command) (t : Plain) → AreOrdinary commands → P t.locks → P (table_from t commands).locks)
    (alike : (a b : List LockRecord) → HasSameLocks a b → P a → P b) where
  pub holds_after : (renewals : ℕ) (log : List Command) → IsLogAfter renewals log → P (table_after log).locks
  unfolding table_from
  holds_after zero log ordinary = keeps log no_locks ordinary first_holds
  holds_after (suc renewals) log h =
      let past = h.0 in
      let shown = h.1 in
      let leave = h.2 in
      let later = h.3 in
      let over = carried_over (without_clients leave shown) in
      let pictured : IsPictureOf shown (table_after past) = h.5 in
      let before : P (table_after past).locks = holds_after renewals past h.4 in
      let same : HasSameLocks (table_after past).locks (table_after over).locks =
      same_through (table_after past).locks shown.locks (table_after over).locks (same_back shown.locks (table_after past).locks pictured.locks) (left_out_pictured past shown leave pictured).locks in
      let carried : P (table_after over).locks = alike (table_after past).locks (table_after over).locks same before in
      subst (λ (l : List Command). P (table_after l).locks) (sym h.7)
      (subst (λ (t : Plain). P t.locks) (sym (after_both over later no_locks)) (keeps later (table_after over) h.6 carried))

pub peace_after : (renewals : ℕ) (log : List Command) → IsLogAfter renewals log → IsPeaceful (table_after log).locks
unfolding table_from
peace_after = holds_after (λ locks. IsPeaceful locks) no_locks_peace peace_from peace_alike

pub calm_after : (renewals : ℕ) (log : List Command) → IsLogAfter renewals log → IsCalm (table_after log).locks
unfolding table_from
calm_after = holds_after (λ locks. IsCalm locks) no_locks_calm calm_from calm_alike

-- AS BYTES

locks_listed : (locks : List LockRecord) (v : Values) → map spelling (carried_locks locks (values_beside v locks)) ≡ map (λ (r : LockRecord). spelling (carried_lock r (v r.name))) locks
locks_listed [] v = refl
locks_listed (r ∷ locks) v = ap (λ l. spelling (carried_lock r (v r.name)) ∷ l) (locks_listed locks v)

clients_listed : (clients : List KnownClient) → map spelling (map carried_client clients) ≡ map (λ (k : KnownClient). spelling (carried_client k)) clients
clients_listed [] = refl
clients_listed (k ∷ clients) = ap (λ l. spelling (carried_client k) ∷ l) (clients_listed clients)

-- for callers: what is listed is what is carried over
pub all_listed : (locks : List LockRecord) (v : Values) (clients : List KnownClient)
    → map (λ (r : LockRecord). spelling (carried_lock r (v r.name))) locks ++ map (λ (k : KnownClient). spelling (carried_client k)) clients ≡ map spelling (carried_locks locks (values_beside v locks) ++ map carried_client clients)
all_listed locks v clients =
    sym (map-append spelling (carried_locks locks (values_beside v locks)) (map carried_client clients) ∙ (λ i. locks_listed locks v i ++ clients_listed clients i))
