-- No table that commands can reach has more locks or clients than there is room for, and no client twice.
use Rattle.std.proofs.Common.{◌≡◌, ◌≤◌, ◌<◌, ◌+◌, ◌⊎◌, inl, inr, ℕ, Bool, true, false, cond, not, ◌==◌, List, [], ◌∷◌, ◌++◌, length, Option, Some, None, map, refl, sym, ap, ◌∙◌, arith, length-append}
use Rattle.std.specs.List.{filter, find, fold}
use Rattle.std.proofs.lemmas.Bool.{eqb-true}
use Rattle.std.proofs.lemmas.Bool.Decides.{nat_tests}
use Rattle.std.proofs.lemmas.List.Elements.{filter-append}
use Rattle.lock_command.specs.declared.mode.Mode.{Mode}
use Rattle.lock_command.specs.declared.command.Command.{Command}
use Rattle.lock_command.specs.declared.command.Action.{Action}
use Rattle.lock_command.specs.declared.command.Action.TheVariants.{Enqueue, Convert, Release, Cancel, Status, Purge, QuietPurge, Forget, CarryLock, CarryClient}
use Rattle.lock_command.specs.declared.state.LockState.TheVariants.{Granted, Converting, Waiting}
use Rattle.lock_table.specs.declared.clients.TheConstants.{CLIENTS}
use Rattle.lock_command.specs.declared.record.TheConstants.{LOCKS}
use Rattle.lock_command.specs.declared.record.LockRecord.{LockRecord}
use Rattle.lock_table.specs.declared.known_client.KnownClient.{KnownClient}
use Rattle.lock_command.specs.State.{goal_of}
use Rattle.lock_command.specs.Locks.{is_lock, is_through, in_state, lock_in, without, put, converts_on, waits_on, conversions, waiting, queue, admits, granted, grant_from, settled, settled_all}
use Rattle.lock_table.specs.Apply.{CommandOutcome, purged, done, Plain, Applied, is_client, kept, keeps_none, forgotten_by, without_client, kept_after, carried_out, applied, no_locks, table_after}
use Rattle.lock_index.proofs.Parts.{length_parts}
use Rattle.lock_index.proofs.Numbered.{numbered, numbered-cons, numbered-append, numbered-filter}
use Rattle.lock_table.proofs.Quiet.{found_numbered}
use Rattle.lock_table.proofs.Outcomes.{after_enqueue, after_convert, after_release, after_cancel, after_status, after_forget, after_carry, after_request}

-- LOCKS

length-filter : (P : LockRecord → Bool) (a : List LockRecord) → length (filter P a) ≤ length a
length-filter P a = omega (arith, length_parts P a)

pub length-put : (a : List LockRecord) (g : LockRecord) → length (put a g) ≤ length a + 1
length-put a g = omega (arith, length-append (without a g.lock) (g ∷ []), length_parts (is_lock g.lock) a)

-- a lock that is there takes no more room in another state
length-put_there : (a : List LockRecord) (g : LockRecord) → 1 ≤ numbered g.lock a → length (put a g) ≤ length a
length-put_there a g there = omega (arith, there, length-append (without a g.lock) (g ∷ []), length_parts (is_lock g.lock) a)

without_other : (lock other : ℕ) (a : List LockRecord) → (other == lock) ≡ false → numbered lock (without a other) ≡ numbered lock a
without_other lock other [] differ = refl
without_other lock other (x ∷ rest) differ =
    let tail = without_other lock other rest differ in
    elim (is_lock other x) as (λ b. is_lock other x ≡ b → numbered lock (cond (not b) (x ∷ without rest other) (without rest other)) ≡ numbered lock (x ∷ rest)) [
      | true ↦ λ e.
          let apart : is_lock lock x ≡ false = ap (λ n. n == lock) (eqb-true x.lock other e) ∙ differ in
          let none : numbered lock (x ∷ rest) ≡ cond false 1 0 + numbered lock rest = numbered-cons lock x rest ∙ ap (λ b. cond b 1 0 + numbered lock rest) apart in
          omega (arith, tail, none)
      | false ↦ λ e. omega (arith, tail, numbered-cons lock x (without rest other), numbered-cons lock x rest)
    ] refl

put_numbered : (a : List LockRecord) (g : LockRecord) (lock : ℕ) → 1 ≤ numbered lock a → 1 ≤ numbered lock (put a g)
put_numbered a g lock there =
    elim (g.lock == lock) as (λ b. (g.lock == lock) ≡ b → 1 ≤ numbered lock (put a g)) [
      | true ↦ λ e.
          let one : numbered lock (g ∷ []) ≡ cond true 1 0 + 0 = numbered-cons lock g [] ∙ ap (λ b. cond b 1 0 + 0) e in
          omega (arith, one, numbered-append lock (without a g.lock) (g ∷ []))
      | false ↦ λ e. omega (arith, there, without_other lock g.lock a e, numbered-append lock (without a g.lock) (g ∷ []))
    ] refl

granted_few : (q a : List LockRecord) → ((lock : ℕ) → 1 ≤ numbered lock q → 1 ≤ numbered lock a) → length (grant_from q a) ≤ length a
granted_few [] a there = omega arith
granted_few (r ∷ rest) a there =
    let own : numbered r.lock (r ∷ rest) ≡ cond true 1 0 + numbered r.lock rest = numbered-cons r.lock r rest ∙ ap (λ b. cond b 1 0 + numbered r.lock rest) (same_number r.lock) in
    let here : 1 ≤ numbered r.lock a = there r.lock (omega (arith, own)) in
    elim (admits a r.lock r.name (goal_of r.state)) as (λ b. length (cond b (grant_from rest (put a (granted r))) a) ≤ length a) [
      | true ↦
          let tail = granted_few rest (put a (granted r)) (λ lock among. put_numbered a (granted r) lock (there lock (omega (arith, among, numbered-cons lock r rest)))) in
          omega (arith, tail, length-put_there a (granted r) here)
      | false ↦ omega arith
    ]
  where
    same_number : (n : ℕ) → (n == n) ≡ true
    same_number n = grind (arith, nat_tests)

settled_few : (a : List LockRecord) (name : List ℕ) → length (settled a name) ≤ length a
unfolding settled
settled_few a name = granted_few (queue a name) a (λ lock among.
    omega (arith, among, numbered-append lock (conversions a name) (waiting a name), numbered-filter (converts_on name) lock a, numbered-filter (waits_on name) lock a))

settled_all_few : (names : List (List ℕ)) (a : List LockRecord) → length (settled_all a names) ≤ length a
settled_all_few [] a = omega arith
settled_all_few (name ∷ names) a = omega (arith, settled_all_few names (settled a name), settled_few a name)

IsFew : CommandOutcome → Type 0
IsFew o = length o.locks ≤ LOCKS

few-granted : (a : List LockRecord) (r : LockRecord) (held : Mode) → length a ≤ LOCKS → lock_in a r.lock ≡ Some r → length (settled (put a (in_state r (Granted held))) r.name) ≤ LOCKS
few-granted a r held few there =
    omega (arith, few, settled_few (put a (in_state r (Granted held))) r.name, length-put_there a (in_state r (Granted held)) (found_numbered r.lock a r there))

few-without : (a : List LockRecord) (r : LockRecord) → length a ≤ LOCKS → length (settled (without a r.lock) r.name) ≤ LOCKS
few-without a r few = omega (arith, few, settled_few (without a r.lock) r.name, length-filter (λ o. not (is_lock r.lock o)) a)

few-purged : (a : List LockRecord) (host : ℕ) → length a ≤ LOCKS → IsFew (purged a host)
unfolding IsFew
few-purged a host few =
    omega (arith, few, settled_all_few (map (λ (r : LockRecord). r.name) (filter (is_through host) a)) (filter (λ r. not (is_through host r)) a), length-filter (λ r. not (is_through host r)) a)

few-done : (a : List LockRecord) (host client : ℕ) (action : Action) → length a ≤ LOCKS → IsFew (done a host client action)
unfolding IsFew
few-done a host client (Enqueue lock name mode no_queue) few =
    let new : LockRecord = record { lock = lock; client = client; host = host; name = name; state = Waiting mode } in
    after_enqueue IsFew a (λ why. few) new mode no_queue
    (λ place may. omega (arith, length-put a (in_state new (Granted mode)), place.room))
    (λ place may. omega (arith, length-put a (in_state new (Waiting mode)), place.room))
few-done a host client (Convert lock mode no_queue value) few =
    after_convert IsFew a (λ why. few) client lock mode no_queue
    (λ r held there is may. few-granted a r mode few there)
    (λ r held there is may. omega (arith, few, length-put_there a (in_state r (Converting held mode)) (found_numbered r.lock a r there)))
few-done a host client (Release lock value) few = after_release IsFew a (λ why. few) client lock (λ r found there. few-without a r few)
few-done a host client (Cancel lock) few =
    after_cancel IsFew a (λ why. few) client lock (λ r held wanted there is. few-granted a r held few there) (λ r found there. few-without a r few)
few-done a host client (Status lock) few = after_status IsFew a (λ why. few) lock (λ r. few)
few-done a host client (Purge gone) few = few-purged a gone few
few-done a host client (QuietPurge gone) few = few-purged a gone few
few-done a host client (Forget gone) few = after_forget IsFew a (λ why. few) gone few
few-done a host client (CarryLock lock name state value) few =
    let new : LockRecord = record { lock = lock; client = client; host = host; name = name; state = state } in
    after_carry IsFew a (λ why. few) new (λ place. omega (arith, length-put a new, place.room))
few-done a host client (CarryClient reply) few = few

-- CLIENTS

abbrev pub known : ℕ → List KnownClient → ℕ
known client clients = length (filter (is_client client) clients)

pub known-append : (client : ℕ) (xs ys : List KnownClient) → known client (xs ++ ys) ≡ known client xs + known client ys
known-append client xs ys = ap length (filter-append (is_client client) xs ys) ∙ length-append (filter (is_client client) xs) (filter (is_client client) ys)

pub known_one : (client : ℕ) (k : KnownClient) → known client (k ∷ []) ≡ cond (is_client client k) 1 0
known_one client k = elim (is_client client k) as (λ b. length (cond b (k ∷ []) []) ≡ cond b 1 0) [
  | true ↦ refl
  | false ↦ refl
]

pub known_less : (P : KnownClient → Bool) (client : ℕ) (xs : List KnownClient) → known client (filter P xs) ≤ known client xs
known_less P client [] = omega arith
known_less P client (k ∷ xs) =
    let tail = known_less P client xs in
    let whole : known client (k ∷ xs) ≡ cond (is_client client k) 1 0 + known client xs = known-append client (k ∷ []) xs ∙ ap (λ n. n + known client xs) (known_one client k) in
    elim (P k) as (λ b. known client (cond b (k ∷ filter P xs) (filter P xs)) ≤ known client (k ∷ xs)) [
      | true ↦ omega (arith, tail, whole, known-append client (k ∷ []) (filter P xs), known_one client k)
      | false ↦ omega (arith, tail, whole)
    ]

pub none_of : (client : ℕ) (xs : List KnownClient) → known client (filter (λ o. not (is_client client o)) xs) ≡ 0
none_of client [] = refl
none_of client (k ∷ xs) =
    elim (is_client client k) as (λ b. is_client client k ≡ b → known client (cond (not b) (k ∷ filter (λ o. not (is_client client o)) xs) (filter (λ o. not (is_client client o)) xs)) ≡ 0) [
      | true ↦ λ e. none_of client xs
      | false ↦ λ e. ap (λ b. length (cond b (k ∷ filter (is_client client) (filter (λ o. not (is_client client o)) xs)) (filter (is_client client) (filter (λ o. not (is_client client o)) xs)))) e ∙ none_of client xs
    ] refl

-- no client is known twice, and not too many are
pub record AreFewClients (clients : List KnownClient) : Type 0 where
  pub once : (client : ℕ) → known client clients ≤ 1
  pub few : length clients ≤ CLIENTS

once_kept : (xs : List KnownClient) (k : KnownClient) → ((client : ℕ) → known client xs ≤ 1) → (client : ℕ) → known client (kept xs k) ≤ 1
once_kept xs k once client =
    let others = filter (λ o. not (is_client k.client o)) xs in
    elim (k.client == client) as (λ b. (k.client == client) ≡ b → known client (kept xs k) ≤ 1) [
      | true ↦ λ e.
          let none : known client others ≡ 0 = ap (λ n. known n others) (sym (eqb-true k.client client e)) ∙ none_of k.client xs in
          let one : known client (k ∷ []) ≡ 1 = known_one client k ∙ ap (λ b. cond b 1 0) e in
          omega (arith, none, one, known-append client others (k ∷ []))
      | false ↦ λ e.
          let none : known client (k ∷ []) ≡ 0 = known_one client k ∙ ap (λ b. cond b 1 0) e in
          omega (arith, none, once client, known_less (λ o. not (is_client k.client o)) client xs, known-append client others (k ∷ []))
    ] refl

length_kept : (xs : List KnownClient) (k : KnownClient) → length (kept xs k) + known k.client xs ≡ length xs + 1
length_kept xs k = omega (arith, length-append (filter (λ o. not (is_client k.client o)) xs) (k ∷ []), length_parts (is_client k.client) xs)

found_known : (client : ℕ) (xs : List KnownClient) (k : KnownClient) → find (is_client client) xs ≡ Some k → 1 ≤ known client xs
found_known client [] k h = let impossible : ⊥ = cc in absurd impossible
found_known client (x ∷ xs) k h =
    elim (is_client client x) as (λ b. cond b (Some x) (find (is_client client) xs) ≡ Some k → 1 ≤ length (cond b (x ∷ filter (is_client client) xs) (filter (is_client client) xs))) [
      | true ↦ λ e. omega arith
      | false ↦ λ e. found_known client xs k e
    ] h

few-without_client : (gone : Option ℕ) (xs : List KnownClient) → AreFewClients xs → AreFewClients (without_client gone xs)
few-without_client None xs few = few
few-without_client (Some n) xs few =
    let stays : KnownClient → Bool = λ k. not (is_client n k) in
    record { once = λ client. omega (arith, few.once client, known_less stays client xs); few = omega (arith, few.few, length_parts stays xs) }

few-kept : (action : Action) (xs : List KnownClient) (k : KnownClient) → AreFewClients xs → (1 ≤ known k.client xs) ⊎ (length xs < CLIENTS) → AreFewClients (kept_after action xs k)
few-kept action xs k few room = few-without_client (forgotten_by action k.reply.answer) _
    (elim (keeps_none action) as (λ b. AreFewClients (cond b xs (kept xs k))) [
      | true ↦ few
      | false ↦ record { once = once_kept xs k few.once; few = room_kept room }
    ])
  where
    room_kept : (1 ≤ known k.client xs) ⊎ (length xs < CLIENTS) → length (kept xs k) ≤ CLIENTS
    room_kept (inl there) = omega (arith, there, few.few, length_kept xs k)
    room_kept (inr less) = omega (arith, less, length_kept xs k)

-- BOTH

pub record HasRoom (t : Plain) : Type 0 where
  pub locks : length t.locks ≤ LOCKS
  pub clients : AreFewClients t.clients

HasRoomAfter : Applied → Type 0
HasRoomAfter x = HasRoom x.table

room-carried_out : (t : Plain) (c : Command) → HasRoom t → (1 ≤ known c.client t.clients) ⊎ (length t.clients < CLIENTS) → HasRoomAfter (carried_out t c)
unfolding HasRoomAfter IsFew
room-carried_out t c room free = record {
  locks = few-done t.locks c.host c.client c.action room.locks;
  clients = few-kept c.action t.clients _ room.clients free;
}

room-applied : (t : Plain) (c : Command) → HasRoom t → HasRoom (applied t c).table
unfolding HasRoomAfter
room-applied t c room =
    after_request HasRoomAfter t c (λ reply. room)
    (λ unknown free. room-carried_out t c room (inr free))
    (λ k known later. room-carried_out t c room (inl (found_known c.client t.clients k known)))

room_from : (commands : List Command) (t : Plain) → HasRoom t → HasRoom (fold (λ u c. (applied u c).table) t commands)
room_from [] t room = room
room_from (c ∷ commands) t room = room_from commands (applied t c).table (room-applied t c room)

pub reachable_room : (commands : List Command) → HasRoom (table_after commands)
reachable_room commands = room_from commands no_locks (record { locks = omega arith; clients = record { once = λ client. omega arith; few = omega arith } })
