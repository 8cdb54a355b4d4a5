-- Two plain tables with the same locks and clients do and answer the same.
use Rattle.std.proofs.Common.{◌≡◌, ℕ, Bool, true, false, cond, not, ◌&&◌, ◌||◌, ◌==◌, nat_lt, nat_le, List, [], ◌∷◌, Option, Some, None, map, refl, sym, ap, subst, ◌∙◌, arith}
use Rattle.std.specs.List.{filter, find, fold, list_any}
use Rattle.lock_command.specs.declared.command.Command.{Command}
use Rattle.lock_command.specs.Command.{is_carried}
use Rattle.lock_command.specs.declared.command.Action.{Action}
use Rattle.lock_command.specs.declared.command.Action.TheVariants.{Enqueue, Convert, Release, Cancel, Status, Purge, QuietPurge, Forget, CarryLock, CarryClient}
use Rattle.lock_table.specs.declared.clients.TheConstants.{CLIENTS}
use Rattle.lock_command.specs.declared.record.LockRecord.{LockRecord}
use Rattle.lock_command.specs.declared.state.LockState.TheVariants.{Granted, Converting, Waiting}
use Rattle.lock_table.specs.declared.known_client.KnownClient.{KnownClient}
use Rattle.lock_command.specs.declared.reply.Answer.{Answer}
use Rattle.lock_command.specs.declared.reply.Answer.TheVariants as answer
use Rattle.lock_command.specs.declared.reply.Reply.{Reply}
use Rattle.lock_table.specs.Values.{Values, zeros, invalid, is_downward, given, of_locked, is_granted, is_released, changed, values_after, value_of_lock, asked_value, returned}
use Rattle.lock_command.specs.State.{is_writer}
use Rattle.lock_command.specs.Locks.{is_lock, is_on, in_state, IsDistinct, is_through}
use Rattle.lock_table.specs.Apply.{CommandOutcome, purged, done, Plain, Applied, is_client, kept, keeps_none, without_client, kept_after, forgotten_by, told_again, replied, carried_out, applied_after, applied, no_locks, table_after}
use Rattle.lock_index.specs.Printed.{HasSameLocks}
use Rattle.lock_table.specs.Picture.{HasSameClients, HasZeros}
use Rattle.lock_index.proofs.Parts.{find_alike, length_alike, AlikeBy-filter, AlikeBy-append}
use Rattle.lock_index.proofs.Numbered.{IsDistinct-filter, IsDistinct-put}
use Rattle.lock_index.proofs.Alike.{same-filter, same-any, same-lock_in, same-length}
use Rattle.lock_index.proofs.Apart.{IsDistinct-settled, IsDistinct-settled_all}
use Rattle.lock_index.proofs.Settled.{is_among, same-settled_all}
use Rattle.lock_table.proofs.Outcomes.{IsSameOutcome, same-enqueued, same-convert, same-release, same-cancel, same-status, same-forgotten, same-carried, after_enqueue, after_convert, after_release, after_cancel, after_status, after_forget, after_carry, after_request}

pub any-names : (name : List ℕ) (locks : List LockRecord) → is_among (map (λ (r : LockRecord). r.name) locks) name ≡ list_any (is_on name) locks
any-names name [] = refl
any-names name (r ∷ rest) = ap (λ b. is_on name r || b) (any-names name rest)

same-purged : (a b : List LockRecord) (host : ℕ) → HasSameLocks a b → IsDistinct a → IsSameOutcome (purged a host) (purged b host)
same-purged a b host s distinct =
    let gone = same-filter (is_through host) a b s in
    record {
      locks = same-settled_all _ _ _ _ (same-filter (λ r. not (is_through host r)) a b s) (IsDistinct-filter (λ r. not (is_through host r)) a distinct)
          (λ name. any-names name (filter (is_through host) a) ∙ same-any (is_on name) _ _ gone ∙ sym (any-names name (filter (is_through host) b)));
      answer = ap answer.Purged (same-length _ _ gone);
    }

same-done : (a b : List LockRecord) (host client : ℕ) (action : Action) → HasSameLocks a b → IsDistinct a → IsSameOutcome (done a host client action) (done b host client action)
same-done a b host client (Enqueue lock name mode no_queue) s distinct = same-enqueued a b s (record { lock = lock; client = client; host = host; name = name; state = Waiting mode }) mode no_queue
same-done a b host client (Convert lock mode no_queue value) s distinct = same-convert a b s client lock mode no_queue
same-done a b host client (Release lock value) s distinct = same-release a b s client lock
same-done a b host client (Cancel lock) s distinct = same-cancel a b s client lock
same-done a b host client (Status lock) s distinct = same-status a b s lock
same-done a b host client (Purge gone) s distinct = same-purged a b gone s distinct
same-done a b host client (QuietPurge gone) s distinct = same-purged a b gone s distinct
same-done a b host client (Forget gone) s distinct = same-forgotten a b s gone
same-done a b host client (CarryLock lock name state value) s distinct = same-carried a b s (record { lock = lock; client = client; host = host; name = name; state = state })
same-done a b host client (CarryClient reply) s distinct = record { locks = s; answer = refl }

client_of : KnownClient → ℕ
client_of k = k.client

same-kept : (k : KnownClient) (x y : List KnownClient) → HasSameClients x y → HasSameClients (kept x k) (kept y k)
unfolding client_of
same-kept k x y s = AlikeBy-append client_of (k ∷ []) _ _ (AlikeBy-filter client_of (λ other. not (is_client k.client other)) x y s)

same-without : (gone : Option ℕ) (x y : List KnownClient) → HasSameClients x y → HasSameClients (without_client gone x) (without_client gone y)
unfolding client_of
same-without None x y s = s
same-without (Some n) x y s = AlikeBy-filter client_of (λ other. not (is_client n other)) x y s

-- and so it is where a command may keep nothing, or forget a client
same-kept_after : (action : Action) (k j : KnownClient) (x y : List KnownClient) → k ≡ j → HasSameClients x y → HasSameClients (kept_after action x k) (kept_after action y j)
same-kept_after action k j x y same s =
    let kept_same : HasSameClients (cond (keeps_none action) x (kept x k)) (cond (keeps_none action) y (kept y k)) =
    elim (keeps_none action) as (λ b. HasSameClients (cond b x (kept x k)) (cond b y (kept y k))) [
      | true ↦ s
      | false ↦ same-kept k x y s
    ] in
    subst (λ (o : KnownClient). HasSameClients (kept_after action x k) (kept_after action y o)) same (same-without (forgotten_by action k.reply.answer) _ _ kept_same)

-- the same values are stored
same-changed : (a b : List LockRecord) (values : Values) (action : Action) (r : Answer) → HasSameLocks a b → changed values a action r ≡ changed values b action r
same-changed a b values (Enqueue lock name mode no_queue) r s = refl
same-changed a b values (Convert lock mode no_queue value) r s = ap (λ found. cond (is_granted r) (given values (is_downward mode) found value) values) (same-lock_in lock a b s)
same-changed a b values (Release lock value) r s = ap (λ found. cond (is_released r) (given values is_writer found value) values) (same-lock_in lock a b s)
same-changed a b values (Cancel lock) r s = refl
same-changed a b values (Status lock) r s = refl
same-changed a b values (Purge host) r s = λ i name. cond (same-any (λ r. is_on name r && (is_through host r && is_writer r.state)) a b s i) (invalid (values name)) (values name)
same-changed a b values (QuietPurge host) r s = refl
same-changed a b values (Forget gone) r s = refl
same-changed a b values (CarryLock lock name state value) r s = refl
same-changed a b values (CarryClient reply) r s = refl

pub same-of_locked : (a b : List LockRecord) (values : Values) → HasSameLocks a b → of_locked a values ≡ of_locked b values
same-of_locked a b values s = λ i name. cond (same-any (is_on name) a b s i) (values name) zeros

same-asked : (a b : List LockRecord) (values : Values) (action : Action) → HasSameLocks a b → asked_value values a action ≡ asked_value values b action
same-asked a b values (Enqueue lock name mode no_queue) s = refl
same-asked a b values (Convert lock mode no_queue value) s = ap (value_of_lock values) (same-lock_in lock a b s)
same-asked a b values (Release lock value) s = refl
same-asked a b values (Cancel lock) s = refl
same-asked a b values (Status lock) s = ap (value_of_lock values) (same-lock_in lock a b s)
same-asked a b values (Purge host) s = refl
same-asked a b values (QuietPurge host) s = refl
same-asked a b values (Forget gone) s = refl
same-asked a b values (CarryLock lock name state value) s = refl
same-asked a b values (CarryClient reply) s = refl

pub same-values_after : (x y p q : List LockRecord) (v w : Values) (action : Action) (r t : Answer) → v ≡ w → HasSameLocks x y → HasSameLocks p q → r ≡ t → values_after v x p action r ≡ values_after w y q action t
same-values_after x y p q v w action r t values before after answers =
    (λ i. of_locked p (changed (values i) x action (answers i)))
    ∙ ap (of_locked p) (same-changed x y w action t before)
    ∙ same-of_locked p q (changed w y action t) after

pub same-replied : (x y : List LockRecord) (v w : Values) (action : Action) (r t : Answer) → v ≡ w → HasSameLocks x y → r ≡ t → replied v x action r ≡ replied w y action t
same-replied x y v w action r t values before answers =
    (λ i. replied (values i) x action (answers i)) ∙ ap (λ v. told_again action (record { answer = t; value = returned t v })) (same-asked x y w action before)

-- the same table is left, and the same is answered
pub record IsSameApplied (x y : Applied) : Type 0 where
  pub locks : HasSameLocks x.table.locks y.table.locks
  pub values : x.table.values ≡ y.table.values
  pub clients : HasSameClients x.table.clients y.table.clients
  pub reply : x.reply ≡ y.reply

by_truth : (t u : Bool) (x y v w : Applied) → t ≡ u → IsSameApplied x v → IsSameApplied y w → IsSameApplied (cond t x y) (cond u v w)
by_truth true true x y v w same one other = one
by_truth true false x y v w same one other = let impossible : ⊥ = cc in absurd impossible
by_truth false true x y v w same one other = let impossible : ⊥ = cc in absurd impossible
by_truth false false x y v w same one other = other

same-carried_out : (x y : Plain) (c : Command) → HasSameLocks x.locks y.locks → x.values ≡ y.values → HasSameClients x.clients y.clients → IsDistinct x.locks → IsSameApplied (carried_out x c) (carried_out y c)
same-carried_out x y c locks values clients distinct =
    let o = same-done x.locks y.locks c.host c.client c.action locks distinct in
    let p = done x.locks c.host c.client c.action in
    let q = done y.locks c.host c.client c.action in
    let after = same-values_after x.locks y.locks p.locks q.locks x.values y.values c.action p.answer q.answer values locks o.locks o.answer in
    let same = same-replied x.locks y.locks _ _ c.action p.answer q.answer after locks o.answer in
    record {
      locks = o.locks;
      values = after;
      clients = same-kept_after c.action _ _ x.clients y.clients (ap (λ (r : Reply). record { client = c.client; request = c.request; reply = r }) same) clients;
      reply = same;
    }

same-after : (x y : Plain) (c : Command) (found : Option KnownClient) → HasSameLocks x.locks y.locks → x.values ≡ y.values → HasSameClients x.clients y.clients → IsDistinct x.locks → IsSameApplied (applied_after x c found) (applied_after y c found)
unfolding client_of
same-after x y c None locks values clients distinct =
    by_truth _ _ _ _ _ _ (ap (nat_le CLIENTS) (length_alike client_of x.clients y.clients clients)) (record { locks = locks; values = values; clients = clients; reply = refl }) (same-carried_out x y c locks values clients distinct)
same-after x y c (Some k) locks values clients distinct =
    by_truth (nat_lt c.request k.request) (nat_lt c.request k.request) _ _ _ _ refl (record { locks = locks; values = values; clients = clients; reply = refl })
    (by_truth (c.request == k.request) (c.request == k.request) _ _ _ _ refl (record { locks = locks; values = values; clients = clients; reply = refl }) (same-carried_out x y c locks values clients distinct))

-- the same command does and answers the same
pub same-applied : (x y : Plain) (c : Command) → HasSameLocks x.locks y.locks → x.values ≡ y.values → HasSameClients x.clients y.clients → IsDistinct x.locks → IsSameApplied (applied x c) (applied y c)
unfolding applied client_of
same-applied x y c locks values clients distinct = rw (find_alike client_of c.client x.clients y.clients clients) (same-after x y c (find (is_client c.client) y.clients) locks values clients distinct)

-- a command leaves no two records with one lock number
LeavesDistinct : CommandOutcome → Type 0
LeavesDistinct o = IsDistinct o.locks

pub distinct-done : (a : List LockRecord) (host client : ℕ) (action : Action) → IsDistinct a → IsDistinct (done a host client action).locks
unfolding LeavesDistinct
distinct-done a host client (Enqueue lock name mode no_queue) d =
    let new : LockRecord = record { lock = lock; client = client; host = host; name = name; state = Waiting mode } in
    after_enqueue LeavesDistinct a (λ why. d) new mode no_queue
    (λ place may. IsDistinct-put a (in_state new (Granted mode)) d)
    (λ place may. IsDistinct-put a (in_state new (Waiting mode)) d)
distinct-done a host client (Convert lock mode no_queue value) d =
    after_convert LeavesDistinct a (λ why. d) client lock mode no_queue
    (λ r held there is may. IsDistinct-settled r.name _ (IsDistinct-put a (in_state r (Granted mode)) d))
    (λ r held there is may. IsDistinct-put a (in_state r (Converting held mode)) d)
distinct-done a host client (Release lock value) d =
    after_release LeavesDistinct a (λ why. d) client lock (λ r found there. IsDistinct-settled r.name _ (IsDistinct-filter (λ o. not (is_lock r.lock o)) a d))
distinct-done a host client (Cancel lock) d =
    after_cancel LeavesDistinct a (λ why. d) client lock
    (λ r held wanted there is. IsDistinct-settled r.name _ (IsDistinct-put a (in_state r (Granted held)) d))
    (λ r found there. IsDistinct-settled r.name _ (IsDistinct-filter (λ o. not (is_lock r.lock o)) a d))
distinct-done a host client (Status lock) d = after_status LeavesDistinct a (λ why. d) lock (λ r. d)
distinct-done a host client (Purge gone) d = IsDistinct-settled_all (map (λ (r : LockRecord). r.name) (filter (is_through gone) a)) _ (IsDistinct-filter (λ r. not (is_through gone r)) a d)
distinct-done a host client (QuietPurge gone) d = IsDistinct-settled_all (map (λ (r : LockRecord). r.name) (filter (is_through gone) a)) _ (IsDistinct-filter (λ r. not (is_through gone r)) a d)
distinct-done a host client (Forget gone) d = after_forget LeavesDistinct a (λ why. d) gone d
distinct-done a host client (CarryLock lock name state value) d =
    let new : LockRecord = record { lock = lock; client = client; host = host; name = name; state = state } in
    after_carry LeavesDistinct a (λ why. d) new (λ place. IsDistinct-put a new d)
distinct-done a host client (CarryClient reply) d = d

LeavesTableDistinct : Applied → Type 0
LeavesTableDistinct x = IsDistinct x.table.locks

pub distinct-applied : (t : Plain) (c : Command) → IsDistinct t.locks → IsDistinct (applied t c).table.locks
unfolding LeavesTableDistinct
distinct-applied t c d =
    let done = distinct-done t.locks c.host c.client c.action d in
    after_request LeavesTableDistinct t c (λ reply. d) (λ unknown room. done) (λ k known later. done)

distinct_from : (commands : List Command) (t : Plain) → IsDistinct t.locks → IsDistinct (fold (λ u c. (applied u c).table) t commands).locks
distinct_from [] t d = d
distinct_from (c ∷ commands) t d = distinct_from commands (applied t c).table (distinct-applied t c d)

-- nor do many commands
pub reachable_distinct : (commands : List Command) → IsDistinct (table_after commands).locks
reachable_distinct commands = distinct_from commands no_locks (λ lock. omega arith)

-- a command leaves zeros under names without locks
LeavesZeros : Applied → Type 0
LeavesZeros x = HasZeros x.table.locks x.table.values

zeros-carried_out : (t : Plain) (c : Command) → LeavesZeros (carried_out t c)
unfolding LeavesZeros
zeros-carried_out t c name none = ap (λ b. cond b (changed t.values t.locks c.action (done t.locks c.host c.client c.action).answer name) zeros) none

pub zeros-applied : (t : Plain) (c : Command) → HasZeros t.locks t.values → HasZeros (applied t c).table.locks (applied t c).table.values
unfolding LeavesZeros
zeros-applied t c has = after_request LeavesZeros t c (λ reply. has) (λ unknown room. zeros-carried_out t c) (λ k known later. zeros-carried_out t c)

-- what is told of a command that a client may ask for
pub told_asked : (action : Action) (r : Reply) → is_carried action ≡ false → told_again action r ≡ r
told_asked (Enqueue lock name mode no_queue) r asked = refl
told_asked (Convert lock mode no_queue value) r asked = refl
told_asked (Release lock value) r asked = refl
told_asked (Cancel lock) r asked = refl
told_asked (Status lock) r asked = refl
told_asked (Purge host) r asked = refl
told_asked (QuietPurge host) r asked = refl
told_asked (Forget gone) r asked = refl
told_asked (CarryLock lock name state value) r asked = refl
told_asked (CarryClient reply) r asked = let impossible : ⊥ = cc in absurd impossible
