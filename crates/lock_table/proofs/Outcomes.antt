-- What holds after a command: it held before, and holds after each effect. Here alone a proof goes through the refusals of each command.
use Rattle.std.proofs.Common.{◌≡◌, ◌<◌, ℕ, Bool, true, false, cond, not, nat_lt, nat_le, ◌&&◌, ◌==◌, List, [], ◌∷◌, length, Option, Some, None, is_some, refl, sym, ap, ◌∙◌, arith}
use Rattle.std.specs.List.{find}
use Rattle.std.proofs.lemmas.Bool.{eqb-true, eq-eqb}
use Rattle.std.proofs.lemmas.Bool.Decides.{nat_tests}
use Rattle.lock_command.specs.declared.mode.Mode.{Mode}
use Rattle.lock_command.specs.declared.command.Command.{Command}
use Rattle.lock_command.specs.declared.state.LockState.{LockState}
use Rattle.lock_command.specs.declared.state.LockState.TheVariants.{Granted, Converting, Waiting}
use Rattle.lock_command.specs.declared.reply.Refusal.{Refusal}
use Rattle.lock_command.specs.declared.reply.Refusal.TheVariants as refusal
use Rattle.lock_command.specs.declared.reply.Answer.{Answer}
use Rattle.lock_command.specs.declared.reply.Answer.TheVariants as answer
use Rattle.lock_command.specs.declared.reply.Reply.{Reply}
use Rattle.lock_table.specs.declared.clients.TheConstants.{CLIENTS}
use Rattle.lock_table.specs.declared.known_client.KnownClient.{KnownClient}
use Rattle.lock_command.specs.declared.record.TheConstants.{LOCKS}
use Rattle.lock_command.specs.declared.record.LockRecord.{LockRecord}
use Rattle.lock_command.specs.Locks.{is_lock, in_state, lock_in, without, put, has_queue, admits, settled}
use Rattle.lock_index.specs.Printed.{HasSameLocks}
use Rattle.lock_index.proofs.Alike.{same-any, same-filter, same-put, same-lock_in, same-length, same-admits, same-has_queue, same-settled}
use Rattle.lock_table.specs.Apply.{CommandOutcome, refused, with_place, enqueued, converted, released, cancelled, with_own, convert_own, release_own, cancel_own, told, has_locks, forgotten, carried, Plain, Applied, is_client, carried_out, unchanged, applied_after, applied}

pub either : {A : Type 0} (P : A → Type 0) (b : Bool) (x y : A) → (b ≡ true → P x) → (b ≡ false → P y) → P (cond b x y)
either P true x y held refuted = held refl
either P false x y held refuted = refuted refl

-- WHAT A COMMAND KEEPS

-- to forget a client, or to refuse that, changes no lock
pub forgotten_locks : (a : List LockRecord) (gone : ℕ) → (forgotten a gone).locks ≡ a
forgotten_locks a gone = elim (has_locks a gone) as (λ b. (cond b (refused a refusal.LockInUse) (record { locks = a; answer = answer.Forgotten })).locks ≡ a) [
  | true ↦ refl
  | false ↦ refl
]

-- a lock number that is free, and room for one more lock
pub record HasPlace (locks : List LockRecord) (lock : ℕ) : Type 0 where
  pub free : lock_in locks lock ≡ None
  pub room : length locks < LOCKS

none_found : (found : Option LockRecord) → is_some found ≡ false → found ≡ None
none_found None h = refl
none_found (Some r) h = let impossible : ⊥ = cc in absurd impossible

pub not_full : (m n : ℕ) → nat_le m n ≡ false → n < m
not_full m n h = grind (arith, nat_tests, h)

is_later : (m n : ℕ) → nat_lt m n ≡ false → (m == n) ≡ false → n < m
is_later m n h e = grind (arith, nat_tests, h, e)

full_not : (m n : ℕ) → n < m → nat_le m n ≡ false
full_not m n h = grind (arith, nat_tests, h)

-- where there is a place, nothing is refused for the want of one
pub place_there : (locks : List LockRecord) (lock : ℕ) (outcome : CommandOutcome) → HasPlace locks lock → with_place locks lock outcome ≡ outcome
place_there locks lock outcome place =
    ap (λ found. cond (is_some found) (refused locks refusal.LockInUse) (cond (nat_le LOCKS (length locks)) (refused locks refusal.TableFull) outcome)) place.free
    ∙ ap (λ b. cond b (refused locks refusal.TableFull) outcome) (full_not LOCKS (length locks) place.room)

-- nor is a client refused its own lock
pub own_there : (locks : List LockRecord) (r : LockRecord) (does : LockRecord → CommandOutcome) → lock_in locks r.lock ≡ Some r → with_own locks r.client does (lock_in locks r.lock) ≡ does r
own_there locks r does there =
    ap (with_own locks r.client does) there ∙ ap (λ b. cond b (does r) (refused locks refusal.NotOwner)) (eq-eqb r.client r.client refl)

found_number : (locks : List LockRecord) (lock : ℕ) (r : LockRecord) → lock_in locks lock ≡ Some r → r.lock ≡ lock
found_number [] lock r h = let impossible : ⊥ = cc in absurd impossible
found_number (x ∷ rest) lock r h =
    elim (is_lock lock x) as (λ b. is_lock lock x ≡ b → cond b (Some x) (lock_in rest lock) ≡ Some r → r.lock ≡ lock) [
      | true ↦ λ e found. let same : x ≡ r = cc in ap (λ (o : LockRecord). o.lock) (sym same) ∙ eqb-true x.lock lock e
      | false ↦ λ e found. found_number rest lock r found
    ] refl h

found_again : (locks : List LockRecord) (lock : ℕ) (r : LockRecord) → lock_in locks lock ≡ Some r → lock_in locks r.lock ≡ Some r
found_again locks lock r h = ap (lock_in locks) (found_number locks lock r h) ∙ h

-- what holds wherever a command is refused holds after it, if it holds after its effect
module _ (P : CommandOutcome → Type 0) (a : List LockRecord) (no_change : (why : Refusal) → P (refused a why)) where
  after_place : (lock : ℕ) (outcome : CommandOutcome) → (HasPlace a lock → P outcome) → P (with_place a lock outcome)
  after_place lock outcome effect =
      either P (is_some (lock_in a lock)) _ _ (λ _. no_change refusal.LockInUse)
      (λ free. either P (nat_le LOCKS (length a)) _ _ (λ _. no_change refusal.TableFull)
      (λ room. effect (record { free = none_found (lock_in a lock) free; room = not_full LOCKS (length a) room })))

  pub after_enqueue : (new : LockRecord) (mode : Mode) (no_queue : Bool)
      → (HasPlace a new.lock → (not (has_queue a new.name) && admits a new.lock new.name mode) ≡ true → P (record { locks = put a (in_state new (Granted mode)); answer = answer.Granted }))
      → (HasPlace a new.lock → (not (has_queue a new.name) && admits a new.lock new.name mode) ≡ false → P (record { locks = put a (in_state new (Waiting mode)); answer = answer.Queued }))
      → P (enqueued a new mode no_queue)
  after_enqueue new mode no_queue granted waits = after_place new.lock _ (λ place.
      either P (not (has_queue a new.name) && admits a new.lock new.name mode) _ _ (granted place)
      (λ may. either P no_queue _ _ (λ _. no_change refusal.NotQueued) (λ _. waits place may)))

  pub after_carry : (r : LockRecord) → (HasPlace a r.lock → P (record { locks = put a r; answer = answer.State r.state })) → P (carried a r)
  after_carry r effect = after_place r.lock _ effect

  after_own : (client : ℕ) (does : LockRecord → CommandOutcome) (found : Option LockRecord) → ((r : LockRecord) → found ≡ Some r → P (does r)) → P (with_own a client does found)
  after_own client does None effect = no_change refusal.NoSuchLock
  after_own client does (Some r) effect = either P (r.client == client) _ _ (λ _. effect r refl) (λ _. no_change refusal.NotOwner)

  pub after_convert : (client lock : ℕ) (mode : Mode) (no_queue : Bool)
      → ((r : LockRecord) (held : Mode) → lock_in a r.lock ≡ Some r → r.state ≡ Granted held → admits a r.lock r.name mode ≡ true → P (record { locks = settled (put a (in_state r (Granted mode))) r.name; answer = answer.Granted }))
      → ((r : LockRecord) (held : Mode) → lock_in a r.lock ≡ Some r → r.state ≡ Granted held → admits a r.lock r.name mode ≡ false → P (record { locks = put a (in_state r (Converting held mode)); answer = answer.Queued }))
      → P (convert_own a client lock mode no_queue)
  after_convert client lock mode no_queue granted converts = after_own client (λ r. converted a r mode no_queue r.state) (lock_in a lock) (λ r found. by_state r (found_again a lock r found) r.state refl)
    where
      by_state : (r : LockRecord) → lock_in a r.lock ≡ Some r → (s : LockState) → r.state ≡ s → P (converted a r mode no_queue s)
      by_state r there (Waiting wanted) is = no_change refusal.StillWaiting
      by_state r there (Converting held wanted) is = no_change refusal.AlreadyConverting
      by_state r there (Granted held) is =
          either P (admits a r.lock r.name mode) _ _ (granted r held there is)
          (λ may. either P no_queue _ _ (λ _. no_change refusal.NotQueued) (λ _. converts r held there is may))

  pub after_release : (client lock : ℕ) → ((r : LockRecord) → lock_in a lock ≡ Some r → lock_in a r.lock ≡ Some r → P (released a r)) → P (release_own a client lock)
  after_release client lock effect = after_own client (released a) (lock_in a lock) (λ r found. effect r found (found_again a lock r found))

  pub after_cancel : (client lock : ℕ)
      → ((r : LockRecord) (held wanted : Mode) → lock_in a r.lock ≡ Some r → r.state ≡ Converting held wanted → P (record { locks = settled (put a (in_state r (Granted held))) r.name; answer = answer.Cancelled }))
      → ((r : LockRecord) → lock_in a lock ≡ Some r → lock_in a r.lock ≡ Some r → P (record { locks = settled (without a r.lock) r.name; answer = answer.Cancelled }))
      → P (cancel_own a client lock)
  after_cancel client lock kept gone = after_own client (λ r. cancelled a r r.state) (lock_in a lock) (λ r found. by_state r found (found_again a lock r found) r.state refl)
    where
      by_state : (r : LockRecord) → lock_in a lock ≡ Some r → lock_in a r.lock ≡ Some r → (s : LockState) → r.state ≡ s → P (cancelled a r s)
      by_state r found there (Granted held) is = no_change refusal.NothingToCancel
      by_state r found there (Converting held wanted) is = kept r held wanted there is
      by_state r found there (Waiting wanted) is = gone r found there

  pub after_status : (lock : ℕ) → ((r : LockRecord) → P (record { locks = a; answer = answer.State r.state })) → P (told a (lock_in a lock))
  after_status lock effect = by_found (lock_in a lock)
    where
      by_found : (found : Option LockRecord) → P (told a found)
      by_found None = no_change refusal.NoSuchLock
      by_found (Some r) = effect r

  pub after_forget : (gone : ℕ) → P (record { locks = a; answer = answer.Forgotten }) → P (forgotten a gone)
  after_forget gone effect = either P (has_locks a gone) _ _ (λ _. no_change refusal.LockInUse) (λ _. effect)

-- what holds wherever the client decides alone holds after a command, if it holds after one that is carried out
module _ (P : Applied → Type 0) (t : Plain) (c : Command) (no_change : (reply : Reply) → P (unchanged t reply)) where
  pub after_request : (find (is_client c.client) t.clients ≡ None → length t.clients < CLIENTS → P (carried_out t c))
      → ((k : KnownClient) → find (is_client c.client) t.clients ≡ Some k → k.request < c.request → P (carried_out t c)) → P (applied t c)
  unfolding applied
  after_request new later = by_known (find (is_client c.client) t.clients) refl
    where
      by_known : (found : Option KnownClient) → find (is_client c.client) t.clients ≡ found → P (applied_after t c found)
      by_known None unknown = either P (nat_le CLIENTS (length t.clients)) _ _ (λ _. no_change _) (λ room. new unknown (not_full CLIENTS (length t.clients) room))
      by_known (Some k) known =
          either P (nat_lt c.request k.request) _ _ (λ _. no_change _)
          (λ no_older. either P (c.request == k.request) _ _ (λ _. no_change _) (λ other. later k known (is_later c.request k.request no_older other)))

-- TWO TABLES WITH THE SAME LOCKS

-- the same locks are left, and the same is answered
pub record IsSameOutcome (x y : CommandOutcome) : Type 0 where
  pub locks : HasSameLocks x.locks y.locks
  pub answer : x.answer ≡ y.answer

by_test : (t u : Bool) (x y v w : CommandOutcome) → t ≡ u → IsSameOutcome x v → IsSameOutcome y w → IsSameOutcome (cond t x y) (cond u v w)
by_test true true x y v w same one other = one
by_test true false x y v w same one other = let impossible : ⊥ = cc in absurd impossible
by_test false true x y v w same one other = let impossible : ⊥ = cc in absurd impossible
by_test false false x y v w same one other = other

answered : (a b : List LockRecord) (r : Answer) → HasSameLocks a b → IsSameOutcome (record { locks = a; answer = r }) (record { locks = b; answer = r })
answered a b r s = record { locks = s; answer = refl }

module _ (a b : List LockRecord) (s : HasSameLocks a b) where
  both_refuse : (why : Refusal) → IsSameOutcome (refused a why) (refused b why)
  both_refuse why = answered a b (answer.Refused why) s

  same-place : (lock : ℕ) (x y : CommandOutcome) → IsSameOutcome x y → IsSameOutcome (with_place a lock x) (with_place b lock y)
  same-place lock x y same =
      by_test _ _ _ _ _ _ (ap is_some (same-lock_in lock a b s)) (both_refuse refusal.LockInUse)
      (by_test _ _ _ _ _ _ (ap (nat_le LOCKS) (same-length a b s)) (both_refuse refusal.TableFull) same)

  pub same-enqueued : (new : LockRecord) (mode : Mode) (no_queue : Bool) → IsSameOutcome (enqueued a new mode no_queue) (enqueued b new mode no_queue)
  same-enqueued new mode no_queue = same-place new.lock _ _
      (by_test _ _ _ _ _ _ (λ i. not (same-has_queue new.name a b s i) && same-admits new.lock new.name mode a b s i) (answered _ _ answer.Granted (same-put (in_state new (Granted mode)) a b s))
      (by_test no_queue no_queue _ _ _ _ refl (both_refuse refusal.NotQueued)
      (answered _ _ answer.Queued (same-put (in_state new (Waiting mode)) a b s))))

  same-own : (client : ℕ) (does also : LockRecord → CommandOutcome) (lock : ℕ) → ((r : LockRecord) → IsSameOutcome (does r) (also r)) → IsSameOutcome (with_own a client does (lock_in a lock)) (with_own b client also (lock_in b lock))
  same-own client does also lock each = rw (same-lock_in lock a b s) (by_found (lock_in b lock))
    where
      by_found : (found : Option LockRecord) → IsSameOutcome (with_own a client does found) (with_own b client also found)
      by_found None = both_refuse refusal.NoSuchLock
      by_found (Some r) = by_test (r.client == client) (r.client == client) _ _ _ _ refl (each r) (both_refuse refusal.NotOwner)

  same-converted : (r : LockRecord) (mode : Mode) (no_queue : Bool) (state : LockState) → IsSameOutcome (converted a r mode no_queue state) (converted b r mode no_queue state)
  same-converted r mode no_queue (Waiting wanted) = both_refuse refusal.StillWaiting
  same-converted r mode no_queue (Converting held wanted) = both_refuse refusal.AlreadyConverting
  same-converted r mode no_queue (Granted held) =
      by_test _ _ _ _ _ _ (same-admits r.lock r.name mode a b s) (answered _ _ answer.Granted (same-settled r.name _ _ (same-put (in_state r (Granted mode)) a b s)))
      (by_test no_queue no_queue _ _ _ _ refl (both_refuse refusal.NotQueued)
      (answered _ _ answer.Queued (same-put (in_state r (Converting held mode)) a b s)))

  same-gone : (r : LockRecord) (gives : Answer) → IsSameOutcome (record { locks = settled (without a r.lock) r.name; answer = gives }) (record { locks = settled (without b r.lock) r.name; answer = gives })
  same-gone r gives = answered _ _ gives (same-settled r.name _ _ (same-filter (λ o. not (is_lock r.lock o)) a b s))

  same-cancelled : (r : LockRecord) (state : LockState) → IsSameOutcome (cancelled a r state) (cancelled b r state)
  same-cancelled r (Granted held) = both_refuse refusal.NothingToCancel
  same-cancelled r (Converting held wanted) = answered _ _ answer.Cancelled (same-settled r.name _ _ (same-put (in_state r (Granted held)) a b s))
  same-cancelled r (Waiting wanted) = same-gone r answer.Cancelled

  pub same-convert : (client lock : ℕ) (mode : Mode) (no_queue : Bool) → IsSameOutcome (convert_own a client lock mode no_queue) (convert_own b client lock mode no_queue)
  same-convert client lock mode no_queue = same-own client _ _ lock (λ r. same-converted r mode no_queue r.state)

  pub same-release : (client lock : ℕ) → IsSameOutcome (release_own a client lock) (release_own b client lock)
  same-release client lock = same-own client _ _ lock (λ r. same-gone r answer.Released)

  pub same-cancel : (client lock : ℕ) → IsSameOutcome (cancel_own a client lock) (cancel_own b client lock)
  same-cancel client lock = same-own client _ _ lock (λ r. same-cancelled r r.state)

  pub same-status : (lock : ℕ) → IsSameOutcome (told a (lock_in a lock)) (told b (lock_in b lock))
  same-status lock = rw (same-lock_in lock a b s) (by_found (lock_in b lock))
    where
      by_found : (found : Option LockRecord) → IsSameOutcome (told a found) (told b found)
      by_found None = both_refuse refusal.NoSuchLock
      by_found (Some r) = answered a b (answer.State r.state) s

  pub same-forgotten : (gone : ℕ) → IsSameOutcome (forgotten a gone) (forgotten b gone)
  same-forgotten gone = by_test _ _ _ _ _ _ (same-any (λ (r : LockRecord). r.client == gone) a b s) (both_refuse refusal.LockInUse) (answered _ _ answer.Forgotten s)

  pub same-carried : (r : LockRecord) → IsSameOutcome (carried a r) (carried b r)
  same-carried r = same-place r.lock _ _ (answered _ _ (answer.State r.state) (same-put r a b s))
