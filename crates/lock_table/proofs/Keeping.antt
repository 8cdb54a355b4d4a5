-- Which names keep locks while a command is carried out.
use Rattle.std.proofs.Common.{◌≡◌, ℕ, true, false, not, ◌||◌, List, [], ◌∷◌, Some, None, refl, sym, ap, subst, ◌∙◌}
use Rattle.std.specs.List.{list_any}
use Rattle.std.proofs.lemmas.List.Folds.{list_any-append}
use Rattle.lock_command.specs.declared.mode.Mode.{Mode}
use Rattle.lock_command.specs.Name.{same_name}
use Rattle.lock_command.specs.declared.command.Action.{Action}
use Rattle.lock_command.specs.declared.command.Action.TheVariants.{Enqueue, Convert, Release, Cancel, Status, Purge, QuietPurge, Forget, CarryLock, CarryClient}
use Rattle.lock_command.specs.declared.record.LockRecord.{LockRecord}
use Rattle.lock_command.specs.declared.state.LockState.{LockState}
use Rattle.lock_command.specs.declared.state.LockState.TheVariants.{Granted, Converting, Waiting}
use Rattle.lock_command.specs.Locks.{is_on, is_lock, in_state, lock_in, without, put, settled, IsDistinct}
use Rattle.lock_table.specs.Apply.{CommandOutcome, done}
use Rattle.lock_table.specs.declared.values.NamedValue.{NamedValue}
use Rattle.lock_index.specs.Printed.{printed_cmp}
use Rattle.lock_index.specs.Placed.{in_order}
use Rattle.lock_table.specs.Stored.{is_of, IsValued, asked_lock, may_lose}
use Rattle.lock_index.proofs.Alike.{same-any}
use Rattle.lock_table.proofs.Behave.{distinct-done}
use Rattle.lock_index.proofs.PrintedOrder.{same_in_order}
use Rattle.lock_index.proofs.Parts.{any_within}
use Rattle.lock_index.proofs.Numbered.{IsDistinct-put, IsDistinct-filter}
use Rattle.lock_index.proofs.Apart.{on, name_is, on-put_apart, on-without_apart, absent_apart, settled-apart, settled_there, put_there}
use Rattle.lock_table.proofs.Heads.{own_on}
use Rattle.lock_table.proofs.Quiet.{same_name-sym}
use Rattle.lock_index.proofs.Shown.{without_new}
use Rattle.lock_table.proofs.Outcomes.{after_enqueue, after_convert, after_release, after_cancel, after_status, after_forget, after_carry}

-- the name has a lock
Has : List ℕ → List LockRecord → Type 0
Has name locks = list_any (is_on name) locks ≡ true

has_same : (name : List ℕ) (a b : List LockRecord) → on name b ≡ on name a → Has name a → Has name b
unfolding Has
has_same name a b same has =
    sym (any_within (is_on name) (is_on name) (λ r h. h) b) ∙ ap (list_any (is_on name)) same ∙ any_within (is_on name) (is_on name) (λ r h. h) a ∙ has

settled_keeps : (settles name : List ℕ) (a : List LockRecord) → IsDistinct a → Has name a → Has name (settled a settles)
unfolding Has
settled_keeps settles name a distinct has =
    elim (same_name settles name) as (λ b. same_name settles name ≡ b → Has name (settled a settles)) [
      | true ↦ λ own. subst (λ n. Has name (settled a n)) (sym (name_is settles name own)) (settled_there name a has)
      | false ↦ λ other. has_same name a (settled a settles) (settled-apart settles name a other distinct) has
    ] refl

put_keeps : (name : List ℕ) (r : LockRecord) (s : LockState) (a : List LockRecord) → IsDistinct a → lock_in a r.lock ≡ Some r → Has name a → Has name (put a (in_state r s))
unfolding Has
put_keeps name r s a distinct there has =
    elim (same_name r.name name) as (λ b. same_name r.name name ≡ b → Has name (put a (in_state r s))) [
      | true ↦ λ own. put_there name (in_state r s) a own
      | false ↦ λ other. has_same name a (put a (in_state r s)) (on-put_apart name (in_state r s) a other (absent_apart r.name name r.lock a other distinct (own_on a r distinct there))) has
    ] refl

new_keeps : (name : List ℕ) (g : LockRecord) (a : List LockRecord) → lock_in a g.lock ≡ None → Has name a → Has name (put a g)
unfolding Has
new_keeps name g a absent has =
    list_any-append (is_on name) (without a g.lock) (g ∷ [])
    ∙ ap (λ l. list_any (is_on name) l || (is_on name g || false)) (without_new a g.lock absent)
    ∙ ap (λ b. b || (is_on name g || false)) has

without_keeps : (name : List ℕ) (r : LockRecord) (a : List LockRecord) → IsDistinct a → lock_in a r.lock ≡ Some r → same_name r.name name ≡ false → Has name a → Has name (without a r.lock)
without_keeps name r a distinct there other has =
    has_same name a (without a r.lock) (on-without_apart name r.lock a (absent_apart r.name name r.lock a other distinct (own_on a r distinct there))) has

HasAfter : List ℕ → CommandOutcome → Type 0
HasAfter name o = Has name o.locks

gone_keeps : (name : List ℕ) (r : LockRecord) (a : List LockRecord) → IsDistinct a → lock_in a r.lock ≡ Some r → same_name r.name name ≡ false → Has name a → Has name (settled (without a r.lock) r.name)
gone_keeps name r a distinct there other has =
    settled_keeps r.name name _ (IsDistinct-filter (λ o. not (is_lock r.lock o)) a distinct) (without_keeps name r a distinct there other has)

granted_keeps : (name : List ℕ) (r : LockRecord) (held : Mode) (a : List LockRecord) → IsDistinct a → lock_in a r.lock ≡ Some r → Has name a → Has name (settled (put a (in_state r (Granted held))) r.name)
granted_keeps name r held a distinct there has =
    settled_keeps r.name name _ (IsDistinct-put a (in_state r (Granted held)) distinct) (put_keeps name r (Granted held) a distinct there has)

-- a name that has locks keeps one, unless the command is about a lock of it that it takes away, or purges
pub keeps_locks : (name : List ℕ) (a : List LockRecord) (host client : ℕ) (action : Action) → IsDistinct a → list_any (is_on name) a ≡ true
    → may_lose (asked_lock a action) action name ≡ false → list_any (is_on name) (done a host client action).locks ≡ true
unfolding Has HasAfter
keeps_locks name a host client (Enqueue lock on_name mode no_queue) distinct has still =
    let new : LockRecord = record { lock = lock; client = client; host = host; name = on_name; state = Waiting mode } in
    after_enqueue (HasAfter name) a (λ why. has) new mode no_queue
    (λ place may. new_keeps name (in_state new (Granted mode)) a place.free has)
    (λ place may. new_keeps name (in_state new (Waiting mode)) a place.free has)
keeps_locks name a host client (Convert lock mode no_queue value) distinct has still =
    after_convert (HasAfter name) a (λ why. has) client lock mode no_queue
    (λ r held there is may. granted_keeps name r mode a distinct there has)
    (λ r held there is may. put_keeps name r (Converting held mode) a distinct there has)
keeps_locks name a host client (Release lock value) distinct has still =
    after_release (HasAfter name) a (λ why. has) client lock
    (λ r found there. gone_keeps name r a distinct there (same_name-sym r.name name ∙ sym (ap (λ f. may_lose f (Release lock value) name) found) ∙ still) has)
keeps_locks name a host client (Cancel lock) distinct has still =
    after_cancel (HasAfter name) a (λ why. has) client lock
    (λ r held wanted there is. granted_keeps name r held a distinct there has)
    (λ r found there. gone_keeps name r a distinct there (same_name-sym r.name name ∙ sym (ap (λ f. may_lose f (Cancel lock) name) found) ∙ still) has)
keeps_locks name a host client (Status lock) distinct has still = after_status (HasAfter name) a (λ why. has) lock (λ r. has)
keeps_locks name a host client (Purge gone) distinct has still = let impossible : ⊥ = cc in absurd impossible
keeps_locks name a host client (QuietPurge gone) distinct has still = let impossible : ⊥ = cc in absurd impossible
keeps_locks name a host client (Forget gone) distinct has still = after_forget (HasAfter name) a (λ why. has) gone has
keeps_locks name a host client (CarryLock lock on_name state value) distinct has still =
    let new : LockRecord = record { lock = lock; client = client; host = host; name = on_name; state = state } in
    after_carry (HasAfter name) a (λ why. has) new (λ place. new_keeps name new a place.free has)
keeps_locks name a host client (CarryClient reply) distinct has still = has

-- so what is stored is stored under names that have locks, but for those that a command may have taken the last lock of
pub still_locked : (entries : List NamedValue) (a now : List LockRecord) (host client : ℕ) (action : Action) → IsDistinct a → IsValued a entries → now ≡ in_order printed_cmp (done a host client action).locks
    → (name : List ℕ) → list_any (is_of name) entries ≡ true → may_lose (asked_lock a action) action name ≡ false → list_any (is_on name) now ≡ true
still_locked entries a now host client action distinct valued is name there still =
    ap (list_any (is_on name)) is
    ∙ same-any (is_on name) (in_order printed_cmp (done a host client action).locks) (done a host client action).locks (same_in_order (done a host client action).locks (distinct-done a host client action distinct))
    ∙ keeps_locks name a host client action distinct (valued.locked name there) still
