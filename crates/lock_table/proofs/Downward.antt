-- A conversion downward meets no conflict that the held mode did not meet.
use Rattle.std.proofs.Common.{◌≡◌, ℕ, Bool, true, false, cond, not, ◌&&◌, ◌||◌, List, [], ◌∷◌, Option, Some, refl, sym, ap, ◌∙◌}
use Rattle.std.specs.List.{list_any}
use Rattle.lock_command.specs.declared.mode.Mode.{Mode}
use Rattle.lock_command.specs.declared.mode.Mode.TheVariants.{Null, ConcurrentRead, ConcurrentWrite, ProtectedRead, ProtectedWrite, Exclusive}
use Rattle.lock_command.specs.Mode.{conflict, downward}
use Rattle.lock_command.specs.declared.command.Action.TheVariants.{Convert}
use Rattle.lock_command.specs.declared.record.LockRecord.{LockRecord}
use Rattle.lock_command.specs.declared.state.LockState.{LockState}
use Rattle.lock_command.specs.declared.state.LockState.TheVariants.{Granted, Converting, Waiting}
use Rattle.lock_command.specs.declared.reply.Answer.TheVariants as answer
use Rattle.lock_command.specs.State.{holds_against}
use Rattle.lock_command.specs.Locks.{is_on, is_lock, lock_in, stands_against, admits}
use Rattle.lock_table.specs.Apply.{CommandOutcome, converted, done}
use Rattle.lock_table.specs.Laws.{held_by}
use Rattle.lock_index.proofs.Parts.{or_false}
use Rattle.lock_table.proofs.Outcomes.{own_there}
use Rattle.lock_table.proofs.Quiet.{IsPeaceful, not_true}

null_is_free : (wanted : Mode) → conflict Null wanted ≡ false
null_is_free Null = refl
null_is_free ConcurrentRead = refl
null_is_free ConcurrentWrite = refl
null_is_free ProtectedRead = refl
null_is_free ProtectedWrite = refl
null_is_free Exclusive = refl

read_is_free : (wanted : Mode) → downward ProtectedWrite wanted ≡ true → conflict ConcurrentRead wanted ≡ false
read_is_free Null h = refl
read_is_free ConcurrentRead h = refl
read_is_free ConcurrentWrite h = refl
read_is_free ProtectedRead h = refl
read_is_free ProtectedWrite h = refl
read_is_free Exclusive h = let impossible : ⊥ = cc in absurd impossible

clash_free : {A : Type 0} (b : Bool) → b ≡ false → b ≡ true → A
clash_free b free clash = let no : false ≡ true = sym free ∙ clash in let impossible : ⊥ = cc in absurd impossible

-- what conflicts with the wanted mode conflicts with the held one
no_new_conflict : (other held wanted : Mode) → downward held wanted ≡ true → conflict other wanted ≡ true → conflict other held ≡ true
no_new_conflict Null held wanted down clash = clash_free (conflict Null wanted) (null_is_free wanted) clash
no_new_conflict ConcurrentRead ProtectedWrite wanted down clash = clash_free (conflict ConcurrentRead wanted) (read_is_free wanted down) clash
no_new_conflict ConcurrentWrite ProtectedWrite wanted down clash = refl
no_new_conflict ProtectedRead ProtectedWrite wanted down clash = refl
no_new_conflict ProtectedWrite ProtectedWrite wanted down clash = refl
no_new_conflict Exclusive ProtectedWrite wanted down clash = refl
no_new_conflict ConcurrentRead Exclusive wanted down clash = refl
no_new_conflict ConcurrentWrite Exclusive wanted down clash = refl
no_new_conflict ProtectedRead Exclusive wanted down clash = refl
no_new_conflict ProtectedWrite Exclusive wanted down clash = refl
no_new_conflict Exclusive Exclusive wanted down clash = refl
no_new_conflict other Null wanted down clash = let impossible : ⊥ = cc in absurd impossible
no_new_conflict other ConcurrentRead wanted down clash = let impossible : ⊥ = cc in absurd impossible
no_new_conflict other ConcurrentWrite wanted down clash = let impossible : ⊥ = cc in absurd impossible
no_new_conflict other ProtectedRead wanted down clash = let impossible : ⊥ = cc in absurd impossible

no_new_holder : (s : LockState) (held wanted : Mode) → downward held wanted ≡ true → holds_against wanted s ≡ true → holds_against held s ≡ true
no_new_holder (Granted mode) held wanted down clash = no_new_conflict mode held wanted down clash
no_new_holder (Converting mode other) held wanted down clash = no_new_conflict mode held wanted down clash
no_new_holder (Waiting other) held wanted down clash = let impossible : ⊥ = cc in absurd impossible

within_tests : (a b c d : Bool) → (c ≡ true → d ≡ true) → (a && (b && d)) ≡ false → (a && (b && c)) ≡ false
within_tests true true true d more none = sym (more refl) ∙ none
within_tests true true false d more none = refl
within_tests true false c d more none = refl
within_tests false b c d more none = refl

-- so nothing stands against it
none_new : (locks : List LockRecord) (lock : ℕ) (name : List ℕ) (held wanted : Mode) → downward held wanted ≡ true
    → list_any (stands_against lock name held) locks ≡ false → list_any (stands_against lock name wanted) locks ≡ false
none_new [] lock name held wanted down none = refl
none_new (x ∷ rest) lock name held wanted down none =
    let parts = or_false (stands_against lock name held x) (list_any (stands_against lock name held) rest) none in
    ap (λ b. b || list_any (stands_against lock name wanted) rest)
    (within_tests (is_on name x) (not (is_lock lock x)) (holds_against wanted x.state) (holds_against held x.state) (no_new_holder x.state held wanted down) parts.0)
    ∙ none_new rest lock name held wanted down parts.1

-- and it is granted
pub downward_granted : (locks : List LockRecord) (host : ℕ) (r : LockRecord) (held mode : Mode) (no_queue : Bool) (value : Option (List ℕ)) → IsPeaceful locks
    → lock_in locks r.lock ≡ Some r → r.state ≡ Granted held → downward held mode ≡ true
    → (done locks host r.client (Convert r.lock mode no_queue value)).answer ≡ answer.Granted
downward_granted locks host r held mode no_queue value peace there is down =
    let quiet : admits locks r.lock r.name held ≡ true = peace.quiet r there held (ap held_by is) in
    let may : admits locks r.lock r.name mode ≡ true = ap not (none_new locks r.lock r.name held mode down (not_true _ quiet)) in
    ap (λ (o : CommandOutcome). o.answer) (own_there locks r (λ o. converted locks o mode no_queue o.state) there)
    ∙ ap (λ s. (converted locks r mode no_queue s).answer) is
    ∙ granted_if (admits locks r.lock r.name mode) _ _ may refl
  where
    granted_if : (b : Bool) (x y : CommandOutcome) → b ≡ true → x.answer ≡ answer.Granted → (cond b x y).answer ≡ answer.Granted
    granted_if true x y h done = done
    granted_if false x y h done = let impossible : ⊥ = cc in absurd impossible
