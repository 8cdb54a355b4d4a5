-- The commands that carry a table over, one by one.
use Rattle.std.specs.Prelude.{slice_get, filter}
use Rattle.std.specs.Option.{option_map}
use Rattle.std.proofs.Common.{ℕ, zero, suc, ◌≡◌, ◌<◌, Option, Some, None, List, [], ◌∷◌, ◌++◌, length, map, refl, sym, ◌∙◌, ap, subst, inl, inr, get_or, ◌+◌, arith}
use Rattle.std.proofs.lemmas.Bool.{cases_eq}
use Rattle.std.proofs.lemmas.List.{length-map}
use Rattle.std.proofs.lemmas.List.Elements.{Contains-append_cases}
use Rattle.std.proofs.lemmas.Option.{get_or_from_slice_get, slice_get-get_or, slice_get-map}
use Rattle.lock_command.specs.declared.command.Command.{Command}
use Rattle.lock_command.specs.declared.record.LockRecord.{LockRecord}
use Rattle.lock_command.specs.declared.reply.LockValue.{LockValue}
use Rattle.lock_command.specs.Command.{spelling}
use Rattle.lock_command.specs.Reading.{decoded}
use Rattle.lock_table.specs.declared.known_client.KnownClient.{KnownClient}
use Rattle.lock_table.specs.Apply.{Plain}
use Rattle.lock_table.specs.Picture.{Shown, IsPictureOf}
use Rattle.lock_table.specs.Carrying.{carried_client, carried_lock, carried_locks, carried_over, is_among, stays_known, without_clients}
use Rattle.epoch_host.specs.Leading.{AreSpelled}

-- it is what its spelling reads as
abbrev pub IsSpelled : Command → Type 0
IsSpelled command = decoded (spelling command) ≡ Some command

-- ONE BY ONE

spelled_at : (commands : List Command) → ((k : ℕ) (command : Command) → slice_get commands k ≡ Some command → IsSpelled command) → AreSpelled commands
spelled_at commands each command has = each has.0 command (slice_get-get_or commands has.0 command has.1 ∙ ap (λ (x : Command). Some x) has.2)

-- a command of a lock is that of a lock and the value beside it
pub record IsOfLock (locks : List LockRecord) (values : List LockValue) (k : ℕ) (command : Command) : Type 0 where
  pub own : LockRecord
  pub value : LockValue
  pub is_lock : slice_get locks k ≡ Some own
  pub is_value : slice_get values k ≡ Some value
  pub is : carried_lock own value ≡ command

of_lock : (locks : List LockRecord) (values : List LockValue) (k : ℕ) (command : Command) → slice_get (carried_locks locks values) k ≡ Some command → IsOfLock locks values k command
of_lock [] values k command is = absurd (cc)
of_lock (r ∷ locks) [] k command is = absurd (cc)
of_lock (r ∷ locks) (v ∷ values) zero command is = record { own = r; value = v; is_lock = refl; is_value = refl; is = cc }
of_lock (r ∷ locks) (v ∷ values) (suc k) command is =
    let rest = of_lock locks values k command is in record { own = rest.own; value = rest.value; is_lock = rest.is_lock; is_value = rest.is_value; is = rest.is }

pub locks_spelled : (locks : List LockRecord) (values : List LockValue) → ((k : ℕ) (r : LockRecord) (v : LockValue) → slice_get locks k ≡ Some r → slice_get values k ≡ Some v → IsSpelled (carried_lock r v))
    → AreSpelled (carried_locks locks values)
locks_spelled locks values each =
    spelled_at (carried_locks locks values) (λ k command is. (let of = of_lock locks values k command is in subst IsSpelled of.is (each k of.own of.value of.is_lock of.is_value)))

pub clients_spelled : (clients : List KnownClient) → ((k : ℕ) (known : KnownClient) → slice_get clients k ≡ Some known → IsSpelled (carried_client known)) → AreSpelled (map carried_client clients)
clients_spelled clients each = spelled_at (map carried_client clients) (λ k command is. one k command (slice_get clients k) refl (sym (slice_get-map carried_client clients k) ∙ is))
  where
    one : (k : ℕ) (command : Command) (o : Option KnownClient) → slice_get clients k ≡ o → option_map carried_client o ≡ Some command → IsSpelled command
    one k command None found is = absurd (cc)
    one k command (Some known) found is = let same : carried_client known ≡ command = cc in subst IsSpelled same (each k known found)

pub both_spelled : (one more : List Command) → AreSpelled one → AreSpelled more → AreSpelled (one ++ more)
both_spelled one more first then command has = elim (Contains-append_cases one more command has) [ inl is ↦ first command is | inr is ↦ then command is ]

-- ONE MORE

-- one more is the last that was looked at
same_element : {X : Type 0} (xs : List X) (at k : ℕ) (own x : X) → k ≡ at → own ≡ get_or xs at own → slice_get xs k ≡ Some x → own ≡ x
same_element xs at k own x same own_is is = own_is ∙ get_or_from_slice_get xs at x own (ap (slice_get xs) (sym same) ∙ is)

pub next_lock : (locks : List LockRecord) (values : List LockValue) (at : ℕ) (own : LockRecord) (value : LockValue) → own ≡ get_or locks at own → value ≡ get_or values at value → IsSpelled (carried_lock own value)
    → ((k : ℕ) (r : LockRecord) (v : LockValue) → k < at → slice_get locks k ≡ Some r → slice_get values k ≡ Some v → IsSpelled (carried_lock r v))
    → (k : ℕ) (r : LockRecord) (v : LockValue) → k < at + 1 → slice_get locks k ≡ Some r → slice_get values k ≡ Some v → IsSpelled (carried_lock r v)
next_lock locks values at own value own_is value_is here before k r v less is also =
    elim (cases_eq k at) [
      | inl same ↦
          subst (λ (x : LockRecord). IsSpelled (carried_lock x v)) (same_element locks at k own r same own_is is)
          (subst (λ (x : LockValue). IsSpelled (carried_lock own x)) (same_element values at k value v same value_is also) here)
      | inr differ ↦ before k r v (omega (arith, less, differ)) is also
    ]

pub next_client : (clients : List KnownClient) (at : ℕ) (own : KnownClient) → own ≡ get_or clients at own → IsSpelled (carried_client own)
    → ((k : ℕ) (known : KnownClient) → k < at → slice_get clients k ≡ Some known → IsSpelled (carried_client known))
    → (k : ℕ) (known : KnownClient) → k < at + 1 → slice_get clients k ≡ Some known → IsSpelled (carried_client known)
next_client clients at own own_is here before k known less is =
    elim (cases_eq k at) [
      | inl same ↦ subst (λ (x : KnownClient). IsSpelled (carried_client x)) (same_element clients at k own known same own_is is) here
      | inr differ ↦ before k known (omega (arith, less, differ)) is
    ]

-- NOBODY IS LEFT OUT

all_stay : (locks : List LockRecord) (clients : List KnownClient) → filter (stays_known (is_among []) locks) clients ≡ clients
all_stay locks [] = refl
all_stay locks (known ∷ clients) = ap (λ (l : List KnownClient). known ∷ l) (all_stay locks clients)

pub none_left_out : (shown : Shown) → carried_over (without_clients (is_among []) shown) ≡ carried_over shown
none_left_out shown = ap (λ (clients : List KnownClient). carried_locks shown.locks shown.values ++ map carried_client clients) (all_stay shown.locks shown.clients)

-- as many values as locks are shown
pub shown_beside : (shown : Shown) (plain : Plain) → IsPictureOf shown plain → length shown.values ≡ length shown.locks
shown_beside shown plain is = ap (λ (l : List LockValue). length l) is.values ∙ length-map shown.locks (λ (r : LockRecord). plain.values r.name)
