-- Two plain tables with one picture behave alike.
use Rattle.std.proofs.Common.{◌≡◌, ℕ, Bool, true, false, cond, not, ◌&&◌, List, [], ◌∷◌, ◌++◌, length, sym, ap, ◌∙◌, arith}
use Rattle.std.specs.List.{filter, list_any}
use Rattle.std.proofs.lemmas.List.Elements.{filter-append}
use Rattle.lock_command.specs.declared.mode.Mode.{Mode}
use Rattle.lock_command.specs.declared.record.LockRecord.{LockRecord}
use Rattle.lock_command.specs.State.{goal_of, is_queued}
use Rattle.lock_command.specs.Locks.{is_lock, is_on, lock_in, without, put, converts_on, waits_on, queue, has_queue, stands_against, admits, granted, grant_from, settled, IsDistinct}
use Rattle.lock_index.specs.Printed.{HasSameLocks}
use Rattle.lock_index.proofs.Parts.{filter-filter, any_alike, find_alike, length_alike}

abbrev lock_of : LockRecord → ℕ
lock_of r = r.lock

pub same_back : (a b : List LockRecord) → HasSameLocks a b → HasSameLocks b a
same_back a b s = record { numbers = λ lock. sym (s.numbers lock); conversions = λ name. sym (s.conversions name); waiting = λ name. sym (s.waiting name) }

pub same_through : (a b c : List LockRecord) → HasSameLocks a b → HasSameLocks b c → HasSameLocks a c
same_through a b c s t = record { numbers = λ lock. s.numbers lock ∙ t.numbers lock; conversions = λ name. s.conversions name ∙ t.conversions name; waiting = λ name. s.waiting name ∙ t.waiting name }

part_alike : (P Q : LockRecord → Bool) (a b : List LockRecord) → filter P a ≡ filter P b → filter P (filter Q a) ≡ filter P (filter Q b)
part_alike P Q a b same = filter-filter P Q a ∙ ap (filter Q) same ∙ filter-filter Q P b

end_alike : (P : LockRecord → Bool) (r : LockRecord) (a b : List LockRecord) → filter P a ≡ filter P b → filter P (a ++ r ∷ []) ≡ filter P (b ++ r ∷ [])
end_alike P r a b same = filter-append P a (r ∷ []) ∙ ap (λ l. l ++ filter P (r ∷ [])) same ∙ sym (filter-append P b (r ∷ []))

pub same-filter : (Q : LockRecord → Bool) (a b : List LockRecord) → HasSameLocks a b → HasSameLocks (filter Q a) (filter Q b)
same-filter Q a b s = record {
  numbers = λ lock. part_alike (is_lock lock) Q a b (s.numbers lock);
  conversions = λ name. part_alike (converts_on name) Q a b (s.conversions name);
  waiting = λ name. part_alike (waits_on name) Q a b (s.waiting name);
}

pub same-put : (r : LockRecord) (a b : List LockRecord) → HasSameLocks a b → HasSameLocks (put a r) (put b r)
same-put r a b s =
    let t = same-filter (λ o. not (is_lock r.lock o)) a b s in
    record {
      numbers = λ lock. end_alike (is_lock lock) r (without a r.lock) (without b r.lock) (t.numbers lock);
      conversions = λ name. end_alike (converts_on name) r (without a r.lock) (without b r.lock) (t.conversions name);
      waiting = λ name. end_alike (waits_on name) r (without a r.lock) (without b r.lock) (t.waiting name);
    }

pub same-any : (P : LockRecord → Bool) (a b : List LockRecord) → HasSameLocks a b → list_any P a ≡ list_any P b
same-any P a b s = any_alike lock_of P a b s.numbers

pub same-lock_in : (lock : ℕ) (a b : List LockRecord) → HasSameLocks a b → lock_in a lock ≡ lock_in b lock
same-lock_in lock a b s = find_alike lock_of lock a b s.numbers

pub same-length : (a b : List LockRecord) → HasSameLocks a b → length a ≡ length b
same-length a b s = length_alike lock_of a b s.numbers

pub same-admits : (lock : ℕ) (name : List ℕ) (mode : Mode) (a b : List LockRecord) → HasSameLocks a b → admits a lock name mode ≡ admits b lock name mode
same-admits lock name mode a b s = ap not (same-any (stands_against lock name mode) a b s)

pub same-has_queue : (name : List ℕ) (a b : List LockRecord) → HasSameLocks a b → has_queue a name ≡ has_queue b name
same-has_queue name a b s = same-any (λ r. is_on name r && is_queued r.state) a b s

pub same-distinct : (a b : List LockRecord) → HasSameLocks a b → IsDistinct a → IsDistinct b
same-distinct a b s distinct lock = omega (arith, distinct lock, ap length (s.numbers lock))

pub same-queue : (name : List ℕ) (a b : List LockRecord) → HasSameLocks a b → queue a name ≡ queue b name
same-queue name a b s = λ i. s.conversions name i ++ s.waiting name i

pub same-grants : (q a b : List LockRecord) → HasSameLocks a b → HasSameLocks (grant_from q a) (grant_from q b)
same-grants [] a b s = s
same-grants (r ∷ q) a b s =
    let may : admits a r.lock r.name (goal_of r.state) ≡ admits b r.lock r.name (goal_of r.state) = same-admits r.lock r.name (goal_of r.state) a b s in
    rw may (elim (admits b r.lock r.name (goal_of r.state)) as (λ t. HasSameLocks (cond t (grant_from q (put a (granted r))) a) (cond t (grant_from q (put b (granted r))) b)) [
      | true ↦ same-grants q (put a (granted r)) (put b (granted r)) (same-put (granted r) a b s)
      | false ↦ s
    ])

-- to settle a name keeps tables alike
pub same-settled : (name : List ℕ) (a b : List LockRecord) → HasSameLocks a b → HasSameLocks (settled a name) (settled b name)
unfolding settled
same-settled name a b s = rw (same-queue name a b s) (same-grants (queue b name) a b s)
