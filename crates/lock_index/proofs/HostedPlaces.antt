-- The hosts of locks, by place.
use Rattle.std.proofs.Common.{◌≡◌, ◌≢◌, ◌≤◌, ◌<◌, ℕ, true, false, cond, ◌==◌, List, [], length, get_or, insert, remove, refl, sym, ap, ◌∙◌, arith}
use Rattle.std.specs.List.{AllWithin}
use Rattle.std.proofs.lemmas.Bool.{eqb-true, eqb-false, ne_eqb}
use Rattle.std.proofs.lemmas.List.{get_or-map}
use Rattle.lock_command.specs.declared.record.LockRecord.{LockRecord}
use Rattle.lock_command.specs.Locks.{is_through}
use Rattle.lock_index.specs.Shelved.{at_place, at_places, times, idle, is_through_host, IsShelved, IsHosted}
use Rattle.lock_index.proofs.Places.{times-insert, times-remove, as_many, listed_place}

-- where there is no lock
pub hosted_none : (records : List LockRecord) (order hosts : List ℕ) → order ≡ [] → IsHosted records order hosts
hosted_none records order hosts none = record { found = λ place listed. absurd (omega (arith, listed, ap {B = ℕ} (times place) none)) }

module _ (records : List LockRecord) (order free hosts : List ℕ) (sound : IsShelved records order free) (hosted : IsHosted records order hosts) where
  pub hosted_remove : (i d : ℕ) → i < length order → IsHosted records (remove order i) hosts
  hosted_remove i d inside = record { found = λ p left. hosted.found p (omega (arith, left, times-remove p order i d inside)) }

  -- what is kept beside one place in place of what was, and of the lock there
  module _ (next : List LockRecord) (kept : List ℕ) (q : ℕ) (new : LockRecord) (own : at_place next q ≡ new) (here : get_or kept q 0 ≡ new.host) (elsewhere : (p : ℕ) → p ≢ q → get_or kept p 0 ≡ get_or hosts p 0) where
    hosted_at : (p : ℕ) → (p ≢ q → at_place next p ≡ at_place records p) → (p ≢ q → 1 ≤ times p order) → get_or kept p 0 ≡ (at_place next p).host
    hosted_at p stays listed =
        elim (q == p) as (λ b. (q == p) ≡ b → get_or kept p 0 ≡ (at_place next p).host) [
          | true ↦ λ e.
              let same : q ≡ p = eqb-true q p e in
              ap (λ n. get_or kept n 0) (sym same) ∙ here ∙ ap (λ (r : LockRecord). r.host) (sym own) ∙ ap (λ n. (at_place next n).host) same
          | false ↦ λ e.
              let other : p ≢ q = λ same. eqb-false q p e (sym same) in
              elsewhere p other ∙ hosted.found p (listed other) ∙ ap (λ (r : LockRecord). r.host) (sym (stays other))
        ] refl

    pub hosted_insert : (i : ℕ) → ((p : ℕ) → idle records free p ≡ 0 → at_place next p ≡ at_place records p) → IsHosted next (insert order i q) kept
    hosted_insert i others = record {
      found = λ p listed.
          let before : p ≢ q → 1 ≤ times p order = λ other. omega (arith, listed, times-insert p q order i, ap {B = ℕ} (λ b. cond b 1 0) (ne_eqb q p (λ (same : q ≡ p). other (sym same)))) in
          hosted_at p (λ other. others p (omega (arith, before other, sound.apart p))) before;
    }

    pub hosted_set : ((p : ℕ) → p ≢ q → at_place next p ≡ at_place records p) → IsHosted next order kept
    hosted_set others = record { found = λ p listed. hosted_at p (others p) (λ other. listed) }

  module _ (shown : List LockRecord) (view : at_places records order ≡ shown) (host : ℕ) where
    -- what is read beside a place of the order
    pub through_in_order : (i d : ℕ) → i < length order → (e : LockRecord) → is_through_host hosts host (get_or order i d) ≡ is_through host (get_or shown i e)
    through_in_order i d inside e =
        ap (λ h. h == host) (hosted.found (get_or order i d) (listed_place records order free sound i d inside))
        ∙ ap (is_through host) (sym (get_or-map (at_place records) order i d e inside) ∙ ap (λ l. get_or l i e) view)

    -- and beside several
    pub others_in_order : (low high : ℕ) → high ≤ length shown → AllWithin (λ place. is_through_host hosts host place ≡ false) order low high → AllWithin (λ r. is_through host r ≡ false) shown low high
    others_in_order low high inside others = λ k e from to.
        sym (through_in_order k 0 (omega (arith, to, inside, as_many records order free sound shown view)) e) ∙ others k 0 from to
