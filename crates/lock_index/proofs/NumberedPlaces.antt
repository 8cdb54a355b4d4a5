-- The lock numbers of locks, by place.
use Rattle.std.proofs.Common.{◌≡◌, ◌≤◌, ◌<◌, ℕ, true, false, cond, ◌==◌, List, [], length, get_or, set, insert, remove, replicate, refl, sym, ap, ◌∙◌, inl, inr, arith}
use Rattle.std.proofs.lemmas.Bool.{cases_lt, eqb-true, eqb-false}
use Rattle.std.proofs.lemmas.List.{get_or-map, get_or-replicate, get_or_past, get_or-set_same, get_or-set_other, length-replicate}
use Rattle.lock_command.specs.declared.record.LockRecord.{LockRecord}
use Rattle.lock_index.specs.Shelved.{no_lock, at_place, at_places, times, idle, IsShelved, IsNumbered}
use Rattle.lock_index.proofs.Places.{times-insert, times-remove, listed_place, as_many, place_inside}
use Rattle.lock_index.proofs.Standing.{stands_somewhere}

read_zero : (n place : ℕ) → ◌≡◌ {A = ℕ} (get_or (replicate n 0) place 0) 0
read_zero n place = elim (cases_lt place n) as (λ w. ◌≡◌ {A = ℕ} (get_or (replicate n 0) place 0) 0) [
  | inl inside ↦ get_or-replicate n place 0 0 inside
  | inr past ↦ get_or_past (replicate n 0) place 0 (omega (arith, past, length-replicate {A = ℕ} n 0))
]

-- where there is no lock
pub numbered_none : (records : List LockRecord) (order numbers : List ℕ) (n : ℕ) → order ≡ [] → numbers ≡ replicate n 0 → IsNumbered records order numbers
numbered_none records order numbers n none zeros = record {
  there = λ place listed. absurd (omega (arith, listed, ap {B = ℕ} (times place) none));
  elsewhere = λ place other. ap (λ l. get_or l place 0) zeros ∙ read_zero n place;
}

module _ (records : List LockRecord) (order free numbers : List ℕ) (sound : IsShelved records order free) (kept : IsNumbered records order numbers) where
  pub numbered_remove : (i d q : ℕ) → i < length order → q ≡ get_or order i d → q < length numbers → IsNumbered records (remove order i) (set numbers q 0)
  numbered_remove i d q inside is there = record {
    there = λ p listed.
        elim (q == p) as (λ b. (q == p) ≡ b → get_or (set numbers q 0) p 0 ≡ (at_place records p).lock) [
          | true ↦ λ e. absurd (omega (arith, listed, sound.apart p, times-remove p order i d inside, ap {B = ℕ} (λ (n : ℕ). cond (n == p) 1 0) is, ap {B = ℕ} (λ b. cond b 1 0) e))
          | false ↦ λ e.
              get_or-set_other numbers q p 0 0 (λ (same : p ≡ q). eqb-false q p e (sym same))
              ∙ kept.there p (omega (arith, listed, times-remove p order i d inside))
        ] refl;
    elsewhere = λ p none.
        elim (q == p) as (λ b. (q == p) ≡ b → get_or (set numbers q 0) p 0 ≡ 0) [
          | true ↦ λ e. ap (λ n. get_or (set numbers q 0) n 0) (sym (eqb-true q p e)) ∙ get_or-set_same numbers q 0 0 there
          | false ↦ λ e.
              get_or-set_other numbers q p 0 0 (λ (same : p ≡ q). eqb-false q p e (sym same))
              ∙ kept.elsewhere p (omega (arith, none, times-remove p order i d inside, ap {B = ℕ} (λ (n : ℕ). cond (n == p) 1 0) is, ap {B = ℕ} (λ b. cond b 1 0) e))
        ] refl;
  }

  pub numbered_insert : (next : List LockRecord) (i q n : ℕ) (new : LockRecord) → ((p : ℕ) → idle records free p ≡ 0 → at_place next p ≡ at_place records p)
      → at_place next q ≡ new → n ≡ new.lock → q < length numbers → IsNumbered next (insert order i q) (set numbers q n)
  numbered_insert next i q n new others own is inside = record {
    there = λ p listed.
        elim (q == p) as (λ b. (q == p) ≡ b → get_or (set numbers q n) p 0 ≡ (at_place next p).lock) [
          | true ↦ λ e.
              let same : q ≡ p = eqb-true q p e in
              ap (λ k. get_or (set numbers q n) k 0) (sym same) ∙ get_or-set_same numbers q n 0 inside ∙ is ∙ ap (λ (r : LockRecord). r.lock) (sym own) ∙ ap (λ k. (at_place next k).lock) same
          | false ↦ λ e.
              let before : 1 ≤ times p order = omega (arith, listed, times-insert p q order i, ap {B = ℕ} (λ b. cond b 1 0) e) in
              get_or-set_other numbers q p n 0 (λ (same : p ≡ q). eqb-false q p e (sym same))
              ∙ kept.there p before
              ∙ ap (λ (r : LockRecord). r.lock) (sym (others p (omega (arith, before, sound.apart p))))
        ] refl;
    elsewhere = λ p none.
        elim (q == p) as (λ b. (q == p) ≡ b → get_or (set numbers q n) p 0 ≡ 0) [
          | true ↦ λ e. absurd (omega (arith, none, times-insert p q order i, ap {B = ℕ} (λ b. cond b 1 0) e))
          | false ↦ λ e.
              get_or-set_other numbers q p n 0 (λ (same : p ≡ q). eqb-false q p e (sym same))
              ∙ kept.elsewhere p (omega (arith, none, times-insert p q order i))
        ] refl;
  }

  -- a record and its number in place of another
  pub numbered_set : (q n : ℕ) (new : LockRecord) → q < length records → q < length numbers → 1 ≤ times q order → n ≡ new.lock → IsNumbered (set records q new) order (set numbers q n)
  numbered_set q n new inside there own is = record {
    there = λ p listed.
        elim (q == p) as (λ b. (q == p) ≡ b → get_or (set numbers q n) p 0 ≡ (at_place (set records q new) p).lock) [
          | true ↦ λ e.
              let same : q ≡ p = eqb-true q p e in
              ap (λ k. get_or (set numbers q n) k 0) (sym same) ∙ get_or-set_same numbers q n 0 there ∙ is ∙ ap (λ (r : LockRecord). r.lock) (sym (get_or-set_same records q new no_lock inside)) ∙ ap (λ k. (at_place (set records q new) k).lock) same
          | false ↦ λ e.
              get_or-set_other numbers q p n 0 (λ (same : p ≡ q). eqb-false q p e (sym same))
              ∙ kept.there p listed
              ∙ ap (λ (r : LockRecord). r.lock) (sym (get_or-set_other records q p new no_lock (λ (same : p ≡ q). eqb-false q p e (sym same))))
        ] refl;
    elsewhere = λ p none.
        elim (q == p) as (λ b. (q == p) ≡ b → get_or (set numbers q n) p 0 ≡ 0) [
          | true ↦ λ e. absurd (omega (arith, none, own, ap {B = ℕ} (λ k. times k order) (eqb-true q p e)))
          | false ↦ λ e. get_or-set_other numbers q p n 0 (λ (same : p ≡ q). eqb-false q p e (sym same)) ∙ kept.elsewhere p none
        ] refl;
  }

  -- what is read beside a place of the order
  pub number_in_order : (shown : List LockRecord) (i p d : ℕ) → at_places records order ≡ shown → i < length order → p ≡ get_or order i d → (e : LockRecord) → get_or numbers p 0 ≡ (get_or shown i e).lock
  number_in_order shown i p d is inside place e =
      ap (λ n. get_or numbers n 0) place
      ∙ kept.there (get_or order i d) (listed_place records order free sound i d inside)
      ∙ ap (λ (r : LockRecord). r.lock) (sym (get_or-map (at_place records) order i d e inside) ∙ ap (λ l. get_or l i e) is)

  -- a place with a number is a place of the order
  place_of_number : (p : ℕ) → 1 ≤ get_or numbers p 0 → 1 ≤ times p order
  place_of_number p number = elim (cases_lt 0 (times p order)) as (λ w. 1 ≤ times p order) [
    | inl more ↦ omega (arith, more)
    | inr none ↦ absurd (omega (arith, number, kept.elsewhere p (omega (arith, none))))
  ]

  -- where the lock stands of which the number is read beside a place
  pub stands_there : (shown : List LockRecord) (p lock : ℕ) → at_places records order ≡ shown → get_or numbers p 0 ≡ lock → 1 ≤ lock
      → (at : ℕ) × (at < length shown) × (at < length order) × (p ≡ get_or order at 0) × (p < length records)
  stands_there shown p lock view is some =
      let here = stands_somewhere p order (place_of_number p (omega (arith, is, some))) in
      (here.0, omega (arith, here.1, as_many records order free sound shown view), here.1, sym here.2, omega (arith, here.2, place_inside records order free sound here.0 0 here.1))
