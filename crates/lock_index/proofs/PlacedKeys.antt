-- The keys of locks, by place.
use Rattle.std.proofs.Common.{◌≡◌, ◌≤◌, ◌<◌, ◌+◌, ℕ, true, false, cond, ◌==◌, List, length, get_or, set, insert, remove, refl, sym, ap, subst, ◌∙◌, arith}
use Rattle.std.proofs.lemmas.Bool.{eqb-true, eqb-false}
use Rattle.std.proofs.lemmas.List.{get_or-map, get_or-set_same, get_or-set_other}
use Rattle.lock_command.specs.declared.record.LockRecord.{LockRecord}
use Rattle.lock_index.specs.Shelved.{no_lock, at_place, at_places, times, idle, IsShelved}
use Rattle.lock_index.specs.Keys.{lock_key, HasKey, IsKeyed}
use Rattle.lock_index.proofs.Places.{times-insert, times-remove, listed_place}

module _ (records : List LockRecord) (order free keys : List ℕ) (sound : IsShelved records order free) (keyed : IsKeyed records order keys) where
  pub keyed_remove : (i d : ℕ) → i < length order → IsKeyed records (remove order i) keys
  keyed_remove i d inside = record {
    found = λ p left. keyed.found p (omega (arith, left, times-remove p order i d inside));
    fits = λ p left. keyed.fits p (omega (arith, left, times-remove p order i d inside));
  }

  pub keyed_insert : (next : List LockRecord) (i q key : ℕ) (new : LockRecord) → ((p : ℕ) → idle records free p ≡ 0 → at_place next p ≡ at_place records p)
      → at_place next q ≡ new → key ≡ lock_key new → HasKey new → q < length keys → IsKeyed next (insert order i q) (set keys q key)
  keyed_insert next i q key new others own is fits inside = record {
    found = λ p listed.
        elim (q == p) as (λ b. (q == p) ≡ b → get_or (set keys q key) p 0 ≡ lock_key (at_place next p)) [
          | true ↦ λ e.
              let same : q ≡ p = eqb-true q p e in
              ap (λ n. get_or (set keys q key) n 0) (sym same) ∙ get_or-set_same keys q key 0 inside ∙ is ∙ ap lock_key (sym own) ∙ ap (λ n. lock_key (at_place next n)) same
          | false ↦ λ e.
              let there : times p (insert order i q) ≡ times p order = times-insert p q order i ∙ ap (λ b. times p order + cond b 1 0) e ∙ omega arith in
              let before : 1 ≤ times p order = omega (arith, there, listed) in
              get_or-set_other keys q p key 0 (λ (same : p ≡ q). eqb-false q p e (sym same))
              ∙ keyed.found p before
              ∙ ap lock_key (sym (others p (omega (arith, before, sound.apart p))))
        ] refl;
    fits = λ p listed.
        elim (q == p) as (λ b. (q == p) ≡ b → HasKey (at_place next p)) [
          | true ↦ λ e. subst (λ (r : LockRecord). HasKey r) (sym own ∙ ap (at_place next) (eqb-true q p e)) fits
          | false ↦ λ e.
              let there : times p (insert order i q) ≡ times p order = times-insert p q order i ∙ ap (λ b. times p order + cond b 1 0) e ∙ omega arith in
              let before : 1 ≤ times p order = omega (arith, there, listed) in
              subst (λ (r : LockRecord). HasKey r) (sym (others p (omega (arith, before, sound.apart p)))) (keyed.fits p before)
        ] refl;
  }

  -- a record in place of another that has its key
  pub keyed_set : (q : ℕ) (new : LockRecord) → q < length records → lock_key new ≡ lock_key (at_place records q) → HasKey new → IsKeyed (set records q new) order keys
  keyed_set q new inside alike fits = record {
    found = λ p listed.
        elim (q == p) as (λ b. (q == p) ≡ b → get_or keys p 0 ≡ lock_key (at_place (set records q new) p)) [
          | true ↦ λ e.
              let same : q ≡ p = eqb-true q p e in
              keyed.found p listed
              ∙ ap (λ n. lock_key (at_place records n)) (sym same)
              ∙ sym alike
              ∙ ap lock_key (sym (get_or-set_same records q new no_lock inside))
              ∙ ap (λ n. lock_key (at_place (set records q new) n)) same
          | false ↦ λ e. keyed.found p listed ∙ ap lock_key (sym (get_or-set_other records q p new no_lock (λ (same : p ≡ q). eqb-false q p e (sym same))))
        ] refl;
    fits = λ p listed.
        elim (q == p) as (λ b. (q == p) ≡ b → HasKey (at_place (set records q new) p)) [
          | true ↦ λ e. subst (λ (r : LockRecord). HasKey r) (sym (get_or-set_same records q new no_lock inside) ∙ ap (at_place (set records q new)) (eqb-true q p e)) fits
          | false ↦ λ e. subst (λ (r : LockRecord). HasKey r) (sym (get_or-set_other records q p new no_lock (λ (same : p ≡ q). eqb-false q p e (sym same)))) (keyed.fits p listed)
        ] refl;
  }

  -- what is read of the lock at a place of the order
  pub shown_there : (shown : List LockRecord) (i d : ℕ) (e : LockRecord) → at_places records order ≡ shown → i < length order → at_place records (get_or order i d) ≡ get_or shown i e
  shown_there shown i d e is inside = sym (get_or-map (at_place records) order i d e inside) ∙ ap (λ l. get_or l i e) is

  pub key_in_order : (shown : List LockRecord) (i p d : ℕ) → at_places records order ≡ shown → i < length order → p ≡ get_or order i d → (e : LockRecord) → get_or keys p 0 ≡ lock_key (get_or shown i e)
  key_in_order shown i p d is inside place e =
      ap (λ n. get_or keys n 0) place
      ∙ keyed.found (get_or order i d) (listed_place records order free sound i d inside)
      ∙ ap lock_key (shown_there shown i d e is inside)

  pub fits_in_order : (shown : List LockRecord) (i d : ℕ) → at_places records order ≡ shown → i < length order → (e : LockRecord) → HasKey (get_or shown i e)
  fits_in_order shown i d is inside e =
      subst (λ (r : LockRecord). HasKey r) (shown_there shown i d e is inside) (keyed.fits (get_or order i d) (listed_place records order free sound i d inside))
