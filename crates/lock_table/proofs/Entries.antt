-- The entries of values, where a lock is carried over.
use Rattle.std.proofs.Common.{◌≡◌, ◌≤◌, ◌<◌, Bool, true, false, cond, not, ◌||◌, List, [], ◌∷◌, length, refl, sym, ap, ◌∙◌, arith}
use Rattle.std.specs.List.{filter, list_any}
use Rattle.std.proofs.lemmas.List.Folds.{list_any-append}
use Rattle.lock_command.specs.declared.command.Action.TheVariants.{CarryLock}
use Rattle.lock_command.specs.declared.reply.Answer.TheVariants as answer
use Rattle.lock_command.specs.declared.reply.LockValue.{LockValue}
use Rattle.lock_command.specs.declared.record.TheConstants.{LOCKS}
use Rattle.lock_command.specs.declared.record.LockRecord.{LockRecord}
use Rattle.lock_table.specs.declared.values.NamedValue.{NamedValue}
use Rattle.lock_command.specs.Locks.{is_on, without, put, IsDistinct}
use Rattle.lock_table.specs.Values.{Values, is_state, of_locked, stored}
use Rattle.lock_table.specs.Apply.{CommandOutcome, carried}
use Rattle.lock_index.specs.Printed.{printed_cmp}
use Rattle.lock_table.specs.Picture.{HasZeros}
use Rattle.lock_index.specs.Placed.{in_order}
use Rattle.lock_table.specs.Stored.{is_of, value_in, put_value, IsValued}
use Rattle.lock_index.proofs.Alike.{same-any, same-length}
use Rattle.lock_index.proofs.Apart.{same_name-itself}
use Rattle.lock_table.proofs.Behave.{distinct-done, same-of_locked}
use Rattle.lock_table.proofs.Keeping.{still_locked}
use Rattle.lock_index.proofs.PrintedOrder.{same_in_order}
use Rattle.lock_table.proofs.Outcomes.{HasPlace, after_carry}
use Rattle.lock_table.proofs.Room.{length-put}
use Rattle.lock_table.proofs.Stored.{all_locked, locked_values, of_locked_zeros, put_stores, room_for, valued_put}

-- what is stored is stored for names that have locks
pub valued_values : (locks : List LockRecord) (entries : List NamedValue) → IsValued locks entries → value_in entries ≡ of_locked locks (value_in entries)
valued_values locks entries valued = ap value_in (all_locked locks entries valued.locked) ∙ locked_values locks entries

pub valued_zeros : (locks : List LockRecord) (entries : List NamedValue) → IsValued locks entries → HasZeros locks (value_in entries)
valued_zeros locks entries valued name none = ap (λ (v : Values). v name) (valued_values locks entries valued) ∙ of_locked_zeros locks (value_in entries) name none

-- an outcome that tells a state comes from a lock that was put in
IsPut : List LockRecord → LockRecord → CommandOutcome → Type 0
IsPut locks r o = is_state o.answer ≡ true → HasPlace locks r.lock × (o ≡ record { locks = put locks r; answer = answer.State r.state })

is_put : (locks : List LockRecord) (r : LockRecord) → IsPut locks r (carried locks r)
unfolding IsPut
is_put locks r = after_carry (IsPut locks r) locks (λ why told. let impossible : ⊥ = cc in absurd impossible) r (λ place told. (place, refl))

or_yes : (b : Bool) → (b || true) ≡ true
or_yes true = refl
or_yes false = refl

module _ (locks now : List LockRecord) (entries : List NamedValue) (r : LockRecord) (value : LockValue) (distinct : IsDistinct locks) (valued : IsValued locks entries)
    (is : now ≡ in_order printed_cmp (carried locks r).locks) where
  own : NamedValue
  own = record { name = r.name; value = value }

  left_distinct : IsDistinct (carried locks r).locks
  left_distinct = distinct-done locks r.host r.client (CarryLock r.lock r.name r.state value) distinct

  -- names that had locks have them still
  pub valued_still : IsValued now entries
  valued_still = record {
    named = valued.named;
    locked = λ name there. still_locked entries locks now r.host r.client (CarryLock r.lock r.name r.state value) distinct valued is name there refl;
  }

  -- where it is refused
  pub values_still : is_state (carried locks r).answer ≡ false → value_in entries ≡ of_locked (carried locks r).locks (cond (is_state (carried locks r).answer) (stored (value_in entries) r.name value) (value_in entries))
  values_still h =
      valued_values now entries valued_still
      ∙ ap (λ l. of_locked l (value_in entries)) is
      ∙ same-of_locked (in_order printed_cmp (carried locks r).locks) (carried locks r).locks (value_in entries) (same_in_order (carried locks r).locks left_distinct)
      ∙ ap (λ b. of_locked (carried locks r).locks (cond b (stored (value_in entries) r.name value) (value_in entries))) (sym h)

  module _ (h : is_state (carried locks r).answer ≡ true) where
    put_is : HasPlace locks r.lock × (carried locks r ≡ record { locks = put locks r; answer = answer.State r.state })
    unfolding IsPut
    put_is = is_put locks r h

    has_now : list_any (is_on r.name) now ≡ true
    has_now =
        ap (list_any (is_on r.name)) is
        ∙ same-any (is_on r.name) (in_order printed_cmp (carried locks r).locks) (carried locks r).locks (same_in_order (carried locks r).locks left_distinct)
        ∙ ap (λ (o : CommandOutcome). list_any (is_on r.name) o.locks) put_is.1
        ∙ list_any-append (is_on r.name) (without locks r.lock) (r ∷ [])
        ∙ ap (λ b. list_any (is_on r.name) (without locks r.lock) || (b || false)) (same_name-itself r.name)
        ∙ or_yes (list_any (is_on r.name) (without locks r.lock))

    few_now : length now ≤ LOCKS
    few_now =
        let same : length now ≡ length (carried locks r).locks = ap length is ∙ same-length (in_order printed_cmp (carried locks r).locks) (carried locks r).locks (same_in_order (carried locks r).locks left_distinct) in
        let more : length (carried locks r).locks ≡ length (put locks r) = ap (λ (o : CommandOutcome). length o.locks) put_is.1 in
        omega (arith, same, more, length-put locks r, put_is.0.room)

    pub room_own : length (filter (λ o. not (is_of r.name o)) entries) < LOCKS
    unfolding own
    room_own = room_for now entries own LOCKS few_now valued_still has_now

    pub valued_own : IsValued now (put_value entries (record { name = r.name; value = value }))
    unfolding own
    valued_own = valued_put now entries own valued_still has_now

    pub values_own : value_in (put_value entries (record { name = r.name; value = value })) ≡ of_locked (carried locks r).locks (cond (is_state (carried locks r).answer) (stored (value_in entries) r.name value) (value_in entries))
    unfolding own
    values_own =
        valued_values now (put_value entries own) valued_own
        ∙ ap (of_locked now) (put_stores entries own)
        ∙ ap (λ l. of_locked l (stored (value_in entries) r.name value)) is
        ∙ same-of_locked (in_order printed_cmp (carried locks r).locks) (carried locks r).locks (stored (value_in entries) r.name value) (same_in_order (carried locks r).locks left_distinct)
        ∙ ap (λ b. of_locked (carried locks r).locks (cond b (stored (value_in entries) r.name value) (value_in entries))) (sym h)

    -- it is told as it was stored
    pub told_own : value_in (put_value entries (record { name = r.name; value = value })) r.name ≡ value
    unfolding own
    told_own = ap (λ (v : Values). v r.name) (put_stores entries own) ∙ ap (λ b. cond b value (value_in entries r.name)) (same_name-itself r.name)
