-- The value beside a lock.
use Rattle.std.specs.Option.{option_map}
use Rattle.std.proofs.Common.{◌≡◌, ◌∙◌, ℕ, List, Some, None, slice_get, sym, ap}
use Rattle.std.proofs.lemmas.Option.{slice_get-map}
use Rattle.lock_command.specs.declared.record.LockRecord.{LockRecord}
use Rattle.lock_command.specs.declared.reply.LockValue.{LockValue}
use Rattle.lock_table.specs.Apply.{Plain}
use Rattle.lock_table.specs.Picture.{IsPictureOf, Shown}

-- it is that of the lock's name
pub beside : (shown : Shown) (plain : Plain) → IsPictureOf shown plain → (at : ℕ) (found : LockRecord) → slice_get shown.locks at ≡ Some found → slice_get shown.values at ≡ Some (plain.values found.name)
beside shown plain is at found there =
    ap (λ (l : List LockValue). slice_get l at) is.values ∙ slice_get-map (λ (r : LockRecord). plain.values r.name) shown.locks at ∙ ap (option_map (λ (r : LockRecord). plain.values r.name)) there

pub value_is : (shown : Shown) (plain : Plain) → IsPictureOf shown plain → (at : ℕ) (found : LockRecord) (value : LockValue) → slice_get shown.locks at ≡ Some found → slice_get shown.values at ≡ Some value → value ≡ plain.values found.name
value_is shown plain is at found value there has = let same : Some value ≡ Some (plain.values found.name) = sym has ∙ beside shown plain is at found there in cc

-- so there is one
pub no_value : (shown : Shown) (plain : Plain) → IsPictureOf shown plain → (at : ℕ) (found : LockRecord) → slice_get shown.locks at ≡ Some found → slice_get shown.values at ≡ None → ⊥
no_value shown plain is at found there has = let same : None ≡ Some (plain.values found.name) = sym has ∙ beside shown plain is at found there in absurd cc
