-- The images of a folder that are looked at by their names: whether they are one set, and why not.
use Rattle.std.proofs.Common.{◌≡◌, ◌<◌, ◌≤◌, ◌+◌, ◌∙◌, ℕ, Bool, true, false, nat_lt, arith, Option, Some, None, Result, Ok, Err, IfErr, OnOk, ◌⊎◌, inl, inr, refl, slice_get, subst, sym}
use Rattle.std.specs.Prelude.{IfNone}
use Rattle.std.specs.Result.{IsErrAnd}
use Rattle.std.proofs.lemmas.Bool.{ltb-true, ltb-false}
use Rattle.disk.specs.declared.fault.ImageFault.{ImageFault}
use Rattle.disk.specs.declared.fault.ImageFault.TheVariants.{Unreadable}
use Rattle.endless_image.specs.Headers.{IsEndlessHeader}
use Rattle.endless_image.specs.declared.header.EndlessHeader.{EndlessHeader}
use Rattle.endless_image.specs.declared.progress.Progress.{Progress}
use Rattle.folders.specs.declared.fault.FolderFault.{FolderFault}
use Rattle.folders.specs.declared.fault.FolderFault.TheVariants.{NoMemory, Image}
use Rattle.folders.specs.declared.set.SetFault.{SetFault}
use Rattle.folders.specs.declared.host_lock.LockFault.{LockFault}
use Rattle.folders.specs.Folders.{IsLockFault}
use Rattle.lock_command.specs.declared.number.TheConstants.{HOSTS}
use Rattle.in_place.specs.InPlaceFolders.{AreNoSet, AreOneSet, AreOwn, IsAsInSet, IsMakingFault, IsTooShort, Looks, MayNotMake}
use Rattle.in_place.specs.declared.in_place_fault.InPlaceFault.{InPlaceFault}
use Rattle.in_place.specs.declared.in_place_fault.InPlaceFault.TheVariants.{Folder, Lock, TooFewSlots, Renewed}

-- what holds below a number and of it
up_to : (P : ℕ → Type 0) (n k : ℕ) → (k < n → P k) → P n → k < n + 1 → P k
up_to P n k lower last below = on_test (nat_lt k n) refl
  where
    on_test : (b : Bool) → nat_lt k n ≡ b → P k
    on_test true is = lower (ltb-true k n is)
    on_test false is = let most : n ≤ k = ltb-false k n is in let e : n ≡ k = omega (arith, most, below) in subst P e last

-- one more image is as it should be in the set
pub one_more_in_set : (found : Looks) (set : EndlessHeader) (n : ℕ) (one : Result Progress ImageFault) → slice_get found n ≡ Some one → IsAsInSet set n one
    → ((k : ℕ) (image : Result Progress ImageFault) → k < n → slice_get found k ≡ Some image → IsAsInSet set k image)
    → (k : ℕ) (image : Result Progress ImageFault) → k < n + 1 → slice_get found k ≡ Some image → IsAsInSet set k image
one_more_in_set found set n one at is lower k image below =
    up_to (λ (m : ℕ). slice_get found m ≡ Some image → IsAsInSet set m image) n k (lower k image)
    (λ here. let same : Some one ≡ Some image = sym at ∙ here in let e : one ≡ image = cc in subst (IsAsInSet set n) e is) below

-- where nothing is found wrong, this is so
pub none_so : (P : Type 0) (result : Option ImageFault) → ((fault : ImageFault) → ¬ (result ≡ Some fault)) → IfNone result P → P
none_so P (Some fault) none so = absurd (none fault refl)
none_so P None none so = so

-- disk 0 has a header in the end that an image may have
pub set_right : (found : Looks) (set : EndlessHeader) → AreOwn found → AreOneSet found set → IsEndlessHeader set
set_right found set own one = let first = own 0 (Ok one.first) one.is_first in subst IsEndlessHeader (sym one.set_is) first.0

-- why they are no set is told of the folder
pub set_refused : {T : Type 0} (found : Looks) (of : SetFault) → AreNoSet found of → (result : Result T FolderFault) → IsErrAnd result (λ why. why ≡ Image of.disk of.fault) → IfErr result IsMakingFault
set_refused found of is (Ok done) ended = absurd ended
set_refused found of is (Err fault) ended = subst IsMakingFault (sym ended) (inr (inl (found, is)))

-- so is an image that could not be used
pub not_readable : {T : Type 0} (disk : ℕ) (result : Result T FolderFault) → IsErrAnd result (λ fault. fault ≡ Image disk Unreadable) → IfErr result IsMakingFault
not_readable disk (Ok done) ended = absurd ended
not_readable disk (Err fault) ended = subst IsMakingFault (sym ended) (inl refl)

-- WHY A FOLDER IS REFUSED

-- its own path is not found
pub unfound : (why : FolderFault) → (why ≡ NoMemory) ⊎ (why ≡ Image 0 Unreadable) → IsMakingFault why
unfound why (inl is) = subst IsMakingFault (sym is) tt
unfound why (inr is) = subst IsMakingFault (sym is) (inl refl)

-- for the sake of its images
pub folder_may : {T : Type 0} (of : FolderFault) → IsMakingFault of → (result : Result T InPlaceFault) → IsErrAnd result (λ fault. fault ≡ Folder of) → IfErr result MayNotMake
folder_may of is (Ok done) ended = absurd ended
folder_may of is (Err fault) ended = subst MayNotMake (sym ended) is

-- for the sake of a host
pub lock_may : {T : Type 0} (of : LockFault) → ((host : ℕ) × (host < HOSTS) × IsLockFault host of) → (result : Result T InPlaceFault) → IsErrAnd result (λ fault. fault ≡ Lock of) → IfErr result MayNotMake
lock_may of is (Ok done) ended = absurd ended
lock_may of is (Err fault) ended = subst MayNotMake (sym ended) is

-- or since its log is too short
pub short_may : (why : InPlaceFault) → ((why ≡ TooFewSlots) × IsTooShort) → MayNotMake why
short_may why is = subst MayNotMake (sym is.0) is.1

-- or it was renewed, if there was memory to see that
pub renewed_may : (why : InPlaceFault) → (why ≡ Folder NoMemory) ⊎ (why ≡ Renewed) → MayNotMake why
renewed_may why (inl is) = subst MayNotMake (sym is) tt
renewed_may why (inr is) = subst MayNotMake (sym is) tt

-- what is so is so where it ends well
pub on_ok : {T E : Type 0} (P : Type 0) → P → (result : Result T E) → OnOk result P
on_ok P so (Ok done) = so
on_ok P so (Err why) = tt
