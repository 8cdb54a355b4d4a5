-- Image after image is checked, and what is told first is kept.
use Rattle.std.specs.Prelude.{◌⊎◌, IsTrue}
use Rattle.std.specs.Option.{option_or}
use Rattle.std.proofs.Common.{◌≡◌, ◌≤◌, ◌<◌, ◌+◌, ◌∙◌, ℕ, zero, suc, List, [], ◌∷◌, Option, Some, None, Result, Ok, Err, length, map, slice_get, slice_set, refl, sym, ap, subst, arith, inl, inr}
use Rattle.std.proofs.lemmas.Bool.{cases_lt}
use Rattle.std.proofs.lemmas.List.{length-set}
use Rattle.disk.specs.Disk.{Device, DiskState, Call, Answer}
use Rattle.disk.specs.declared.fault.ImageFault.{ImageFault}
use Rattle.disk.specs.declared.fault.ImageFault.TheVariants.{Unreadable}
use Rattle.endless_image.specs.Sizes.{size_of}
use Rattle.endless_image.specs.declared.any_header.AnyHeader.{AnyHeader}
use Rattle.folders.proofs.Checking.{set_alike}
use Rattle.folders.proofs.Images.{Each}
use Rattle.folders.specs.declared.check.Finding.{Finding}
use Rattle.folders.specs.declared.check.Finding.TheVariants.{Image, Damaged}
use Rattle.folders.specs.Damage.{AllTell}
use Rattle.log_folders.specs.AnySets.{AnyFound}
use Rattle.log_folders.specs.Areas.{IsDamagedImage}
use Rattle.log_folders.specs.EndlessChecks.{AreLarge, TellsOf, IsTold, AreSound, IsToldFirst, NoneRefused, IsToldOfFolder, FailsIfUnread}
use Rattle.log_folders.specs.EndlessReading.{CannotBeRead, OneCannotBeRead, IsReadWhole, OneIsReadWhole, AreReadIfSound}

set_each : {X : Type 0} (P : X → Type 0) (xs : List X) (i : ℕ) (y : X) → P y → Each P xs → Each P (slice_set xs i y)
set_each P [] i y py all k x is = absurd (cc)
set_each P (z ∷ zs) zero y py all zero x is = let e : y ≡ x = cc in subst P e py
set_each P (z ∷ zs) zero y py all (suc k) x is = all (suc k) x is
set_each P (z ∷ zs) (suc i) y py all zero x is = all zero x is
set_each P (z ∷ zs) (suc i) y py all (suc k) x is = set_each P zs i y py (λ n w e. all (suc n) w e) k x is

-- those behind the one that is set stay
set_before : {X : Type 0} (xs : List X) (i k : ℕ) (y : X) → i < k → slice_get (slice_set xs i y) k ≡ slice_get xs k
set_before [] i k y lt = refl
set_before (z ∷ zs) zero zero y lt = absurd (omega (arith, lt))
set_before (z ∷ zs) zero (suc k) y lt = refl
set_before (z ∷ zs) (suc i) zero y lt = absurd (omega (arith, lt))
set_before (z ∷ zs) (suc i) (suc k) y lt = set_before zs i k y (omega (arith, lt))

-- and those before it
set_after : {X : Type 0} (xs : List X) (i k : ℕ) (y : X) → k < i → slice_get (slice_set xs i y) k ≡ slice_get xs k
set_after [] i k y lt = refl
set_after (z ∷ zs) zero k y lt = absurd (omega (arith, lt))
set_after (z ∷ zs) (suc i) zero y lt = refl
set_after (z ∷ zs) (suc i) (suc k) y lt = set_after zs i k y (omega (arith, lt))

set_here : {X : Type 0} (xs : List X) (i : ℕ) (x y : X) → slice_get xs i ≡ Some x → slice_get (slice_set xs i y) i ≡ Some y
set_here [] i x y there = absurd (cc)
set_here (z ∷ zs) zero x y there = refl
set_here (z ∷ zs) (suc i) x y there = set_here zs i x y there

item_at : {X : Type 0} (xs : List X) (k : ℕ) → k < length xs → (x : X) × (slice_get xs k ≡ Some x)
item_at [] k below = absurd (omega (arith, below))
item_at (x ∷ xs) zero below = (x, refl)
item_at (x ∷ xs) (suc k) below = item_at xs k (omega (arith, below))

-- Before image n: there are as many disks, as large as they were; those from n on are as they were; and of the others this was told first.
pub record Checked {D : Type 0} (device : D → Device) (state : D → DiskState) (gives : D → Call → Answer → D → Type 0) (slots : ℕ) (found : AnyFound) (old now : List D) (n : ℕ) (first : Option Finding) : Type 0 where
  pub as_many : length now ≡ length old
  pub large : AreLarge device slots now
  pub rest : (k : ℕ) → n ≤ k → slice_get now k ≡ slice_get old k
  pub told : IsToldFirst device state slots found old (OneCannotBeRead gives slots old now) n first
  pub whole : AreReadIfSound gives slots old now n first
  pub devices : map device now ≡ map device old

-- nothing is first only where there is nothing at all
none_of_both : (first finding : Option Finding) → option_or first finding ≡ None → (first ≡ None) × (finding ≡ None)
none_of_both None finding none = (refl, none)
none_of_both (Some first) finding none = absurd (cc)

-- what is told of an image stays so where its disk failed still
pub told_still : (image : Result AnyHeader ImageFault) (disk : ℕ) (tells damaged F G : Type 0) (finding : Option Finding) → (F → G) → TellsOf image disk tells damaged F finding → TellsOf image disk tells damaged G finding
told_still (Err fault) disk tells damaged F G finding still told = told
told_still (Ok header) disk tells damaged F G None still told = told
told_still (Ok header) disk tells damaged F G (Some Damaged) still told = told
told_still (Ok header) disk tells damaged F G (Some (Image number fault)) still told = (told.0, told.1, still told.2)

-- the disk that is set failed where the call of it did, and those before it as they did
module _ {D : Type 0} (gives : D → Call → Answer → D → Type 0) (slots : ℕ) (old now : List D) (n : ℕ) (y : D) where
  pub failed_still : (k : ℕ) → k < n → OneCannotBeRead gives slots old now k → OneCannotBeRead gives slots old (slice_set now n y) k
  failed_still k below failed = (failed.0, failed.1, failed.2, set_after now n k y below ∙ failed.3, failed.4)

  pub failed_here : (x : D) → slice_get old n ≡ Some x → slice_get now n ≡ Some x → CannotBeRead gives slots x y → OneCannotBeRead gives slots old (slice_set now n y) n
  failed_here x first there failed = (x, y, first, set_here now n x y there, failed)

  -- and so it is with disks that were read whole
  whole_still : (k : ℕ) → k < n → OneIsReadWhole gives slots old now k → OneIsReadWhole gives slots old (slice_set now n y) k
  whole_still k below whole = (whole.0, whole.1, whole.2, set_after now n k y below ∙ whole.3, whole.4)

  whole_more : (x : D) (first finding : Option Finding) → slice_get old n ≡ Some x → slice_get now n ≡ Some x → AreReadIfSound gives slots old now n first → (finding ≡ None → IsReadWhole gives slots x y)
      → AreReadIfSound gives slots old (slice_set now n y) (n + 1) (option_or first finding)
  whole_more x first finding at there before here none k below =
      let both = none_of_both first finding none in
      elim (cases_lt k n) [
        | inl lt ↦ whole_still k lt (before both.0 k lt)
        | inr ge ↦
            (let same : n ≡ k = omega (arith, below, ge) in
            subst (OneIsReadWhole gives slots old (slice_set now n y)) same (x, y, at, set_here now n x y there, here both.1))
      ]

module _ {D : Type 0} (device : D → Device) (state : D → DiskState) (slots : ℕ) (found : AnyFound) (old : List D) where
  -- the same of what is told of several
  one_still : (F G : ℕ → Type 0) (k : ℕ) (finding : Option Finding) → (F k → G k) → IsTold device state slots found old F k finding → IsTold device state slots found old G k finding
  one_still F G k finding still told disk image at found_at =
      told_still image k (IsTrue (device disk).tells) (IsDamagedImage slots (state disk).bytes) (F k) (G k) finding still (told disk image at found_at)

  sound_still : (F G : ℕ → Type 0) (n : ℕ) → ((k : ℕ) → k < n → F k → G k) → AreSound device state slots found old F n → AreSound device state slots found old G n
  sound_still F G n still sound k below = one_still F G k None (still k below) (sound k below)

  first_still : (F G : ℕ → Type 0) (n : ℕ) (finding : Option Finding) → ((k : ℕ) → k < n → F k → G k) → IsToldFirst device state slots found old F n finding → IsToldFirst device state slots found old G n finding
  first_still F G n None still told = sound_still F G n still told
  first_still F G n (Some finding) still told =
      let below = told.1 in
      (told.0, below, sound_still F G told.0 (λ k lower. still k (omega (arith, lower, below))) told.2, one_still F G told.0 (Some finding) (still told.0 below) told.3)

  sound_more : (F : ℕ → Type 0) (n : ℕ) → AreSound device state slots found old F n → IsTold device state slots found old F n None → AreSound device state slots found old F (n + 1)
  sound_more F n before here k below =
      elim (cases_lt k n) [
        | inl lt ↦ before k lt
        | inr ge ↦ (let same : n ≡ k = omega (arith, below, ge) in subst (λ (j : ℕ). IsTold device state slots found old F j None) same here)
      ]

  told_more : (F : ℕ → Type 0) (n : ℕ) (first finding : Option Finding) → IsToldFirst device state slots found old F n first → IsTold device state slots found old F n finding → IsToldFirst device state slots found old F (n + 1) (option_or first finding)
  told_more F n None None before here = sound_more F n before here
  told_more F n None (Some finding) before here = (n, omega arith, before, here)
  told_more F n (Some first) finding before here = (before.0, (let below = before.1 in omega (arith, below)), before.2, before.3)

  module _ (gives : D → Call → Answer → D → Type 0) where
    -- the next one is checked
    pub one_checked : (now : List D) (n : ℕ) (x y : D) (image : Result AnyHeader ImageFault) (first finding : Option Finding)
        → Checked device state gives slots found old now n first → slice_get now n ≡ Some x → slice_get found n ≡ Some image → device y ≡ device x
        → TellsOf image n (IsTrue (device x).tells) (IsDamagedImage slots (state x).bytes) (CannotBeRead gives slots x y) finding
        → (finding ≡ None → IsReadWhole gives slots x y)
        → Checked device state gives slots found old (slice_set now n y) (n + 1) (option_or first finding)
    one_checked now n x y image first finding so_far there imaged same told whole =
        let F = OneCannotBeRead gives slots old now in
        let G = OneCannotBeRead gives slots old (slice_set now n y) in
        let first_at : slice_get old n ≡ Some x = sym (so_far.rest n (omega arith)) ∙ there in
        record {
          as_many = length-set now n y ∙ so_far.as_many;
          large = set_each (λ (d : D). size_of slots ≤ (device d).size) now n y (subst (λ (d : Device). size_of slots ≤ d.size) (sym same) (so_far.large n x there)) so_far.large;
          rest = λ k after. set_before now n k y (omega (arith, after)) ∙ so_far.rest k (omega (arith, after));
          whole = whole_more gives slots old now n y x first finding first_at there so_far.whole whole;
          devices = set_alike device now n x y there same ∙ so_far.devices;
          told =
              told_more G n first finding (first_still F G n first (failed_still gives slots old now n y) so_far.told)
              (λ disk other at found_at.
              let disk_is : x ≡ disk = (let both : Some x ≡ Some disk = sym first_at ∙ at in cc) in
              let image_is : image ≡ other = (let both : Some image ≡ Some other = sym imaged ∙ found_at in cc) in
              subst (λ (d : D). TellsOf other n (IsTrue (device d).tells) (IsDamagedImage slots (state d).bytes) (G n) finding) disk_is
              (subst (λ (i : Result AnyHeader ImageFault). TellsOf i n (IsTrue (device x).tells) (IsDamagedImage slots (state x).bytes) (G n) finding) image_is
              (told_still image n (IsTrue (device x).tells) (IsDamagedImage slots (state x).bytes) (CannotBeRead gives slots x y) (G n) finding (failed_here gives slots old now n y x first_at there) told)));
        }

-- what is told first of a folder's images
module _ {D : Type 0} (device : D → Device) (state : D → DiskState) (slots : ℕ) (found : AnyFound) (disks : List D) (failed : ℕ → Type 0) where
  none_before : (k : ℕ) → k ≤ length disks → AreSound device state slots found disks failed k → NoneRefused found k
  none_before k enough sound j fault below imaged =
      let disk = item_at disks j (omega (arith, below, enough)) in
      let same : None ≡ Some (Image j fault) = sound j below disk.0 (Err fault) disk.1 imaged in
      cc

  none_up_to : (k : ℕ) → NoneRefused found k → ((fault : ImageFault) → slice_get found k ≡ Some (Err fault) → ⊥) → NoneRefused found (k + 1)
  none_up_to k before here j fault below imaged =
      elim (cases_lt j k) [
        | inl lt ↦ before j fault lt imaged
        | inr ge ↦ (let same : j ≡ k = omega (arith, below, ge) in here fault (subst (λ (i : ℕ). slice_get found i ≡ Some (Err fault)) same imaged))
      ]

  image_told : (k m : ℕ) (fault : ImageFault) (image : Result AnyHeader ImageFault) (tells damaged : Type 0) → slice_get found k ≡ Some image → NoneRefused found k → TellsOf image k tells damaged (failed k) (Some (Image m fault)) →
      (m ≡ k) × ((slice_get found k ≡ Some (Err fault)) ⊎ ((fault ≡ Unreadable) × NoneRefused found (k + 1)))
  image_told k m fault (Ok header) tells damaged imaged before told = (told.0, inr (told.1, none_up_to k before (λ other refused. let never : Some (Ok header) ≡ Some (Err other) = sym imaged ∙ refused in absurd (cc))))
  image_told k m fault (Err other) tells damaged imaged before told = ((cc), inl (let same : other ≡ fault = cc in imaged ∙ ap (λ (f : ImageFault). Some (Err f)) same))

  pub told_of_folder : (n : ℕ) → n ≤ length disks → n ≤ length found → (finding : Option Finding) → IsToldFirst device state slots found disks failed n finding → IsToldOfFolder found n finding
  told_of_folder n enough known None told = none_before n enough told
  told_of_folder n enough known (Some Damaged) told =
      let k = told.0 in
      let below = told.1 in
      let disk = item_at disks k (omega (arith, below, enough)) in
      (k, below, none_up_to k (none_before k (omega (arith, below, enough)) told.2) (λ fault refused. let never : Some Damaged ≡ Some (Image k fault) = told.3 disk.0 (Err fault) disk.1 refused in absurd (cc)))
  told_of_folder n enough known (Some (Image m fault)) told =
      let k = told.0 in
      let below = told.1 in
      let disk = item_at disks k (omega (arith, below, enough)) in
      let image = item_at found k (omega (arith, below, known)) in
      let before = none_before k (omega (arith, below, enough)) told.2 in
      let is = image_told k m fault image.0 (IsTrue (device disk.0).tells) (IsDamagedImage slots (state disk.0).bytes) image.1 before (told.3 disk.0 image.0 disk.1 image.1) in
      subst (λ (j : ℕ). (j < n) × NoneRefused found j × ((slice_get found j ≡ Some (Err fault)) ⊎ ((fault ≡ Unreadable) × NoneRefused found (j + 1)))) (sym is.0) (below, before, is.1)

told_unread : (image : Result AnyHeader ImageFault) (k number : ℕ) (fault : ImageFault) (tells damaged failed : Type 0) → TellsOf image k tells damaged failed (Some (Image number fault))
    → (number ≡ k) × ((header : AnyHeader) → image ≡ Ok header → failed)
told_unread (Err other) k number fault tells damaged failed told = ((cc), λ header is. absurd (cc))
told_unread (Ok own) k number fault tells damaged failed told = (told.0, λ header is. told.2)

-- of an image that is used this is told only where its disk failed
pub unread_fails : {D : Type 0} (device : D → Device) (state : D → DiskState) (gives : D → Call → Answer → D → Type 0) (slots : ℕ) (found : AnyFound) (old now : List D) (n : ℕ) → n ≤ length old → n ≤ length found
    → (finding : Option Finding) → IsToldFirst device state slots found old (OneCannotBeRead gives slots old now) n finding → FailsIfUnread gives slots found old now finding
unread_fails device state gives slots found old now n enough known None told = tt
unread_fails device state gives slots found old now n enough known (Some Damaged) told = tt
unread_fails device state gives slots found old now n enough known (Some (Image number fault)) told = λ header right.
    let k = told.0 in
    let below = told.1 in
    let disk = item_at old k (omega (arith, below, enough)) in
    let image = item_at found k (omega (arith, below, known)) in
    let is = told_unread image.0 k number fault _ _ (OneCannotBeRead gives slots old now k) (told.3 disk.0 image.0 disk.1 image.1) in
    let there : slice_get found k ≡ Some (Ok header) = ap (slice_get found) (sym is.0) ∙ right in
    let own : image.0 ≡ Ok header = (let both : Some image.0 ≡ Some (Ok header) = sym image.1 ∙ there in cc) in
    subst (OneCannotBeRead gives slots old now) (sym is.0) (is.1 header own)

-- a disk that tells its bytes keeps them
pub one_kept : {D : Type 0} (device : D → Device) (state : D → DiskState) (old now : List D) (n : ℕ) (x y : D) → ((k : ℕ) → n ≤ k → slice_get now k ≡ slice_get old k) → slice_get now n ≡ Some x
    → (IsTrue (device x).tells → state y ≡ state x) → AllTell device old → map state now ≡ map state old → map state (slice_set now n y) ≡ map state old
one_kept device state old now n x y rest there same all before =
    set_alike state now n x y there (same (all n x (sym (rest n (omega arith)) ∙ there))) ∙ before
