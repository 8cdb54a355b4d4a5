-- The disks of a folder, from what was found of its images.
use Rattle.std.proofs.Common.{◌≡◌, ◌==◌, ◌≤◌, ◌+◌, ℕ, zero, suc, Bool, true, false, List, [], ◌∷◌, Some, Result, Ok, Err, IfOk, IfErr, is_ok, if◌then◌else◌, length, map, take, slice_get, slice_set, refl, sym, ◌∙◌, ap, subst, eq-eqb}
use Rattle.std.proofs.Math.Numerals.{add-one}
use Rattle.std.proofs.lemmas.Bool.{eqb-true}
use Rattle.std.proofs.lemmas.List.{length-set}
use Rattle.std.specs.Result.{IsErrAnd}
use Rattle.torn_block.specs.Layout.{Version}
use Rattle.torn_block.specs.declared.layout.TheConstants.{DISKS, SLOTS}
use Rattle.disk.specs.declared.fault.ImageFault.{ImageFault}
use Rattle.disk.specs.FileStates.{FileState}
use Rattle.paxos_block.specs.declared.header.Header.{Header}
use Rattle.paxos_block.specs.Headers.{IsHeader}
use Rattle.paxos_block.specs.Places.{image_length}
use Rattle.paxos_block.specs.Shape.{Shape}
use Rattle.folders.specs.Sets.{Found, AreImages, HasNumbers}
use Rattle.folders.specs.Folders.{IsDiskOf, IsOpened, IsSmall, missing, resized}
use Rattle.folders.specs.declared.fault.FolderFault.{FolderFault}
use Rattle.folders.specs.declared.fault.FolderFault.TheVariants.{Image}
use Rattle.folders.specs.declared.set.SetFault.{SetFault}
use Rattle.folders.specs.SetFaults.{HasSetFault, MayRefuse}
use Rattle.folders.proofs.Images.{EachBelow, EachBelow-set, EachBelow-more, map-get, mapped_first, mapped_first-set, mapped_first-more}

-- what is said of a right header holds of the one that was found
pub of_ok : (P : Header → Type 0) (image : Result Header ImageFault) → IfOk image P → (header : Header) → image ≡ Ok header → P header
of_ok P (Ok x) p header is = let e : x ≡ header = cc in subst P e p
of_ok P (Err fault) p header is = absurd (cc)

-- a disk of the right size stays
pub resized-same : (size : ℕ) (d : FileState) → d.size ≡ size → resized size d ≡ d
resized-same size d is = ap (λ (b : Bool). if b then d else missing size) (eq-eqb d.size size is)

-- another is used no more
pub resized-other : (size : ℕ) (d : FileState) → (d.size == size) ≡ false → resized size d ≡ missing size
resized-other size d is = ap (λ (b : Bool). if b then d else missing size) is

pub resized-unused : (size : ℕ) (d : FileState) → d.used ≡ false → (resized size d).used ≡ false
resized-unused size d unused = by_test (d.size == size)
  where
    by_test : (b : Bool) → (if b then d else missing size).used ≡ false
    by_test true = unused
    by_test false = refl

-- so many disks were looked at
pub record AreResized (size n : ℕ) (old new : List FileState) : Type 0 where
  pub as_many : length new ≡ length old
  pub images : new ≡ mapped_first (resized size) n old
  pub long : EachBelow (λ (d : FileState). d.size ≡ size) n new

-- one more is looked at: it is of another size, and put aside
pub resized-put : (size n : ℕ) (old now next : List FileState) (x : FileState) → AreResized size n old now → slice_get now n ≡ Some x → (x.size ≡ size → ⊥) → next ≡ slice_set now n (missing size) → AreResized size (n + 1) old next
resized-put size n old now next x so_far there other is =
    let at : slice_get (mapped_first (resized size) n old) n ≡ Some x = subst (λ (ds : List FileState). slice_get ds n ≡ Some x) so_far.images there in record {
      as_many = ap length is ∙ length-set now n (missing size) ∙ so_far.as_many;
      images =
          is ∙ ap (λ (d : FileState). slice_set now n d) (sym (resized-other size x (differs (x.size == size) refl)))
          ∙ ap (λ (ds : List FileState). slice_set ds n (resized size x)) so_far.images
          ∙ mapped_first-set (resized size) n old x at ∙ ap (λ (m : ℕ). mapped_first (resized size) m old) (sym (add-one n));
      long =
          subst (λ (ds : List FileState). EachBelow (λ (d : FileState). d.size ≡ size) (n + 1) ds) (sym is)
          (EachBelow-set (λ (d : FileState). d.size ≡ size) now n (missing size) refl so_far.long);
    }
  where
    differs : (b : Bool) → (x.size == size) ≡ b → b ≡ false
    differs true is = absurd (other (eqb-true x.size size is))
    differs false is = refl

-- or it is of the right size, and stays
pub resized-kept : (size n : ℕ) (old now next : List FileState) (x : FileState) → AreResized size n old now → slice_get now n ≡ Some x → x.size ≡ size → next ≡ now → AreResized size (n + 1) old next
resized-kept size n old now next x so_far there same is =
    let at : slice_get (mapped_first (resized size) n old) n ≡ Some x = subst (λ (ds : List FileState). slice_get ds n ≡ Some x) so_far.images there in record {
      as_many = ap length is ∙ so_far.as_many;
      images = is ∙ so_far.images ∙ mapped_first-more (resized size) n old x at (resized-same size x same) ∙ ap (λ (m : ℕ). mapped_first (resized size) m old) (sym (add-one n));
      long = subst (λ (ds : List FileState). EachBelow (λ (d : FileState). d.size ≡ size) (n + 1) ds) (sym is) (EachBelow-more (λ (d : FileState). d.size ≡ size) now n x same there so_far.long);
    }

-- the first elements of a list are its own
pub get-take : {X : Type 0} (n : ℕ) (xs : List X) (k : ℕ) (x : X) → slice_get (take n xs) k ≡ Some x → slice_get xs k ≡ Some x
get-take zero xs k x is = absurd (cc)
get-take (suc n) [] k x is = absurd (cc)
get-take (suc n) (y ∷ ys) zero x is = is
get-take (suc n) (y ∷ ys) (suc k) x is = get-take n ys k x is

-- the folder's disks are in use where their images were found right
pub opened : (v : Version) (found : Found) → AreImages found → (config : Shape) (cluster : ℕ) → HasNumbers found config cluster → (size : ℕ) → size ≡ image_length v config.slots → (all : List FileState)
    → ((k : ℕ) (d : FileState) (image : Result Header ImageFault) → slice_get all k ≡ Some d → slice_get found k ≡ Some image → IsDiskOf v image d)
    → (n : ℕ) (disks : List FileState) → disks ≡ map (resized size) (take n all) → IsOpened found config cluster disks
opened v found images config cluster numbers size long all pairs n disks is = record { images = images; numbers = numbers; used = used }
  where
    by_image : (k : ℕ) (d e : FileState) (image : Result Header ImageFault) → resized size e ≡ d → slice_get found k ≡ Some image → IsDiskOf v image e → d.used ≡ is_ok image
    by_image k d e (Ok header) is there right =
        let slots : config.slots ≡ header.slots = numbers.slots ∙ (numbers.is_set.all k header there).slots in
        let same : e.size ≡ size = right.1 ∙ sym (long ∙ ap (image_length v) slots) in
        ap (λ (x : FileState). x.used) (sym is ∙ resized-same size e same) ∙ right.0
    by_image k d e (Err fault) is there refused = ap (λ (x : FileState). x.used) (sym is) ∙ resized-unused size e refused

    used : (k : ℕ) (d : FileState) (image : Result Header ImageFault) → slice_get disks k ≡ Some d → slice_get found k ≡ Some image → d.used ≡ is_ok image
    used k d image at there =
        let (e, at_e, is_d) = map-get (resized size) (take n all) k d (subst (λ (ds : List FileState). slice_get ds k ≡ Some d) is at) in
        by_image k d e image is_d there (pairs k e image (get-take n all k e at_e) there)

-- the numbers of a set are those of a right header, so they are small
pub small : (found : Found) → AreImages found → (config : Shape) (cluster : ℕ) → HasNumbers found config cluster → IsSmall config
small found images config cluster numbers =
    let right : IsHeader numbers.first = images.right numbers.is_set.is_first.number numbers.first numbers.is_set.is_first.says in
    record { disks = subst (λ (n : ℕ). n ≤ DISKS) (sym numbers.disks) right.disks; slots = subst (λ (n : ℕ). n ≤ SLOTS) (sym numbers.slots) right.slots }

-- images that are no set are a cause to refuse the folder
pub refused : {T : Type 0} (found : Found) → AreImages found → (fault : SetFault) → HasSetFault found fault → (result : Result T FolderFault) → IsErrAnd result (λ why. why ≡ Image fault.disk fault.fault) → IfErr result MayRefuse
refused found images fault has (Ok value) is = absurd is
refused found images fault has (Err why) is = subst MayRefuse (sym is) (found, images, has)
