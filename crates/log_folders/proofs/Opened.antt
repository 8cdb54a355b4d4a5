-- The disks of a folder of a log without an end, from what was found of its images.
use Rattle.std.proofs.Common.{◌≡◌, ◌≤◌, ℕ, List, Some, Result, Ok, Err, IfOk, IfErr, is_ok, map, take, slice_get, sym, ◌∙◌, ap, ap₂, subst}
use Rattle.std.specs.Result.{IsErrAnd}
use Rattle.disk.specs.declared.fault.ImageFault.{ImageFault}
use Rattle.disk.specs.FileStates.{FileState}
use Rattle.torn_block.specs.Layout.{cluster_version}
use Rattle.torn_block.specs.declared.layout.TheConstants.{DISKS}
use Rattle.paxos_block.specs.Places.{image_length}
use Rattle.paxos_block.specs.Shape.{Shape}
use Rattle.endless_image.specs.Kinds.{AreOneSet, kind_of, size_by}
use Rattle.endless_image.specs.Sizes.{IsSlotCount, size_of}
use Rattle.endless_image.specs.declared.any_header.AnyHeader.{AnyHeader}
use Rattle.endless_image.specs.declared.any_header.AnyHeader.TheVariants as any
use Rattle.endless_image.specs.declared.kind.Kind.{Kind}
use Rattle.endless_image.specs.declared.kind.Kind.TheVariants.{Endless}
use Rattle.folders.specs.Folders.{resized}
use Rattle.folders.specs.declared.fault.FolderFault.{FolderFault}
use Rattle.folders.specs.declared.fault.FolderFault.TheVariants.{Image}
use Rattle.folders.specs.declared.set.SetFault.{SetFault}
use Rattle.folders.proofs.Images.{map-get}
use Rattle.folders.proofs.Opening.{get-take, resized-same, resized-unused}
use Rattle.log_folders.specs.AnyHeaders.{IsAnyHeader, disks_in, size_in, slots_in}
use Rattle.log_folders.specs.AnySets.{AnyFound, AreAnyImages, HasAnyNumbers, HasAnySetFault}
use Rattle.log_folders.specs.EndlessFolders.{AreAnyDisksOf, IsAnyDiskOf, IsEndlessOpened, MayRefuseAny}

-- what is said of a right header holds of the one that was found
pub of_ok : (P : AnyHeader → Type 0) (image : Result AnyHeader ImageFault) → IfOk image P → (header : AnyHeader) → image ≡ Ok header → P header
of_ok P (Ok x) p header is = let e : x ≡ header = cc in subst P e p
of_ok P (Err fault) p header is = absurd (cc)

-- images of one set are of one size
same_size : (a b : AnyHeader) → AreOneSet a b → size_in a ≡ size_in b
same_size (any.Ending a) (any.Ending b) same = ap (image_length cluster_version) same.slots
same_size (any.Ending a) (any.Endless b) same = absurd same
same_size (any.Endless a) (any.Ending b) same = absurd same
same_size (any.Endless a) (any.Endless b) same = ap size_of same.slots

-- an epoch may have as many slots as a set without an end says
slots_may_be : (header : AnyHeader) → IsAnyHeader header → Endless ≡ kind_of header → IsSlotCount (slots_in header)
slots_may_be (any.Ending header) may_be is = absurd (cc)
slots_may_be (any.Endless header) may_be is = may_be.slots

disks_are_few : (header : AnyHeader) → IsAnyHeader header → disks_in header ≤ DISKS
disks_are_few (any.Ending header) may_be = may_be.disks
disks_are_few (any.Endless header) may_be = may_be.among.few

module _ (found : AnyFound) (images : AreAnyImages found) (config : Shape) (cluster : ℕ) where
  -- THE NUMBERS OF A SET

  first_may_be : (kind : Kind) → (numbers : HasAnyNumbers found kind config cluster) → IsAnyHeader numbers.first
  first_may_be kind numbers = images.right numbers.is_set.is_first.number numbers.first numbers.is_set.is_first.says

  pub epoch_slots : (kind : Kind) → kind ≡ Endless → HasAnyNumbers found kind config cluster → IsSlotCount config.slots
  epoch_slots kind is numbers =
      subst IsSlotCount (sym numbers.slots) (slots_may_be numbers.first (first_may_be kind numbers) (sym is ∙ numbers.of_kind))

  pub few_disks : (kind : Kind) → HasAnyNumbers found kind config cluster → config.disks ≤ DISKS
  few_disks kind numbers = subst (λ (n : ℕ). n ≤ DISKS) (sym numbers.disks) (disks_are_few numbers.first (first_may_be kind numbers))

  -- THE DISKS

  module _ (numbers : HasAnyNumbers found Endless config cluster) where
    own_size : (k : ℕ) (header : AnyHeader) → slice_get found k ≡ Some (Ok header) → size_of config.slots ≡ size_in header
    own_size k header says =
        ap₂ (λ (kind : Kind) (slots : ℕ). size_by kind slots) numbers.of_kind numbers.slots ∙ same_size numbers.first header (numbers.is_set.all k header says)

    used_by : (size : ℕ) → size ≡ size_of config.slots → (k : ℕ) (d e : FileState) (image : Result AnyHeader ImageFault) → resized size e ≡ d → slice_get found k ≡ Some image → IsAnyDiskOf image e → d.used ≡ is_ok image
    used_by size long k d e (Ok header) is there right =
        let same : e.size ≡ size = right.1 ∙ sym (long ∙ own_size k header there) in
        ap (λ (x : FileState). x.used) (sym is ∙ resized-same size e same) ∙ right.0
    used_by size long k d e (Err fault) is there refused = ap (λ (x : FileState). x.used) (sym is) ∙ resized-unused size e refused

    -- they are in use where their images were found right
    pub opened : (size : ℕ) → size ≡ size_of config.slots → (all : List FileState) → AreAnyDisksOf found all → (n : ℕ) (disks : List FileState) → disks ≡ map (resized size) (take n all) → IsEndlessOpened found config cluster disks
    opened size long all pairs n disks is =
        record {
          images = images;
          numbers = numbers;
          used = λ k d image at there.
              (let (e, at_e, is_d) = map-get (resized size) (take n all) k d (subst (λ (ds : List FileState). slice_get ds k ≡ Some d) is at) in
              used_by size long k d e image is_d there (pairs k e image (get-take n all k e at_e) there));
        }

-- images that are no set are a cause to refuse the folder
pub refused : {T : Type 0} (found : AnyFound) → AreAnyImages found → (fault : SetFault) → HasAnySetFault found fault → (result : Result T FolderFault) → IsErrAnd result (λ why. why ≡ Image fault.disk fault.fault) → IfErr result MayRefuseAny
refused found images fault has (Ok value) is = absurd is
refused found images fault has (Err why) is = subst MayRefuseAny (sym is) (found, images, has)
