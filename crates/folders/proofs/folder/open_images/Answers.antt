use Rattle.std.proofs.Common.{◌≡◌, ◌+◌, ◌∷◌, [], ℕ, Some, Ok, Result, List, length, map, slice_get, slice_set, refl, sym, ◌∙◌, ap, subst}
use Rattle.std.proofs.lemmas.List.{length-set, length-append}
use Rattle.disk.specs.declared.fault.ImageFault.{ImageFault}
use Rattle.disk.specs.FileStates.{FileState}
use Rattle.paxos_block.specs.declared.header.Header.{Header}
use Rattle.paxos_block.specs.Headers.{IsHeader}
use Rattle.paxos_block.specs.Places.{image_length}
use Rattle.folders.specs.Folders.{IsDiskOf, resized}
use Rattle.folders.proofs.Images.{placed_more, paired_more}
use Rattle.folders.proofs.Opening.{of_ok, small, refused, opened}
use Rattle.folders.proofs.folder.open_images.Goals as goal

pub loop-disk-preserved : goal.loop-disk-preserved
loop-disk-preserved g c = record {
  as_many = ap length c.push_reserved.ensures.items ∙ length-append c.loop-disk.disks.items (c.in_ok-header.image ∷ []) ∙ ap (λ (n : ℕ). n + 1) c.loop-disk.invariant.as_many;
  found = length-set c.loop-disk.found c.from-in-loop-disk.result c.in_ok-header.header ∙ c.loop-disk.invariant.found;
  right = λ k header says. placed_more (λ n image. (h : Header) → image ≡ Ok h → IsHeader h) c.loop-disk.found c.from-in-loop-disk.result c.in_ok-header.header
      (of_ok IsHeader c.in_ok-header.header c.in_ok-header.ensures.right) (λ n image at h is. c.loop-disk.invariant.right n h (at ∙ ap Some is)) k (Ok header) says header refl;
  numbers = λ k header says. placed_more (λ n image. (h : Header) → image ≡ Ok h → h.disk ≡ n) c.loop-disk.found c.from-in-loop-disk.result c.in_ok-header.header
      (λ h is. of_ok (λ x. x.disk ≡ c.loop-disk.disk) c.in_ok-header.header c.in_ok-header.ensures.number h is ∙ sym c.from-in-loop-disk.ensures)
      (λ n image at h is. c.loop-disk.invariant.numbers n h (at ∙ ap Some is)) k (Ok header) says header refl;
  images = λ k d image at_disk at_image. paired_more (λ (x : FileState) (y : Result Header ImageFault). IsDiskOf g.L.Layout.version y x) c.loop-disk.disks.items c.loop-disk.found c.in_ok-header.image c.in_ok-header.header
      c.in_ok-header.ensures.disk c.loop-disk.invariant.images k d image
      (subst (λ (ds : List FileState). slice_get ds k ≡ Some d) c.push_reserved.ensures.items at_disk)
      (subst (λ (i : ℕ). slice_get (slice_set c.loop-disk.found i c.in_ok-header.header) k ≡ Some image) (c.from-in-loop-disk.ensures ∙ sym c.loop-disk.invariant.as_many) at_image);
}

pub returns-in_err-set-clause-fault : goal.returns-in_err-set-clause-fault
returns-in_err-set-clause-fault g c =
    refused c.loop-disk.found (record { all = c.loop-disk.invariant.found; right = c.loop-disk.invariant.right; numbers = c.loop-disk.invariant.numbers })
    c.in_err-set.field-0.0 c.in_err-set.ensures.fault c.from_residual-in_err-set.result c.from_residual-in_err-set.ensures.1

pub invariant_of-result-clause-small : goal.invariant_of-result-clause-small
invariant_of-result-clause-small g c =
    small c.loop-disk.found (record { all = c.loop-disk.invariant.found; right = c.loop-disk.invariant.right; numbers = c.loop-disk.invariant.numbers })
    c.in_ok-set.set.config c.in_ok-set.set.cluster c.in_ok-set.ensures.set

pub invariant_of-result-clause-long : goal.invariant_of-result-clause-long
invariant_of-result-clause-long g c = λ k d is. c.resize.ensures.long k d is ∙ c.image_length.ensures ∙ ap (image_length g.L.Layout.version) (c.from-3.ensures ∙ c.slots.ensures.value)

pub returns-clause-opened : goal.returns-clause-opened
returns-clause-opened g c =
    opened g.L.Layout.version c.loop-disk.found (record { all = c.loop-disk.invariant.found; right = c.loop-disk.invariant.right; numbers = c.loop-disk.invariant.numbers })
    c.in_ok-set.set.config c.in_ok-set.set.cluster c.in_ok-set.ensures.set c.image_length.result (c.image_length.ensures ∙ ap (image_length g.L.Layout.version) (c.from-3.ensures ∙ c.slots.ensures.value)) c.loop-disk.disks.items c.loop-disk.invariant.images
    c.from-2.result c.resize.new.disks.items (c.resize.ensures.images ∙ ap (map (resized c.image_length.result)) c.truncate.ensures.items)
