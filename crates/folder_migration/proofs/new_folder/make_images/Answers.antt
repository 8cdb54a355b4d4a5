use Rattle.std.proofs.Common.{◌≡◌, ◌+◌, ◌∷◌, [], ℕ, List, Some, length, slice_get, arith, ap, subst, ◌∙◌}
use Rattle.std.proofs.lemmas.List.{length-append}
use Rattle.disk.specs.FileStates.{FileState}
use Rattle.torn_block.specs.Layout.{cluster_version}
use Rattle.paxos_block.specs.Places.{image_length}
use Rattle.folder_migration.specs.Migrating.{IsBlank}
use Rattle.folders.proofs.Laying.{each_more}
use Rattle.folder_migration.proofs.new_folder.make_images.Goals as goal

pub loop-disk-preserved : goal.loop-disk-preserved
loop-disk-preserved g c =
    let images = c.loop-disk.images.items in
    let one = c.in_ok-image.image in
    let blank : IsBlank (image_length cluster_version c.args.config.slots) one = c.in_ok-image.ensures.blank in record {
      as_many = ap length c.push_reserved.ensures.items ∙ length-append images (one ∷ []) ∙ ap (λ (n : ℕ). n + 1) c.loop-disk.invariant.as_many;
      room = omega (arith, c.push_reserved.ensures.capacity, c.loop-disk.invariant.room);
      each = λ k image is.
          each_more (IsBlank (image_length cluster_version c.args.config.slots)) images one blank c.loop-disk.invariant.each k image
          (subst (λ (l : List FileState). slice_get l k ≡ Some image) c.push_reserved.ensures.items is);
    }
