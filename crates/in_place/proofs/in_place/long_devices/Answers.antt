use Rattle.std.proofs.Common.{◌≡◌, ◌+◌, ◌∷◌, [], ℕ, List, Some, length, slice_get, arith, ap, subst, ◌∙◌}
use Rattle.std.proofs.lemmas.List.{length-append}
use Rattle.disk.specs.FileStates.{FileState}
use Rattle.endless_image.specs.Sizes.{size_of}
use Rattle.folders.proofs.Laying.{each_more}
use Rattle.in_place.proofs.in_place.long_devices.Goals as goal

pub loop-disk-preserved : goal.loop-disk-preserved
loop-disk-preserved g c =
    let devices = c.loop-disk.devices.items in
    let one = c.in_ok-device.device in
    let fit : one.size ≡ size_of c.args.set.now.slots = c.in_ok-device.ensures.long ∙ c.image_size-size.ensures.size in record {
      as_many = ap length c.push_reserved.ensures.items ∙ length-append devices (one ∷ []) ∙ ap (λ (n : ℕ). n + 1) c.loop-disk.invariant.as_many;
      room = omega (arith, c.push_reserved.ensures.capacity, c.loop-disk.invariant.room);
      each = λ k device is.
          each_more (λ (d : FileState). d.size ≡ size_of c.args.set.now.slots) devices one fit c.loop-disk.invariant.each k device (subst (λ (l : List FileState). slice_get l k ≡ Some device) c.push_reserved.ensures.items is);
    }
