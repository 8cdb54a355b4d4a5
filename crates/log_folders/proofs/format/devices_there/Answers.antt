use Rattle.std.proofs.Common.{rules, ◌≡◌, ◌+◌, ◌∷◌, [], ℕ, List, Some, length, slice_get, arith, ap, subst, ◌∙◌}
use Rattle.std.proofs.lemmas.List.{length-append}
use Rattle.disk.specs.FileStates.{FileState}
use Rattle.folders.proofs.Laying.{each_more}
use Rattle.log_folders.specs.NewSets.{size_for}
use Rattle.log_folders.proofs.format.devices_there.Goals as goal

pub loop-disk-preserved : goal.loop-disk-preserved
loop-disk-preserved g c =
    let devices = c.loop-disk.devices.items in
    let one = c.in-Ok.device in
    let fit : one.size ≡ size_for c.args.set.now = search rules in record {
      as_many = ap length c.push_reserved.ensures.items ∙ length-append devices (one ∷ []) ∙ ap (λ (n : ℕ). n + 1) c.loop-disk.invariant.as_many;
      room = omega (arith, c.push_reserved.ensures.capacity, c.loop-disk.invariant.room);
      each = λ k device is.
          each_more (λ (d : FileState). d.size ≡ size_for c.args.set.now) devices one fit c.loop-disk.invariant.each k device (subst (λ (l : List FileState). slice_get l k ≡ Some device) c.push_reserved.ensures.items is);
    }
