use Rattle.std.specs.Prelude.{IfSome}
use Rattle.std.proofs.Common.{◌≡◌, ◌<◌, ◌≤◌, ◌∙◌, ℕ, List, Option, Some, None, arith, get_or, length, refl, slice_get, sym}
use Rattle.std.proofs.lemmas.List.{length-set}
use Rattle.std.proofs.lemmas.Option.{IfSome_then, slice_get-get_or}
use Rattle.disk.specs.Disk.{Answer, Call, Device}
use Rattle.endless_image.specs.Sizes.{size_of}
use Rattle.folders.proofs.Images.{Each-replicate, placed_more}
use Rattle.folders.proofs.Laying.{devices_stay}
use Rattle.in_place.specs.Replacing.{IsToldAmong, IsToldBy}
use Rattle.in_place.specs.declared.replace_epoch.EpochsTold.{EpochsTold}
use Rattle.in_place.proofs.InPlaceDisks.{set_other}
use Rattle.in_place.proofs.replace_epoch.epochs_told.Goals as goal

-- what is told by the disk of this number is told among all
told_among : {D : Type 0} (gives : D → Call → Answer → D → Type 0) (slots lost : ℕ) (firsts : List ℕ) (disks : List D) (k : ℕ) (old : D) → slice_get disks k ≡ Some old → (told : Option EpochsTold)
    → IfSome told (IsToldBy gives slots lost firsts k old) → IfSome told (IsToldAmong gives slots lost firsts disks k)
told_among gives slots lost firsts disks k old there told by = IfSome_then told by (λ one is. (old, there, is))

pub loop-disk-init : goal.loop-disk-init
loop-disk-init g c =
    record {
      told = λ k one is. Each-replicate (λ (x : Option EpochsTold). (n : ℕ) → IfSome x (IsToldAmong g.D.Disk.gives c.args.slots c.args.lost c.args.firsts.now c.args.disks.now n)) 7 None (λ n. tt) k one is k;
      rest = λ k from. refl;
      as_many = refl;
      large = c.requires.large;
    }

pub told_by-requires-clause-large : goal.told_by-requires-clause-large
told_by-requires-clause-large g c =
    let disks = c.loop-disk.disks in
    let disk = c.loop-disk.disk in
    let within : disk < length disks = omega (arith, c.loop-disk-test.true, c.loop-disk.invariant.as_many) in
    c.loop-disk.invariant.large disk (get_or disks disk c.index-disks-disk.result) (slice_get-get_or disks disk c.index-disks-disk.result within)

pub loop-disk-preserved : goal.loop-disk-preserved
loop-disk-preserved g c =
    let disks = c.loop-disk.disks in
    let disk = c.loop-disk.disk in
    let before = get_or disks disk c.index-disks-disk.result in
    let after = c.told_by.new.device in
    let within : disk < length disks = omega (arith, c.loop-disk-test.true, c.loop-disk.invariant.as_many) in
    let at : slice_get disks disk ≡ Some before = slice_get-get_or disks disk c.index-disks-disk.result within in
    let here : disk ≤ disk = omega arith in
    let there : slice_get c.args.disks.now disk ≡ Some before = sym (c.loop-disk.invariant.rest disk here) ∙ at in
    let here_told = told_among g.D.Disk.gives c.args.slots c.args.lost c.args.firsts.now c.args.disks.now disk before there in
    record {
      told =
          placed_more (λ (n : ℕ) (one : Option EpochsTold). IfSome one (IsToldAmong g.D.Disk.gives c.args.slots c.args.lost c.args.firsts.now c.args.disks.now n)) c.loop-disk.told disk c.told_by.result
          (here_told c.told_by.result c.told_by.ensures.told)
          c.loop-disk.invariant.told;
      rest = λ k above. set_other disks disk k after (λ e. let same : k ≡ disk = e in omega (arith, above, same)) ∙ c.loop-disk.invariant.rest k (omega (arith, above));
      as_many = length-set disks disk after ∙ c.loop-disk.invariant.as_many;
      large = devices_stay g.D.Disk.device (λ (d : Device). size_of c.args.slots ≤ d.size) disk disks before after at c.told_by.ensures.device c.loop-disk.invariant.large;
    }

pub returns : goal.returns
returns g c = λ k told is. c.loop-disk.invariant.told k (Some told) is
