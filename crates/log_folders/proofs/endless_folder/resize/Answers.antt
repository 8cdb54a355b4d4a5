use Rattle.std.proofs.Common.{◌≡◌, ◌<◌, ℕ, Some, length, slice_get, slice_set, ap, refl, sym, ◌∙◌, arith}
use Rattle.std.proofs.lemmas.Option.{slice_get_read, slice_get_within}
use Rattle.disk.specs.FileStates.{FileState}
use Rattle.folders.specs.Folders.{resized}
use Rattle.folders.proofs.Images.{mapped_first, mapped_first-all}
use Rattle.folders.proofs.Opening.{resized-put, resized-kept}
use Rattle.log_folders.proofs.endless_folder.resize.Goals as goal
use Rattle.log_folders.proofs.endless_folder.resize.Goals.{then-size+in-Some-1, then-size+in-None-1, else-size}

pub loop-disk-init : goal.loop-disk-init
loop-disk-init g c = record { as_many = refl; images = refl; long = λ k d below is. absurd (omega (arith, below)) }

pub loop-disk-preserved : goal.loop-disk-preserved
loop-disk-preserved g c =
    let size = c.args.size in
    let now = c.loop-disk.disks.items in
    let n = c.loop-disk.disk in
    let old = c.args.disks.now.items in
    let next = c.if-size.disks.items in
    let x : FileState = c.index.result.now in
    let lt : n < length now = omega (arith, c.loop-disk-test.true, c.len-disk-end.ensures, c.args.disks.now.ok.0, c.loop-disk.invariant.as_many) in
    let there : slice_get now n ≡ Some x = slice_get_read now (length now) n x refl lt c.index.ensures in
    elim c.if-size.branch [
      | then-size+in-Some-1 w ↦
          resized-put size n old now next x c.loop-disk.invariant there (λ is. w.if-size.true (c.size.ensures ∙ is))
          (ap (λ v. v.items) w.disks-is ∙ ap (λ (d : FileState). slice_set now n d) w.missing.ensures)
      | then-size+in-None-1 w ↦
          resized-put size n old now next x c.loop-disk.invariant there (λ is. w.if-size.true (c.size.ensures ∙ is))
          (ap (λ v. v.items) w.disks-is ∙ ap (λ (d : FileState). slice_set now n d) w.missing.ensures)
      | else-size w ↦ resized-kept size n old now next x c.loop-disk.invariant there (sym c.size.ensures ∙ w.if-size.false) (ap (λ v. v.items) w.disks-is)
    ]

pub returns-clause-long : goal.returns-clause-long
returns-clause-long g c = λ k d is.
    let within : k < length c.loop-disk.disks.items = slice_get_within c.loop-disk.disks.items k d is in
    c.loop-disk.invariant.long k d (omega (arith, within, c.loop-disk-test.false, c.len-disk-end.ensures, c.args.disks.now.ok.0, c.loop-disk.invariant.as_many)) is

pub returns-clause-images : goal.returns-clause-images
returns-clause-images g c =
    let all : c.loop-disk.disk ≡ length c.args.disks.now.items = omega (arith, c.loop-disk-test.false, c.loop-disk.auto.disk-end, c.len-disk-end.ensures, c.args.disks.now.ok.0) in
    c.loop-disk.invariant.images ∙ ap (λ (n : ℕ). mapped_first (resized c.args.size) n c.args.disks.now.items) all ∙ mapped_first-all (resized c.args.size) c.args.disks.now.items
