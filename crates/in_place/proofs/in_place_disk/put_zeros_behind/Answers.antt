use Rattle.std.proofs.Common.{rules, ◌≡◌, ◌≤◌, ◌+◌, ℕ, List, refl, subst, sym, arith}
use Rattle.std.proofs.lemmas.List.{take-replicate}
use Rattle.disk.specs.Disk.{Write, Done, Fault}
use Rattle.endless_image.specs.Sizes.{area_size, size_of}
use Rattle.folders.specs.Layout.{WritesZeros, none, more}
use Rattle.in_place.specs.InPlaceImages.{FailsToWriteZeros}
use Rattle.in_place.proofs.InPlaceDisks.{err_is}
use Rattle.in_place.proofs.in_place_disk.put_zeros_behind.Goals as goal

pub loop-at-init : goal.loop-at-init
loop-at-init g c =
    let at : c.image_length-at.result ≡ area_size c.args.slots = c.image_length-at.ensures in
    record {
      within = omega (arith, at, c.image_size-size.ensures.size);
      device = refl;
      zeros = subst (λ (n : ℕ). WritesZeros g.D.Disk.gives c.args.boot.number (area_size c.args.slots) n c.args.device.now c.args.device.now) (sym at) (none (area_size c.args.slots) c.args.device.now);
    }

pub loop-at-preserved : goal.loop-at-preserved
loop-at-preserved g c =
    let len = c.min-len.result in
    let few : len ≤ 4096 = search rules in
    let gave =
    subst (λ (bytes : List ℕ). g.D.Disk.gives c.loop-at.device (Write c.args.boot.number c.loop-at.at bytes) Done c.write.new.self)
    (take-replicate len 4096 0 few) c.in_ok-write.ensures.gives in
    record { within = search rules; device = search rules; zeros = more (area_size c.args.slots) c.loop-at.at _ c.args.device.now c.loop-at.device c.write.new.self c.loop-at.invariant.zeros len gave refl }

pub returns-in_err-write-clause-failed : goal.returns-in_err-write-clause-failed
returns-in_err-write-clause-failed g c =
    let len = c.min-len.result in
    let few : len ≤ 4096 = search rules in
    let gave =
    subst (λ (bytes : List ℕ). g.D.Disk.gives c.loop-at.device (Write c.args.boot.number c.loop-at.at bytes) (Fault c.in_err-write.field-0.0) c.write.new.self)
    (take-replicate len 4096 0 few) c.in_err-write.ensures.gives in
    let within : c.loop-at.at + len ≤ size_of c.args.slots = search rules in
    err_is (λ fault. FailsToWriteZeros g.D.Disk.gives c.args.boot.number c.args.slots c.args.device.now fault c.write.new.self) c.in_err-write.field-0.0
    (c.loop-at.at, len, within, c.loop-at.device, c.loop-at.invariant.zeros, gave)
    c.from_residual.result c.from_residual.ensures.1

pub returns-clause-zeros : goal.returns-clause-zeros
returns-clause-zeros g c =
    let ended : c.loop-at.at ≡ size_of c.args.slots = omega (arith, c.loop-at-test.false, c.loop-at.invariant.within, c.image_size-size.ensures.size) in
    subst (λ (n : ℕ). WritesZeros g.D.Disk.gives c.args.boot.number (area_size c.args.slots) n c.args.device.now c.loop-at.device) ended c.loop-at.invariant.zeros
