use Rattle.std.proofs.Common.{◌≡◌, ◌≤◌, ◌<◌, ℕ, length, slice_get, slice_set, get_or, Some, ap, arith, sym, subst}
use Rattle.std.proofs.lemmas.Option.{slice_get-get_or}
use Rattle.disk.specs.Disk as device
use Rattle.dlm_images.proofs.Driving.{set_keeps}
use Rattle.dlm_images.proofs.operation.answer_among.Goals as goal

pub answer_of-requires : goal.answer_of-requires
answer_of-requires g c =
    let within : c.from.result < length c.args.disks.now = omega (arith, c.from.ensures, c.requires.there) in
    c.requires.range c.from.result _ (slice_get-get_or c.args.disks.now c.from.result c.index-disks-from.result within)

pub returns-clause-gave : goal.returns-clause-gave
returns-clause-gave g c =
    let within : c.from.result < length c.args.disks.now = omega (arith, c.from.ensures, c.requires.there) in record {
      before = get_or c.args.disks.now c.from.result c.index-disks-from.result;
      after = c.answer_of.new.disk;
      is = subst (λ (k : ℕ). slice_get c.args.disks.now k ≡ Some (get_or c.args.disks.now c.from.result c.index-disks-from.result)) c.from.ensures (slice_get-get_or c.args.disks.now c.from.result c.index-disks-from.result within);
      gave = c.answer_of.ensures.gave;
      others = ap (λ (k : ℕ). slice_set c.args.disks.now k c.answer_of.new.disk) c.from.ensures;
    }

pub returns-clause-large : goal.returns-clause-large
returns-clause-large g c = λ size large.
    let within : c.from.result < length c.args.disks.now = omega (arith, c.from.ensures, c.requires.there) in
    let there = large c.from.result _ (slice_get-get_or c.args.disks.now c.from.result c.index-disks-from.result within) in
    set_keeps (λ d. size ≤ (g.D.Disk.device d).size) c.args.disks.now c.from.result c.answer_of.new.disk (subst (λ (e : device.Device). size ≤ e.size) (sym c.answer_of.ensures.device) there) large
