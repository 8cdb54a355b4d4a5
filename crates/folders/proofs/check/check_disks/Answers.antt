use Rattle.std.proofs.Common.{◌≡◌, ◌∙◌, ◌<◌, ◌+◌, ℕ, Option, Some, length, slice_get, slice_set, get_or, sym, subst, arith}
use Rattle.std.proofs.lemmas.Option.{slice_get-get_or}
use Rattle.folders.specs.declared.check.Finding.{Finding}
use Rattle.folders.specs.Damage.{IsToldOfFolder}
use Rattle.folders.specs.Reading.{CannotBeRead, OneCannotBeRead, AreReadIfSound}
use Rattle.folders.proofs.Checking.{Checked, set_alike, one_checked, failed_still, failed_here, told_of_folder, unread_fails}
use Rattle.folders.proofs.Printed.{one_kept, one_written}
use Rattle.folders.proofs.check.check_disks.Goals as goal

pub loop-disk-preserved : goal.loop-disk-preserved
loop-disk-preserved g c =
    let now = c.loop-disk.disks in
    let n = c.loop-disk.disk in
    let old = c.args.disks.now in
    let found = c.args.found.now in
    let within : n < length now = omega (arith, c.loop-disk-test.true, c.loop-disk.invariant.checked.as_many) in
    let is_there : n < length found = omega (arith, c.loop-disk-test.true, c.told-found, c.requires.few) in
    let same : slice_get now n ≡ slice_get old n = c.loop-disk.invariant.checked.rest n (omega arith) in
    let disk_at = slice_get-get_or now n c.index-disks-disk.result within in
    let image_at = slice_get-get_or found n _ is_there in
    let disk_now = get_or now n c.index-disks-disk.result in
    let disk_then = c.check_image.new.device in
    let gives = g.D.Disk.gives in
    let slots = c.args.slots in
    let first_at : slice_get old n ≡ Some disk_now = sym same ∙ disk_at in
    record {
      checked =
          subst (λ (first : Option Finding). Checked g.D.Disk.device g.D.Disk.state gives slots found old (slice_set now n disk_then) (n + 1) first) (sym c.or-first.ensures)
          (one_checked g.D.Disk.device g.D.Disk.state slots found old gives now n disk_now disk_then (get_or found n _) c.loop-disk.first c.in_ok-finding.finding
          c.loop-disk.invariant.checked disk_at image_at c.check_image.ensures.device c.in_ok-finding.ensures.told c.in_ok-finding.ensures.whole);
      kept = λ all.
          one_kept g.D.Disk.device g.D.Disk.state slots found old now n disk_now disk_then c.loop-disk.invariant.checked.rest disk_at c.check_image.ensures.unchanged all (c.loop-disk.invariant.kept all);
      written = λ all.
          one_written g.D.Disk.device g.D.Disk.state slots found old (OneCannotBeRead gives slots old now) (OneCannotBeRead gives slots old (slice_set now n disk_then)) now n disk_now (get_or found n _) (CannotBeRead gives slots disk_now disk_then) (g.O.Write.contents c.args.out.now) (g.O.Write.contents c.loop-disk.out) (g.O.Write.contents c.check_image.new.out)
          c.loop-disk.invariant.checked.rest disk_at image_at (failed_still gives slots old now n disk_then) (failed_here gives slots old now n disk_then disk_now first_at disk_at) c.in_ok-finding.ensures.text all (c.loop-disk.invariant.written all);
    }

pub returns-clause-refusals : goal.returns-clause-refusals
returns-clause-refusals g c =
    let n = c.loop-disk.disk in
    let all : n ≡ length c.args.disks.now = omega (arith, c.loop-disk-test.false, c.loop-disk.invariant.checked.as_many) in
    subst (λ (m : ℕ). IsToldOfFolder c.args.found.now m c.loop-disk.first) all
    (told_of_folder g.D.Disk.device g.D.Disk.state c.args.slots c.args.found.now c.args.disks.now (OneCannotBeRead g.D.Disk.gives c.args.slots c.args.disks.now c.loop-disk.disks) n (omega (arith, all)) (omega (arith, all, c.told-found, c.requires.few)) c.loop-disk.first c.loop-disk.invariant.checked.told)

pub returns-clause-whole : goal.returns-clause-whole
returns-clause-whole g c =
    let all : c.loop-disk.disk ≡ length c.args.disks.now = omega (arith, c.loop-disk-test.false, c.loop-disk.invariant.checked.as_many) in
    subst (λ (m : ℕ). AreReadIfSound g.D.Disk.gives c.args.slots c.args.disks.now c.loop-disk.disks m c.loop-disk.first) all c.loop-disk.invariant.checked.whole

pub returns-clause-unread : goal.returns-clause-unread
returns-clause-unread g c =
    let n = c.loop-disk.disk in
    let all : n ≡ length c.args.disks.now = omega (arith, c.loop-disk-test.false, c.loop-disk.invariant.checked.as_many) in
    unread_fails g.D.Disk.device g.D.Disk.state g.D.Disk.gives c.args.slots c.args.found.now c.args.disks.now c.loop-disk.disks n (omega (arith, all)) (omega (arith, all, c.told-found, c.requires.few)) c.loop-disk.first c.loop-disk.invariant.checked.told

pub returns-in_err-finding-clause-devices : goal.returns-in_err-finding-clause-devices
returns-in_err-finding-clause-devices g c =
    let now = c.loop-disk.disks in
    let n = c.loop-disk.disk in
    let within : n < length now = omega (arith, c.loop-disk-test.true, c.loop-disk.invariant.checked.as_many) in
    set_alike g.D.Disk.device now n (get_or now n c.index-disks-disk.result) c.check_image.new.device (slice_get-get_or now n c.index-disks-disk.result within) c.check_image.ensures.device
    ∙ c.loop-disk.invariant.checked.devices
