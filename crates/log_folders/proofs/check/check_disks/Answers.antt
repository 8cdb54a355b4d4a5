use Rattle.std.proofs.Common.{◌≡◌, ◌∙◌, ◌<◌, ◌+◌, ℕ, Option, length, slice_set, get_or, sym, subst, arith}
use Rattle.std.proofs.lemmas.Option.{slice_get-get_or}
use Rattle.folders.proofs.Checking.{set_alike}
use Rattle.folders.specs.declared.check.Finding.{Finding}
use Rattle.log_folders.specs.EndlessChecks.{IsToldOfFolder}
use Rattle.log_folders.specs.EndlessReading.{OneCannotBeRead, AreReadIfSound}
use Rattle.log_folders.proofs.CheckedImages.{Checked, one_checked, one_kept, told_of_folder, unread_fails}
use Rattle.log_folders.proofs.check.check_disks.Goals as goal

pub loop-disk-preserved : goal.loop-disk-preserved
loop-disk-preserved g c =
    let now = c.loop-disk.disks in
    let n = c.loop-disk.disk in
    let old = c.args.disks.now in
    let found = c.args.found.now in
    let within : n < length now = omega (arith, c.loop-disk-test.true, c.loop-disk.invariant.checked.as_many) in
    let is_there : n < length found = omega (arith, c.loop-disk-test.true, c.told-found, c.requires.few) in
    let disk_at = slice_get-get_or now n c.index-disks-disk.result within in
    let image_at = slice_get-get_or found n _ is_there in
    let disk_now = get_or now n c.index-disks-disk.result in
    let disk_then = c.check_image.new.device in
    let gives = g.D.Disk.gives in
    let slots = c.args.slots in
    record {
      checked =
          subst (λ (first : Option Finding). Checked g.D.Disk.device g.D.Disk.state gives slots found old (slice_set now n disk_then) (n + 1) first) (sym c.or-first.ensures)
          (one_checked g.D.Disk.device g.D.Disk.state slots found old gives now n disk_now disk_then (get_or found n _) c.loop-disk.first c.in_ok-finding.finding
          c.loop-disk.invariant.checked disk_at image_at c.check_image.ensures.device c.in_ok-finding.ensures.told c.in_ok-finding.ensures.whole);
      kept = λ all.
          one_kept g.D.Disk.device g.D.Disk.state old now n disk_now disk_then c.loop-disk.invariant.checked.rest disk_at c.check_image.ensures.unchanged all (c.loop-disk.invariant.kept all);
    }

pub returns-clause-refusals : goal.returns-clause-refusals
returns-clause-refusals g c =
    let n = c.loop-disk.disk in
    let all : n ≡ length c.args.disks.now = omega (arith, c.loop-disk-test.false, c.loop-disk.invariant.checked.as_many) in
    subst (λ (m : ℕ). IsToldOfFolder c.args.found.now m c.loop-disk.first) all
    (told_of_folder g.D.Disk.device g.D.Disk.state c.args.slots c.args.found.now c.args.disks.now (OneCannotBeRead g.D.Disk.gives c.args.slots c.args.disks.now c.loop-disk.disks) n (omega (arith, all)) (omega (arith, all, c.told-found, c.requires.few)) c.loop-disk.first c.loop-disk.invariant.checked.told)

pub returns-clause-whole : goal.returns-clause-whole
returns-clause-whole g c =
    let all : c.loop-disk.disk ≡ length c.args.disks.now = omega (arith, c.loop-disk-test.false, c.loop-disk.invariant.checked.as_many) in
    subst (λ (m : ℕ). AreReadIfSound g.D.Disk.gives c.args.slots c.args.disks.now c.loop-disk.disks m c.loop-disk.first) all c.loop-disk.invariant.checked.whole

pub returns-clause-unread : goal.returns-clause-unread
returns-clause-unread g c =
    let n = c.loop-disk.disk in
    let all : n ≡ length c.args.disks.now = omega (arith, c.loop-disk-test.false, c.loop-disk.invariant.checked.as_many) in
    unread_fails g.D.Disk.device g.D.Disk.state g.D.Disk.gives c.args.slots c.args.found.now c.args.disks.now c.loop-disk.disks n (omega (arith, all)) (omega (arith, all, c.told-found, c.requires.few)) c.loop-disk.first c.loop-disk.invariant.checked.told

pub returns-in_err-finding-clause-devices : goal.returns-in_err-finding-clause-devices
returns-in_err-finding-clause-devices g c =
    let now = c.loop-disk.disks in
    let n = c.loop-disk.disk in
    let within : n < length now = omega (arith, c.loop-disk-test.true, c.loop-disk.invariant.checked.as_many) in
    set_alike g.D.Disk.device now n (get_or now n c.index-disks-disk.result) c.check_image.new.device (slice_get-get_or now n c.index-disks-disk.result within) c.check_image.ensures.device
    ∙ c.loop-disk.invariant.checked.devices
