use Rattle.std.specs.Prelude.{IsTrue}
use Rattle.std.proofs.Common.{refl, sym, subst}
use Rattle.std.proofs.lemmas.Result.{err_from_is_err_and}
use Rattle.disk.specs.Disk.{DiskState}
use Rattle.endless_image.specs.Sizes.{size_of}
use Rattle.log_folders.specs.Areas.{IsEpochText, SaysNumbers, Writes, standings_in}
use Rattle.log_folders.specs.EndlessReading.{area_reads}
use Rattle.log_folders.proofs.AreaSteps.{image_kept, image_kept_first, image_printed}
use Rattle.log_folders.proofs.Hits.{still_fits}
use Rattle.log_folders.proofs.ReadCalls.{all_told, stops_first, stops_later}
use Rattle.log_folders.proofs.check.print_image.Goals as goal

pub print_area-requires-2-clause-room : goal.print_area-requires-2-clause-room
print_area-requires-2-clause-room g c =
    still_fits (g.D.Disk.device c.args.device.now) (g.D.Disk.device c.print_area.new.device) (size_of c.args.slots) c.print_area.ensures.keeps.device c.requires

pub returns-in_err-first-clause-keeps : goal.returns-in_err-first-clause-keeps
returns-in_err-first-clause-keeps g c =
    let d0 = g.D.Disk.device c.args.device.now in
    let d1 = g.D.Disk.device c.print_area.new.device in
    let s0 = g.D.Disk.state c.args.device.now in
    let s1 = g.D.Disk.state c.print_area.new.device in
    image_kept_first c.args.disk c.args.slots d0 d0 d1 d1 s0 s0 s1 s1 c.args.any.now c.print_area.new.any c.print_area.new.any refl (λ t. refl) c.print_area.ensures.keeps

pub returns-in_err-second-clause-keeps : goal.returns-in_err-second-clause-keeps
returns-in_err-second-clause-keeps g c =
    let d0 = g.D.Disk.device c.args.device.now in
    let d1 = g.D.Disk.device c.print_area.new.device in
    let d2 = g.D.Disk.device c.print_area-2.new.device in
    let s0 = g.D.Disk.state c.args.device.now in
    let s1 = g.D.Disk.state c.print_area.new.device in
    let s2 = g.D.Disk.state c.print_area-2.new.device in
    image_kept c.args.disk c.args.slots d0 d0 d1 d2 s0 s0 s1 s2 c.args.any.now c.print_area.new.any c.print_area-2.new.any refl (λ t. refl) c.print_area.ensures.keeps c.print_area-2.ensures.keeps

pub returns-in_err-print_epoch-clause-keeps : goal.returns-in_err-print_epoch-clause-keeps
returns-in_err-print_epoch-clause-keeps g c =
    let d0 = g.D.Disk.device c.args.device.now in
    let d1 = g.D.Disk.device c.print_area.new.device in
    let d2 = g.D.Disk.device c.print_area-2.new.device in
    let s0 = g.D.Disk.state c.args.device.now in
    let s1 = g.D.Disk.state c.print_area.new.device in
    let s2 = g.D.Disk.state c.print_area-2.new.device in
    image_kept c.args.disk c.args.slots d0 d0 d1 d2 s0 s0 s1 s2 c.args.any.now c.print_area.new.any c.print_area-2.new.any refl (λ t. refl) c.print_area.ensures.keeps c.print_area-2.ensures.keeps

pub returns-clause-keeps : goal.returns-clause-keeps
returns-clause-keeps g c =
    let d0 = g.D.Disk.device c.args.device.now in
    let d1 = g.D.Disk.device c.print_area.new.device in
    let d2 = g.D.Disk.device c.print_area-2.new.device in
    let s0 = g.D.Disk.state c.args.device.now in
    let s1 = g.D.Disk.state c.print_area.new.device in
    let s2 = g.D.Disk.state c.print_area-2.new.device in
    image_kept c.args.disk c.args.slots d0 d0 d1 d2 s0 s0 s1 s2 c.args.any.now c.print_area.new.any c.print_area-2.new.any refl (λ t. refl) c.print_area.ensures.keeps c.print_area-2.ensures.keeps

pub returns-clause-prints : goal.returns-clause-prints
returns-clause-prints g c =
    let slots = c.args.slots in
    let d0 = g.D.Disk.device c.args.device.now in
    let d1 = g.D.Disk.device c.print_area.new.device in
    let d2 = g.D.Disk.device c.print_area-2.new.device in
    let s0 = g.D.Disk.state c.args.device.now in
    let s1 = g.D.Disk.state c.print_area.new.device in
    let s2 = g.D.Disk.state c.print_area-2.new.device in
    let e = g.O.Write.contents c.print_area-2.new.out in
    let z = g.O.Write.contents c.print_epoch.new.out in
    let last : IsTrue d0.tells → Writes (IsEpochText c.args.disk (standings_in slots 0 s0.bytes) (standings_in slots 1 s0.bytes)) e z =
    λ t.
    c.in_ok-print_epoch.ensures (standings_in slots 0 s0.bytes) (standings_in slots 1 s0.bytes) (c.in_ok-first.ensures.numbers t)
    (subst (λ (s : DiskState). SaysNumbers (standings_in slots 1 s.bytes) c.in_ok-second.second) (c.print_area.ensures.keeps.unchanged t)
    (c.in_ok-second.ensures.numbers (subst (λ d. IsTrue d.tells) (sym c.print_area.ensures.keeps.device) t))) in
    image_printed c.args.disk slots d0 d0 d1 d2 s0 s0 s1 s2 c.args.any.now c.print_area.new.any c.print_area-2.new.any refl (λ t. refl) c.print_area.ensures.keeps
    (g.O.Write.contents c.args.out.now) (g.O.Write.contents c.print_area.new.out) e z c.in_ok-first.ensures.prints c.in_ok-second.ensures.prints last

pub returns-clause-whole : goal.returns-clause-whole
returns-clause-whole g c =
    all_told g.D.Disk.gives (area_reads c.args.boot.number c.args.slots 0) (area_reads c.args.boot.number c.args.slots 1) c.args.device.now c.print_area.new.device c.print_area-2.new.device
    c.in_ok-first.ensures.whole c.in_ok-second.ensures.whole

pub returns-in_err-first-clause-device_fault : goal.returns-in_err-first-clause-device_fault
returns-in_err-first-clause-device_fault g c =
    let p = err_from_is_err_and c.from_residual.result c.from_residual.ensures.1 in
    rw (p.1, p.2)
    (stops_first g.D.Disk.gives (area_reads c.args.boot.number c.args.slots 0) (area_reads c.args.boot.number c.args.slots 1) c.args.device.now c.print_area.new.device c.in_err-first.field-0.0 c.in_err-first.ensures.device_fault)

pub returns-in_err-second-clause-device_fault : goal.returns-in_err-second-clause-device_fault
returns-in_err-second-clause-device_fault g c =
    let p = err_from_is_err_and c.from_residual-in_err-second.result c.from_residual-in_err-second.ensures.1 in
    rw (p.1, p.2)
    (stops_later g.D.Disk.gives (area_reads c.args.boot.number c.args.slots 0) (area_reads c.args.boot.number c.args.slots 1) c.args.device.now c.print_area.new.device c.print_area-2.new.device c.in_err-second.field-0.0
    c.in_ok-first.ensures.whole c.in_err-second.ensures.device_fault)
