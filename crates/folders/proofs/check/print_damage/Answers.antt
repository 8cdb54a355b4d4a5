use Rattle.std.proofs.Common.{◌∙◌, subst, sym, IsTrue}
use Rattle.std.specs.Io.KnownBytes.{Appends}
use Rattle.std.proofs.KnownBytes.{Appends-trans}
use Rattle.disk.specs.Disk.{DiskState, Device}
use Rattle.std.specs.Prelude.{◌↔◌, ◌⊎◌, ◌||◌}
use Rattle.torn_block.specs.Layout.{cluster_version}
use Rattle.paxos_block.specs.Places.{area_of}
use Rattle.heartbeat.specs.Beat.{IsDamagedArea}
use Rattle.std.proofs.lemmas.Result.{err_from_is_err_and}
use Rattle.folders.specs.Damage.{area_text, rows_text, IsDamagedBelow, IsLeftInRows}
use Rattle.folders.proofs.Found.{image_is, image_cause}
use Rattle.folders.proofs.Damage.{attach_keeps, image_left, nothing_left}
use Rattle.folders.proofs.Reading.{fails_in_rows}
use Rattle.folders.proofs.check.print_damage.Goals as goal

pub returns-in_err-print_rows-clause-unchanged : goal.returns-in_err-print_rows-clause-unchanged
returns-in_err-print_rows-clause-unchanged g c = λ t0.
    let t1 = subst (λ (d : Device). IsTrue d.tells) (sym c.attach.ensures.device) t0 in
    let t2 = subst (λ (d : Device). IsTrue d.tells) (sym c.print_area.ensures.device) t1 in
    c.print_rows.ensures.unchanged t2 ∙ c.print_area.ensures.unchanged t1
    ∙ attach_keeps (g.D.Disk.state c.args.device.now) (g.D.Disk.state c.attach.new.self) c.attach.result (c.attach.ensures.step t0)

pub returns-clause-unchanged : goal.returns-clause-unchanged
returns-clause-unchanged g c = λ t0.
    let t1 = subst (λ (d : Device). IsTrue d.tells) (sym c.attach.ensures.device) t0 in
    let t2 = subst (λ (d : Device). IsTrue d.tells) (sym c.print_area.ensures.device) t1 in
    c.print_rows.ensures.unchanged t2 ∙ c.print_area.ensures.unchanged t1
    ∙ attach_keeps (g.D.Disk.state c.args.device.now) (g.D.Disk.state c.attach.new.self) c.attach.result (c.attach.ensures.step t0)

pub returns-clause-text : goal.returns-clause-text
returns-clause-text g c = λ t0.
    let t1 = subst (λ (d : Device). IsTrue d.tells) (sym c.attach.ensures.device) t0 in
    let t2 = subst (λ (d : Device). IsTrue d.tells) (sym c.print_area.ensures.device) t1 in
    let old = g.D.Disk.state c.args.device.now in
    let same = attach_keeps old (g.D.Disk.state c.attach.new.self) c.attach.result (c.attach.ensures.step t0) in
    let a = g.O.Write.contents c.args.out.now in
    let b = g.O.Write.contents c.print_area.new.out in
    let e = g.O.Write.contents c.print_rows.new.out in
    Appends-trans a b e (area_text c.args.disk old.bytes) (rows_text c.args.disk c.args.slots old.bytes)
    (subst (λ (d : DiskState). Appends a b (area_text c.args.disk d.bytes)) same (c.in_ok-beats.ensures.text t1))
    (subst (λ (d : DiskState). Appends b e (rows_text c.args.disk c.args.slots d.bytes)) (c.print_area.ensures.unchanged t1 ∙ same) (c.in_ok-print_rows.ensures.text t2))

pub returns-clause-found : goal.returns-clause-found
returns-clause-found g c = λ t0.
    let t1 = subst (λ (d : Device). IsTrue d.tells) (sym c.attach.ensures.device) t0 in
    let t2 = subst (λ (d : Device). IsTrue d.tells) (sym c.print_area.ensures.device) t1 in
    let old = g.D.Disk.state c.args.device.now in
    let same = attach_keeps old (g.D.Disk.state c.attach.new.self) c.attach.result (c.attach.ensures.step t0) in
    image_is c.args.any.now c.in_ok-beats.beats c.print_rows.new.any
    (subst (λ (d : DiskState). IsTrue c.in_ok-beats.beats ↔ IsDamagedArea (area_of cluster_version d.bytes)) same (c.in_ok-beats.ensures.found t1))
    (subst (λ (d : DiskState). IsTrue c.print_rows.new.any ↔ (IsTrue (c.args.any.now || c.in_ok-beats.beats) ⊎ IsDamagedBelow c.args.slots d.bytes))
    (c.print_area.ensures.unchanged t1 ∙ same) (c.in_ok-print_rows.ensures.found t2))

pub returns-in_err-print_rows-clause-cause : goal.returns-in_err-print_rows-clause-cause
returns-in_err-print_rows-clause-cause g c = λ t0 any.
    let t1 = subst (λ (d : Device). IsTrue d.tells) (sym c.attach.ensures.device) t0 in
    let t2 = subst (λ (d : Device). IsTrue d.tells) (sym c.print_area.ensures.device) t1 in
    let old = g.D.Disk.state c.args.device.now in
    let same = attach_keeps old (g.D.Disk.state c.attach.new.self) c.attach.result (c.attach.ensures.step t0) in
    image_cause c.args.any.now c.in_ok-beats.beats
    (subst (λ (d : DiskState). IsTrue c.in_ok-beats.beats ↔ IsDamagedArea (area_of cluster_version d.bytes)) same (c.in_ok-beats.ensures.found t1))
    (subst (λ (d : DiskState). IsTrue (c.args.any.now || c.in_ok-beats.beats) ⊎ IsDamagedBelow c.args.slots d.bytes) (c.print_area.ensures.unchanged t1 ∙ same)
    (c.print_rows.ensures.cause t2 any))

pub returns-clause-cause : goal.returns-clause-cause
returns-clause-cause g c = λ t0 any.
    let t1 = subst (λ (d : Device). IsTrue d.tells) (sym c.attach.ensures.device) t0 in
    let t2 = subst (λ (d : Device). IsTrue d.tells) (sym c.print_area.ensures.device) t1 in
    let old = g.D.Disk.state c.args.device.now in
    let same = attach_keeps old (g.D.Disk.state c.attach.new.self) c.attach.result (c.attach.ensures.step t0) in
    image_cause c.args.any.now c.in_ok-beats.beats
    (subst (λ (d : DiskState). IsTrue c.in_ok-beats.beats ↔ IsDamagedArea (area_of cluster_version d.bytes)) same (c.in_ok-beats.ensures.found t1))
    (subst (λ (d : DiskState). IsTrue (c.args.any.now || c.in_ok-beats.beats) ⊎ IsDamagedBelow c.args.slots d.bytes) (c.print_area.ensures.unchanged t1 ∙ same)
    (c.print_rows.ensures.cause t2 any))

pub returns-in_err-print_rows-clause-left : goal.returns-in_err-print_rows-clause-left
returns-in_err-print_rows-clause-left g c =
    let p = err_from_is_err_and c.from_residual-in_err-print_rows.result c.from_residual-in_err-print_rows.ensures.1 in
    rw (p.1, p.2)
    (λ t0.
    let t1 = subst (λ (d : Device). IsTrue d.tells) (sym c.attach.ensures.device) t0 in
    let t2 = subst (λ (d : Device). IsTrue d.tells) (sym c.print_area.ensures.device) t1 in
    let old = g.D.Disk.state c.args.device.now in
    let same = attach_keeps old (g.D.Disk.state c.attach.new.self) c.attach.result (c.attach.ensures.step t0) in
    let a = g.O.Write.contents c.args.out.now in
    let b = g.O.Write.contents c.print_area.new.out in
    let e = g.O.Write.contents c.print_rows.new.out in
    let fault = c.in_err-print_rows.field-0.0 in
    image_left fault a b e c.args.disk c.args.slots c.args.any.now c.in_ok-beats.beats c.print_rows.new.any old.bytes
    (subst (λ (d : DiskState). Appends a b (area_text c.args.disk d.bytes)) same (c.in_ok-beats.ensures.text t1))
    (subst (λ (d : DiskState). IsTrue c.in_ok-beats.beats ↔ IsDamagedArea (area_of cluster_version d.bytes)) same (c.in_ok-beats.ensures.found t1))
    (subst (λ (d : DiskState). IsLeftInRows fault c.args.disk c.args.slots d.bytes b e (c.args.any.now || c.in_ok-beats.beats) c.print_rows.new.any)
    (c.print_area.ensures.unchanged t1 ∙ same) (c.in_err-print_rows.ensures.left t2)))

pub returns-in_err-beats-clause-left : goal.returns-in_err-beats-clause-left
returns-in_err-beats-clause-left g c =
    let p = err_from_is_err_and c.from_residual-in_err-beats.result c.from_residual-in_err-beats.ensures.1 in
    rw (p.1, p.2)
    (λ tells.
    nothing_left c.in_err-beats.field-0.0 (g.O.Write.contents c.args.out.now) (g.O.Write.contents c.print_area.new.out) c.args.disk c.args.slots c.args.any.now (g.D.Disk.state c.args.device.now).bytes
    c.in_err-beats.ensures.left)

pub returns-in_err-print_rows-clause-device_fault : goal.returns-in_err-print_rows-clause-device_fault
returns-in_err-print_rows-clause-device_fault g c =
    let p = err_from_is_err_and c.from_residual-in_err-print_rows.result c.from_residual-in_err-print_rows.ensures.1 in
    rw (p.1, p.2)
    (fails_in_rows g.D.Disk.gives c.in_ok-boot.boot.number c.args.slots c.args.device.now c.in_err-print_rows.field-0.0 c.attach.new.self c.print_area.new.device c.print_rows.new.device
    c.in_ok-boot.ensures.gives c.in_ok-beats.ensures.read c.in_err-print_rows.ensures.device_fault)

pub returns-clause-whole : goal.returns-clause-whole
returns-clause-whole g c = (
  c.in_ok-boot.boot.number,
  c.attach.new.self,
  c.in_ok-boot.ensures.gives,
  (c.print_area.new.device, c.in_ok-beats.ensures.read, c.in_ok-print_rows.ensures.whole),
)
