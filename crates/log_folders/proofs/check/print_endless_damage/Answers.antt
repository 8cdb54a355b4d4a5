use Rattle.std.specs.Prelude.{IsTrue, ◌↔◌, ◌⊎◌}
use Rattle.std.proofs.Common.{◌∙◌}
use Rattle.folders.specs.Damage.{IfDevice}
use Rattle.folders.specs.Reading.{FailsAmong, TellsAll}
use Rattle.folders.specs.declared.check.CheckFault.{CheckFault}
use Rattle.folders.proofs.Damage.{attach_keeps}
use Rattle.log_folders.specs.Areas.{IsDamagedImage, IsImageText, Writes}
use Rattle.log_folders.specs.EndlessReading.{FailsToShow, IsReadWhole, image_reads}
use Rattle.log_folders.specs.Steps.{Prints}
use Rattle.log_folders.proofs.ReadCalls.{stops_attached}
use Rattle.log_folders.proofs.Steps.{kept_from, printed_from, then_err, then_ok}
use Rattle.log_folders.proofs.check.print_endless_damage.Goals as goal

pub returns-clause-device : goal.returns-clause-device
returns-clause-device g c = c.print_image.ensures.keeps.device ∙ c.attach.ensures.device

pub returns-clause-unchanged : goal.returns-clause-unchanged
returns-clause-unchanged g c =
    let d0 = g.D.Disk.device c.args.device.now in
    let s0 = g.D.Disk.state c.args.device.now in
    let s1 = g.D.Disk.state c.attach.new.self in
    (kept_from d0 (g.D.Disk.device c.attach.new.self) s0 s1 c.attach.ensures.device (λ t. attach_keeps s0 s1 c.attach.result (c.attach.ensures.step t)) c.args.any.now c.print_image.new.any (IsDamagedImage c.args.slots)
    (g.D.Disk.device c.print_image.new.device) (g.D.Disk.state c.print_image.new.device) c.print_image.ensures.keeps).unchanged

pub returns-clause-cause : goal.returns-clause-cause
returns-clause-cause g c =
    let d0 = g.D.Disk.device c.args.device.now in
    let s0 = g.D.Disk.state c.args.device.now in
    let s1 = g.D.Disk.state c.attach.new.self in
    (kept_from d0 (g.D.Disk.device c.attach.new.self) s0 s1 c.attach.ensures.device (λ t. attach_keeps s0 s1 c.attach.result (c.attach.ensures.step t)) c.args.any.now c.print_image.new.any (IsDamagedImage c.args.slots)
    (g.D.Disk.device c.print_image.new.device) (g.D.Disk.state c.print_image.new.device) c.print_image.ensures.keeps).cause

pub returns-clause-text : goal.returns-clause-text
returns-clause-text g c =
    let d0 = g.D.Disk.device c.args.device.now in
    let d1 = g.D.Disk.device c.attach.new.self in
    let s0 = g.D.Disk.state c.args.device.now in
    let s1 = g.D.Disk.state c.attach.new.self in
    let a = g.O.Write.contents c.args.out.now in
    let b = g.O.Write.contents c.print_image.new.out in
    then_ok c.print_image.result (Prints d1 s1 a b c.args.any.now c.print_image.new.any (IsImageText c.args.disk c.args.slots) (IsDamagedImage c.args.slots))
    (IsTrue d0.tells → Writes (IsImageText c.args.disk c.args.slots s0.bytes) a b)
    (λ printed.
    (printed_from d0 d1 s0 s1 c.attach.ensures.device (λ t. attach_keeps s0 s1 c.attach.result (c.attach.ensures.step t)) c.args.any.now c.print_image.new.any (IsDamagedImage c.args.slots) a b (IsImageText c.args.disk c.args.slots) printed).text)
    c.print_image.ensures.prints

pub returns-clause-found : goal.returns-clause-found
returns-clause-found g c =
    let d0 = g.D.Disk.device c.args.device.now in
    let d1 = g.D.Disk.device c.attach.new.self in
    let s0 = g.D.Disk.state c.args.device.now in
    let s1 = g.D.Disk.state c.attach.new.self in
    let a = g.O.Write.contents c.args.out.now in
    let b = g.O.Write.contents c.print_image.new.out in
    then_ok c.print_image.result (Prints d1 s1 a b c.args.any.now c.print_image.new.any (IsImageText c.args.disk c.args.slots) (IsDamagedImage c.args.slots))
    (IsTrue d0.tells → IsTrue c.print_image.new.any ↔ (IsTrue c.args.any.now ⊎ IsDamagedImage c.args.slots s0.bytes))
    (λ printed t. (
      (kept_from d0 d1 s0 s1 c.attach.ensures.device (λ x. attach_keeps s0 s1 c.attach.result (c.attach.ensures.step x)) c.args.any.now c.print_image.new.any (IsDamagedImage c.args.slots)
          (g.D.Disk.device c.print_image.new.device) (g.D.Disk.state c.print_image.new.device) c.print_image.ensures.keeps).cause t,
      (printed_from d0 d1 s0 s1 c.attach.ensures.device (λ x. attach_keeps s0 s1 c.attach.result (c.attach.ensures.step x)) c.args.any.now c.print_image.new.any (IsDamagedImage c.args.slots) a b (IsImageText c.args.disk c.args.slots) printed).found t,
    ))
    c.print_image.ensures.prints

pub returns-clause-device_fault : goal.returns-clause-device_fault
returns-clause-device_fault g c =
    then_err c.print_image.result (λ (fault : CheckFault). IfDevice fault (λ cause. FailsAmong g.D.Disk.gives (image_reads c.in_ok-boot.boot.number c.args.slots) c.attach.new.self cause c.print_image.new.device))
    (λ (fault : CheckFault). IfDevice fault (λ cause. FailsToShow g.D.Disk.gives c.args.slots c.args.device.now cause c.print_image.new.device))
    (λ fault. stops_attached g.D.Disk.gives c.args.slots c.in_ok-boot.boot.number c.args.device.now c.attach.new.self c.print_image.new.device fault c.in_ok-boot.ensures.gives) c.print_image.ensures.device_fault

pub returns-clause-whole : goal.returns-clause-whole
returns-clause-whole g c =
    then_ok c.print_image.result (TellsAll g.D.Disk.gives (image_reads c.in_ok-boot.boot.number c.args.slots) c.attach.new.self c.print_image.new.device) (IsReadWhole g.D.Disk.gives c.args.slots c.args.device.now c.print_image.new.device)
    (λ told. (c.in_ok-boot.boot.number, c.attach.new.self, c.in_ok-boot.ensures.gives, told)) c.print_image.ensures.whole
