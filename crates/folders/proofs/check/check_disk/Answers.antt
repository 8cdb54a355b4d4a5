use Rattle.std.proofs.Common.{◌≡◌, ◌∙◌, Some, None, true, refl, sym, ap, subst, inl, inr}
use Rattle.std.specs.Prelude.{IsTrue}
use Rattle.std.proofs.lemmas.Bool.{false≢true}
use Rattle.folders.specs.declared.check.Finding.{Finding}
use Rattle.folders.specs.Damage.{IsDamagedImage, Shows}
use Rattle.std.specs.Prelude.{List, ℕ, Option}
use Rattle.disk.specs.declared.fault.DiskFault.{DiskFault}
use Rattle.disk.specs.declared.fault.ImageFault.TheVariants.{Unreadable}
use Rattle.std.specs.Io.KnownBytes.{Appends}
use Rattle.folders.specs.Damage.{fault_line, image_text}
use Rattle.folders.specs.Reading.{FailsToShow, CannotBeRead}
use Rattle.folders.proofs.Printed.{read_whole, read_in_part, why_left}
use Rattle.folders.proofs.check.check_disk.Goals as goal
use Rattle.folders.proofs.check.check_disk.Goals.{in-Ok, in-Err-Device+in_ok-print_fault-in-Err-Device}

pub returns-then-any-clause-told : goal.returns-then-any-clause-told
returns-then-any-clause-told g c = λ t. elim (c.print_damage.ensures.cause t c.if-any.true) [ inl never ↦ absurd (false≢true never) | inr damage ↦ damage ]

pub returns-else-any-clause-told : goal.returns-else-any-clause-told
returns-else-any-clause-told g c =
    let tells = IsTrue (g.D.Disk.device c.args.device.now).tells in
    let damaged = IsDamagedImage c.args.slots (g.D.Disk.state c.args.device.now).bytes in
    let failed = CannotBeRead g.D.Disk.gives c.args.slots c.args.device.now c.print_damage.new.device in
    elim c.match-print_damage.branch [
      | in-Ok w ↦
          subst (Shows c.args.disk tells damaged failed) (sym w.unread-is)
          (λ t d. let is : c.print_damage.new.any ≡ true = (w.in-Ok.ensures.found t).1 (inr d) in false≢true (sym c.if-any.false ∙ is))
      | in-Err-Device+in_ok-print_fault-in-Err-Device w ↦
          let cause = w.in-Err-Device.field-0-0 in
          let why = why_left (λ (fault : DiskFault). FailsToShow g.D.Disk.gives c.args.slots c.args.device.now fault c.print_damage.new.device) w.in-Err-Device.field-0 cause w.in-Err-Device.field-0-is w.in-Err-Device.ensures.device_fault in
          subst (Shows c.args.disk tells damaged failed) (sym (w.unread-is ∙ ap (λ (f : Finding). Some f) w.in_ok-print_fault-in-Err-Device.ensures.finding)) (refl, refl, (cause, why))
    ]

pub returns-then-any-clause-text : goal.returns-then-any-clause-text
returns-then-any-clause-text g c = λ t.
    let bytes = (g.D.Disk.state c.args.device.now).bytes in
    let before = g.O.Write.contents c.args.out.now in
    let failed = CannotBeRead g.D.Disk.gives c.args.slots c.args.device.now c.print_damage.new.device in
    elim c.match-print_damage.branch [
      | in-Ok w ↦
          let is = sym (ap g.O.Write.contents w.out-is) in
          read_whole c.args.disk c.args.slots bytes failed before (g.O.Write.contents c.match-print_damage.out) (subst (λ (o : Option (List ℕ)). Appends before o (image_text c.args.disk c.args.slots bytes)) is (w.in-Ok.ensures.text t))
      | in-Err-Device+in_ok-print_fault-in-Err-Device w ↦
          let is = sym (ap g.O.Write.contents w.out-is) in
          let cause = w.in-Err-Device.field-0-0 in
          let why = why_left (λ (fault : DiskFault). FailsToShow g.D.Disk.gives c.args.slots c.args.device.now fault c.print_damage.new.device) w.in-Err-Device.field-0 cause w.in-Err-Device.field-0-is w.in-Err-Device.ensures.device_fault in
          read_in_part w.in-Err-Device.field-0 cause c.args.disk c.args.slots bytes failed _ _ before (g.O.Write.contents c.print_damage.new.out) (g.O.Write.contents c.match-print_damage.out) w.in-Err-Device.field-0-is (cause, why) (w.in-Err-Device.ensures.left t)
          (subst (λ (o : Option (List ℕ)). Appends (g.O.Write.contents c.print_damage.new.out) o (fault_line c.args.disk Unreadable)) is w.in_ok-print_fault-in-Err-Device.ensures.text)
    ]

pub returns-else-any-clause-text : goal.returns-else-any-clause-text
returns-else-any-clause-text g c = λ t.
    let bytes = (g.D.Disk.state c.args.device.now).bytes in
    let before = g.O.Write.contents c.args.out.now in
    let failed = CannotBeRead g.D.Disk.gives c.args.slots c.args.device.now c.print_damage.new.device in
    elim c.match-print_damage.branch [
      | in-Ok w ↦
          let is = sym (ap g.O.Write.contents w.out-is) in
          read_whole c.args.disk c.args.slots bytes failed before (g.O.Write.contents c.match-print_damage.out) (subst (λ (o : Option (List ℕ)). Appends before o (image_text c.args.disk c.args.slots bytes)) is (w.in-Ok.ensures.text t))
      | in-Err-Device+in_ok-print_fault-in-Err-Device w ↦
          let is = sym (ap g.O.Write.contents w.out-is) in
          let cause = w.in-Err-Device.field-0-0 in
          let why = why_left (λ (fault : DiskFault). FailsToShow g.D.Disk.gives c.args.slots c.args.device.now fault c.print_damage.new.device) w.in-Err-Device.field-0 cause w.in-Err-Device.field-0-is w.in-Err-Device.ensures.device_fault in
          read_in_part w.in-Err-Device.field-0 cause c.args.disk c.args.slots bytes failed _ _ before (g.O.Write.contents c.print_damage.new.out) (g.O.Write.contents c.match-print_damage.out) w.in-Err-Device.field-0-is (cause, why) (w.in-Err-Device.ensures.left t)
          (subst (λ (o : Option (List ℕ)). Appends (g.O.Write.contents c.print_damage.new.out) o (fault_line c.args.disk Unreadable)) is w.in_ok-print_fault-in-Err-Device.ensures.text)
    ]

pub returns-else-any-clause-whole : goal.returns-else-any-clause-whole
returns-else-any-clause-whole g c = λ none.
    elim c.match-print_damage.branch [
      | in-Ok w ↦ w.in-Ok.ensures.whole
      | in-Err-Device+in_ok-print_fault-in-Err-Device w ↦ (let both : Some w.in_ok-print_fault-in-Err-Device.field-0 ≡ None = sym w.unread-is ∙ none in absurd (cc))
    ]
