use Rattle.std.proofs.Common.{◌≡◌, ◌∙◌, Some, None, true, refl, sym, ap, subst, inl, inr}
use Rattle.std.specs.Prelude.{IsTrue}
use Rattle.std.proofs.lemmas.Bool.{false≢true}
use Rattle.disk.specs.declared.fault.DiskFault.{DiskFault}
use Rattle.folders.specs.declared.check.Finding.{Finding}
use Rattle.folders.specs.Damage.{Shows}
use Rattle.log_folders.specs.Areas.{IsDamagedImage}
use Rattle.log_folders.specs.EndlessReading.{CannotBeRead, FailsToShow}
use Rattle.log_folders.proofs.ReadCalls.{of_device}
use Rattle.log_folders.proofs.check.check_disk.Goals as goal
use Rattle.log_folders.proofs.check.check_disk.Goals.{in-Ok, in-Err-Device+in_ok-print_fault-in-Err-Device}

pub returns-then-any-clause-told : goal.returns-then-any-clause-told
returns-then-any-clause-told g c = λ t. elim (c.print_endless_damage.ensures.cause t c.if-any.true) [ inl never ↦ absurd (false≢true never) | inr damage ↦ damage ]

pub returns-else-any-clause-told : goal.returns-else-any-clause-told
returns-else-any-clause-told g c =
    let tells = IsTrue (g.D.Disk.device c.args.device.now).tells in
    let damaged = IsDamagedImage c.args.slots (g.D.Disk.state c.args.device.now).bytes in
    let failed = CannotBeRead g.D.Disk.gives c.args.slots c.args.device.now c.print_endless_damage.new.device in
    elim c.match-print_endless_damage.branch [
      | in-Ok w ↦
          subst (Shows c.args.disk tells damaged failed) (sym w.unread-is)
          (λ t d. let is : c.print_endless_damage.new.any ≡ true = (w.in-Ok.ensures.found t).1 (inr d) in false≢true (sym c.if-any.false ∙ is))
      | in-Err-Device+in_ok-print_fault-in-Err-Device w ↦
          let cause = w.in-Err-Device.field-0-0 in
          let why = of_device (λ (fault : DiskFault). FailsToShow g.D.Disk.gives c.args.slots c.args.device.now fault c.print_endless_damage.new.device) w.in-Err-Device.field-0 cause w.in-Err-Device.field-0-is w.in-Err-Device.ensures.device_fault in
          subst (Shows c.args.disk tells damaged failed) (sym (w.unread-is ∙ ap (λ (f : Finding). Some f) w.in_ok-print_fault-in-Err-Device.ensures.finding)) (refl, refl, (cause, why))
    ]

pub returns-else-any-clause-whole : goal.returns-else-any-clause-whole
returns-else-any-clause-whole g c = λ none.
    elim c.match-print_endless_damage.branch [
      | in-Ok w ↦ w.in-Ok.ensures.whole
      | in-Err-Device+in_ok-print_fault-in-Err-Device w ↦ (let both : Some w.in_ok-print_fault-in-Err-Device.field-0 ≡ None = sym w.unread-is ∙ none in absurd (cc))
    ]
