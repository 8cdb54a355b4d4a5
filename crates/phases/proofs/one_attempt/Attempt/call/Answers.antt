use Rattle.std.proofs.Common.{◌∙◌, ℕ, ap, ap₂, sym, Some}
use Rattle.disk.specs.Disk as device
use Rattle.phases.specs.Notes.{Notes}
use Rattle.phases.proofs.Calling.{call_is}
use Rattle.phases.proofs.one_attempt.Attempt.call.Goals as goal

pub returns-clause-next : goal.returns-clause-next
returns-clause-next g c s heard leads =
    call_is s heard c.args.self.now leads c.requires
    ∙ ap₂ (λ (disk : ℕ) (call : device.Call). Some (disk, call)) (sym (ap (λ (n : Notes). n.disk) c.self.view_is)) (sym c.device_call.ensures.due)
