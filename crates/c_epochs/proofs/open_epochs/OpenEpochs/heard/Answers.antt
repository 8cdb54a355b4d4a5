use Rattle.std.specs.Prelude.{IfSome, if◌then◌else◌}
use Rattle.std.specs.Option.{option_map}
use Rattle.std.proofs.Common.{◌≡◌, ◌∙◌, ℕ, Bool, false, Some, sym, ap, subst}
use Rattle.disk.specs.declared.fault.DiskFault.TheVariants.{Failed}
use Rattle.disk.specs.Disk.{Call, Fault}
use Rattle.torn_block.specs.Layout.{cluster_version}
use Rattle.attempt.specs.DeviceCalls.{device_answer, heard_of}
use Rattle.attempt.specs.Heard.{Fits}
use Rattle.epoch_host.specs.Walking.{call_due}
use Rattle.c_host.specs.Calls.{answer_in}
use Rattle.c_epochs.specs.Calls.{is_away}
use Rattle.c_epochs.proofs.open_epochs.OpenEpochs.heard.Goals as goal

pub returns-else-is_away-clause-told : goal.returns-else-is_away-clause-told
returns-else-is_away-clause-told c =
    let here : is_away c.args.self.now.firsts c.args.self.now.host ≡ false = sym c.is_away.ensures ∙ c.if-is_away.false in
    subst (λ (b : Bool). option_map device_answer c.heard.result ≡ (if b then Some (Fault Failed) else answer_in (call_due c.args.self.now.host).1 c.args.told.now c.args.row.now.bytes)) (sym here)
    (c.heard.ensures.told ∙ ap (λ (d : ℕ × Call). answer_in d.1 c.args.told.now c.args.row.now.bytes) c.call.ensures.due)

pub returns-else-is_away-clause-fits : goal.returns-else-is_away-clause-fits
returns-else-is_away-clause-fits c = subst (λ (d : ℕ × Call). IfSome c.heard.result (λ heard. Fits d.1 (heard_of cluster_version heard))) c.call.ensures.due c.heard.ensures.fits
