use Rattle.std.proofs.Common.{rules, subst}
use Rattle.log_folders.specs.Formatting.{AreNew}
use Rattle.log_folders.proofs.format.make_set.Goals as goal

pub returns-in-Ok-clause-laid_out : goal.returns-in-Ok-clause-laid_out
returns-in-Ok-clause-laid_out g c =
    record { old = c.deref_mut.result.now; new = c.lay_out.new.devices; fresh = subst (AreNew c.args.set.now) (search rules) c.in_ok-devices.ensures.room; laid_out = c.in-Ok.ensures.laid_out }
