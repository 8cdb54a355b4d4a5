-- A sweep over a log of either kind is refused as its own is.
use Rattle.std.proofs.Common.{IfErr, subst, sym}
use Rattle.epoch_script.specs.declared.any_script.AnyScript.{AnyScript}
use Rattle.dlm_tasks.specs.Faults.{IfRefused}
use Rattle.dlm_tasks.specs.Refusing.{IsNotSwept}
use Rattle.dlm_tasks.proofs.any_sweep.sweep_any_script.Goals as goal

pub returns-in-Ending-clause-refused : goal.returns-in-Ending-clause-refused
returns-in-Ending-clause-refused g c =
    subst (λ (script : AnyScript). IfErr c.print_sweep.result (λ failure. IfRefused failure (λ fault. IsNotSwept script fault (g.O.Write.contents c.args.out.now) (g.O.Write.contents c.print_sweep.new.out))))
    (sym c.in-Ending.is) c.print_sweep.ensures.refused

pub returns-in-Endless-clause-refused : goal.returns-in-Endless-clause-refused
returns-in-Endless-clause-refused g c =
    subst (λ (script : AnyScript). IfErr c.print_epoch_sweep.result (λ failure. IfRefused failure (λ fault. IsNotSwept script fault (g.O.Write.contents c.args.out.now) (g.O.Write.contents c.print_epoch_sweep.new.out))))
    (sym c.in-Endless.is) c.print_epoch_sweep.ensures.refused
