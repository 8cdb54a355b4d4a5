-- Where none is the first wrong one, none is wrong. Else the first one is told.
use Rattle.std.proofs.Common.{rules}
use Rattle.epoch_sweep.specs.Counting.{IsSwept}
use Rattle.epoch_sweep.proofs.Counted.{none_wrong}
use Rattle.dlm_tasks.proofs.Refusing.{found_wrong}
use Rattle.dlm_tasks.proofs.any_sweep.print_epoch_sweep.Goals as goal

pub returns-in-None-clause-written : goal.returns-in-None-clause-written
returns-in-None-clause-written g c =
    let is : IsSwept c.args.script.now c.in_ok-swept.swept = search rules in
    (c.in_ok-swept.swept, record { is = is; written = c.in_ok-print_counts.ensures }, none_wrong is.ends c.in_ok-swept.swept is.counts c.in-None.is)

pub returns-in-Some-clause-refused : goal.returns-in-Some-clause-refused
returns-in-Some-clause-refused g c =
    let is : IsSwept c.args.script.now c.in_ok-swept.swept = search rules in
    found_wrong c.args.script.now c.in_ok-swept.swept (g.O.Write.contents c.args.out.now) (g.O.Write.contents c.print_counts.new.out) _ is c.in_ok-print_counts.ensures c.in-Some.is
