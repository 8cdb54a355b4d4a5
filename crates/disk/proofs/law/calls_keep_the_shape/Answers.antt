use Rattle.disk.proofs.StepLemmas.{shape_fresh, shape_keeps}
use Rattle.disk.proofs.law.calls_keep_the_shape.Goals as goal

pub returns-clause-fresh : goal.returns-clause-fresh
returns-clause-fresh c = shape_fresh

pub returns-clause-kept : goal.returns-clause-kept
returns-clause-kept c = shape_keeps
