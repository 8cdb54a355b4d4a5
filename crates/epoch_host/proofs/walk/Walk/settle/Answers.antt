use Rattle.std.proofs.Common.{refl}
use Rattle.std.proofs.lemmas.Result.{on_err_weaker}
use Rattle.epoch_host.proofs.Ending.{err_none, ok_none}
use Rattle.epoch_host.proofs.Moving.{goes_nowhere}
use Rattle.epoch_host.proofs.walk.Walk.settle.Goals as goal

pub returns-then-is_err-clause-leads : goal.returns-then-is_err-clause-leads
returns-then-is_err-clause-leads c = goes_nowhere c.args.self.now _ refl refl refl

pub returns-then-is_err-clause-kept : goal.returns-then-is_err-clause-kept
returns-then-is_err-clause-kept c = ok_none _ c.args.went (let told = c.is_err.ensures in let is = c.if-is_err.true in cc)

pub returns-then-is_err-clause-given_up : goal.returns-then-is_err-clause-given_up
returns-then-is_err-clause-given_up c = on_err_weaker c.args.went (λ silent. (refl, silent)) c.requires.silent

pub returns-else-is_err-clause-given_up : goal.returns-else-is_err-clause-given_up
returns-else-is_err-clause-given_up c = err_none _ c.args.went (let told = c.is_err.ensures in let is = c.if-is_err.false in cc)
