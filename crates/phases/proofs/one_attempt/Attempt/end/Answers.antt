use Rattle.std.proofs.Common.{◌∙◌, ap}
use Rattle.phases.specs.Calls.{end_in}
use Rattle.phases.specs.Notes.{Notes}
use Rattle.phases.proofs.Calling.{ends_as}
use Rattle.phases.proofs.one_attempt.Attempt.end.Goals as goal

pub returns-clause-end : goal.returns-clause-end
returns-clause-end g c s heard leads = ap (λ (n : Notes). end_in n.end) c.self.view_is ∙ ends_as s heard c.args.self.now leads
