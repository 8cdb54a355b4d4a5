use Rattle.std.proofs.Common.{◌∙◌, ap}
use Rattle.phases.specs.Notes.{Notes}
use Rattle.phases.proofs.Calling.{ballot_as}
use Rattle.phases.proofs.one_attempt.Attempt.ballot.Goals as goal

pub returns : goal.returns
returns g c s heard leads = ap (λ (n : Notes). n.says.mbal) c.self.view_is ∙ ballot_as s heard c.args.self.now leads
