use Rattle.attempt_safety.proofs.Following.{leads}
use Rattle.attempt_safety.proofs.law.answers_lead.Goals as goal

pub returns : goal.returns
returns c = leads
