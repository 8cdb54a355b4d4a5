use Rattle.world_served.proofs.Attempting.{attempt_served}
use Rattle.world_served.proofs.law.alone_attempts_are_served.Goals as goal

pub returns : goal.returns
returns c = λ shape log run i k s heard hears alone behind. attempt_served shape log run i k s heard hears alone behind
