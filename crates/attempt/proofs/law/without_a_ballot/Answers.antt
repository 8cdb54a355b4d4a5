use Rattle.attempt.proofs.Looking as looking
use Rattle.attempt.proofs.law.without_a_ballot.Goals as goal

pub returns : goal.returns
returns c = record {
  opening = λ s f p d high due. looking.opening s f high p d due;
  reads = λ s f d call high is. looking.reads s f high d call is;
  three = looking.three;
  ends = λ s f end high is. looking.ends s f high end is;
  none = λ s f high. looking.takes_none s f high;
}
