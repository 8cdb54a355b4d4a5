use Rattle.attempt.specs.Answers.{on}
use Rattle.attempt.proofs.Ends as ends
use Rattle.attempt.proofs.law.seventeen_calls_a_disk.Goals as goal

pub returns : goal.returns
returns c = record {
  bound = ends.bound;
  going = λ s heard p d is due. ends.going s heard is p d due;
  committed = λ s heard value is well ended. ends.committed s heard is value well ended;
  empty = ends.empty;
  decided = λ s heard value is well ended. ends.decides s heard is value well ended;
  majority = λ s heard some is well ended. ends.majority s heard is (ends.most_well s (on heard) some well) ended;
}
