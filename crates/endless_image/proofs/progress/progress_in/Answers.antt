use Rattle.std.proofs.Common.{◌≡◌, Some, refl}
use Rattle.endless_image.proofs.ProgressLaws.{right_not_ending, right_not_marked, ending_not_marked}
use Rattle.endless_image.proofs.progress.progress_in.Goals as goal

pub returns-in-Ok-clause-ending : goal.returns-in-Ok-clause-ending
returns-in-Ok-clause-ending c = λ header. ((λ e. absurd cc), (λ is. absurd (right_not_ending c.args.disk c.args.long c.args.bytes.now c.in-Ok.header header c.in-Ok.ensures.right is)))

pub returns-in-Ok-clause-marked : goal.returns-in-Ok-clause-marked
returns-in-Ok-clause-marked c = λ header. ((λ e. absurd cc), (λ is. absurd (right_not_marked c.args.disk c.args.long c.args.bytes.now c.in-Ok.header header c.in-Ok.ensures.right is)))

pub returns-in-Some-clause-ending : goal.returns-in-Some-clause-ending
returns-in-Some-clause-ending c = λ header. (
  (λ e. let same : Some c.in-Some.header ≡ Some header = cc e in (c.in-Some.ensures header).0 same),
  (λ is. let same = (c.in-Some.ensures header).1 is in cc same),
)

pub returns-in-Some-clause-marked : goal.returns-in-Some-clause-marked
returns-in-Some-clause-marked c = λ header. (
  (λ e. absurd cc),
  (λ is. absurd (ending_not_marked c.args.disk c.args.long c.args.bytes.now c.in-Some.header header ((c.in-Some.ensures c.in-Some.header).0 refl) is)),
)

pub returns-in-Some-marked_in-clause-marked : goal.returns-in-Some-marked_in-clause-marked
returns-in-Some-marked_in-clause-marked c = λ header. (
  (λ e. let same : Some c.in-Some-marked_in.header ≡ Some header = cc e in (c.in-Some-marked_in.ensures header).0 same),
  (λ is. let same = (c.in-Some-marked_in.ensures header).1 is in cc same),
)

pub returns-in-None-clause-marked : goal.returns-in-None-clause-marked
returns-in-None-clause-marked c = λ header. ((λ e. absurd cc), (λ is. let same = (c.in-None.ensures header).1 is in absurd cc))
