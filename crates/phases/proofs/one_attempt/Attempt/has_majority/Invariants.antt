use Rattle.std.proofs.Common.{◌≡◌, ◌≤◌}
use Rattle.attempt.specs.Numbers.{count}
use Rattle.phases.specs.Notes.{visit_at}
use Rattle.phases.proofs.one_attempt.Attempt.has_majority.Given as goal

abbrev pub invariant-loop-disk : goal.invariant-loop-disk
invariant-loop-disk g l = record {
  counted : l.left ≡ count l.disk (λ e. (visit_at l.self.visits e).left);
  within : l.left ≤ l.disk;
}
