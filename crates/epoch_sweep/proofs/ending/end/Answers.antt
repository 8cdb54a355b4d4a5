use Rattle.std.proofs.Common.{ℕ, ◌+◌, ap, ap₂, ◌∙◌}
use Rattle.epoch_sweep.specs.Sweeping.{one_if}
use Rattle.epoch_sweep.proofs.ending.end.Goals as goal

pub returns-clause-ends : goal.returns-clause-ends
returns-clause-ends c =
    record {
      first = c.in_ok-first.first;
      last = c.in_ok-last.last;
      between = c.recover.new.cluster;
      one = c.in_ok-first.ensures;
      other = c.in_ok-last.ensures;
      recovered = ap₂ (λ (m n : ℕ). m + n) (c.one_if.ensures.counted ∙ ap one_if c.is_some.ensures) (c.one_if-2.ensures.counted ∙ ap one_if c.is_some-2.ensures);
      right = c.is_right.ensures;
    }
