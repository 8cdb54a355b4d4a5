use Rattle.std.proofs.Common.{◌≡◌, ◌+◌, ◌-◌, ◌*◌, ◌/◌, ◌≤◌, length, All}
use Rattle.std.specs.Prelude.{vec_capacity}
use Rattle.disk.proofs.MarkLemmas.{MarksRange, reached}
use Rattle.disk.proofs.marks.mark.Given as goal

abbrev pub invariant-loop-left : goal.invariant-loop-left
invariant-loop-left l = record {
  begun : l.at / 64 ≤ l.index;
  from : l.from ≡ l.at - 64 * l.index;
  left : 64 * l.index + l.left ≡ l.end;
  capacity : vec_capacity l.words ≡ vec_capacity l.fn.words;
  as_many : length l.words.items ≡ length l.fn.words.items;
  no_later : All (λ w. w.stamp ≤ l.epoch) l.fn.words.items → All (λ w. w.stamp ≤ l.epoch) l.words.items;
  marked : MarksRange l.epoch l.at (reached l.at l.end l.index) l.fn.words.items l.words.items;
}

abbrev pub decreases-loop-left : goal.decreases-loop-left
decreases-loop-left l = l.left
