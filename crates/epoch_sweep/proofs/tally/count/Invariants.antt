use Rattle.std.proofs.Common.{◌≡◌, ◌≤◌, ◌*◌, take}
use Rattle.epoch_sweep.specs.Counting.{counted}
use Rattle.epoch_sweep.proofs.tally.count.Given as goal

-- the ends before this one are counted
abbrev pub invariant-loop-end : goal.invariant-loop-end
invariant-loop-end l = record {
  counted : l.sweep ≡ counted (take l.end-index l.ends);
  runs : l.sweep.runs ≡ l.end-index;
  recovered : l.sweep.recovered ≤ 2 * l.end-index;
  wrong : l.sweep.wrong ≤ l.end-index;
}
