use Rattle.std.proofs.Common.{◌-◌, ◌≤◌}
use Rattle.inspect.specs.Marks.{IsQueue}
use Rattle.inspect.proofs.edges.start_of_queue.Given as goal

abbrev pub invariant-loop-queue : goal.invariant-loop-queue
invariant-loop-queue l = record {
  from : l.start ≤ l.queue;
  to : l.queue ≤ l.end;
  queue : IsQueue l.locks l.queue l.end;
}

abbrev pub decreases-loop-queue : goal.decreases-loop-queue
decreases-loop-queue l = l.queue - l.start
