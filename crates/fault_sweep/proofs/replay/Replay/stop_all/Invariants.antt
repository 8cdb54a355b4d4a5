use Rattle.std.specs.Prelude.{map}
use Rattle.std.specs.List.{range_with_len}
use Rattle.std.proofs.Common.{◌≡◌, ◌+◌}
use Rattle.world.specs.Happens.{Stop}
use Rattle.fault_sweep.specs.Replayed.{GoesOn}
use Rattle.fault_sweep.proofs.replay.Replay.stop_all.Given as goal

abbrev pub invariant-loop-number : goal.invariant-loop-number
invariant-loop-number l = record {
  counted : l.self.place ≡ l.initial.self.place + l.number;
  happened : GoesOn l.initial.self l.self (map Stop (range_with_len 0 l.number));
}
