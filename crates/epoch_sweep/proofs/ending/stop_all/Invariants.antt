use Rattle.std.specs.Prelude.{map}
use Rattle.std.specs.List.{range_with_len}
use Rattle.lock_script.specs.declared.event.Event.TheVariants.{Stop}
use Rattle.epoch_sweep.specs.Sweeping.{HappenOn}
use Rattle.epoch_sweep.proofs.ending.stop_all.Given as goal

-- so many hosts stopped
abbrev pub invariant-loop-number : goal.invariant-loop-number
invariant-loop-number l = HappenOn l.config (map Stop (range_with_len 0 l.number)) l.initial.cluster l.cluster l.initial.told.items l.told.items
