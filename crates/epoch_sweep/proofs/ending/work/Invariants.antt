use Rattle.std.specs.Prelude.{List, replicate}
use Rattle.lock_script.specs.declared.event.Event.TheVariants.{Step}
use Rattle.epoch_player.specs.declared.happening.Said.{Said}
use Rattle.epoch_sweep.specs.Sweeping.{Happen}
use Rattle.epoch_sweep.proofs.ending.work.Given as goal

-- so many calls were made
abbrev pub invariant-loop : goal.invariant-loop
invariant-loop l = (told : List Said) × Happen l.config (replicate l.counter (Step l.host)) l.initial.cluster l.cluster told
