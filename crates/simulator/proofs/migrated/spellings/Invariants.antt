use Rattle.std.specs.Prelude.{map, take, slice_get}
use Rattle.std.proofs.Common.{ℕ, ◌≡◌, ◌≤◌, ◌<◌, Some, length, vec_capacity}
use Rattle.lock_command.specs.declared.command.Command.{Command}
use Rattle.lock_command.specs.Command.{spelling}
use Rattle.world.specs.World.{ReadsBack}
use Rattle.simulator.proofs.migrated.spellings.Given as goal

abbrev pub invariant-loop-command : goal.invariant-loop-command
invariant-loop-command l =
    record {
      items : l.values.items ≡ map spelling (take l.command-index l.log);
      room : length l.log ≤ vec_capacity l.values;
      reads : (k : ℕ) (command : Command) → k < l.command-index → slice_get l.log k ≡ Some command → ReadsBack command;
    }
