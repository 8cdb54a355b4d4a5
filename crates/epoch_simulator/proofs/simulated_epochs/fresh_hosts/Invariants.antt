use Rattle.std.proofs.Common.{ℕ, ◌≡◌, ◌≤◌, length, slice_get, Some, vec_capacity}
use Rattle.torn_block.specs.declared.layout.TheConstants.{HOSTS}
use Rattle.epoch_host.specs.declared.walk.Walk.{Walk}
use Rattle.epoch_simulator.specs.Kept.{IsNew}
use Rattle.epoch_simulator.proofs.simulated_epochs.fresh_hosts.Given as goal

abbrev pub invariant-loop-number : goal.invariant-loop-number
invariant-loop-number l =
    record {
      count : length l.hosts.items ≡ l.number;
      new : (h : ℕ) (w : Walk) → slice_get l.hosts.items h ≡ Some w → IsNew l.config h w;
      room : HOSTS ≤ vec_capacity l.hosts;
    }
