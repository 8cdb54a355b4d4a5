use Rattle.std.specs.Prelude.{replicate, None}
use Rattle.std.proofs.Common.{◌≡◌, ◌≤◌, vec_capacity}
use Rattle.torn_block.specs.declared.layout.TheConstants.{HOSTS}
use Rattle.simulator.proofs.simulated_cluster.stopped_hosts.Given as goal

abbrev pub invariant-loop : goal.invariant-loop
invariant-loop l =
    record {
      items : l.hosts.items ≡ replicate l.counter None;
      room : HOSTS ≤ vec_capacity l.hosts;
    }
