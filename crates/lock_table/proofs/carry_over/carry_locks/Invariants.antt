use Rattle.std.proofs.Common.{◌≡◌, ◌≤◌, ◌+◌, map, take, vec_len, vec_capacity}
use Rattle.lock_table.specs.declared.clients.TheConstants.{CLIENTS}
use Rattle.lock_command.specs.declared.record.TheConstants.{LOCKS}
use Rattle.lock_command.specs.Command.{spelling}
use Rattle.lock_table.specs.Carrying.{carried_lock}
use Rattle.lock_table.specs.Stored.{value_in}
use Rattle.lock_table.proofs.carry_over.carry_locks.Given as goal

-- the commands so far
abbrev pub invariant-loop-at : goal.invariant-loop-at
invariant-loop-at l = record {
  commands : l.into.items ≡ map (λ r. spelling (carried_lock r (value_in l.entries r.name))) (take l.at l.locks);
  few : vec_len l.into ≤ l.at;
  room : LOCKS + CLIENTS ≤ vec_capacity l.into;
}
