use Rattle.std.proofs.Common.{◌≡◌, ◌≤◌, ◌+◌, ◌++◌, filter, map, take, vec_len, vec_capacity}
use Rattle.lock_table.specs.declared.clients.TheConstants.{CLIENTS}
use Rattle.lock_command.specs.declared.record.TheConstants.{LOCKS}
use Rattle.lock_command.specs.Command.{spelling}
use Rattle.lock_table.specs.Carrying.{carried_client, is_among, stays_known}
use Rattle.lock_table.proofs.carry_over.carry_clients.Given as goal

-- the commands so far
abbrev pub invariant-loop-at : goal.invariant-loop-at
invariant-loop-at l = record {
  commands : l.into.items ≡ l.fn.into.items ++ map (λ k. spelling (carried_client k)) (filter (stays_known (is_among l.leave) l.locks) (take l.at l.clients));
  few : vec_len l.into ≤ LOCKS + l.at;
  room : LOCKS + CLIENTS ≤ vec_capacity l.into;
}
