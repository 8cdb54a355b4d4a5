use Rattle.std.specs.Prelude.{slice_get}
use Rattle.std.proofs.Common.{◌<◌, ◌≡◌, ℕ, Some}
use Rattle.lock_command.specs.Command.{spelling}
use Rattle.lock_command.specs.Reading.{decoded}
use Rattle.lock_table.specs.declared.known_client.KnownClient.{KnownClient}
use Rattle.lock_table.specs.Carrying.{carried_client}
use Rattle.epoch_host.proofs.carried.clients_read_back.Given as goal

-- the commands of the clients so far read back
abbrev pub invariant-loop-at : goal.invariant-loop-at
invariant-loop-at l = (k : ℕ) (known : KnownClient) → k < l.at → slice_get l.clients k ≡ Some known → decoded (spelling (carried_client known)) ≡ Some (carried_client known)
