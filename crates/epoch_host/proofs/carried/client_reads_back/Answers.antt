use Rattle.std.proofs.Common.{◌≡◌, Some, subst}
use Rattle.lock_command.specs.declared.command.Command.{Command}
use Rattle.lock_command.specs.Command.{spelling}
use Rattle.lock_command.specs.Reading.{decoded}
use Rattle.epoch_host.proofs.Spelling.{reads_back}
use Rattle.epoch_host.proofs.carried.client_reads_back.Goals as goal

pub returns : goal.returns
returns c = subst (λ (command : Command). decoded (spelling command) ≡ Some command) c.carry_client.ensures (reads_back c.carry_client.result c.encode-bytes.ensures.fits)
