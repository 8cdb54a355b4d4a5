use Rattle.world.proofs.Follow.{command_reads_back}
use Rattle.world.proofs.law.commands_read_back.Goals as goal

pub returns : goal.returns
returns c = command_reads_back
