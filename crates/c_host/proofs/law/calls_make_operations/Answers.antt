use Rattle.c_host.proofs.Steps.{carries_out}
use Rattle.c_host.proofs.law.calls_make_operations.Goals as goal

pub returns : goal.returns
returns g c = carries_out g.D.Disk.gives
