use Rattle.epoch_runs.specs.World.{opening}
use Rattle.epoch_simulator.proofs.Entries.{all_go}
use Rattle.epoch_simulator.proofs.law.runs_have_one_log.Goals as goal

pub returns : goal.returns
returns c = λ entries k led enough. c.hosts_have_one_log.ensures.one_log k.shape entries enough (all_go k.shape (opening k.shape) led.world entries led.goes)
