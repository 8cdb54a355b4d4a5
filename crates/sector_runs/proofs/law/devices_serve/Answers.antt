use Rattle.sector_runs.proofs.Over.{devices_make_it_at_once, devices_serve}
use Rattle.sector_runs.proofs.law.devices_serve.Goals as goal

pub returns-clause-serves : goal.returns-clause-serves
returns-clause-serves c = devices_serve

pub returns-clause-at_once : goal.returns-clause-at_once
returns-clause-at_once c = devices_make_it_at_once
