use Rattle.at_once.specs.Power.{LosesPower}
use Rattle.epochs.specs.Acts.{IsModelCrash}
use Rattle.epochs.proofs.Readings.{readings_show}
use Rattle.epochs.proofs.Serving.{areas_serve, areas_serve_on}
use Rattle.epochs.proofs.law.areas_serve.Goals as goal

pub returns : goal.returns
returns c = record { serves = areas_serve; power = areas_serve_on; readings = readings_show IsModelCrash; readings_on = readings_show LosesPower }
