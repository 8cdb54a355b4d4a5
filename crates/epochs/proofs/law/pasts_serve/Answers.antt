use Rattle.at_once.specs.Power.{LosesPower}
use Rattle.epochs.specs.Acts.{IsModelCrash}
use Rattle.epochs.proofs.Begun.{hosts_may_begin}
use Rattle.epochs.proofs.Deeds.{pasts_serve, pasts_serve_on, model_pasts_are_acts, file_pasts_are_acts}
use Rattle.epochs.proofs.law.pasts_serve.Goals as goal

pub returns : goal.returns
returns c = record {
  serves = pasts_serve;
  power = pasts_serve_on;
  acts = model_pasts_are_acts;
  acts_on = file_pasts_are_acts;
  begins = hosts_may_begin IsModelCrash;
  begins_on = hosts_may_begin LosesPower;
}
