use Rattle.agreement.proofs.Inputs.{only_inputs}
use Rattle.agreement.proofs.only_inputs.Goals as goal

pub returns : goal.returns
returns g c = only_inputs
