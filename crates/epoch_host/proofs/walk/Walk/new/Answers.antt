use Rattle.std.proofs.Common.{refl}
use Rattle.epoch_host.proofs.walk.Walk.new.Goals as goal

pub returns-clause-leads : goal.returns-clause-leads
returns-clause-leads c = record { config = refl; host = refl; place = λ e. refl }
