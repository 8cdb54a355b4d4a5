use Rattle.std.proofs.Common.{ℕ, Option, subst}
use Rattle.c_epochs.specs.Views.{AreAway}
use Rattle.c_epochs.proofs.open_epochs.OpenEpochs.away.Goals as goal

pub returns : goal.returns
returns c = subst (λ (at : Option ℕ). AreAway at c.args.self.now.firsts c.away_at.result) c.epoch.ensures.is c.away_at.ensures
