use Rattle.std.specs.Prelude.{IsSome}
use Rattle.std.proofs.Common.{subst}
use Rattle.epoch_host.specs.declared.walk.Walk.{Walk}
use Rattle.epoch_host.specs.Ending.{IsThere}
use Rattle.epoch_host.proofs.epoch_host.EpochHost.table.Goals as goal

pub returns-clause-only : goal.returns-clause-only
returns-clause-only c = subst (λ (w : Walk). IsSome c.table.result → IsThere w) c.self.view_is c.table.ensures.only
