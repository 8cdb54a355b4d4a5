use Rattle.std.proofs.Common.{◌≡◌, ℕ, subst}
use Rattle.paxos_block.specs.Shape.{Shape}
use Rattle.epoch_deeds.specs.Deeds.{Deeds}
use Rattle.epoch_host.specs.declared.walk.Walk.{Walk}
use Rattle.epoch_host.specs.Ending.{IsWhereItIs}
use Rattle.epoch_host.specs.Knowing.{where_is}
use Rattle.epoch_host.specs.Leading.{LeadsTo}
use Rattle.epoch_host.proofs.epoch_host.EpochHost.epoch.Goals as goal

pub returns-clause-is : goal.returns-clause-is
returns-clause-is c = subst (λ (w : Walk). c.epoch.result ≡ where_is w) c.self.view_is c.epoch.ensures.is

pub returns-clause-known : goal.returns-clause-known
returns-clause-known c = subst (λ (w : Walk). (k : Shape) (h : ℕ) (deeds : Deeds) → LeadsTo k h deeds w → IsWhereItIs k h deeds c.epoch.result) c.self.view_is c.epoch.ensures.known
