use Rattle.std.proofs.Common.{◌≡◌, Bool, true, false, not, None, refl, sym, ◌∙◌, subst}
use Rattle.simulator.specs.Kept.{TellsNext}
use Rattle.simulator.proofs.NextCall.{tells_none}
use Rattle.simulator.proofs.Owed as owed
use Rattle.simulator.proofs.Owed.{kept_in}
use Rattle.simulator.proofs.simulated_cluster.SimulatedCluster.is_idle.Goals as goal

is_not : (b : Bool) → not b ≡ true → b ≡ false
is_not true is = absurd (cc)
is_not false is = refl

pub returns : goal.returns
returns c =
    let old = kept_in c.self.inside in
    let p = owed.place_of old c.self.invariant c.args.host c.get.result c.from.result c.get.ensures.value c.get.ensures.range c.from.ensures in
    λ idle. subst (TellsNext c.args.host None) c.self.view_is
    (tells_none old c.args.host c.index.result.now (owed.stands old c.args.host p c.index.result.now c.index.ensures) (sym c.is_busy.ensures ∙ is_not c.is_busy.result idle))
