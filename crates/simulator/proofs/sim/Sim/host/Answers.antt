use Rattle.std.specs.Prelude.{option_map}
use Rattle.std.proofs.Common.{sym, subst}
use Rattle.world.specs.Opening.{Opening, world_after}
use Rattle.simulator.specs.Events.{events_of}
use Rattle.simulator.specs.Kept.{IsHost}
use Rattle.simulator.specs.Past.{Past, world_of}
use Rattle.simulator.proofs.Telling.{begins_if}
use Rattle.simulator.proofs.sim.Sim.host.Goals as goal

pub returns-clause-host : goal.returns-clause-host
returns-clause-host c =
    let s = c.self.inside in
    let o : Opening = record { shape = s.cluster.shape; moved = s.log.items } in
    let h = c.args.host in
    subst (λ (p : Past). IsHost p.opening.shape h ((world_of p).host h) (option_map (λ core. core.now) c.host.result)) c.self.view_is
    (subst (IsHost s.cluster.shape h ((world_after o (events_of s.events.items)).host h)) (sym c.host.ensures) (c.self.invariant.shows.hosts h))

pub returns-clause-begins : goal.returns-clause-begins
returns-clause-begins c = begins_if c.args.self.now c.args.host c.host.result (λ core. core.now) (returns-clause-host c)
