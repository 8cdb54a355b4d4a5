use Rattle.std.specs.Prelude.{replicate}
use Rattle.std.proofs.Common.{◌+◌, None, sym, subst}
use Rattle.world.specs.Happens.{Step}
use Rattle.simulator.specs.Kept.{TellsNext}
use Rattle.fault_sweep.specs.Replayed.{Played, IsOf, GoesOn}
use Rattle.fault_sweep.proofs.Following.{pass_quiet, passes, still_played}
use Rattle.fault_sweep.proofs.replay.Replay.pass.Goals as goal

-- the steps happen
steps : (c : goal.After-self-1) → GoesOn (record { cluster = c.self.inside.cluster; place = c.self.inside.place; report = c.self.inside.answers.items })
    (record { cluster = c.self.inside.cluster; place = c.self.inside.place + c.args.steps; report = c.self.inside.answers.items }) (replicate c.args.steps (Step c.args.host))
steps c p is =
    let s = c.self.inside in
    passes p (record { cluster = s.cluster; place = s.place; report = s.answers.items }) c.args.host c.args.steps is
    (subst (λ (r : Played). TellsNext c.args.host None r.cluster) (sym c.self.view_is) c.requires.idle)

pub invariant_of-self : goal.invariant_of-self
invariant_of-self c = still_played c.self.inside.config (replicate c.args.steps (Step c.args.host)) _ _ (steps c) c.self.invariant

pub returns-clause-happened : goal.returns-clause-happened
returns-clause-happened c = λ p is. steps c p (subst (IsOf p) (sym c.self.view_is) is)

pub returns-clause-quiet : goal.returns-clause-quiet
returns-clause-quiet c = λ p is. pass_quiet p c.args.self.now c.args.host c.args.steps is c.requires.idle
