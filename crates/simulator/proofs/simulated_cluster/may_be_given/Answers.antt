use Rattle.std.specs.Prelude.{nat_lt}
use Rattle.std.proofs.Common.{ℕ, ◌&&◌, Bool, sym, ap, ◌∙◌, arith}
use Rattle.std.proofs.lemmas.Bool.{lt-ltb}
use Rattle.world.specs.World.{may_submit}
use Rattle.simulator.proofs.Events.{submits_if}
use Rattle.simulator.proofs.simulated_cluster.may_be_given.Goals as goal

pub returns-then-tries-eq0 : goal.returns-then-tries-eq0
returns-then-tries-eq0 c =
    let asked = may_submit c.args.host c.in-Submit.command in
    submits_if c.args.config c.args.host c.args.task.now c.in-Submit.command c.in-Submit.tries _ c.in-Submit.is c.encode.ensures.fits
    (sym (ap (λ (n : ℕ). nat_lt 0 n && asked) c.if-tries-eq0.true))

pub returns-else-tries-eq0 : goal.returns-else-tries-eq0
returns-else-tries-eq0 c =
    let asked = may_submit c.args.host c.in-Submit.command in
    submits_if c.args.config c.args.host c.args.task.now c.in-Submit.command c.in-Submit.tries _ c.in-Submit.is c.encode.ensures.fits
    (c.may_submit.ensures ∙ sym (ap (λ (b : Bool). b && asked) (lt-ltb 0 c.in-Submit.tries (omega (arith, c.if-tries-eq0.false)))))
