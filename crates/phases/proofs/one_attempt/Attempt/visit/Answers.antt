use Rattle.std.proofs.Common.{◌≡◌, ◌∙◌, sym, subst, ap}
use Rattle.phases.specs.declared.phase.Phase as code_phase
use Rattle.phases.specs.declared.phase.Phase.TheVariants as phase
use Rattle.phases.specs.declared.phase.Stage.TheVariants as stage
use Rattle.phases.specs.Moves.{IsPassed, IsBegun}
use Rattle.phases.specs.Notes.{Notes}
use Rattle.phases.proofs.Visiting.{passes_none, begins_opening}
use Rattle.phases.proofs.one_attempt.Attempt.visit.Goals as goal

pub returns-then-not-is_left-clause-passed : goal.returns-then-not-is_left-clause-passed
returns-then-not-is_left-clause-passed g c f is =
    let n = c.args.self.now in
    passes_none n.phase f n c.args.disk c.requires is (sym c.is_left.ensures ∙ c.if-not-is_left.true)

pub returns-in-Opening-clause-begun : goal.returns-in-Opening-clause-begun
returns-in-Opening-clause-begun g c f is =
    let n = c.args.self.now in
    let first : n.phase ≡ phase.Opening = sym (ap (λ (m : Notes). m.phase) c.self.view_is) ∙ c.in-Opening.is in
    let begun = begins_opening f n c.args.disk c.requires (subst (λ (q : code_phase.Phase). IsPassed q f n c.args.disk) first is) (sym c.is_left.ensures ∙ c.if-not-is_left.false) in
    subst (λ (m : Notes). IsBegun n.phase f (record m { disk = c.args.disk; stage = stage.Attaching })) (sym c.self.view_is)
    (subst (λ (q : code_phase.Phase). IsBegun q f (record n { disk = c.args.disk; stage = stage.Attaching })) (sym first) begun)
