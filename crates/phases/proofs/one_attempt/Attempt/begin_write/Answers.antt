use Rattle.std.proofs.Common.{◌≡◌, ◌<◌, ◌≤◌, ◌+◌, ◌∙◌, ℕ, List, false, refl, sym, subst, ap, ap₂, length, slice_set, arith}
use Rattle.torn_block.specs.declared.layout.TheConstants.{LAST_SEQUENCE}
use Rattle.torn_block.specs.Layout.{Version}
use Rattle.torn_block.specs.Block.{next_number}
use Rattle.torn_block.specs.Plan.{Plan, plan_by, told_number}
use Rattle.paxos_block.specs.Saying.{body_saying}
use Rattle.phases.specs.declared.phase.Stage.TheVariants as stage
use Rattle.phases.specs.declared.visit.Visit.{Visit}
use Rattle.phases.specs.Moves.{IsPassed, IsBegun}
use Rattle.phases.specs.Notes.{Notes, visit_at}
use Rattle.phases.proofs.Visiting.{passes_spent, begins_write}
use Rattle.phases.proofs.one_attempt.Attempt.begin_write.Goals as goal

pub returns-in_default-clause-passed : goal.returns-in_default-clause-passed
returns-in_default-clause-passed g c f is =
    let n = c.args.self.now in
    let read : c.args.disk ≡ c.from.result = omega arith in
    let at : c.args.disk ≡ c.from-in_default.result = omega arith in
    let few = ap (λ (m : Notes). m.of.disks) c.self.view_is in
    let inside : c.args.disk < length c.self.inside.visits = omega (arith, few) in
    let room = subst (λ (m : Notes). c.args.disk < length m.visits) c.self.view_is inside in
    let same = ap₂ (λ (m : Notes) (k : ℕ). visit_at m.visits k) (sym c.self.view_is) read in
    let new : Notes → ℕ → Notes = λ m k. record m { visits = slice_set m.visits k (record (visit_at m.visits k) { left = false }) } in
    let over : ¬ (next_number (told_number (visit_at n.visits c.args.disk).block) ≤ LAST_SEQUENCE) =
    λ fits. (let wrong = c.in_default.ensures.spent.1 (subst (λ (v : Visit). next_number (told_number v.block) ≤ LAST_SEQUENCE) same fits) in let impossible : ⊥ = cc in impossible) in
    subst (λ (m : Notes). IsPassed n.phase f (new m c.from-in_default.result) (c.args.disk + 1)) (sym c.self.view_is)
    (subst (λ (k : ℕ). IsPassed n.phase f (new n k) (c.args.disk + 1)) at (passes_spent n.phase f n c.args.disk c.requires.disk is c.requires.left over room))

pub returns-clause-begun : goal.returns-clause-begun
returns-clause-begun g c f is =
    let n = c.args.self.now in
    let at : c.args.disk ≡ c.from.result = omega arith in
    let same = ap₂ (λ (m : Notes) (k : ℕ). visit_at m.visits k) c.self.view_is (sym at) in
    let fits = subst (λ (v : Visit). next_number (told_number v.block) ≤ LAST_SEQUENCE) same (c.in-Ok.ensures.spent.0 refl) in
    let version : g.L.Layout.version ≡ n.of.version = ap (λ (m : Notes). m.of.version) c.self.view_is in
    let plan : plan_by n.of.version (visit_at n.visits c.args.disk).block (body_saying n.of.version n.says) ≡ c.in-Ok.steps =
    sym (
    c.in-Ok.ensures.steps
    ∙ ap₂ (λ (v : Version) (b : List ℕ). plan_by v (visit_at c.self.inside.visits c.from.result).block b) version (c.encode-body.ensures ∙ ap (λ (m : Notes). body_saying m.of.version m.says) c.self.view_is)
    ∙ ap (λ (x : Visit). plan_by n.of.version x.block (body_saying n.of.version n.says)) same
    ) in
    subst (λ (m : Notes). IsBegun n.phase f (record m { disk = c.args.disk; stage = stage.Writing c.in-Ok.steps })) (sym c.self.view_is)
    (subst (λ (steps : Plan). IsBegun n.phase f (record n { disk = c.args.disk; stage = stage.Writing steps })) plan
    (begins_write n.phase f n c.args.disk c.requires.disk is c.requires.left c.requires.phase fits))
