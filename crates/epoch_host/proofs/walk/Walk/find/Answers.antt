use Rattle.std.proofs.Common.{ℕ, Bool, ap, refl, ◌∙◌, subst, if◌then◌else◌, Some, None}
use Rattle.torn_block.specs.Layout.{cluster_version}
use Rattle.paxos_block.specs.Places.{image_length}
use Rattle.paxos_block.specs.Shape.{Shape}
use Rattle.coming.specs.Finding as finding
use Rattle.epoch_host.specs.declared.task.EpochTask.{EpochTask}
use Rattle.epoch_host.specs.declared.walk.Whereabouts.TheVariants.{Nowhere, Finds}
use Rattle.epoch_host.specs.Leading.{pasts_of}
use Rattle.epoch_host.proofs.Ending.{goes_silent, nowhere_refuses}
use Rattle.epoch_host.proofs.Moving.{goes_finding, goes_nowhere, walks_then}
use Rattle.epoch_host.proofs.walk.Walk.find.Goals as goal

pub refuse-requires : goal.refuse-requires
refuse-requires c = record { cause = nowhere_refuses c.args.self.now.task (record c.args.self.now { is = Nowhere }) _ refl (c.in-Some-Mark.is ∙ ap (λ (t : EpochTask). Some t) (rw c.in-Some-Mark.is at c.in-Some-Mark.field-0-is)) }

pub returns-in-Some-Mark-clause-leads : goal.returns-in-Some-Mark-clause-leads
returns-in-Some-Mark-clause-leads c =
    let between = record c.args.self.now { is = Nowhere } in
    walks_then c.args.self.now between c.refuse.new.self (goes_nowhere c.args.self.now between refl refl refl) c.refuse.ensures.leads

pub returns-then-may_move-clause-leads : goal.returns-then-may_move-clause-leads
returns-then-may_move-clause-leads c =
    let between = record c.args.self.now { is = Nowhere } in
    let moved = c.may_move.new.self in
    let new = record moved { is = Finds c.new.result } in
    walks_then c.args.self.now moved new (walks_then c.args.self.now between moved (goes_nowhere c.args.self.now between refl refl refl) c.may_move.ensures.leads)
    (goes_finding moved new c.new.result refl refl refl
    (λ k deeds is.
    subst (λ (n : ℕ). finding.Knows (image_length cluster_version n) (pasts_of deeds) c.new.result) (c.slots.ensures.value ∙ ap (λ (shape : Shape). shape.slots) is) (c.new.ensures.knows (pasts_of deeds))))

pub returns-then-may_move-clause-task : goal.returns-then-may_move-clause-task
returns-then-may_move-clause-task c =
    goes_silent ⊥ c.args.self.now.task _ c.requires.task.0 c.requires.task.1
    (c.may_move.ensures.task ∙ ap (λ (b : Bool). if b then c.args.self.now.task else None) c.if-may_move.true) (c.may_move.ensures.said c.if-may_move.true ∙ c.requires.silent)

pub returns-else-may_move-clause-leads : goal.returns-else-may_move-clause-leads
returns-else-may_move-clause-leads c =
    let between = record c.args.self.now { is = Nowhere } in
    walks_then c.args.self.now between c.may_move.new.self (goes_nowhere c.args.self.now between refl refl refl) c.may_move.ensures.leads
