use Rattle.std.proofs.Common.{Bool, Some, None, sym, ap, ◌∙◌}
use Rattle.world.specs.Entry as entries
use Rattle.world.specs.Happens.{Begin, brings_if}
use Rattle.simulator.proofs.Changes.{reached, seen, unseen}
use Rattle.simulator.proofs.Events.{given_not}
use Rattle.simulator.proofs.Owed as owed
use Rattle.simulator.proofs.Owed.{kept_in}
use Rattle.simulator.proofs.simulated_cluster.SimulatedCluster.begin.Goals as goal

pub returns-then-not-may_be_given : goal.returns-then-not-may_be_given
returns-then-not-may_be_given c =
    unseen (Begin c.args.host c.args.task) (kept_in c.self.inside) c.args.self.now None c.self.view_is
    (λ log leads. given_not log (kept_in c.self.inside) leads c.args.host c.args.task
    (c.may_be_given.ensures ∙ ap (λ (b : Bool). brings_if b (Some (entries.Begin c.args.host c.args.task))) c.if-not-may_be_given.true))

pub returns-then-not-is_free : goal.returns-then-not-is_free
returns-then-not-is_free c =
    let old = kept_in c.self.inside in
    let p = owed.place_of old c.self.invariant c.args.host c.get.result c.from-at.result c.get.ensures.value c.get.ensures.range c.from-at.ensures in
    unseen (Begin c.args.host c.args.task) old c.args.self.now None c.self.view_is (owed.begins_busy old c.args.host p c.index.result.now c.index.ensures c.args.task (sym c.is_free.ensures ∙ c.if-not-is_free.true))

pub begin-requires-clause-may : goal.begin-requires-clause-may
begin-requires-clause-may c =
    let old = kept_in c.self.inside in
    let p = owed.place_of old c.self.invariant c.args.host c.get.result c.from-at.result c.get.ensures.value c.get.ensures.range c.from-at.ensures in
    let d = owed.idle_of old c.args.host p c.index.result.now c.index.ensures (sym c.is_free.ensures ∙ c.if-not-is_free.false) c.index_mut.result.now c.index_mut.ensures.value c.in-Some.core c.in-Some.is in
    owed.may_begin old c.args.host p d c.args.task (c.may_be_given.ensures ∙ ap (λ (b : Bool). brings_if b (Some (entries.Begin c.args.host c.args.task))) c.if-not-may_be_given.false) c.self.invariant

pub invariant_of-self : goal.invariant_of-self
invariant_of-self c =
    let old = kept_in c.self.inside in
    let p = owed.place_of old c.self.invariant c.args.host c.get.result c.from-at.result c.get.ensures.value c.get.ensures.range c.from-at.ensures in
    let d = owed.idle_of old c.args.host p c.index.result.now c.index.ensures (sym c.is_free.ensures ∙ c.if-not-is_free.false) c.index_mut.result.now c.index_mut.ensures.value c.in-Some.core c.in-Some.is in
    reached (Begin c.args.host c.args.task) old _ c.answer_of.result c.self.invariant
    (owed.begins old c.args.host p d c.args.task (c.may_be_given.ensures ∙ ap (λ (b : Bool). brings_if b (Some (entries.Begin c.args.host c.args.task))) c.if-not-may_be_given.false)
    c.begin.new.self c.answer_of.result c.answer_of.ensures c.begin.ensures)

pub returns : goal.returns
returns c =
    let old = kept_in c.self.inside in
    let p = owed.place_of old c.self.invariant c.args.host c.get.result c.from-at.result c.get.ensures.value c.get.ensures.range c.from-at.ensures in
    let d = owed.idle_of old c.args.host p c.index.result.now c.index.ensures (sym c.is_free.ensures ∙ c.if-not-is_free.false) c.index_mut.result.now c.index_mut.ensures.value c.in-Some.core c.in-Some.is in
    seen (Begin c.args.host c.args.task) old c.args.self.now _ c.answer_of.result c.self.view_is
    (owed.begins old c.args.host p d c.args.task (c.may_be_given.ensures ∙ ap (λ (b : Bool). brings_if b (Some (entries.Begin c.args.host c.args.task))) c.if-not-may_be_given.false)
    c.begin.new.self c.answer_of.result c.answer_of.ensures c.begin.ensures)
