use Rattle.std.specs.Prelude.{IfSome, if◌then◌else◌}
use Rattle.std.proofs.Common.{◌≡◌, ℕ, Bool, true, Option, Some, None, refl, sym, ap, subst, ◌∙◌}
use Rattle.epoch_host.proofs.Moving.{enters, enters_none, goes_nowhere}
use Rattle.paxos_block.specs.Shape.{Shape}
use Rattle.host.specs.declared.task.Task.{Task}
use Rattle.epoch_host.specs.declared.walk.Whereabouts.TheVariants.{In}
use Rattle.host.specs.declared.task.Task.TheVariants as task
use Rattle.epoch_host.specs.Ending.{in_epochs}
use Rattle.epoch_host.specs.Staying.{only_looks_for}
use Rattle.epoch_host.specs.Walking.{LooksAlone}
use Rattle.epoch_host.proofs.Ending.{err_any, goes_silent}
use Rattle.epoch_host.proofs.Walking.{goes_sound}
use Rattle.epoch_host.proofs.walk.Walk.enter.Goals as goal

pub returns-in_default-clause-enters : goal.returns-in_default-clause-enters
returns-in_default-clause-enters c = enters_none c.args.arrival c.args.self.now c.find.new.self c.find.ensures.leads

pub refuse-requires : goal.refuse-requires
refuse-requires c = record { cause = λ task is k h deeds led. tt }

pub returns-then-arrival-ge-EPOCHS-clause-enters : goal.returns-then-arrival-ge-EPOCHS-clause-enters
returns-then-arrival-ge-EPOCHS-clause-enters c =
    enters_none c.args.arrival c.args.self.now c.refuse.new.self c.refuse.ensures.leads

pub returns-then-not-may_move-clause-enters : goal.returns-then-not-may_move-clause-enters
returns-then-not-may_move-clause-enters c = enters_none c.args.arrival c.args.self.now c.may_move.new.self c.may_move.ensures.leads

pub returns-in_err-stay-clause-enters : goal.returns-in_err-stay-clause-enters
returns-in_err-stay-clause-enters c = enters_none c.args.arrival c.args.self.now _ (goes_nowhere c.args.self.now _ c.may_move.ensures.same.config c.may_move.ensures.same.host refl)

pub returns-clause-enters : goal.returns-clause-enters
returns-clause-enters c =
    enters c.args.arrival c.args.self.now _ c.in_ok-stay.stay c.may_move.ensures.same.config c.may_move.ensures.same.host refl (c.in_ok-stay.ensures.of.1 ∙ c.may_move.ensures.same.config)
    (c.in_ok-stay.ensures.of.0 ∙ c.may_move.ensures.same.host) c.in_ok-stay.ensures.starts

pub start-requires-clause-looks : goal.start-requires-clause-looks
start-requires-clause-looks c = λ only.
    subst (λ (o : Option Task). IfSome o (λ own. LooksAlone true c.args.self.now.task → own ≡ task.Look)) c.in-Some.is c.own_task.ensures.look (λ yes. c.requires.looks (sym c.requires.errand ∙ only))

-- THE TASK

pub returns-in_err-stay-clause-silent : goal.returns-in_err-stay-clause-silent
returns-in_err-stay-clause-silent c = err_any (c.may_move.new.self.said ≡ None) c.from_residual.result (c.may_move.ensures.said c.if-not-may_move.false ∙ c.requires.silent)

pub returns-clause-task : goal.returns-clause-task
returns-clause-task c =
    goes_silent ⊥ c.args.self.now.task _ c.requires.task.0 c.requires.task.1
    (c.may_move.ensures.task ∙ ap (λ (b : Bool). if b then c.args.self.now.task else None) c.if-not-may_move.false) (c.may_move.ensures.said c.if-not-may_move.false ∙ c.requires.silent)

pub returns-clause-sound : goal.returns-clause-sound
returns-clause-sound c =
    let old = c.args.self.now in
    let stay = c.in_ok-stay.stay in
    let some : c.may_move.new.self.task ≡ Some c.requires.task.0 =
    c.may_move.ensures.task ∙ ap (λ (b : Bool). if b then old.task else None) c.if-not-may_move.false ∙ c.requires.task.1 in
    let own : old.task ≡ Some (in_epochs stay.config stay.epoch c.in-Some.own) =
    subst (λ (o : Option Task). IfSome o (λ own. (k : Shape) (e : ℕ) → old.task ≡ Some (in_epochs k e own))) c.in-Some.is c.own_task.ensures.same stay.config stay.epoch in
    let both : Some c.requires.task.0 ≡ Some (in_epochs stay.config stay.epoch c.in-Some.own) = sym c.requires.task.1 ∙ own in
    let same : c.requires.task.0 ≡ in_epochs stay.config stay.epoch c.in-Some.own = cc in
    goes_sound old (record c.may_move.new.self { is = In stay }) stay c.requires.few (record { host = c.may_move.ensures.same.host; config = c.may_move.ensures.same.config; looks = c.may_move.ensures.same.looks }) refl
    (record { sound = c.in_ok-stay.ensures.sound; host = c.in_ok-stay.ensures.of.0 ∙ c.may_move.ensures.same.host; config = c.in_ok-stay.ensures.of.1 ∙ c.may_move.ensures.same.config; looks = ap only_looks_for c.in_ok-stay.ensures.errand ∙ c.requires.errand }) c.requires.task.0 some
    (λ only. c.requires.looks only c.requires.task.0 c.requires.task.1) c.requires.task.2
    c.in_ok-stay.ensures.busy (same ∙ ap (in_epochs stay.config stay.epoch) (sym c.in_ok-stay.ensures.of.2)) (c.may_move.ensures.said c.if-not-may_move.false ∙ c.requires.silent)
