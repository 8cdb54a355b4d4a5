use Rattle.std.specs.Prelude.{IfSome, is_some}
use Rattle.std.proofs.Common.{◌≡◌, ℕ, Bool, true, Option, Some, ap, refl, sym, ◌∙◌, subst}
use Rattle.host.specs.declared.task.Task.{Task}
use Rattle.host.specs.declared.task.Task.TheVariants as task
use Rattle.epoch_host.specs.declared.task.EpochTask.TheVariants.{Look}
use Rattle.epoch_host.specs.declared.stay.Leave.{Leave}
use Rattle.epoch_host.specs.declared.task.EpochTask.{EpochTask}
use Rattle.epoch_host.specs.declared.walk.Whereabouts.TheVariants.{In}
use Rattle.epoch_host.specs.Staying.{IsSoLeft, only_looks_for}
use Rattle.epoch_host.specs.Submitting.{IsAsked}
use Rattle.epoch_host.specs.Walking.{IsAnswering, IsResting, IsStaying, LooksAlone, MayBegin}
use Rattle.epoch_host.specs.Working.{GivesTries, IsSpelled}
use Rattle.epoch_host.proofs.Moving.{goes_in, walks_then}
use Rattle.paxos_block.specs.Shape.{Shape}
use Rattle.epoch_host.specs.Ending.{in_epochs}
use Rattle.epoch_host.proofs.Ending.{answering_none, done_ok, elsewhere_refuses, goes_silent, none_some}
use Rattle.epoch_host.proofs.Walking.{goes_sound, left_for, same_epochs}
use Rattle.epoch_host.proofs.walk.Walk.set_out.Goals as goal

given_in : (o : Option Task) (own : Task) (h : ℕ) (task : EpochTask) → o ≡ Some own → MayBegin h task → IfSome o (λ (own : Task). (h : ℕ) → MayBegin h task → GivesTries own × IsAsked h own × IsSpelled own) → GivesTries own × IsAsked h own × IsSpelled own
given_in o own h task is may given = subst (λ (p : Option Task). IfSome p (λ (own : Task). (h : ℕ) → MayBegin h task → GivesTries own × IsAsked h own × IsSpelled own)) is given h may

of_epoch : (o : Option Task) (own : Task) (given : EpochTask) (k : Shape) (e : ℕ) → o ≡ Some own → IfSome o (λ own. given ≡ in_epochs k e own) → given ≡ in_epochs k e own
of_epoch o own given k e is same = subst (λ (p : Option Task). IfSome p (λ own. given ≡ in_epochs k e own)) is same

pub begin-requires-clause-may : goal.begin-requires-clause-may
begin-requires-clause-may c = (given_in c.task_in.result c.in-Some.own c.args.self.now.host c.args.task.now c.in-Some.is c.requires.may c.task_in.ensures.given).0

pub begin-requires-clause-asked : goal.begin-requires-clause-asked
begin-requires-clause-asked c =
    let stays = (subst (IsResting c.args.self.now) c.in-In.is c.requires.rests).0 in
    subst (λ (h : ℕ). IsAsked h c.in-Some.own) (sym stays.host) (given_in c.task_in.result c.in-Some.own c.args.self.now.host c.args.task.now c.in-Some.is c.requires.may c.task_in.ensures.given).1

pub begin-requires-clause-spelled : goal.begin-requires-clause-spelled
begin-requires-clause-spelled c = (given_in c.task_in.result c.in-Some.own c.args.self.now.host c.args.task.now c.in-Some.is c.requires.may c.task_in.ensures.given).2

-- one that only looks looks
alone : (only_looks : Bool) (under_way : Option EpochTask) (given : EpochTask) → under_way ≡ Some given → (only_looks ≡ true → given ≡ Look) → LooksAlone only_looks under_way
alone only_looks under_way given some looks only task is = (let both : Some given ≡ Some task = sym some ∙ is in let one : given ≡ task = cc in sym one ∙ looks only)

look_in : (o : Option Task) (own : Task) (given : EpochTask) → o ≡ Some own → given ≡ Look → IfSome o (λ own. given ≡ Look → own ≡ task.Look) → own ≡ task.Look
look_in o own given is same look = (subst (λ (p : Option Task). IfSome p (λ own. given ≡ Look → own ≡ task.Look)) is look) same

pub find-requires-clause-looks : goal.find-requires-clause-looks
find-requires-clause-looks c = alone c.args.self.now.only_looks c.args.self.now.task c.args.task.now c.requires.task (c.if-not-may_do.ensures.alone refl)

pub take_leave-requires-clause-looks : goal.take_leave-requires-clause-looks
take_leave-requires-clause-looks c = alone c.args.self.now.only_looks c.args.self.now.task c.args.task.now c.requires.task (c.if-not-may_do.ensures.alone refl)

pub begin-requires-clause-looks : goal.begin-requires-clause-looks
begin-requires-clause-looks c only =
    let stays = (subst (IsResting c.args.self.now) c.in-In.is c.requires.rests).0 in
    look_in c.task_in.result c.in-Some.own c.args.task.now c.in-Some.is (c.if-not-may_do.ensures.alone refl (sym stays.looks ∙ only)) c.task_in.ensures.look

pub take_leave-requires-clause-stays : goal.take_leave-requires-clause-stays
take_leave-requires-clause-stays c =
    let stays = (subst (IsResting c.args.self.now) c.in-In.is c.requires.rests).0 in (
      c.begin.new.self,
      refl,
      record { sound = c.begin.ensures.sound; host = c.begin.ensures.same.host ∙ stays.host; config = c.begin.ensures.same.config ∙ stays.config; looks = ap only_looks_for c.begin.ensures.same.errand ∙ stays.looks },
      left_for c.args.self.now.task c.args.task.now c.in-Some.own c.in-In.stay c.begin.new.self c.in-Some-begin.leave c.begin.ensures.same c.requires.task (of_epoch c.task_in.result c.in-Some.own c.args.task.now c.in-In.stay.config c.in-In.stay.epoch c.in-Some.is
          (subst (λ (k : Shape). IfSome c.task_in.result (λ own. c.args.task.now ≡ in_epochs k c.in-In.stay.epoch own)) (sym stays.config) c.task_in.ensures.same)) (subst (λ (o : Option Leave). IsSoLeft c.in-Some.own o c.begin.new.self) c.in-Some-begin.is c.begin.ensures.left),
    )

pub returns-in-None-clause-leads : goal.returns-in-None-clause-leads
returns-in-None-clause-leads c =
    goes_in c.args.self.now (record c.args.self.now { is = In c.begin.new.self }) c.in-In.stay c.begin.new.self refl refl c.in-In.is refl c.begin.ensures.leads

pub returns-in-Some-begin-clause-leads : goal.returns-in-Some-begin-clause-leads
returns-in-Some-begin-clause-leads c =
    let between = record c.args.self.now { is = In c.begin.new.self } in
    walks_then c.args.self.now between c.take_leave.new.self (goes_in c.args.self.now between c.in-In.stay c.begin.new.self refl refl c.in-In.is refl c.begin.ensures.leads) c.take_leave.ensures.leads

-- THE TASK

pub refuse-requires : goal.refuse-requires
refuse-requires c = record { cause = λ task is k h deeds led. λ look. c.if-not-may_do.ensures.other refl (let both : Some c.args.task.now ≡ Some task = sym c.requires.task ∙ is in let one : c.args.task.now ≡ task = cc in one ∙ look) }

pub refuse-requires-in_default-task_in : goal.refuse-requires-in_default-task_in
refuse-requires-in_default-task_in c =
    let stays = (subst (IsResting c.args.self.now) c.in-In.is c.requires.rests).0 in
    record { cause = elsewhere_refuses c.args.self.now.task (record c.args.self.now { is = In c.in-In.stay }) c.in-In.stay c.args.task.now refl (record { sound = stays.sound; host = stays.host; config = stays.config; looks = stays.looks }) c.requires.task (c.task_in.ensures.none (none_some c.task_in.result c.in_default-task_in.not-Some)) }

pub returns-in-None-clause-task : goal.returns-in-None-clause-task
returns-in-None-clause-task c = goes_silent ⊥ c.args.self.now.task _ c.args.task.now c.requires.task refl c.requires.silent

pub returns-in-None-clause-sound : goal.returns-in-None-clause-sound
returns-in-None-clause-sound c =
    let stays = (subst (IsResting c.args.self.now) c.in-In.is c.requires.rests).0 in
    let staying : IsStaying c.args.self.now c.begin.new.self = record { sound = c.begin.ensures.sound; host = c.begin.ensures.same.host ∙ stays.host; config = c.begin.ensures.same.config ∙ stays.config; looks = ap only_looks_for c.begin.ensures.same.errand ∙ stays.looks } in
    let own : c.begin.new.self.task ≡ c.in-Some.own = c.begin.ensures.task (ap (λ (o : Option Leave). is_some o) c.in-None.is) in
    goes_sound c.args.self.now _ c.begin.new.self c.requires.few (record { host = refl; config = refl; looks = refl }) refl staying c.args.task.now c.requires.task (c.if-not-may_do.ensures.alone refl) c.requires.may
    (subst (λ (o : Option Leave). IsSoLeft c.in-Some.own o c.begin.new.self) c.in-None.is c.begin.ensures.left)
    (subst (λ (t : Task). c.args.task.now ≡ in_epochs c.begin.new.self.config c.begin.new.self.epoch t) (sym own)
    (same_epochs c.args.task.now c.in-Some.own c.in-In.stay c.begin.new.self c.begin.ensures.same
    (of_epoch c.task_in.result c.in-Some.own c.args.task.now c.in-In.stay.config c.in-In.stay.epoch c.in-Some.is
    (subst (λ (k : Shape). IfSome c.task_in.result (λ own. c.args.task.now ≡ in_epochs k c.in-In.stay.epoch own)) (sym stays.config) c.task_in.ensures.same))))
    c.requires.silent

pub returns-in-Some-begin-clause-task : goal.returns-in-Some-begin-clause-task
returns-in-Some-begin-clause-task c =
    done_ok (IsAnswering c.in-Some-begin.leave) ⊥ c.args.self.now.task c.take_leave.new.self c.take_leave.result (answering_none c.in-Some-begin.leave (λ said is. c.begin.ensures.silent said (c.in-Some-begin.is ∙ ap (λ (l : Leave). Some l) is))) c.take_leave.ensures.task
