use Rattle.std.proofs.Common.{◌≡◌, ℕ, true, Some, refl, ap, sym, ◌∙◌, subst}
use Rattle.paxos_block.specs.Shape.{Shape}
use Rattle.host.specs.declared.task.Task.{Task}
use Rattle.host.specs.declared.task.Task.TheVariants as task
use Rattle.epoch_host.specs.declared.task.EpochTask.TheVariants.{Look}
use Rattle.epoch_host.specs.Ending.{in_epochs}
use Rattle.epoch_host.specs.Submitting.{IsAsked}
use Rattle.epoch_host.specs.Walking.{LooksAlone, MayBegin}
use Rattle.epoch_host.specs.Working.{GivesTries, IsSpelled}
use Rattle.epoch_host.proofs.Staying.{map_some}
use Rattle.epoch_host.proofs.walk.Walk.own_task.Goals as goal

pub returns-clause-given : goal.returns-clause-given
returns-clause-given c =
    let t = c.requires.task in
    let host = c.args.self.now.host in
    let both : Some t.0 ≡ Some c.in-Some.task = sym t.1 ∙ c.in-Some.is in
    let same : t.0 ≡ c.in-Some.task = cc in
    map_some (λ (own : Task). (h : _) → MayBegin h c.in-Some.task → GivesTries own × IsAsked h own × IsSpelled own) (λ (own : Task). GivesTries own × IsAsked host own × IsSpelled own) c.apart_from_marks.result
    (λ own given. given host (subst (MayBegin host) same t.2)) c.apart_from_marks.ensures.given

pub returns-clause-look : goal.returns-clause-look
returns-clause-look c =
    map_some (λ (own : Task). c.in-Some.task ≡ Look → own ≡ task.Look) (λ (own : Task). LooksAlone true c.args.self.now.task → own ≡ task.Look) c.apart_from_marks.result
    (λ own look alone. look (alone refl c.in-Some.task c.in-Some.is)) c.apart_from_marks.ensures.look

pub returns-clause-same : goal.returns-clause-same
returns-clause-same c =
    map_some (λ (own : Task). (k : Shape) (e : ℕ) → c.in-Some.task ≡ in_epochs k e own) (λ (own : Task). (k : Shape) (e : ℕ) → c.args.self.now.task ≡ Some (in_epochs k e own)) c.apart_from_marks.result
    (λ own same k e. c.in-Some.is ∙ ap Some (same k e)) c.apart_from_marks.ensures.same
