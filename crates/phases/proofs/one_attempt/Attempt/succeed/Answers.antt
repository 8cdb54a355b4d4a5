use Rattle.std.proofs.Common.{◌≡◌, ◌∙◌, ℕ, List, None, sym, subst, ap}
use Rattle.attempt.specs.Answers.{Done}
use Rattle.attempt.specs.declared.heard.Heard.TheVariants as answer
use Rattle.phases.specs.declared.phase.Stage.{Stage}
use Rattle.phases.specs.Inside.{notes_in}
use Rattle.phases.specs.Moves.{Takes}
use Rattle.phases.specs.Notes.{Notes}
use Rattle.phases.specs.Steps.{FitsStage}
use Rattle.phases.proofs.Answering.{takes_done}
use Rattle.phases.proofs.one_attempt.Attempt.succeed.Goals as goal

pub returns-clause-follows : goal.returns-clause-follows
returns-clause-follows g c =
    let n = notes_in g.L.Layout.version g.L.Layout.spelled c.self.inside in
    let going : n.end ≡ None = ap (λ (m : Notes). m.end) c.self.view_is ∙ c.requires.going in
    let fits = subst (λ (m : Notes). FitsStage {R = List ℕ} m.stage answer.Done) (sym c.self.view_is) c.requires.stage in
    subst (λ (m : Notes). Takes Done m (record n { stage = c.succeed.new.self })) c.self.view_is
    (subst (λ (st : Stage). Takes Done n (record n { stage = st })) (sym c.succeed.ensures) (takes_done n going fits))
