use Rattle.std.proofs.Common.{◌∙◌, ◌++◌, ◌∷◌, [], sym, subst}
use Rattle.disk.specs.Disk.{Done}
use Rattle.standings.specs.Past.{made}
use Rattle.coming.specs.declared.notes.Notes.{Notes}
use Rattle.coming.specs.Coming.{IsKept, call_due}
use Rattle.coming.proofs.Going.{begins_anew, goes_on}
use Rattle.coming.proofs.notes.Notes.go_on.Goals as goal

pub returns-then-is_some-clause-keeps : goal.returns-then-is_some-clause-keeps
returns-then-is_some-clause-keeps c past kept =
    let p = c.args.self.now in
    subst (λ (m : Notes). IsKept m (past ++ made (call_due p) Done ∷ [])) (sym c.begin.ensures.step) (begins_anew p c.requires.sound c.requires.going past kept Done c.begin.new.self.round)

pub returns-else-is_some-clause-keeps : goal.returns-else-is_some-clause-keeps
returns-else-is_some-clause-keeps c past kept =
    goes_on c.args.self.now c.requires.sound c.requires.going past kept c.requires.stage c.requires.due c.hear.new.self c.hear.ensures.step (sym c.is_some.ensures ∙ c.if-is_some.false)
