use Rattle.std.proofs.Common.{◌≡◌, ◌∙◌, ap, sym, subst, Some, None}
use Rattle.migration.specs.Heard.{next}
use Rattle.migration.specs.Kept.{LeadsTo}
use Rattle.migration.specs.declared.notes.Notes.{Notes}
use Rattle.migration.proofs.Going.{next_due}
use Rattle.migration.proofs.migrator.Migrator.call.Goals as goal

pub returns-clause-next : goal.returns-clause-next
returns-clause-next c s answers leads =
    let n = c.self.inside.notes in
    let before = subst (LeadsTo s answers) (sym c.self.view_is) leads in
    let going : n.end ≡ None = ap (λ (m : Notes). m.end) c.self.view_is ∙ c.requires in
    ap next (sym before.progress) ∙ next_due n c.self.invariant going ∙ ap Some (sym c.call.ensures.due)
