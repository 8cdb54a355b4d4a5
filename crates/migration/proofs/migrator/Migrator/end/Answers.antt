use Rattle.std.proofs.Common.{◌∙◌, ap, refl, sym, subst}
use Rattle.migration.specs.Kept.{LeadsTo, end_by}
use Rattle.migration.proofs.Going.{end_is}
use Rattle.migration.proofs.migrator.Migrator.end.Goals as goal

pub returns-clause-end : goal.returns-clause-end
returns-clause-end c s answers leads =
    let n = c.self.inside.notes in
    let before = subst (LeadsTo s answers) (sym c.self.view_is) leads in
    sym (end_is n n.end refl) ∙ ap end_by before.progress
