use Rattle.std.proofs.Common.{sym, subst}
use Rattle.std.specs.Prelude.{IfSome}
use Rattle.coming.specs.declared.notes.Notes.{Notes}
use Rattle.coming.specs.Coming.{HasEnded, Knows}
use Rattle.coming.proofs.Going.{ended}
use Rattle.coming.proofs.coming.Coming.end.Goals as goal

pub returns-clause-so : goal.returns-clause-so
returns-clause-so c n host past knows =
    subst (λ (m : Notes). IfSome c.self.inside.notes.end (HasEnded n host m.epoch past)) c.self.view_is
    (ended c.self.inside.notes n host past (subst (Knows n host past) (sym c.self.view_is) knows))
