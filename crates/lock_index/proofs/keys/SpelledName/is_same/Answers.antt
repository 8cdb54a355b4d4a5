use Rattle.std.proofs.Common.{sym, ◌∙◌, ap}
use Rattle.std.proofs.lemmas.Bool.{eqb-true, eq-eqb}
use Rattle.lock_command.specs.declared.name.TheConstants.LockName.{LONGEST}
use Rattle.lock_index.specs.Keys.{spelled}
use Rattle.lock_index.proofs.Named.{one_name}
use Rattle.lock_index.proofs.keys.SpelledName.is_same.Goals as goal

pub returns-clause-same : goal.returns-clause-same
returns-clause-same c = λ same.
    sym c.self.view_is
    ∙ one_name c.self.inside.name c.other.inside.name c.self.invariant.2 c.other.invariant.2
    (sym c.self.invariant.0 ∙ eqb-true c.self.inside.number c.other.inside.number same ∙ c.other.invariant.0)
    ∙ c.other.view_is

pub returns-clause-found : goal.returns-clause-found
returns-clause-found c = λ same.
    eq-eqb c.self.inside.number c.other.inside.number
    (c.self.invariant.0 ∙ ap (spelled LONGEST) (c.self.view_is ∙ same ∙ sym c.other.view_is) ∙ sym c.other.invariant.0)
