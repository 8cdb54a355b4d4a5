use Rattle.std.proofs.Common.{◌≡◌, sym, subst}
use Rattle.std.specs.Option.{option_map}
use Rattle.attempt.specs.Answers.{on}
use Rattle.rounds.specs.Look.Kept.{LeadsTo, end_of, end_of_status}
use Rattle.rounds.specs.Look.Status.{Setup, status}
use Rattle.rounds.proofs.Look.Asking.{status_is}
use Rattle.rounds.proofs.looks.one_look.Look.end.Goals as goal

pub returns-clause-end : goal.returns-clause-end
returns-clause-end c s heard leads =
    let n = c.self.inside.notes in
    let before = subst (LeadsTo s heard) (sym c.self.view_is) leads in
    subst (λ (t : Setup). option_map end_of n.end ≡ end_of_status (status t (on heard))) before.of
    (status_is (on heard) n before.follows c.self.invariant.first c.self.invariant.asks_one)
