use Rattle.std.proofs.Common.{◌∙◌, ap, sym, subst}
use Rattle.std.specs.Option.{option_map}
use Rattle.rounds.specs.Marking.Kept.{LeadsTo, end_of}
use Rattle.rounds.proofs.Marking.Going.{status_is}
use Rattle.rounds.proofs.marks.one_marking.Marking.end.Goals as goal

pub returns-clause-end : goal.returns-clause-end
returns-clause-end c s heard leads =
    let p = c.self.inside in
    let led = subst (LeadsTo s heard) (sym c.self.view_is) leads in
    ap (option_map end_of) c.ended.ensures ∙ status_is p.host p.slot p.value p.round s heard led c.self.invariant.sound.visits_one
