use Rattle.std.proofs.Common.{◌≡◌, ◌∙◌, ap, sym, subst}
use Rattle.std.specs.Option.{option_map}
use Rattle.rounds.specs.Beat.Answers.{on}
use Rattle.rounds.specs.Beat.Kept.{LeadsTo, end_of, end_of_status}
use Rattle.rounds.specs.Beat.Notes.{Notes, notes_in}
use Rattle.rounds.specs.Beat.Status.{status}
use Rattle.rounds.proofs.Beat.Beating.{status_is}
use Rattle.rounds.proofs.beats.one_beat.Beat.end.Goals as goal

pub returns-clause-end : goal.returns-clause-end
returns-clause-end c s heard leads =
    let p = c.self.inside in
    let n = notes_in p.host p.round p.readings in
    let led = subst (LeadsTo s heard) (sym c.self.view_is) leads in
    subst (λ (m : Notes). option_map (end_of m) c.ended.result ≡ end_of_status (status s (on heard))) c.self.view_is
    (ap (option_map (end_of n)) c.ended.ensures ∙ status_is p.host p.round p.readings s heard led c.self.invariant.sound.visits_one)
