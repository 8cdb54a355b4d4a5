use Rattle.std.proofs.Common.{◌∙◌, ap, sym, subst, ℕ, Some}
use Rattle.torn_block.specs.Layout.{area_place, cluster_version}
use Rattle.rounds.specs.Kept as rounds
use Rattle.rounds.specs.Beat.Kept.{LeadsTo}
use Rattle.rounds.specs.Beat.Notes.{Notes}
use Rattle.rounds.proofs.Beat.Beating.{next, still_going}
use Rattle.rounds.proofs.beats.one_beat.Beat.call.Goals as goal

pub returns-clause-next : goal.returns-clause-next
returns-clause-next c s heard leads =
    let p = c.self.inside in
    let led = subst (LeadsTo s heard) (sym c.self.view_is) leads in
    next p.host p.round p.readings s heard led (still_going p.round.end (ap (λ (m : Notes). m.end) c.self.view_is ∙ c.requires)) c.self.invariant.sound.visits_one
    ∙ ap (λ (place : ℕ). Some (rounds.call_due (area_place cluster_version) place p.round)) (sym c.beat_place.ensures) ∙ ap Some (sym c.call.ensures.due)
