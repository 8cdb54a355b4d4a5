use Rattle.std.proofs.Common.{◌≡◌, ◌∙◌, ap, ap₂, sym, subst, ℕ, Some, arith}
use Rattle.torn_block.specs.Layout.{cluster_version}
use Rattle.paxos_block.specs.Places.{place_of, row_place, VoteOf}
use Rattle.rounds.specs.Marking.Kept.{LeadsTo}
use Rattle.rounds.specs.Marking.Notes.{Notes}
use Rattle.rounds.specs.Kept as rounds
use Rattle.rounds.proofs.Marking.Going.{next, still_going}
use Rattle.rounds.proofs.marks.one_marking.Marking.call.Goals as goal

pub returns-clause-next : goal.returns-clause-next
returns-clause-next c s heard leads =
    let p = c.self.inside in
    let led = subst (LeadsTo s heard) (sym c.self.view_is) leads in
    let at : p.slot ≡ c.from-slot.result = omega arith in
    let reads = c.row_place.ensures ∙ ap (row_place cluster_version) (sym at) in
    let place = c.block_place.ensures ∙ ap (λ (slot : ℕ). place_of cluster_version (VoteOf slot p.host)) (sym at) in
    next p.host p.slot p.value p.round s heard led (still_going p.round.end (ap (λ (m : Notes). m.end) c.self.view_is ∙ c.requires)) c.self.invariant.sound.visits_one
    ∙ ap₂ (λ (reads place : ℕ). Some (rounds.call_due reads place p.round)) (sym reads) (sym place) ∙ ap Some (sym c.call.ensures.due)
