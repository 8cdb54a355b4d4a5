use Rattle.std.proofs.Common.{◌≡◌, ◌∙◌, refl, sym, ap}
use Rattle.torn_block.specs.Place.{offset_by}
use Rattle.torn_block.proofs.write_steps.WriteSteps.next.Goals as goal
use Rattle.torn_block.proofs.write_steps.WriteSteps.next.Goals.{in-First, in-Second}

pub returns-in-PutBody-clause-need : goal.returns-in-PutBody-clause-need
returns-in-PutBody-clause-need c =
    let size = c.self.inside.size in
    let gate : c.match-self.gate ≡ offset_by size c.self.inside.target =
    elim c.match-self.branch [
      | in-First w ↦ w.gate-is ∙ ap (offset_by size) (sym w.in-First.is)
      | in-Second w ↦ w.gate-is ∙ ap (offset_by size) (sym w.in-Second.is)
    ] in
    rw (← c.self.view_is, gate, c.in_ok-self.was, c.in-PutBody.is) refl
