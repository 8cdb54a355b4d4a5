use Rattle.std.proofs.Common.{inl, inr, refl}
use Rattle.coming.specs.declared.end.End.TheVariants as end
use Rattle.coming.proofs.Going.{ends, read}
use Rattle.coming.proofs.notes.Notes.hear_standings.Goals as goal

pub returns-in-None-clause-keeps : goal.returns-in-None-clause-keeps
returns-in-None-clause-keeps c past kept =
    let p = c.args.self.now in
    let bytes = c.args.bytes.now in
    ends p c.requires.sound c.requires.going past kept c.requires.stage c.requires.due bytes p.round end.Failed
    (inr (record { row = bytes; last = read p c.requires.sound c.requires.going past kept c.requires.stage c.requires.due bytes; why = inl (c.in-None.ensures.damaged.0 refl) }))
