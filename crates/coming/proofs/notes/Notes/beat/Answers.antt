use Rattle.std.proofs.Common.{◌∙◌, ap, sym}
use Rattle.rounds.specs.Kept as rounds
use Rattle.coming.proofs.Going.{beats, is_spent}
use Rattle.coming.proofs.notes.Notes.beat.Goals as goal

pub returns-then-is_some-clause-keeps : goal.returns-then-is_some-clause-keeps
returns-then-is_some-clause-keeps c past kept =
    let p = c.args.self.now in
    is_spent p c.requires.sound c.requires.going past kept c.requires.stage c.requires.due c.args.bytes.now c.own_block.result c.own_block.ensures c.write.new.self
    (c.write.ensures.step ∙ ap (rounds.begins p.round c.own_block.result) c.encode_beat.ensures) (sym c.is_some.ensures ∙ c.if-is_some.true)

pub returns-else-is_some-clause-keeps : goal.returns-else-is_some-clause-keeps
returns-else-is_some-clause-keeps c past kept =
    let p = c.args.self.now in
    beats p c.requires.sound c.requires.going past kept c.requires.stage c.requires.due c.args.bytes.now c.own_block.result c.own_block.ensures c.requires.smaller c.requires.cleared c.write.new.self
    (c.write.ensures.step ∙ ap (rounds.begins p.round c.own_block.result) c.encode_beat.ensures) (sym c.is_some.ensures ∙ c.if-is_some.false)
