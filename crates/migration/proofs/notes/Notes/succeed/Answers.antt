use Rattle.std.proofs.Common.{sym, ◌∙◌}
use Rattle.migration.proofs.Going.{puts_next}
use Rattle.migration.proofs.notes.Notes.succeed.Goals as goal

pub returns-in-PuttingBlock-clause-hears : goal.returns-in-PuttingBlock-clause-hears
returns-in-PuttingBlock-clause-hears c =
    c.go_on_from.ensures.goes ∙ sym (puts_next c.args.self.now c.requires.going c.in-PuttingBlock.is c.requires.sound.bytes)
