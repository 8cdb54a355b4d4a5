use Rattle.std.proofs.Common.{ap, ◌∙◌}
use Rattle.lock_command.specs.Reading.{command_at}
use Rattle.lock_command.proofs.Readings.{command_at-spelling, spelled_again}
use Rattle.lock_command.proofs.reading.decode.Goals as goal

pub returns-in_err-command-clause-only : goal.returns-in_err-command-clause-only
returns-in_err-command-clause-only c d fits spelled =
    let read = c.command_at.ensures ∙ ap command_at spelled ∙ command_at-spelling d fits in cc

pub returns-then-is_spelled-clause-only : goal.returns-then-is_spelled-clause-only
returns-then-is_spelled-clause-only c d fits spelled =
    let read = c.command_at.ensures ∙ ap command_at spelled ∙ command_at-spelling d fits in cc

pub returns-else-is_spelled-clause-only : goal.returns-else-is_spelled-clause-only
returns-else-is_spelled-clause-only c d fits spelled =
    let read = c.command_at.ensures ∙ ap command_at spelled ∙ command_at-spelling d fits in
    let clash = c.if-is_spelled.ensures.same.1 (spelled_again _ _ d _ c.in_ok-command.was read spelled) in
    absurd (let impossible : ⊥ = cc in impossible)
