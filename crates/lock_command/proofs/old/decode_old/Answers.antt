use Rattle.std.proofs.Common.{◌≡◌, Some, sym, ◌∙◌}
use Rattle.lock_command.specs.Old.{as_today}
use Rattle.lock_command.proofs.old.decode_old.Goals as goal

pub returns-in_default-clause-only : goal.returns-in_default-clause-only
returns-in_default-clause-only c old is_old spelled =
    absurd (c.in_default.not-Some (as_today old) (c.decode.ensures.only (as_today old) is_old.fits (c.without_value.ensures ∙ spelled)))

pub returns-clause-only : goal.returns-clause-only
returns-clause-only c old is_old spelled =
    let read = c.decode.ensures.only (as_today old) is_old.fits (c.without_value.ensures ∙ spelled) in
    let same : Some c.in-Some.command ≡ Some (as_today old) = sym c.in-Some.is ∙ read in
    c.old_of.ensures.only old is_old (let one : as_today old ≡ c.in-Some.command = cc in one)
