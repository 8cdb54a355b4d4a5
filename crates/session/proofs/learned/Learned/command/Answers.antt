use Rattle.std.proofs.Common.{◌∙◌, ◌-◌, length, sym}
use Rattle.std.proofs.lemmas.Option.{slice_get-get_or, slice_get_past}
use Rattle.session.proofs.Places.{in_before, in_log, not_known}
use Rattle.session.proofs.learned.Learned.command.Goals as goal

pub returns-then-place-self : goal.returns-then-place-self
returns-then-place-self c = not_known c.args.self.now c.args.place c.if-place-self.true

pub returns-then-at-former : goal.returns-then-at-former
returns-then-at-former c =
    let l = c.args.self.now in
    sym (slice_get-get_or l.before.now (c.args.place - l.first) _ c.if-at-former.true) ∙ in_before l c.args.place c.if-place-self.false c.if-at-former.true

pub returns-then-at-former-2 : goal.returns-then-at-former-2
returns-then-at-former-2 c =
    let l = c.args.self.now in
    sym (slice_get-get_or l.log.now (c.args.place - l.first - length l.before.now) _ c.if-at-former-2.true) ∙ in_log l c.args.place c.if-place-self.false c.if-at-former.false

pub returns-else-at-former-2 : goal.returns-else-at-former-2
returns-else-at-former-2 c =
    let l = c.args.self.now in
    sym (slice_get_past l.log.now (c.args.place - l.first - length l.before.now) c.if-at-former-2.false) ∙ in_log l c.args.place c.if-place-self.false c.if-at-former.false
