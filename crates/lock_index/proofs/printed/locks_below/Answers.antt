use Rattle.std.proofs.Common.{subst, sym, arith}
use Rattle.std.proofs.lemmas.Bool.{not-true, not-false}
use Rattle.lock_command.specs.Name.{IsName}
use Rattle.lock_command.specs.State.{is_queued}
use Rattle.lock_index.proofs.Groups.{granted_key, queued_key, lower_in_front, place_behind, place_in_front, group_ordered, group_narrows}
use Rattle.lock_index.proofs.printed.locks_below.Goals as goal

pub end_within-requires-clause-narrowed : goal.end_within-requires-clause-narrowed
end_within-requires-clause-narrowed c =
    let name = c.args.name.now in
    let is = granted_key name c.args.of.now c.requires.named (not-true (is_queued c.args.of.now.state) (sym c.if-is_granted.ensures)) in
    group_narrows name c.args.printed.now c.args.group.begin c.args.group.end c.requires.group c.len.ensures.fit (subst IsName (sym c.requires.named) c.requires.fits.named) c.args.key
    (omega (arith, is, c.requires.own)) (omega (arith, is, c.requires.next, c.requires.fits.number))

pub end_behind-requires-clause-front : goal.end_behind-requires-clause-front
end_behind-requires-clause-front c =
    let name = c.args.name.now in
    let more = queued_key name c.args.of.now c.requires.named (not-false (is_queued c.args.of.now.state) (sym c.if-is_granted.ensures)) in
    lower_in_front name c.args.printed.now c.len.ensures.fit (subst IsName (sym c.requires.named) c.requires.fits.named) 1 c.args.group.end (omega arith) c.requires.group.ends.bound c.requires.group.ends.point c.args.key
    (omega (arith, more, c.requires.own))

pub returns-then-is_granted-clause-after : goal.returns-then-is_granted-clause-after
returns-then-is_granted-clause-after c =
    let name = c.args.name.now in
    let is = granted_key name c.args.of.now c.requires.named (not-true (is_queued c.args.of.now.state) (sym c.if-is_granted.ensures)) in
    place_behind name c.args.printed.now c.len.ensures.fit (subst IsName (sym c.requires.named) c.requires.fits.named) 0 c.args.group.begin (omega arith) c.requires.group.bound c.requires.group.point c.args.key c.end_within.result
    (omega (arith, is, c.requires.own)) c.end_within.ensures.point.1

pub returns-then-is_granted-clause-granted : goal.returns-then-is_granted-clause-granted
returns-then-is_granted-clause-granted c = λ granted.
    let name = c.args.name.now in
    let is = granted_key name c.args.of.now c.requires.named granted in
    place_in_front name c.args.printed.now c.len.ensures.fit (subst IsName (sym c.requires.named) c.requires.fits.named) 1 c.args.group.end (omega arith) c.requires.group.ends.bound c.requires.group.ends.point c.args.key c.end_within.result
    (omega (arith, is, c.requires.next, c.requires.fits.number)) c.end_within.ensures.bound c.end_within.ensures.point.0

pub returns-else-is_granted-clause-queued : goal.returns-else-is_granted-clause-queued
returns-else-is_granted-clause-queued c = λ queued.
    let name = c.args.name.now in
    let more = queued_key name c.args.of.now c.requires.named queued in
    place_behind name c.args.printed.now c.len.ensures.fit (subst IsName (sym c.requires.named) c.requires.fits.named) 1 c.args.group.end (omega arith) c.requires.group.ends.bound c.requires.group.ends.point c.args.key c.end_behind.result
    (omega (arith, more, c.requires.own)) c.end_behind.ensures.point.1

pub returns-else-is_granted-clause-after : goal.returns-else-is_granted-clause-after
returns-else-is_granted-clause-after c =
    let name = c.args.name.now in
    let more = queued_key name c.args.of.now c.requires.named (not-false (is_queued c.args.of.now.state) (sym c.if-is_granted.ensures)) in
    let behind = place_behind name c.args.printed.now c.len.ensures.fit (subst IsName (sym c.requires.named) c.requires.fits.named) 1 c.args.group.end (omega arith) c.requires.group.ends.bound c.requires.group.ends.point c.args.key
    c.end_behind.result (omega (arith, more, c.requires.own)) c.end_behind.ensures.point.1 in
    omega (arith, behind, group_ordered name c.args.printed.now c.args.group.begin c.args.group.end c.requires.group)
