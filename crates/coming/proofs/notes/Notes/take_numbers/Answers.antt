use Rattle.std.proofs.Common.{◌≡◌, arith}
use Rattle.std.specs.Prelude.{◌%◌}
use Rattle.standings.specs.Reading.{numbers_in}
use Rattle.coming.proofs.Going.{has_passed, has_come, is_to_clear}
use Rattle.coming.proofs.notes.Notes.take_numbers.Goals as goal

pub returns-then-has_passed-clause-keeps : goal.returns-then-has_passed-clause-keeps
returns-then-has_passed-clause-keeps c past kept =
    has_passed c.args.self.now c.requires.sound c.requires.going past kept c.requires.stage c.requires.due c.args.bytes.now c.args.numbers.now c.requires.numbers (c.has_passed.ensures.0 c.if-has_passed.true)

pub returns-then-own-self-clause-keeps : goal.returns-then-own-self-clause-keeps
returns-then-own-self-clause-keeps c past kept =
    let p = c.args.self.now in
    let number = c.requires.numbers p.host c.requires.sound.is_host in
    let is : numbers_in c.args.bytes.now p.host ≡ p.epoch.number = first_of (cc (number), grind (arith, number)) in
    has_come p c.requires.sound c.requires.going past kept c.requires.stage c.requires.due c.args.bytes.now c.args.numbers.now c.requires.numbers c.has_passed.result c.has_passed.ensures c.if-has_passed.false is

pub returns-else-self-clause-keeps : goal.returns-else-self-clause-keeps
returns-else-self-clause-keeps c past kept =
    let p = c.args.self.now in
    let number = c.requires.numbers p.host c.requires.sound.is_host in
    let odd : numbers_in c.args.bytes.now p.host % 2 ≡ 1 = first_of (omega (arith, number), grind (arith, number)) in
    is_to_clear p c.requires.sound c.requires.going past kept c.requires.stage c.requires.due c.args.bytes.now odd
