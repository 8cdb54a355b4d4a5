use Rattle.std.proofs.Common.{refl}
use Rattle.coming.proofs.Asking.{leaves_out, shows_damage, sound_out}
use Rattle.coming.proofs.search.Search.hear_row.Goals as goal

pub go_on-requires-clause-sound : goal.go_on-requires-clause-sound
go_on-requires-clause-sound c = sound_out c.args.self.now c.requires.sound c.requires.going

pub returns-in-Some-clause-keeps : goal.returns-in-Some-clause-keeps
returns-in-Some-clause-keeps c pasts kept = c.take_numbers.ensures.keeps pasts c.args.bytes.now kept c.in-Some.ensures.exact

pub returns-in-None-clause-keeps : goal.returns-in-None-clause-keeps
returns-in-None-clause-keeps c pasts kept =
    let s = c.args.self.now in
    leaves_out s c.requires.sound c.requires.going pasts kept c.go_on.new.self _ c.go_on.ensures.same.slots c.go_on.ensures.asked c.go_on.ensures.begins c.go_on.ensures.kept
    (shows_damage s c.requires.sound c.requires.going pasts kept c.args.bytes.now c.requires.due (c.in-None.ensures.damaged.0 refl))
