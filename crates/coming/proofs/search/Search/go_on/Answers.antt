use Rattle.std.proofs.Common.{arith}
use Rattle.coming.proofs.Asking.{sound_next, sound_over}
use Rattle.coming.proofs.search.Search.go_on.Goals as goal

pub returns-then-self-clause-sound : goal.returns-then-self-clause-sound
returns-then-self-clause-sound c = sound_next c.args.self.now c.requires.sound c.requires.going (omega arith)

pub returns-else-self-clause-sound : goal.returns-else-self-clause-sound
returns-else-self-clause-sound c = sound_over c.args.self.now c.requires.sound c.requires.going (omega arith) c.found.result c.found.ensures
