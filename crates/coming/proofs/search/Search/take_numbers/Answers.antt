use Rattle.std.proofs.Common.{subst}
use Rattle.coming.specs.declared.search.Step.TheVariants as step
use Rattle.coming.specs.Finding.{IsReadDue}
use Rattle.coming.proofs.Asking.{reads_first, reads_second, sound_step}
use Rattle.coming.proofs.search.Search.take_numbers.Goals as goal

pub returns-in-Attaching-clause-keeps : goal.returns-in-Attaching-clause-keeps
returns-in-Attaching-clause-keeps c pasts bytes kept is = absurd (subst IsReadDue c.in-Attaching.is c.requires.due)

pub returns-in-First-clause-sound : goal.returns-in-First-clause-sound
returns-in-First-clause-sound c = sound_step c.args.self.now c.requires.sound c.requires.going (step.Second c.in-First.boot c.args.numbers.now) c.requires.numbers

pub returns-in-First-clause-keeps : goal.returns-in-First-clause-keeps
returns-in-First-clause-keeps c pasts bytes kept is = reads_first c.args.self.now c.requires.sound c.requires.going pasts kept c.in-First.boot c.args.numbers.now bytes c.in-First.is is

pub returns-in-Second-clause-keeps : goal.returns-in-Second-clause-keeps
returns-in-Second-clause-keeps c pasts bytes kept is =
    c.keep.ensures.keeps pasts _ kept (reads_second c.args.self.now c.requires.sound c.requires.going pasts kept _ c.in-Second.first c.args.numbers.now bytes c.in-Second.is is)
