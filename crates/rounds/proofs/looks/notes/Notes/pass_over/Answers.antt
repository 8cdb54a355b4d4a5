use Rattle.attempt.specs.Answers.{more}
use Rattle.rounds.specs.Look.Kept.{disk_of}
use Rattle.rounds.proofs.Look.Asking.{drops, ahead}
use Rattle.rounds.proofs.looks.notes.Notes.pass_over.Goals as goal

pub returns-clause-follows : goal.returns-clause-follows
returns-clause-follows c f x is bad =
    let n = c.args.self.now in
    let sound = c.requires.sound in
    c.go_on.ensures.follows (more f (disk_of n) x) (drops f n is c.requires.going sound.first sound.asks_one x bad) (ahead f n is c.requires.going sound.first sound.asks_one x)
