use Rattle.std.proofs.Common.{◌∙◌, ℕ, Some, sym, ap, arith}
use Rattle.attempt.specs.Answers.{Told, more}
use Rattle.rounds.specs.Look.Status.{Ended, Decided}
use Rattle.rounds.specs.Look.Kept.{disk_of}
use Rattle.rounds.proofs.Look.Asking.{sees, sees_none, ahead}
use Rattle.rounds.proofs.looks.notes.Notes.take_row.Goals as goal

pub returns-in-Some-clause-follows : goal.returns-in-Some-clause-follows
returns-in-Some-clause-follows c f row mark is =
    let n = c.args.self.now in
    let sound = c.requires.sound in
    let st = c.requires.stage in
    sees f n is c.requires.going sound.first sound.asks_one st.0 st.1 row c.in-Some.value (mark ∙ c.in-Some.is)
    ∙ ap (λ (d : ℕ). Ended (Decided d c.in-Some.value)) (sym c.disk-disk.ensures.disk)

pub returns-in-None-clause-follows : goal.returns-in-None-clause-follows
returns-in-None-clause-follows c f row mark is =
    let n = c.args.self.now in
    let sound = c.requires.sound in
    let st = c.requires.stage in
    c.go_on.ensures.follows (more f (disk_of n) (Told (Some row)))
    (sees_none f n is c.requires.going sound.first sound.asks_one st.0 st.1 row (mark ∙ c.in-None.is) _ (omega arith))
    (ahead f n is c.requires.going sound.first sound.asks_one (Told (Some row)))
