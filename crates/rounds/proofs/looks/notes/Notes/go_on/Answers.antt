use Rattle.std.proofs.Common.{◌+◌, arith}
use Rattle.rounds.specs.Look.Kept.{setup_of}
use Rattle.rounds.proofs.Look.Asking.{is_unmarked, is_over}
use Rattle.rounds.proofs.looks.notes.Notes.go_on.Goals as goal

pub returns-then-self-unmarked-clause-follows : goal.returns-then-self-unmarked-clause-follows
returns-then-self-unmarked-clause-follows c f are ahead =
    let n = c.args.self.now in
    is_unmarked (setup_of n) f (n.asked + 1) c.args.unmarked are (λ d later. ahead d (omega arith)) (omega arith)

pub returns-then-self-failed-clause-follows : goal.returns-then-self-failed-clause-follows
returns-then-self-failed-clause-follows c f are ahead =
    let n = c.args.self.now in
    is_over (setup_of n) f (n.asked + 1) c.args.unmarked are (λ d later. ahead d (omega arith)) (omega arith) c.if-self-failed.true
