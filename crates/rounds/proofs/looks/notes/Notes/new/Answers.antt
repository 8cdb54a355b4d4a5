use Rattle.std.proofs.Common.{refl, arith}
use Rattle.rounds.proofs.Look.Counting.{count_none}
use Rattle.rounds.proofs.looks.notes.Notes.new.Goals as goal

pub returns-clause-follows : goal.returns-clause-follows
returns-clause-follows c = record {
  before = record { past = λ d l turn. absurd (omega arith); shown = count_none c.args.disks; failed = (let none = count_none c.args.disks in omega arith) };
  ahead = λ d l. refl;
  few = omega arith;
  enough = omega arith;
  here = refl;
}
