use Rattle.std.proofs.Common.{arith}
use Rattle.std.proofs.lemmas.Nat.{pow_pos}
use Rattle.disk.proofs.WordLemmas.{shifted}
use Rattle.disk.proofs.word.run.Goals as goal

pub overflow_sub-result-3 : goal.overflow_sub-result-3
overflow_sub-result-3 c =
    let are = shifted c.args.from c.args.to c.requires.first c.requires.order c.requires.last in
    omega (arith, are.0, are.1, are.2)

pub returns : goal.returns
returns c =
    let are = shifted c.args.from c.args.to c.requires.first c.requires.order c.requires.last in
    omega (arith, are.0, are.1, are.2, pow_pos c.args.from)
