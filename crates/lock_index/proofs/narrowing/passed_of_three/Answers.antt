use Rattle.std.proofs.Common.{◌≤◌, ◌*◌, arith}
use Rattle.std.proofs.Math.Nat.{mul-le-mul_left}
use Rattle.lock_index.proofs.narrowing.passed_of_three.Goals as goal

pub overflow_mul-result : goal.overflow_mul-result
overflow_mul-result c =
    let few : c.args.many * c.args.passes ≤ c.args.many * 3 = mul-le-mul_left c.args.many c.requires.three in
    omega (arith, few)

pub returns-clause-few : goal.returns-clause-few
returns-clause-few c =
    let few : c.args.many * c.args.passes ≤ c.args.many * 3 = mul-le-mul_left c.args.many c.requires.three in
    omega (arith, few)
