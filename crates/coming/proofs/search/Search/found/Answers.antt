use Rattle.std.proofs.Common.{arith}
use Rattle.coming.specs.Finding.{has_answered}
use Rattle.coming.proofs.Asking.{count_most}
use Rattle.coming.proofs.search.Search.found.Goals as goal

pub overflow_mul-self : goal.overflow_mul-self
overflow_mul-self c =
    let s = c.args.self.now in
    let most = count_most s.disks (has_answered s.readings) in
    let is = c.requires.counts.answers in
    let few = c.requires.few in
    omega (arith, most, is, few)
