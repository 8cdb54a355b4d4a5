use Rattle.std.proofs.Common.{◌≤◌, ◌<◌, length, replicate, ℕ, List, arith, true, sym, subst}
use Rattle.inspect.specs.Peeled.{IsPeeled}
use Rattle.inspect.proofs.PeelLemmas.{peeled_first, at_most}
use Rattle.inspect.proofs.peeling.Peeling.of.Goals as goal

pub loop-init : goal.loop-init
loop-init c = subst (λ (taken : List ℕ). IsPeeled c.args.edges.now (replicate 256 true) (replicate 256 0) taken) (sym c.new.ensures) (peeled_first c.args.edges.now)

pub loop-smaller : goal.loop-smaller
loop-smaller c =
    let more : length c.loop.peeling.taken.items < length c.pass.new.self.taken.items = c.pass.ensures.more c.loop-test.true in
    let most : length c.pass.new.self.taken.items ≤ 256 = at_most c.pass.new.self.taken.items c.pass.ensures.peeled.distinct c.pass.ensures.peeled.fit in
    omega (arith, more, most)
