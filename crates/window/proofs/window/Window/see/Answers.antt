use Rattle.std.proofs.Common.{◌≡◌, ◌<◌, ◌++◌, ◌∷◌, [], ℕ, length, sym, subst, arith}
use Rattle.standings.specs.Past.{reading}
use Rattle.window.specs.Knows.{KnowsOf, sight_in}
use Rattle.window.proofs.Following.{changed_here}
use Rattle.window.proofs.window.Window.see.Goals as goal

pub returns-clause-knows : goal.returns-clause-knows
returns-clause-knows c n host e past row says inside is =
    let w = c.args.self.now in
    let i = c.from-disk.result in
    let same : i ≡ c.args.disk = omega arith in
    let room : i < length w.sights = omega arith in
    subst (KnowsOf n e host (past ++ reading n e.area c.args.boot.number row ∷ [])) (sym (changed_here w.sights c.args.disk i c.read-sight.result same room))
    (c.read-sight.ensures.knows n host e past row says inside (subst (λ (k : ℕ). KnowsOf n e host past (sight_in w.sights k)) (sym same) is))
