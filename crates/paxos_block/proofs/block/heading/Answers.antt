use Rattle.std.proofs.Common.{◌∙◌, ◌∷◌, []}
use Rattle.paxos_block.specs.Saying.{heading}
use Rattle.paxos_block.proofs.block.heading.Goals as goal

pub returns : goal.returns
unfolding heading
returns g c =
    let number = c.VERSION.ensures ∙ g.met.L.Layout.number_is in
    λ i. number i ∷ c.flag.ensures i ∷ c.flag-2.ensures i ∷ 0 ∷ 0 ∷ 0 ∷ 0 ∷ []
