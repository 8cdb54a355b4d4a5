use Rattle.std.proofs.Common.{◌∙◌, ℕ, List, sym, ap}
use Rattle.torn_block.specs.declared.block.Half.{Half}
use Rattle.torn_block.specs.Block.{body_of, copy_of}
use Rattle.paxos_block.specs.Saying.{claim_of}
use Rattle.paxos_block.proofs.cell.half_says.Goals as goal

pub returns-in-First : goal.returns-in-First
returns-in-First g c = λ bytes first second.
    let v = g.L.Layout.version in
    c.claim_in.ensures ∙ ap (λ (l : List ℕ). claim_of v (body_of l)) first ∙ ap (λ (h : Half). claim_of v (body_of (copy_of v h bytes))) (sym c.in-First.is)

pub returns-in-Second : goal.returns-in-Second
returns-in-Second g c = λ bytes first second.
    let v = g.L.Layout.version in
    c.claim_in-in-Second.ensures ∙ ap (λ (l : List ℕ). claim_of v (body_of l)) second ∙ ap (λ (h : Half). claim_of v (body_of (copy_of v h bytes))) (sym c.in-Second.is)
