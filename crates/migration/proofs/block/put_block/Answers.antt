use Rattle.std.proofs.Common.{◌≡◌, ◌∙◌, ◌++◌, ℕ, List, length, replicate, ap, ap₂, arith}
use Rattle.paxos_block.specs.Saying.{zeros}
use Rattle.migration.proofs.block.put_block.Goals as goal

pub returns : goal.returns
unfolding zeros
returns c =
    let long : length c.split_at_mut-first.result.1.now ≡ 128 = omega (arith, c.split_at_mut-first.ensures.back_len) in
    ap₂ (λ (a b : List ℕ). a ++ b) c.put_copy.ensures (c.fill.ensures.after (λ y e. e) ∙ ap (λ (n : ℕ). replicate n 0) long)
