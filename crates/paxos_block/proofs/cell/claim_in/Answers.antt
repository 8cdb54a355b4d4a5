use Rattle.std.proofs.Common.{◌≡◌, ◌∙◌, ◌++◌, ◌-◌, ℕ, List, length, take, drop, ap}
use Rattle.std.proofs.lemmas.List.{take_rest}
use Rattle.torn_block.specs.Block.{body_of}
use Rattle.paxos_block.specs.Saying.{claim_of}
use Rattle.paxos_block.proofs.cell.claim_in.Goals as goal

body_is : (copy : List ℕ) → take 7 (drop 1 copy) ++ take (length copy - 16) (drop 16 copy) ≡ body_of copy
unfolding body_of
body_is copy = ap (λ (l : List ℕ). take 7 (drop 1 copy) ++ l) (take_rest copy 16)

pub returns : goal.returns
returns g c = c.claim.ensures ∙ ap (claim_of g.L.Layout.version) (body_is c.args.copy.now)
