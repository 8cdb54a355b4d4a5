use Rattle.std.proofs.Common.{◌∙◌, ◌++◌, ℕ, List, ap₂}
use Rattle.std.proofs.lemmas.List.{drop-replicate}
use Rattle.torn_block.specs.declared.layout.TheConstants.{BLOCK_LENGTH, ROW_LENGTH}
use Rattle.paxos_block.specs.Saying.{zeros}
use Rattle.migration.proofs.block.row_for.Goals as goal

pub returns : goal.returns
unfolding zeros
returns c =
    ap₂ (λ (a b : List ℕ). a ++ b) (c.copy_from_slice.ensures.after ∙ c.block_for.ensures) (c.split_at_mut-first.ensures.back ∙ drop-replicate BLOCK_LENGTH ROW_LENGTH 0)
