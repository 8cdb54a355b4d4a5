use Rattle.std.proofs.Common.{◌∙◌, ◌∷◌, ◌++◌, ℕ, List, sym, ap, arith}
use Rattle.std.proofs.lemmas.List.{take_all}
use Rattle.torn_block.specs.declared.block.TheConstants.{OPEN_GATE}
use Rattle.torn_block.specs.declared.layout.TheConstants.{COPY_LENGTH}
use Rattle.torn_block.specs.Block.{tail_with}
use Rattle.paxos_block.specs.Saying.{zeros}
use Rattle.migration.proofs.block.block_for.Goals as goal

pub returns : goal.returns
returns c =
    let bytes = c.encode-body.result.bytes in
    c.put_block.ensures ∙ ap (λ (body : List ℕ). (OPEN_GATE ∷ tail_with 1 body) ++ zeros COPY_LENGTH) (sym (take_all 119 bytes (omega arith)) ∙ c.encode-body.ensures)
