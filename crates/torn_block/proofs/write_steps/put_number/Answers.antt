use Rattle.std.proofs.Common.{◌∙◌, ◌++◌, ℕ, List, ap, arith}
use Rattle.std.proofs.lemmas.List.{drop_all, append-nil}
use Rattle.torn_block.specs.Block.{number_bytes}
use Rattle.torn_block.proofs.write_steps.put_number.Goals as goal

pub returns : goal.returns
unfolding number_bytes
returns c = c.write_u64.ensures ∙ ap (λ (l : List ℕ). number_bytes c.args.number ++ l) (drop_all 8 c.args.bytes.now (omega arith)) ∙ append-nil (number_bytes c.args.number)
