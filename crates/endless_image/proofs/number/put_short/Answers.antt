use Rattle.std.proofs.Common.{◌∙◌, ◌++◌, ℕ, List, ap, arith}
use Rattle.std.proofs.lemmas.List.{drop_all, append-nil}
use Rattle.paxos_block.specs.Headers.{short_bytes}
use Rattle.endless_image.proofs.number.put_short.Goals as goal

pub returns : goal.returns
unfolding short_bytes
returns c = c.write_u32.ensures ∙ ap (λ (l : List ℕ). short_bytes c.args.number ++ l) (drop_all 4 c.args.bytes.now (omega arith)) ∙ append-nil (short_bytes c.args.number)
