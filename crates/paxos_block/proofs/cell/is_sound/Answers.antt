use Rattle.std.proofs.Common.{◌≡◌, ◌∙◌, ◌++◌, ℕ, List, Bool, ◌-◌, length, take, drop, sym, ap}
use Rattle.std.specs.Prelude.{◌&&◌}
use Rattle.std.proofs.lemmas.List.{take_rest}
use Rattle.torn_block.specs.Block.{body_of}
use Rattle.paxos_block.specs.Saying.{is_said}
use Rattle.torn_block.specs.Damage.{is_sequence}
use Rattle.paxos_block.proofs.cell.is_sound.Goals as goal

body_is : (copy : List ℕ) → take 7 (drop 1 copy) ++ take (length copy - 16) (drop 16 copy) ≡ body_of copy
unfolding body_of
body_is copy = ap (λ (l : List ℕ). take 7 (drop 1 copy) ++ l) (take_rest copy 16)

pub returns-then-is_sequence : goal.returns-then-is_sequence
returns-then-is_sequence g c =
    c.is_said.ensures
    ∙ ap (is_said g.L.Layout.version c.args.host) (body_is c.args.copy.now)
    ∙ ap (λ (b : Bool). b && is_said g.L.Layout.version c.args.host (body_of c.args.copy.now)) (sym c.if-is_sequence.true ∙ c.is_sequence.ensures.exact ∙ ap is_sequence c.sequence_in.ensures)
