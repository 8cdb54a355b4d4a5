use Rattle.std.proofs.Common.{ℕ, ◌∙◌, ap}
use Rattle.std.proofs.lemmas.Nat.Bits.{bit_at_mask_below, bit_at_mask_inside, bit_at_mask_above}
use Rattle.std.specs.Int.{bit_at}
use Rattle.disk.proofs.WordLemmas.{set_place, other_place}
use Rattle.disk.proofs.word.Word.marked.Goals as goal

pub returns-clause-below : goal.returns-clause-below
returns-clause-below c =
    λ k below. other_place c.args.epoch c.args.self _ _ k c.counted.ensures (ap (λ (n : ℕ). bit_at n k) c.run.ensures ∙ bit_at_mask_below c.args.from c.args.to k below)

pub returns-clause-inside : goal.returns-clause-inside
returns-clause-inside c =
    λ k from under. set_place c.args.epoch c.args.self _ _ k c.counted.ensures (ap (λ (n : ℕ). bit_at n k) c.run.ensures ∙ bit_at_mask_inside c.args.from c.args.to k from under)

pub returns-clause-above : goal.returns-clause-above
returns-clause-above c =
    λ k over. other_place c.args.epoch c.args.self _ _ k c.counted.ensures (ap (λ (n : ℕ). bit_at n k) c.run.ensures ∙ bit_at_mask_above c.args.from c.args.to k over)
