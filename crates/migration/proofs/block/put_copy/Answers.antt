use Rattle.std.proofs.Common.{◌≡◌, ◌∷◌, [], ℕ, List, take, drop, set, length, sym, ap, arith, append_assoc, refl}
use Rattle.std.proofs.lemmas.List.{take_rest}
use Rattle.torn_block.specs.Block.{tail_with, number_bytes}
use Rattle.migration.proofs.block.put_copy.Goals as goal

lone : (xs : List ℕ) (y : ℕ) → length xs ≡ 1 → set xs 0 y ≡ y ∷ []
lone [] y long = absurd (omega arith)
lone (x ∷ []) y long = refl
lone (x ∷ z ∷ xs) y long = absurd (omega arith)

pub returns : goal.returns
unfolding tail_with
returns c =
    let gate = lone c.split_at_mut-gate.result.0.now 165 c.split_at_mut-gate.ensures.front_len in
    let front = take 7 c.args.body.now in
    let number = number_bytes 1 in
    let back = drop 7 c.args.body.now in
    rw (gate, c.copy_from_slice.ensures.after, c.put_number.ensures, c.copy_from_slice-2.ensures.after, take_rest)
    (ap (λ (l : List ℕ). 165 ∷ l) (sym (append_assoc front number back)))
