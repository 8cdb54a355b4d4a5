use Rattle.std.proofs.Common.{◌≡◌, ◌∙◌, ◌-◌, ℕ, List, length, take, drop, sym, ap}
use Rattle.std.proofs.lemmas.List.{take_rest}
use Rattle.byteorder.specs.Endian.{big_number}
use Rattle.paxos_block.specs.Headers.{short_at}
use Rattle.endless_image.specs.Sizes.{size_of}
use Rattle.endless_image.proofs.size.told_size.Goals as goal

-- the bytes from the slots on, as the call is given them
rest_is : (bytes : List ℕ) → length bytes ≡ 1024 → take (1024 - 4) (drop 4 bytes) ≡ drop 4 bytes
rest_is bytes long = ap (λ (n : ℕ). take (n - 4) (drop 4 bytes)) (sym long) ∙ take_rest bytes 4

pub returns : goal.returns
unfolding short_at
returns c = c.image_size.ensures.size ∙ ap size_of (c.short_in.ensures ∙ ap (big_number 4) (rest_is c.args.bytes.now c.told-bytes))
