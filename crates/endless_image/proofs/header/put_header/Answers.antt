use Rattle.std.proofs.Common.{◌≡◌, ◌-◌, length, refl, ap, arith}
use Rattle.paxos_block.specs.Saying.{zeros}
use Rattle.endless_image.specs.Headers.{header_with}
use Rattle.endless_image.proofs.header.put_header.Goals as goal

pub returns : goal.returns
unfolding header_with
returns c =
    let rest : zeros (length c.split_at_mut-mark.result.1.now) ≡ zeros (1024 - 25) = ap zeros (omega arith) in
    rw (c.copy_from_slice.ensures.after, c.put_short.ensures, c.put_number.ensures, c.put_number-2.ensures, c.copy_from_slice-2.ensures.after, c.put_zeros.ensures, rest) refl
