use Rattle.std.proofs.Common.{◌≡◌, ◌-◌, length, refl, ap, arith}
use Rattle.paxos_block.specs.Saying.{zeros}
use Rattle.sectors.specs.Headers.{header_saying}
use Rattle.sectors.proofs.header.put_header.Goals as goal

pub returns : goal.returns
unfolding header_saying
returns c =
    let rest : zeros (length c.split_at_mut-kinds.result.1.now) ≡ zeros (4096 - 23) = ap zeros (omega arith) in
    rw (c.copy_from_slice.ensures.after, c.version_by-version.ensures, c.put_short.ensures, c.put_number.ensures, c.put_short-2.ensures, c.copy_from_slice-2.ensures.after, c.flag.ensures, c.put_zeros.ensures, rest) refl
