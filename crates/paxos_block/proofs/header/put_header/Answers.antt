use Rattle.std.proofs.Common.{◌≡◌, ◌-◌, length, refl, ap, arith}
use Rattle.torn_block.specs.declared.layout.TheConstants.{HEADER_LENGTH}
use Rattle.paxos_block.specs.declared.header.TheConstants.{ZEROS_AT}
use Rattle.paxos_block.specs.Saying.{zeros}
use Rattle.paxos_block.specs.Headers.{header_saying}
use Rattle.paxos_block.proofs.header.put_header.Goals as goal

pub returns : goal.returns
unfolding header_saying
returns g c =
    let end_ : zeros (length c.split_at_mut-cluster.result.1.now) ≡ zeros (HEADER_LENGTH - ZEROS_AT) = ap zeros (omega arith) in
    rw (c.copy_from_slice.ensures.after, c.VERSION.ensures, g.met.L.Layout.number_is, c.put_short.ensures, c.put_number.ensures, c.put_zeros.ensures, end_) refl
