-- How long blocks and headers are.
use Rattle.std.proofs.Common.{ℕ, ◌≡◌, List, ◌++◌, length, arith, length-append}
use Rattle.byteorder.specs.Numbers.{length-bytes_high_first}
use Rattle.torn_block.specs.declared.layout.TheConstants.{VALUE_LENGTH, BODY_LENGTH, BLOCK_LENGTH, COPY_LENGTH, HEADER_LENGTH}
use Rattle.torn_block.specs.Block.{number_bytes, tail_with}
use Rattle.torn_block.specs.Layout.{cluster_version}
use Rattle.torn_block.proofs.PlaceLaws.{length-tail_with}
use Rattle.paxos_block.specs.declared.header.Header.{Header}
use Rattle.paxos_block.specs.Headers.{header_saying, short_bytes}
use Rattle.paxos_block.specs.Saying.{body_saying, heading, zeros}
use Rattle.paxos_block.proofs.SayingLemmas.{length-number, length-zeros}
use Rattle.paxos_block.specs.Image.{vote_for, block_for}

pub length-header : (header : Header) → length (header_saying cluster_version header) ≡ HEADER_LENGTH
unfolding header_saying short_bytes number_bytes
length-header header =
    omega (arith, length-append (short_bytes header.slots) (number_bytes header.cluster ++ zeros 1008), length-append (number_bytes header.cluster) (zeros 1008), length-bytes_high_first 4 header.slots, length-bytes_high_first 8 header.cluster, length-zeros 1008)

pub length-body : (value : List ℕ) → length value ≡ VALUE_LENGTH → length (body_saying cluster_version (vote_for value)) ≡ BODY_LENGTH
unfolding body_saying heading
length-body value long =
    omega (arith, long, length-append (number_bytes 1) (number_bytes 1 ++ (value ++ zeros 48)), length-append (number_bytes 1) (value ++ zeros 48), length-append value (zeros 48), length-zeros 48, length-number 1)

pub length-block : (value : List ℕ) → length value ≡ VALUE_LENGTH → length (block_for value) ≡ BLOCK_LENGTH
length-block value long =
    let body = body_saying cluster_version (vote_for value) in
    omega (arith, length-append (tail_with 1 body) (zeros COPY_LENGTH), length-tail_with cluster_version 1 body (length-body value long), length-zeros COPY_LENGTH)
