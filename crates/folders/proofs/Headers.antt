-- No image is right by both layouts, and one that is right by either is as long as its first bytes tell.
use Rattle.std.specs.Prelude.{slice_index}
use Rattle.std.proofs.Common.{◌≡◌, ◌∙◌, ℕ, List, ap, arith}
use Rattle.torn_block.specs.Layout.{Version, Version1, Version2, cluster_version, number_of}
use Rattle.paxos_block.specs.declared.header.Header.{Header}
use Rattle.paxos_block.specs.Headers.{IsRight, header_in, header_saying}
use Rattle.paxos_block.specs.Places.{image_length}
use Rattle.paxos_block.proofs.HeaderLemmas.{right_since}
use Rattle.folders.specs.Headers.{IsOld}

-- a header has the number of the layout by which it is right
number_told : (v : Version) (disk long : ℕ) (bytes : List ℕ) (header : Header) → IsRight v disk long bytes header → slice_index bytes 1 ≡ number_of v
unfolding header_saying
number_told v disk long bytes header right = ap (λ (l : List ℕ). slice_index l 1) right.spelled

pub not_both : (v : Version) (disk long : ℕ) (bytes : List ℕ) (header : Header) → IsOld v disk long bytes → IsRight v disk long bytes header → ⊥
not_both v disk long bytes header old right =
    let one = number_told Version1 disk long bytes old.header old.right in
    let other = number_told v disk long bytes header right in
    omega (arith, one, other, old.later)

-- an image that is right is as long as its first bytes tell
long_told : (v : Version) (disk long : ℕ) (bytes : List ℕ) (header : Header) → IsRight v disk long bytes header → image_length v (header_in bytes).slots ≡ long
long_told v disk long bytes header right = ap (λ (h : Header). image_length v h.slots) (right_since v disk long bytes header right).1 ∙ right.as_long

-- told by the first layout where its number stands there
pub told_first : (v : Version) (disk long : ℕ) (bytes : List ℕ) (header : Header) → IsRight v disk long bytes header → slice_index bytes 1 ≡ number_of Version1 → image_length Version1 (header_in bytes).slots ≡ long
told_first Version1 disk long bytes header right is = long_told Version1 disk long bytes header right
told_first Version2 disk long bytes header right is = let number = number_told Version2 disk long bytes header right in absurd (omega (arith, number, is))

-- or else by the cluster's
pub told_later : (v : Version) (disk long : ℕ) (bytes : List ℕ) (header : Header) → IsRight v disk long bytes header → ¬ (slice_index bytes 1 ≡ number_of Version1) → image_length cluster_version (header_in bytes).slots ≡ long
told_later Version1 disk long bytes header right is_not = absurd (is_not (number_told Version1 disk long bytes header right))
told_later Version2 disk long bytes header right is_not = long_told Version2 disk long bytes header right
