-- The first right header, as far as a folder's images were looked at.
use Rattle.std.proofs.Common.{ℕ, Option, Some, None}
use Rattle.paxos_block.specs.declared.header.Header.{Header}
use Rattle.folders.specs.Sets.{Found, IsFirst, AreOfSetBelow, AreRefusedBelow}

-- none so far, or the first, and all right ones so far are of its set
abbrev pub IsFoundBelow : Found → Option Header → ℕ → Type 0
IsFoundBelow found None n = AreRefusedBelow found n
IsFoundBelow found (Some first) n = IsFirst found first × AreOfSetBelow found first n
